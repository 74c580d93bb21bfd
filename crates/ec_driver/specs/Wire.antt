-- The moves of a transaction with the controller, and what each does to what is on its way (ACPI 6.5, section 12.3).
use Rattle.std.specs.Prelude.{ℕ, Bool, true, false, drop, slice_index, slice_set, List, [], ◌∷◌, Option, Some, None, unwrap_or}
use Rattle.acpi_regs.specs.declared.entry.Effect.TheVariants as effect
use Rattle.acpi_regs.specs.declared.entry.HostMove.TheVariants as host
use Rattle.acpi_regs.specs.declared.entry.Request.{Request}
use Rattle.acpi_regs.specs.declared.entry.Request.TheVariants as request
use Rattle.ec_chip.specs.Chip.{Exchange}
use Rattle.ec_chip.specs.Parts.{first_code, half_after, output_after}
use Rattle.ec_driver.specs.declared.wire.Move.{Move}
use Rattle.ec_driver.specs.declared.wire.Move.TheVariants as move

-- a command without further bytes, and its answer
abbrev pub answered : ℕ → ℕ → List Move
answered command v = move.Host (host.Sc command) ∷ move.Ctl (effect.Out v) ∷ move.Host (host.Get v) ∷ []

-- The moves of a request, in order. The byte v fills the blank of a read and of a query.
-- RD_EC 80h, WR_EC 81h, BE_EC 82h with its acknowledge 90h, BD_EC 83h, QR_EC 84h.
abbrev pub wire : Request → ℕ → List Move
wire (request.Rd x) v = move.Host (host.Sc 128) ∷ move.Ctl effect.Taken ∷ move.Host (host.Data x)
    ∷ move.Ctl (effect.Out v) ∷ move.Host (host.Get v) ∷ []
wire (request.Wr x w) v = move.Host (host.Sc 129) ∷ move.Ctl effect.Taken ∷ move.Host (host.Data x)
    ∷ move.Ctl effect.Taken ∷ move.Host (host.Data w) ∷ move.Ctl effect.Put ∷ []
wire request.Be v = answered 130 144
wire request.Bd v = move.Host (host.Sc 131) ∷ move.Ctl effect.Taken ∷ []
wire request.Qr v = answered 132 v

-- what the requester is given once all moves are made
abbrev pub carried : Request → ℕ → Option ℕ
carried (request.Rd x) v = Some v
carried (request.Wr x w) v = None
carried request.Be v = Some 144
carried request.Bd v = None
carried request.Qr v = Some v

-- A write of the host's waits to be taken, and a read takes the output away. The controller takes the byte that
-- waits. It makes no move of a request when it leaves burst mode of its own accord.
abbrev pub exchange_by : Move → Exchange → Exchange
exchange_by (move.Host (host.Sc byte)) e = record e { input = Some byte }
exchange_by (move.Host (host.Data byte)) e = record e { input = Some byte }
exchange_by (move.Host (host.Get byte)) e = record e { output = None }
exchange_by (move.Ctl effect.Calm) e = e
exchange_by (move.Ctl done) e = record
    { half = half_after e.half (unwrap_or e.input 0); input = None; output = output_after done e.output }

-- what these moves leave on its way
abbrev pub exchange_from : List Move → Exchange → Exchange
exchange_from [] e = e
exchange_from (m ∷ later) e = exchange_from later (exchange_by m e)

-- the byte of a write stands in its cell from the controller's last move
abbrev pub cells_by : Request → Move → List ℕ → List ℕ
cells_by (request.Wr x w) (move.Ctl effect.Put) cells = slice_set cells x w
cells_by r m cells = cells

abbrev pub cells_from : Request → List Move → List ℕ → List ℕ
cells_from r [] cells = cells
cells_from r (m ∷ later) cells = cells_from r later (cells_by r m cells)

-- burst mode is on from the acknowledge of burst enable, and off once burst disable is taken
abbrev pub burst_by : Request → Move → Bool → Bool
burst_by request.Be (move.Ctl (effect.Out v)) old = true
burst_by request.Bd (move.Ctl effect.Taken) old = false
burst_by r m old = old

abbrev pub burst_from : Request → List Move → Bool → Bool
burst_from r [] old = old
burst_from r (m ∷ later) old = burst_from r later (burst_by r m old)

-- a query's output is the first code, which leaves the list
abbrev pub codes_by : Request → Move → List ℕ → List ℕ
codes_by request.Qr (move.Ctl (effect.Out v)) codes = drop 1 codes
codes_by r m codes = codes

-- the byte that fills the blank at the controller's move
abbrev pub fill : Request → List ℕ → List ℕ → ℕ
fill (request.Rd x) cells codes = slice_index cells x
fill request.Qr cells codes = first_code codes
fill r cells codes = 0
