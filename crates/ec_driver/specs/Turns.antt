-- A driver and a controller that take turns, while the firmware adds query codes: in any order, each waits where it
-- must.
use Rattle.std.specs.Prelude.{ℕ, ◌≡◌, Bool, true, false, List, [], ◌∷◌, ◌++◌, drop, slice_get, slice_index, slice_set, Option, Some, None, if◌then◌else◌}
use Rattle.acpi_regs.specs.declared.entry.Effect.{Effect}
use Rattle.acpi_regs.specs.declared.entry.Effect.TheVariants as effect
use Rattle.acpi_regs.specs.declared.entry.HostMove.{HostMove}
use Rattle.acpi_regs.specs.declared.entry.Request.{Request}
use Rattle.acpi_regs.specs.declared.entry.Request.TheVariants as request
use Rattle.ec_chip.specs.Chip.{ChipData, quiet, after_push, after_step, next_effect}
use Rattle.ec_chip.specs.Parts.{first_code}
use Rattle.ec_driver.specs.declared.wire.Move.{Move}
use Rattle.ec_driver.specs.declared.wire.Move.TheVariants as move
use Rattle.ec_driver.specs.Driver.{TransactionData, Stands, after_advance, chip_after_advance, effect_in, finished, host_of, moves_made, next_host, opened}
use Rattle.ec_driver.specs.Wire.{burst_by, burst_from, carried, cells_by, cells_from, codes_by, fill, wire}

-- the transaction, the controller, and the moves that were made, the oldest first
pub record World : Type 0 where
  pub driver : TransactionData
  pub chip : ChipData
  pub moves : List Move

abbrev pub begun : Request → ChipData → World
begun r c = record { driver = opened r; chip = c; moves = [] }

-- whose turn it is: the host's, the controller's, or the firmware's, which adds a code
pub data Turn : Type 0 where
  Driver : Turn
  Controller : Turn
  Push : ℕ → Turn

abbrev pub host_turn : Option HostMove → World → World
host_turn None w = w
host_turn (Some m) w = record {
  driver = after_advance w.driver w.chip;
  chip = chip_after_advance w.driver w.chip;
  moves = w.moves ++ move.Host m ∷ [];
}

abbrev pub controller_turn : Option Effect → World → World
controller_turn None w = w
controller_turn (Some e) w = record w { chip = after_step w.chip; moves = w.moves ++ move.Ctl e ∷ [] }

abbrev pub after_turn : Turn → World → World
after_turn Driver w = host_turn (next_host w.driver w.chip) w
after_turn Controller w = controller_turn (next_effect w.chip) w
after_turn (Push q) w = record w { chip = after_push q w.chip }

abbrev pub after_turns : List Turn → World → World
after_turns [] w = w
after_turns (t ∷ later) w = after_turns later (after_turn t w)

abbrev pub pushed : List Turn → List ℕ
pushed [] = []
pushed (Push q ∷ later) = q ∷ pushed later
pushed (_ ∷ later) = pushed later

abbrev pub is_empty : List Move → Bool
is_empty [] = true
is_empty (m ∷ later) = false

-- The moves that were made are a front of the moves of the request, with its blank filled. The first that is left is
-- foretold by the one whose move it is, and the other waits. At every moment the moves tell the cells and burst mode.
-- The requester is given what the request carries exactly where they are all made. The condition of the driver's
-- calls holds.
pub record FollowsWire (r : Request) (old : ChipData) (w : World) : Type 0 where
  pub blank : ℕ
  pub left : List Move
  pub front : w.moves ++ left ≡ wire r blank
  pub host : next_host w.driver w.chip ≡ host_of (slice_get left 0)
  pub controller : next_effect w.chip ≡ effect_in (slice_get left 0)
  pub cells : w.chip.cells ≡ cells_from r w.moves old.cells
  pub burst : w.chip.burst ≡ burst_from r w.moves old.burst
  pub given : finished w.driver w.chip ≡ (if is_empty left then Some (carried r blank) else None)
  pub stands : Stands w.driver w.chip

-- whatever the order of turns, from a controller with nothing on its way
abbrev pub AlwaysFollows : Request → ChipData → List Turn → Type 0
AlwaysFollows r c turns = c.exchange ≡ quiet → FollowsWire r c (after_turns turns (begun r c))

-- ---- what a finished transaction has done

-- at the turn at which the controller put the code out, it was the first that waited, or 00 where none did, and it left
-- the list
pub record GivesFirst (old : ChipData) (turns : List Turn) (q : ℕ) (codes : List ℕ) : Type 0 where
  pub earlier : List Turn
  pub later : List Turn
  pub split : earlier ++ Controller ∷ later ≡ turns
  pub puts : next_effect (after_turns earlier (begun request.Qr old)).chip ≡ Some (effect.Out q)
  pub first : q ≡ first_code (old.codes ++ pushed earlier)
  pub leaves : codes ≡ drop 1 (old.codes ++ pushed earlier) ++ pushed later

-- the cells, the query codes and burst mode of a controller with nothing on its way
pub record Has (c : ChipData) (cells codes : List ℕ) (burst : Bool) : Type 0 where
  pub cells_are : c.cells ≡ cells
  pub codes_are : c.codes ≡ codes
  pub burst_is : c.burst ≡ burst
  pub rests : c.exchange ≡ quiet

-- A read gives the byte of its cell. A write leaves its byte in the cell, and no other cell changes. Burst enable
-- turns burst mode on, and burst disable turns it off. A query gives a code and takes it out of the list. Else only
-- the codes that were pushed come to the list.
abbrev pub Does : Request → ChipData → List Turn → Option ℕ → ChipData → Type 0
Does (request.Rd x) old turns taken new =
    (taken ≡ Some (slice_index old.cells x)) × Has new old.cells (old.codes ++ pushed turns) old.burst
Does (request.Wr x w) old turns taken new =
    (taken ≡ None) × Has new (slice_set old.cells x w) (old.codes ++ pushed turns) old.burst
Does request.Be old turns taken new =
    (taken ≡ Some 144) × Has new old.cells (old.codes ++ pushed turns) true
Does request.Bd old turns taken new =
    (taken ≡ None) × Has new old.cells (old.codes ++ pushed turns) false
Does request.Qr old turns taken new =
    (q : ℕ) × (taken ≡ Some q) × GivesFirst old turns q new.codes × Has new old.cells new.codes old.burst

-- whatever the order of turns, once the transaction is finished
abbrev pub AlwaysDoes : Request → ChipData → List Turn → Type 0
AlwaysDoes r c turns =
    c.exchange ≡ quiet → (taken : Option ℕ)
    → finished (after_turns turns (begun r c)).driver (after_turns turns (begun r c)).chip ≡ Some taken
    → Does r c turns taken (after_turns turns (begun r c)).chip

-- ---- the condition of the driver's calls

-- the controller's turn, and a code that is pushed, keep it
pub record StandsOn (t : TransactionData) (c : ChipData) : Type 0 where
  pub step : Stands t c → Stands t (after_step c)
  pub push : (q : ℕ) → Stands t c → Stands t (after_push q c)
  pub start : (r : Request) → c.exchange ≡ quiet → Stands (opened r) c

-- Where the condition holds, what the controller does next is its move of the request, with the blank filled by the
-- byte of the cell or by the first code, and its turn does to cells, codes and burst mode what that move says.
pub record MovesAsAsked (t : TransactionData) (c : ChipData) : Type 0 where
  pub effect : Stands t c → next_effect c
      ≡ effect_in (slice_get (wire t.asks (fill t.asks c.cells c.codes)) (moves_made t c))
  pub cells : (e : Effect) → Stands t c → next_effect c ≡ Some e
      → (after_step c).cells ≡ cells_by t.asks (move.Ctl e) c.cells
  pub codes : (e : Effect) → Stands t c → next_effect c ≡ Some e
      → (after_step c).codes ≡ codes_by t.asks (move.Ctl e) c.codes
  pub burst : (e : Effect) → Stands t c → next_effect c ≡ Some e
      → (after_step c).burst ≡ burst_by t.asks (move.Ctl e) c.burst
