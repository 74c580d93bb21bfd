-- A transaction as contracts see it, beside the controller that it speaks with.
use Rattle.std.specs.Prelude.{ℕ, ◌+◌, ◌≡◌, ◌≤◌, Bool, true, false, ◌&&◌, List, length, take, slice_get, Option, Some, None, is_none, is_some, unwrap_or, if◌then◌else◌}
use Rattle.acpi_regs.specs.declared.entry.Effect.{Effect}
use Rattle.acpi_regs.specs.declared.entry.HostMove.{HostMove}
use Rattle.acpi_regs.specs.declared.entry.HostMove.TheVariants as host
use Rattle.acpi_regs.specs.declared.entry.Request.{Request}
use Rattle.acpi_regs.specs.declared.flags.EcStatus.{EcStatus}
use Rattle.ec_chip.specs.declared.parts.Port.TheVariants as port
use Rattle.ec_chip.specs.Chip.{ChipData, quiet, status_bits, after_write, after_read}
use Rattle.ec_driver.specs.declared.transaction.AdvanceOutcome.{AdvanceOutcome}
use Rattle.ec_driver.specs.declared.transaction.AdvanceOutcome.TheVariants as outcome
use Rattle.ec_driver.specs.declared.wire.Move.{Move}
use Rattle.ec_driver.specs.declared.wire.Move.TheVariants as move
use Rattle.ec_driver.specs.Wire.{wire, carried, exchange_from}

-- what was asked, how many moves were made when the host had made its last, and the byte that it read, or 0
pub record TransactionData : Type 0 where
  pub asks : Request
  pub made : ℕ
  pub got : ℕ

abbrev pub opened : Request → TransactionData
opened r = record { asks = r; made = 0; got = 0 }

abbrev pub is_ctl : Option Move → Bool
is_ctl (Some (move.Ctl e)) = true
is_ctl _ = false

-- How many moves are made: where the host's last is followed by one of the controller's, that one is made too where
-- IBF is clear.
abbrev pub moves_made : TransactionData → ChipData → ℕ
moves_made t c =
    if is_ctl (slice_get (wire t.asks 0) t.made) && is_none c.exchange.input then t.made + 1
    else t.made

-- the byte that fills the blank: the output that stands, or the byte that was read
abbrev pub blank : TransactionData → ChipData → ℕ
blank t c = unwrap_or c.exchange.output t.got

abbrev pub moves_of : TransactionData → ChipData → List Move
moves_of t c = wire t.asks (blank t c)

abbrev pub next_move : TransactionData → ChipData → Option Move
next_move t c = slice_get (moves_of t c) (moves_made t c)

abbrev pub all_made : TransactionData → ChipData → Type 0
all_made t c = length (moves_of t c) ≤ moves_made t c

-- IBF, OBF, the output and the command that is half given are as this transaction's moves left them
abbrev pub Stands : TransactionData → ChipData → Type 0
Stands t c = c.exchange ≡ exchange_from (take (moves_made t c) (moves_of t c)) quiet

-- ---- what is answered

abbrev pub host_of : Option Move → Option HostMove
host_of (Some (move.Host m)) = Some m
host_of _ = None

-- the effect of a move of the controller's
abbrev pub effect_in : Option Move → Option Effect
effect_in (Some (move.Ctl e)) = Some e
effect_in _ = None

-- the move that the host makes next, where it is its turn
abbrev pub next_host : TransactionData → ChipData → Option HostMove
next_host t c = host_of (next_move t c)

abbrev pub finished_by : Request → ℕ → Option Move → Option (Option ℕ)
finished_by r v None = Some (carried r v)
finished_by r v (Some m) = None

-- what the requester is given, where all moves are made
abbrev pub finished : TransactionData → ChipData → Option (Option ℕ)
finished t c = finished_by t.asks (blank t c) (next_move t c)

abbrev pub status_of : ChipData → EcStatus
status_of c = record { 0 = status_bits c }

abbrev pub outcome_by : TransactionData → ChipData → Option Move → AdvanceOutcome
outcome_by t c None = outcome.Done (carried t.asks (blank t c))
outcome_by t c (Some (move.Host m)) = outcome.Advanced m
outcome_by t c (Some (move.Ctl e)) = outcome.NotReady (status_of c)

abbrev pub advance_outcome : TransactionData → ChipData → AdvanceOutcome
advance_outcome t c = outcome_by t c (next_move t c)

abbrev pub is_done : AdvanceOutcome → Bool
is_done (outcome.Done taken) = true
is_done _ = false

abbrev pub is_not_ready : AdvanceOutcome → Bool
is_not_ready (outcome.NotReady status) = true
is_not_ready _ = false

-- the move that was made
abbrev pub advanced_by : AdvanceOutcome → Option HostMove
advanced_by (outcome.Advanced m) = Some m
advanced_by _ = None

-- what the requester was given
abbrev pub taken_of : AdvanceOutcome → Option (Option ℕ)
taken_of (outcome.Done taken) = Some taken
taken_of _ = None

-- The host waits where a move of the controller's comes first, where its next is a write and IBF is set, and where
-- its next is a read and OBF is clear.
abbrev pub waits_before : ChipData → Option Move → Bool
waits_before c (Some (move.Ctl e)) = true
waits_before c (Some (move.Host (host.Get v))) = is_none c.exchange.output
waits_before c (Some (move.Host m)) = is_some c.exchange.input
waits_before c None = false

abbrev pub must_wait : TransactionData → ChipData → Bool
must_wait t c = waits_before c (next_move t c)

-- ---- what is done

abbrev pub got_after : HostMove → ℕ → ℕ
got_after (host.Get v) old = v
got_after _ old = old

abbrev pub transaction_by : Option HostMove → ℕ → TransactionData → TransactionData
transaction_by None made t = t
transaction_by (Some m) made t = record t { made = made + 1; got = got_after m t.got }

abbrev pub chip_by : Option HostMove → ChipData → ChipData
chip_by None c = c
chip_by (Some (host.Sc byte)) c = after_write port.Sc byte c
chip_by (Some (host.Data byte)) c = after_write port.Data byte c
chip_by (Some (host.Get byte)) c = after_read c

-- the transaction, and the controller, after the host's turn
abbrev pub after_advance : TransactionData → ChipData → TransactionData
after_advance t c = transaction_by (next_host t c) (moves_made t c) t

abbrev pub chip_after_advance : TransactionData → ChipData → ChipData
chip_after_advance t c = chip_by (next_host t c) c
