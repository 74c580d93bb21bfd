-- The controller as contracts see it, and what each call does to it (ACPI 6.5, chapter 12).
use Rattle.std.specs.Prelude.{ℕ, ◌+◌, ◌*◌, ◌≡◌, ◌==◌, Bool, true, false, ◌&&◌, not, List, [], ◌∷◌, ◌++◌, length, IsTrue, Option, Some, None, is_some, is_none, if◌then◌else◌}
use Rattle.acpi_regs.specs.declared.entry.Effect.{Effect}
use Rattle.ec_chip.specs.declared.parts.CtlOutcome.{CtlOutcome}
use Rattle.ec_chip.specs.declared.parts.CtlOutcome.TheVariants as outcome
use Rattle.ec_chip.specs.declared.parts.Half.{Half}
use Rattle.ec_chip.specs.declared.parts.Half.TheVariants as half
use Rattle.ec_chip.specs.declared.parts.Port.{Port}
use Rattle.ec_chip.specs.declared.parts.Port.TheVariants as port
use Rattle.ec_chip.specs.Parts.{allows, effect_of, half_after, cells_after, codes_after, burst_after, output_after}

-- what is on its way between host and controller: the command that is half given, the host's byte that the
-- controller has not taken (IBF), and the controller's byte that the host has not read (OBF)
pub record Exchange : Type 0 where
  pub half : Half
  pub input : Option ℕ
  pub output : Option ℕ

-- the bytes of its space, the query codes that wait (the oldest first) and the most that may wait, whether the
-- host last wrote to EC_SC, and burst mode
pub record ChipData : Type 0 where
  pub cells : List ℕ
  pub codes : List ℕ
  pub room : ℕ
  pub exchange : Exchange
  pub command : Bool
  pub burst : Bool

-- nothing is on its way
abbrev pub quiet : Exchange
quiet = record { half = half.Nothing; input = None; output = None }

abbrev pub fresh : List ℕ → ℕ → ChipData
fresh cells room = record { cells = cells; codes = []; room = room; exchange = quiet; command = false; burst = false }

abbrev pub is_sc : Port → Bool
is_sc port.Sc = true
is_sc port.Data = false

-- ---- EC_SC (ACPI 6.5, section 12.2.1)

abbrev pub bit : Bool → ℕ
bit set = if set then 1 else 0

-- OBF 0, IBF 1, CMD 3, BURST 4, SCI_EVT 5, which stands while a code waits
abbrev pub status_bits : ChipData → ℕ
status_bits c =
    bit (is_some c.exchange.output) + 2 * bit (is_some c.exchange.input) + 8 * bit c.command + 16 * bit c.burst
    + 32 * bit (not (length c.codes == 0))

-- ---- what each call asks for

-- the host may write where IBF is clear, and only the byte that a command allows next
abbrev pub can_write : ChipData → Port → ℕ → Bool
can_write c p byte = is_none c.exchange.input && allows c.exchange.half p byte

abbrev pub is_nothing : Half → Bool
is_nothing half.Nothing = true
is_nothing _ = false

-- it may leave burst mode where it is in it, and nothing is on its way
abbrev pub CanCalm : ChipData → Type 0
CanCalm c = IsTrue c.burst × (c.exchange ≡ quiet)

-- ---- what each call does

-- the host writes a byte to a register
abbrev pub after_write : Port → ℕ → ChipData → ChipData
after_write p byte c = record c { exchange = record c.exchange { input = Some byte }; command = is_sc p }

-- the host reads EC_DATA
abbrev pub after_read : ChipData → ChipData
after_read c = record c { exchange = record c.exchange { output = None } }

-- the firmware adds a query code
abbrev pub after_push : ℕ → ChipData → ChipData
after_push code c = record c { codes = c.codes ++ code ∷ [] }

-- it leaves burst mode of its own accord
abbrev pub after_calm : ChipData → ChipData
after_calm c = record c { burst = false }

-- its own effect, were the host's byte this one
abbrev pub effect_on : ChipData → ℕ → Effect
effect_on c byte = effect_of c.exchange.half c.cells c.codes byte

-- it takes a byte of the host's
abbrev pub after_taking : ChipData → ℕ → ChipData
after_taking c byte = record c {
  cells = cells_after c.exchange.half byte c.cells;
  codes = codes_after c.exchange.half byte c.codes;
  exchange = record {
    half = half_after c.exchange.half byte;
    input = None;
    output = output_after (effect_on c byte) c.exchange.output;
  };
  burst = burst_after c.exchange.half byte c.burst;
}

abbrev pub effect_by : ChipData → Option ℕ → Option Effect
effect_by c None = None
effect_by c (Some byte) = Some (effect_on c byte)

-- what it would do next: nothing where IBF is clear
abbrev pub next_effect : ChipData → Option Effect
next_effect c = effect_by c c.exchange.input

abbrev pub stepped_by : ChipData → Option ℕ → ChipData
stepped_by c None = c
stepped_by c (Some byte) = after_taking c byte

-- it has its turn
abbrev pub after_step : ChipData → ChipData
after_step c = stepped_by c c.exchange.input

abbrev pub outcome_of : Option Effect → CtlOutcome
outcome_of None = outcome.Idle
outcome_of (Some e) = outcome.Stepped e
