-- Lists of calls: query codes and burst mode over all of them, and what the status register tells.
use Rattle.std.specs.Prelude.{ℕ, ◌<◌, ◌≡◌, ◌==◌, Bool, not, List, [], ◌∷◌, ◌++◌, length, All, bit_and, Option, Some, is_some, if◌then◌else◌, true, false, take, slice_get, None}
use Rattle.acpi_regs.specs.declared.entry.Effect.{Effect}
use Rattle.acpi_regs.specs.declared.entry.Effect.TheVariants as effect
use Rattle.ec_chip.specs.declared.parts.Half.{Half}
use Rattle.ec_chip.specs.declared.parts.Half.TheVariants as half
use Rattle.ec_chip.specs.declared.parts.Port.{Port}
use Rattle.ec_chip.specs.Chip.{ChipData, next_effect, status_bits, after_write, after_read, after_step, after_push, after_calm}

pub data Call : Type 0 where
  Write : Port → ℕ → Call
  Read : Call
  Step : Call
  Push : ℕ → Call
  Calm : Call

abbrev pub after_call : Call → ChipData → ChipData
after_call (Write p byte) c = after_write p byte c
after_call Read c = after_read c
after_call Step c = after_step c
after_call (Push q) c = after_push q c
after_call Calm c = after_calm c

abbrev pub after_calls : List Call → ChipData → ChipData
after_calls [] c = c
after_calls (call ∷ later) c = after_calls later (after_call call c)

-- ---- query codes

-- 00 is no code
abbrev pub code : ℕ → List ℕ
code q = if q == 0 then [] else q ∷ []

-- the code that the controller puts out, if the byte is one
abbrev pub put_out : Option Effect → List ℕ
put_out (Some (effect.Out byte)) = code byte
put_out _ = []

-- a code is what it puts out for a query; whether the host reads it there is another matter
abbrev pub code_out : Half → Option ℕ → List ℕ → List ℕ
code_out half.Nothing (Some byte) out = if byte == 132 then out else []
code_out _ _ out = []

abbrev pub codes_out_by : Call → ChipData → List ℕ
codes_out_by Step c = code_out c.exchange.half c.exchange.input (put_out (next_effect c))
codes_out_by _ c = []

abbrev pub codes_out : List Call → ChipData → List ℕ
codes_out [] c = []
codes_out (call ∷ later) c = codes_out_by call c ++ codes_out later (after_call call c)

abbrev pub pushed : List Call → List ℕ
pushed [] = []
pushed (Push q ∷ later) = q ∷ pushed later
pushed (_ ∷ later) = pushed later

abbrev pub AreCodes : List ℕ → Type 0
AreCodes codes = All (λ q. 0 < q) codes

-- each code is put out once and in its order: the codes that were put out, and those that wait, are those that waited
-- at first, and those that were pushed
abbrev pub PutsOutInOrder : List Call → ChipData → Type 0
PutsOutInOrder calls c =
    AreCodes c.codes → AreCodes (pushed calls)
    → codes_out calls c ++ (after_calls calls c).codes ≡ c.codes ++ pushed calls

-- ---- burst mode

-- the controller's taking of burst enable turns it on, that of burst disable and its own leave turn it off
abbrev pub turns_on : Half → Option ℕ → Option Bool
turns_on half.Nothing (Some byte) =
    if byte == 130 then Some true else (if byte == 131 then Some false else None)
turns_on _ _ = None

abbrev pub turns_by : Call → ChipData → Option Bool
turns_by Step c = turns_on c.exchange.half c.exchange.input
turns_by Calm c = Some false
turns_by _ c = None

-- the call at place i turns burst mode on or off
abbrev pub TurnsAt : List Call → ChipData → ℕ → Bool → Type 0
TurnsAt calls c i on = (call : Call) × (slice_get calls i ≡ Some call)
    × (turns_by call (after_calls (take i calls) c) ≡ Some on)

-- burst mode is what the last call that turns it on or off made it, else what it was
pub record LastTurns (calls : List Call) (c : ChipData) : Type 0 where
  pub turned : (i : ℕ) (on : Bool) → TurnsAt calls c i on
      → ((j : ℕ) (other : Bool) → i < j → TurnsAt calls c j other → ⊥) → (after_calls calls c).burst ≡ on
  pub never : ((i : ℕ) (on : Bool) → TurnsAt calls c i on → ⊥) → (after_calls calls c).burst ≡ c.burst

-- ---- the status register (ACPI 6.5, section 12.2.1)

abbrev pub has_flag : ChipData → ℕ → Bool
has_flag c flag = bit_and (status_bits c) flag == flag

-- each flag is set exactly where its sentence holds
pub record TellsStatus (c : ChipData) : Type 0 where
  pub obf : has_flag c 1 ≡ is_some c.exchange.output
  pub ibf : has_flag c 2 ≡ is_some c.exchange.input
  pub cmd : has_flag c 8 ≡ c.command
  pub burst : has_flag c 16 ≡ c.burst
  pub sci_evt : has_flag c 32 ≡ not (length c.codes == 0)
