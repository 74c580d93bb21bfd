-- What is true of each act of a plan.
use Rattle.std.specs.Prelude.{◌≡◌, ◌<◌, ℕ, Bool, true, false, List, Option, Some, None, slice_get}
use Rattle.acpi_regs.specs.declared.entry.Request.TheVariants as request
use Rattle.field_units.specs.Bits.{byte_count}
use Rattle.field_units.specs.Field.{Field, needs_lock}
use Rattle.handler_script.specs.declared.act.Act.{Act}
use Rattle.handler_script.specs.declared.act.Act.TheVariants as act
use Rattle.handler_script.specs.declared.op.Op.{Op}
use Rattle.handler_script.specs.declared.op.Op.TheVariants as op
use Rattle.handler_script.specs.Parts.{access_needs, bursts, read_act, write_act}
use Rattle.handler_script.specs.Plan.{Plan, Do, End, plan}

-- whatever the acts are answered, this is true of each, given whether the plan marks it as one that needs the lock
abbrev pub Each : (Bool → Act → Bool) → Plan → Type 0
Each P End = Unit {0}
Each P (Do needs a next) = (P needs a ≡ true) × ((byte : ℕ) → Each P (next byte))

-- the act of an op that names no field
abbrev pub act_alone : Op → Option Act
act_alone op.Hold = Some act.Lock
act_alone op.Free = Some act.Unlock
act_alone (op.Notify d v) = Some (act.Notify d v)
act_alone (op.Drop e) = Some (act.Drop e)
act_alone (op.Up e) = Some (act.Up e)
act_alone (op.Down e) = Some (act.Down e)
act_alone (op.Raise e) = Some (act.Raise e)
act_alone (op.Assert e) = Some (act.Assert e)
act_alone (op.Push q) = Some (act.Push q)
act_alone _ = None

-- it is true of every act that an op on this field can make
pub record IsTrueOn (P : Bool → Act → Bool) (field : Field) : Type 0 where
  pub lock : needs_lock field ≡ true → (P false act.Lock ≡ true) × (P false act.Unlock ≡ true)
  pub burst : (held : Bool) → bursts field ≡ true
      → (P (access_needs field held) (act.Ask request.Be) ≡ true)
      × (P (access_needs field held) (act.Ask request.Bd) ≡ true)
  pub read : (held : Bool) (k : ℕ) → k < byte_count field → P (access_needs field held) (read_act field k) ≡ true
  pub write : (held : Bool) (k byte : ℕ) → k < byte_count field
      → P (access_needs field held) (write_act field k byte) ≡ true

-- What is true on every field, and of the act of every op that names none, is true of each act of the script.
abbrev pub IsTrueOfEach : Type 0
IsTrueOfEach = (P : Bool → Act → Bool) (fields : List Field) (ops : List Op)
    → ((f : ℕ) (field : Field) → slice_get fields f ≡ Some field → IsTrueOn P field)
    → ((i : ℕ) (o : Op) (a : Act) → slice_get ops i ≡ Some o → act_alone o ≡ Some a → P false a ≡ true)
    → Each P (plan fields ops)
