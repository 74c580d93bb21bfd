-- Which scripts are accepted.
use Rattle.std.specs.Prelude.{◌≡◌, ℕ, ◌+◌, ◌≤◌, Bool, true, false, ◌&&◌, not, nat_lt, nat_le, List, [], ◌∷◌, length, take, Option, Some, None, is_some, option_map, if◌then◌else◌}
use Rattle.std.specs.List.{list_all}
use Rattle.acpi_regs.specs.declared.actor.Side.{Side}
use Rattle.acpi_regs.specs.declared.actor.Side.TheVariants as side
use Rattle.field_units.specs.Field.{Field}
use Rattle.handler_script.specs.declared.fault.ScriptFault.{ScriptFault}
use Rattle.handler_script.specs.declared.fault.ScriptFault.TheVariants as fault
use Rattle.handler_script.specs.declared.op.Op.{Op}
use Rattle.handler_script.specs.declared.op.Op.TheVariants as op

-- the field that the op names exists
abbrev pub is_known : ℕ → Op → Bool
is_known count (op.Read f) = nat_lt f count
is_known count (op.Write f v) = nat_lt f count
is_known count (op.Add f v) = nat_lt f count
is_known count _ = true

abbrev pub is_no_hold : Op → Bool
is_no_hold op.Hold = false
is_no_hold op.Free = false
is_no_hold _ = true

-- as many ops follow as a skip passes over, at least one, and none of them is a hold or a free
abbrev pub is_sound_skip : Op → List Op → Bool
is_sound_skip (op.Skip v k) rest = nat_lt 0 k && (nat_le k (length rest) && list_all is_no_hold (take k rest))
is_sound_skip _ rest = true

-- the op may stand in a script of this side; which events a machine knows, a script alone does not know
abbrev pub is_allowed : Side → Op → Bool
is_allowed side.Os (op.Raise e) = false
is_allowed side.Os (op.Assert e) = false
is_allowed side.Os (op.Push q) = false
is_allowed side.Os _ = true
is_allowed side.Firmware (op.Notify d v) = false
is_allowed side.Firmware (op.Up e) = false
is_allowed side.Firmware (op.Down e) = false
is_allowed side.Firmware _ = true

-- no hold under a hold, and no free without one
abbrev pub is_balanced : Bool → Op → Bool
is_balanced held op.Hold = not held
is_balanced held op.Free = held
is_balanced held _ = true

-- the fault of op i, where `rest` follows it and an op is forbidden that names an event which it may not
abbrev pub op_fault : (Op → Bool) → Side → ℕ → Bool → ℕ → Op → List Op → Option ScriptFault
op_fault forbidden of_side count held i o rest =
    if is_allowed of_side o && not (forbidden o) then
    (if is_known count o then
    (if is_sound_skip o rest then
    (if is_balanced held o then None else Some (fault.Unbalanced i))
    else Some (fault.BadSkip i))
    else Some (fault.UnknownField i))
    else Some (fault.NotAllowed i)

-- the place of the hold that is open after op i
abbrev pub open_after : ℕ → Op → Option ℕ → Option ℕ
open_after i op.Hold hold = Some i
open_after i op.Free hold = None
open_after i _ hold = hold

abbrev pub first_of : Option ScriptFault → Option ScriptFault → Option ScriptFault
first_of None later = later
first_of (Some f) later = Some f

-- the fault of the first faulty op, from op i on; a hold that is open at the end comes after every other
abbrev pub faults_from : (Op → Bool) → Side → ℕ → Option ℕ → ℕ → List Op → Option ScriptFault
faults_from forbidden of_side count hold i [] = option_map fault.Unbalanced hold
faults_from forbidden of_side count hold i (o ∷ ops) = first_of
    (op_fault forbidden of_side count (is_some hold) i o ops)
    (faults_from forbidden of_side count (open_after i o hold) (i + 1) ops)

-- the fault of a script of this side, where there are so many fields
unfoldable pub script_fault : (Op → Bool) → Side → ℕ → List Op → Option ScriptFault
script_fault forbidden of_side count ops = faults_from forbidden of_side count None 0 ops

-- no op is forbidden for its event
abbrev pub nothing_forbidden : Op → Bool
nothing_forbidden o = false

-- the script is one that is accepted with these fields
pub record Accepted (fields : List Field) (ops : List Op) : Type 0 where
  pub forbidden : Op → Bool
  pub of_side : Side
  pub faultless : script_fault forbidden of_side (length fields) ops ≡ None
  pub short : length ops ≤ 4096

-- the operations are a script, with some fields
abbrev pub IsScript : List Op → Type 0
IsScript ops = (fields : List Field) × Accepted fields ops
