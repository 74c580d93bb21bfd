-- No act of a script asks the controller for a query.
use Rattle.std.proofs.Common.{◌≡◌, ℕ, Bool, true, false, List, Option, Some, None, refl, sym, subst}
use Rattle.field_units.specs.declared.rules.RegionKind.{RegionKind}
use Rattle.field_units.specs.declared.rules.RegionKind.TheVariants as kind
use Rattle.field_units.specs.Field.{Field}
use Rattle.handler_script.specs.declared.act.Act.{Act}
use Rattle.handler_script.specs.declared.cursor.Cursor.{Cursor}
use Rattle.handler_script.specs.declared.op.Op.{Op}
use Rattle.handler_script.specs.declared.op.Op.TheVariants as op
use Rattle.handler_script.specs.Each.{Each, IsTrueOn, act_alone}
use Rattle.handler_script.specs.Left.{left, stands}
use Rattle.handler_script.specs.Parts.{access_needs, read_in, write_in}
use Rattle.handler_script.specs.Plan.{plan}
use Rattle.handler_script.proofs.Each.{each}
use Rattle.machine_desc.specs.Machine.{MachineData, act_fields}
use Rattle.machine_core.specs.declared.course.Course.TheVariants as course
use Rattle.machine_core.specs.declared.course.ScriptPlace.{ScriptPlace}
use Rattle.machine_core.specs.Actors.{Stands, asks_no_query, left_in, script_at, stands_in}

pub some-injective : {X : Type 0} (x y : X) → Some x ≡ Some y → x ≡ y
some-injective x y same = cc

alone : (o : Op) (a : Act) → act_alone o ≡ Some a → asks_no_query false a ≡ true
alone (op.Read f) a is = cc
alone (op.Write f v) a is = cc
alone (op.Add f v) a is = cc
alone (op.Skip v k) a is = cc
alone op.Hold a is = subst (λ x. asks_no_query false x ≡ true) (some-injective _ a is) refl
alone op.Free a is = subst (λ x. asks_no_query false x ≡ true) (some-injective _ a is) refl
alone (op.Notify d v) a is = subst (λ x. asks_no_query false x ≡ true) (some-injective _ a is) refl
alone (op.Drop e) a is = subst (λ x. asks_no_query false x ≡ true) (some-injective _ a is) refl
alone (op.Up e) a is = subst (λ x. asks_no_query false x ≡ true) (some-injective _ a is) refl
alone (op.Down e) a is = subst (λ x. asks_no_query false x ≡ true) (some-injective _ a is) refl
alone (op.Raise e) a is = subst (λ x. asks_no_query false x ≡ true) (some-injective _ a is) refl
alone (op.Assert e) a is = subst (λ x. asks_no_query false x ≡ true) (some-injective _ a is) refl
alone (op.Push q) a is = subst (λ x. asks_no_query false x ≡ true) (some-injective _ a is) refl

reads : (k : RegionKind) (field : Field) (needs : Bool) (j : ℕ) → asks_no_query needs (read_in k field j) ≡ true
reads kind.Memory field needs j = refl
reads kind.Controller field needs j = refl

writes : (k : RegionKind) (field : Field) (needs : Bool) (j byte : ℕ) → asks_no_query needs (write_in k field j byte) ≡ true
writes kind.Memory field needs j byte = refl
writes kind.Controller field needs j byte = refl

on_field : (field : Field) → IsTrueOn asks_no_query field
on_field field = record {
  lock = λ n. (refl, refl);
  burst = λ held b. (refl, refl);
  read = λ held k below. reads field.kind field (access_needs field held) k;
  write = λ held k byte below. writes field.kind field (access_needs field held) k byte;
}

pub no_queries : (fields : List Field) (ops : List Op) → Each asks_no_query (plan fields ops)
no_queries fields ops = each asks_no_query fields ops (λ f field at. on_field field) (λ i o a at is. alone o a is)

-- a new cursor stands at the begin of its script
pub begun-stands : (m : MachineData) (p : ScriptPlace) (c : Cursor) → ((fields : List Field) (ops : List Op) → left fields ops c ≡ plan fields ops) → ((fields : List Field) (ops : List Op) → stands fields ops c ≡ true) → Stands m (course.Script p c)
begun-stands m p c is standing = at (script_at m p)
  where
    at : (o : Option (List Op)) → (stands_in m o c ≡ true) × Each asks_no_query (left_in m o c)
    at None = (refl, tt)
    at (Some ops) = (standing (act_fields m) ops, subst (Each asks_no_query) (sym (is (act_fields m) ops)) (no_queries (act_fields m) ops))
