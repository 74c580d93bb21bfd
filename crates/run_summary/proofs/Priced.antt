-- Prices that count one kind of act, and what operations cost at them.
use Rattle.std.proofs.Common.{ℕ, ◌≡◌, Bool, List, [], ◌∷◌, slice_get, refl, arith}
use Rattle.field_units.specs.Field.{Field}
use Rattle.handler_script.specs.declared.act.Act.{Act}
use Rattle.handler_script.specs.declared.act.Act.TheVariants as act
use Rattle.handler_script.specs.declared.op.Op.{Op}
use Rattle.handler_script.specs.declared.op.Op.TheVariants as op
use Rattle.handler_script.specs.Costs.{IsUniform, op_cost, ops_cost}
use Rattle.handler_script.specs.Left.{held_after}
use Rattle.machine_history.proofs.Prices.{pushes_price}
use Rattle.machine_history.proofs.ScriptPrices.{IsFreeOfFields, free_field, free_pushes, push_of}
use Rattle.machine_history.proofs.Totals.{sum_of}
use Rattle.run_summary.proofs.Exact.{IsPrompt}

-- a byte that is written
abbrev pub writes_price : Act → ℕ
writes_price (act.Write c v) = 1
writes_price _ = 0

-- a notify
abbrev pub notifies_price : Act → ℕ
notifies_price (act.Notify d v) = 1
notifies_price _ = 0

abbrev pub notify_of : Op → ℕ
notify_of (op.Notify d v) = 1
notify_of _ = 0

pub uniform_writes : IsUniform writes_price
uniform_writes = record { reads = λ c d. refl; writes = λ c d v w. refl; asks = λ x y. refl; puts = λ x y v w. refl }

pub uniform_notifies : IsUniform notifies_price
uniform_notifies = record { reads = λ c d. refl; writes = λ c d v w. refl; asks = λ x y. refl; puts = λ x y v w. refl }

pub prompt_writes : IsPrompt writes_price
prompt_writes = record { lock = refl; asks = λ r. refl }

pub prompt_notifies : IsPrompt notifies_price
prompt_notifies = record { lock = refl; asks = λ r. refl }

pub prompt_pushes : (g : ℕ → ℕ) → IsPrompt (pushes_price g)
prompt_pushes g = record { lock = refl; asks = λ r. refl }

-- ---- pushes and notifies cost nothing else

pub pushes_op : (g : ℕ → ℕ) (fields : List Field) (held : Bool) (o : Op) → op_cost (pushes_price g) fields held o ≡ push_of g o
pushes_op g fields held (op.Read f) = free_field (pushes_price g) (free_pushes g) (op.Read f) held (slice_get fields f)
pushes_op g fields held (op.Write f v) = free_field (pushes_price g) (free_pushes g) (op.Write f v) held (slice_get fields f)
pushes_op g fields held (op.Add f v) = free_field (pushes_price g) (free_pushes g) (op.Add f v) held (slice_get fields f)
pushes_op g fields held _ = refl

pub pushes_ops : (g : ℕ → ℕ) (fields : List Field) (held : Bool) (ops : List Op) → ops_cost (pushes_price g) fields held ops ≡ sum_of (push_of g) ops
pushes_ops g fields held [] = refl
pushes_ops g fields held (o ∷ ops) =
    let one = pushes_op g fields held o in
    let rest = pushes_ops g fields (held_after o held) ops in
    omega arith

pub free_notifies : IsFreeOfFields notifies_price
free_notifies = record { lock = refl; unlock = refl; be = refl; bd = refl; read = λ c. refl; write = λ c v. refl; rd = λ x. refl; wr = λ x v. refl }

pub notifies_op : (fields : List Field) (held : Bool) (o : Op) → op_cost notifies_price fields held o ≡ notify_of o
notifies_op fields held (op.Read f) = free_field notifies_price free_notifies (op.Read f) held (slice_get fields f)
notifies_op fields held (op.Write f v) = free_field notifies_price free_notifies (op.Write f v) held (slice_get fields f)
notifies_op fields held (op.Add f v) = free_field notifies_price free_notifies (op.Add f v) held (slice_get fields f)
notifies_op fields held _ = refl

pub notifies_ops : (fields : List Field) (held : Bool) (ops : List Op) → ops_cost notifies_price fields held ops ≡ sum_of notify_of ops
notifies_ops fields held [] = refl
notifies_ops fields held (o ∷ ops) =
    let one = notifies_op fields held o in
    let rest = notifies_ops fields (held_after o held) ops in
    omega arith
