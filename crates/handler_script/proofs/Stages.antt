-- What stands at each stage of an operation on a field.
use Rattle.std.proofs.Common.{◌≡◌, ℕ, suc, ◌+◌, ◌-◌, ◌%◌, ◌^◌, ◌<◌, ◌≤◌, Bool, true, false, Some, ap, ◌∙◌, arith}
use Rattle.std.proofs.Math.Pow.{mod-mod-pow}
use Rattle.field_units.specs.Bits.{joined, replaced}
use Rattle.field_units.specs.Field.{Field}
use Rattle.handler_script.specs.declared.stage.Stage.TheVariants as stage
use Rattle.handler_script.specs.Parts.{read_act, reads_first, write_act}
use Rattle.handler_script.specs.Plan.{Plan, Do, next_act, old_byte, plan_after, read_from, write_from}

pub writing : (j k : ℕ) → stage.Writing j ≡ stage.Writing k → j ≡ k
writing j k e = cc

one_more : (k n : ℕ) → k < n → n - k ≡ suc (n - (k + 1))
one_more k n h = omega arith

pub read_next : (field : Field) (needs : Bool) (k n so_far : ℕ) (next : ℕ → Plan) → k < n → read_from field needs k (n - k) so_far next ≡ Do needs (read_act field k) (λ byte. read_from field needs (k + 1) (n - (k + 1)) (joined field k byte so_far) next)
read_next field needs k n so_far next h = ap (λ left. read_from field needs k left so_far next) (one_more k n h)

pub write_next : (field : Field) (needs : Bool) (k n value : ℕ) (next : Plan) → k < n → write_from field needs k (n - k) value next ≡ old_byte (reads_first field k) field needs k (λ old. Do needs (write_act field k (replaced field k old value)) (λ _. write_from field needs (k + 1) (n - (k + 1)) value next))
write_next field needs k n value next h = ap (λ left. write_from field needs k left value next) (one_more k n h)

pub first_read : (field : Field) (needs : Bool) (k n value : ℕ) (next : Plan) → k < n → reads_first field k ≡ true → next_act (write_from field needs k (n - k) value next) ≡ Some (read_act field k)
first_read field needs k n value next h r = ap next_act (write_next field needs k n value next h) ∙ ap (λ b. next_act (old_byte b field needs k (λ old. Do needs (write_act field k (replaced field k old value)) (λ _. write_from field needs (k + 1) (n - (k + 1)) value next)))) r

pub first_written : (field : Field) (needs : Bool) (k n value : ℕ) (next : Plan) → k < n → reads_first field k ≡ false → next_act (write_from field needs k (n - k) value next) ≡ Some (write_act field k (replaced field k 0 value))
first_written field needs k n value next h r = ap next_act (write_next field needs k n value next h) ∙ ap (λ b. next_act (old_byte b field needs k (λ old. Do needs (write_act field k (replaced field k old value)) (λ _. write_from field needs (k + 1) (n - (k + 1)) value next)))) r

pub after_written : (field : Field) (needs : Bool) (k n value byte : ℕ) (next : Plan) → k < n → reads_first field k ≡ false → plan_after byte (write_from field needs k (n - k) value next) ≡ write_from field needs (k + 1) (n - (k + 1)) value next
after_written field needs k n value byte next h r = ap (plan_after byte) (write_next field needs k n value next h) ∙ ap (λ b. plan_after byte (old_byte b field needs k (λ old. Do needs (write_act field k (replaced field k old value)) (λ _. write_from field needs (k + 1) (n - (k + 1)) value next)))) r

pub after_read : (field : Field) (needs : Bool) (k n so_far byte : ℕ) (next : ℕ → Plan) → k < n → plan_after byte (read_from field needs k (n - k) so_far next) ≡ read_from field needs (k + 1) (n - (k + 1)) (joined field k byte so_far) next
after_read field needs k n so_far byte next h = ap (plan_after byte) (read_next field needs k n so_far next h)

pub mod_twice : (x w : ℕ) → w ≤ 64 → x % 2 ^ 64 % 2 ^ w ≡ x % 2 ^ w
mod_twice x w h = let e : 64 ≡ (64 - w) + w = omega arith in ap (λ n. x % 2 ^ n % 2 ^ w) e ∙ mod-mod-pow x (64 - w) w
