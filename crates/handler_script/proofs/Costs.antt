-- An accepted script costs no more than its ops.
use Rattle.std.proofs.Common.{◌≡◌, ◌≤◌, ℕ, zero, suc, ◌+◌, ◌*◌, ◌%◌, ◌^◌, ◌==◌, Bool, true, false, cond, List, [], ◌∷◌, length, take, Option, Some, None, is_some, slice_get, refl, ap, arith}
use Rattle.std.specs.List.{list_all}
use Rattle.std.proofs.Math.Nat.{add-mul, one-mul, suc-mul, zero-mul}
use Rattle.std.proofs.lemmas.Bool.{and_parts}
use Rattle.acpi_regs.specs.declared.actor.Side.{Side}
use Rattle.acpi_regs.specs.declared.entry.Request.TheVariants as request
use Rattle.field_units.specs.declared.rules.RegionKind.{RegionKind}
use Rattle.field_units.specs.declared.rules.RegionKind.TheVariants as kind
use Rattle.field_units.specs.Bits.{byte_count, joined, replaced}
use Rattle.field_units.specs.Field.{Field}
use Rattle.handler_script.specs.declared.act.Act.{Act}
use Rattle.handler_script.specs.declared.act.Act.TheVariants as act
use Rattle.handler_script.specs.declared.op.Op.{Op}
use Rattle.handler_script.specs.declared.op.Op.TheVariants as op
use Rattle.handler_script.specs.Accepts.{faults_from, is_no_hold, is_sound_skip, open_after, script_fault}
use Rattle.handler_script.specs.Costs.{Costs, CostsItsOps, IsUniform, burst_cost, field_cost, lock_cost, op_cost, ops_cost, partials_from}
use Rattle.handler_script.specs.Left.{held_after}
use Rattle.handler_script.specs.Parts.{access_needs, bursts, read_act, read_in, reads_first, takes_lock, write_act, write_in}
use Rattle.handler_script.specs.Plan.{Plan, Do, End, closed, old_byte, on_field, plan_from, plan_op, read_from, unlocked, where_wanted, write_from}
use Rattle.handler_script.proofs.Sounds.{kept}

-- what costs no more than n costs no more than a greater number
pub more : (price : Act → ℕ) (p : Plan) (n m : ℕ) → n ≤ m → Costs price p n → Costs price p m
more price End n m le h = tt
more price (Do needs a next) n m le h = (h.0, (let first : price a + h.0 ≤ n = h.1 in omega arith), h.2)

wanted : (price : Act → ℕ) (b needs : Bool) (a : Act) (p : Plan) (n : ℕ) → Costs price p n → Costs price (where_wanted b needs a p) (cond b (price a) 0 + n)
wanted price true needs a p n h = (n, (omega arith), λ byte. h)
wanted price false needs a p n h = more price p n (0 + n) (omega arith) h

one_read : (price : Act → ℕ) → IsUniform price → (k : RegionKind) (field : Field) (j : ℕ) → price (read_in k field j) ≡ price (read_in k field 0)
one_read price u kind.Memory field j = u.reads _ _
one_read price u kind.Controller field j = u.asks _ _

one_write : (price : Act → ℕ) → IsUniform price → (k : RegionKind) (field : Field) (j byte : ℕ) → price (write_in k field j byte) ≡ price (write_in k field 0 0)
one_write price u kind.Memory field j byte = u.writes _ _ _ _
one_write price u kind.Controller field j byte = u.puts _ _ _ _

-- a price read or written `count` times, and once more
one_more : (count price n : ℕ) → suc count * price + n ≡ price + (count * price + n)
one_more count price n = let step = suc-mul count price in omega arith

none : (price n : ℕ) → zero * price + n ≡ n
none price n = let zero_is = zero-mul price in omega arith

reads : (price : Act → ℕ) → IsUniform price → (field : Field) (needs : Bool) (k left so_far n : ℕ) (next : ℕ → Plan) → ((v : ℕ) → Costs price (next v) n)
    → Costs price (read_from field needs k left so_far next) (left * price (read_act field 0) + n)
reads price u field needs k zero so_far n next h = more price (next so_far) n _ (let same = none (price (read_act field 0)) n in omega arith) (h so_far)
reads price u field needs k (suc left) so_far n next h = (
  left * price (read_act field 0) + n,
  (let same : price (read_act field k) ≡ price (read_act field 0) = one_read price u field.kind field k in let step = one_more left (price (read_act field 0)) n in omega arith),
  λ byte. reads price u field needs (k + 1) left (joined field k byte so_far) n next h,
)

-- a byte that is read where a write keeps bits of it
old : (price : Act → ℕ) → IsUniform price → (b : Bool) (field : Field) (needs : Bool) (k n : ℕ) (next : ℕ → Plan) → ((v : ℕ) → Costs price (next v) n)
    → Costs price (old_byte b field needs k next) (cond b 1 0 * price (read_act field 0) + n)
old price u false field needs k n next h = more price (next 0) n _ (let same = none (price (read_act field 0)) n in omega arith) (h 0)
old price u true field needs k n next h =
    (n, (let same : price (read_act field k) ≡ price (read_act field 0) = one_read price u field.kind field k in let once = one-mul (price (read_act field 0)) in omega arith), h)

writes : (price : Act → ℕ) → IsUniform price → (field : Field) (needs : Bool) (k left value n : ℕ) (next : Plan) → Costs price next n
    → Costs price (write_from field needs k left value next) (partials_from field k left * price (read_act field 0) + (left * price (write_act field 0 0) + n))
writes price u field needs k zero value n next h =
    more price next n _ (let reads_none = none (price (read_act field 0)) (zero * price (write_act field 0 0) + n) in let writes_none = none (price (write_act field 0 0)) n in omega arith) h
writes price u field needs k (suc left) value n next h =
    more price _ (cond (reads_first field k) 1 0 * price (read_act field 0) + (price (write_act field 0 0) + (partials_from field (k + 1) left * price (read_act field 0) + (left * price (write_act field 0 0) + n)))) _
    (let split = add-mul (cond (reads_first field k) 1 0) (partials_from field (k + 1) left) (price (read_act field 0)) in let step = one_more left (price (write_act field 0 0)) n in omega arith)
    (old price u (reads_first field k) field needs k _ _
    (λ byte. (
      partials_from field (k + 1) left * price (read_act field 0) + (left * price (write_act field 0 0) + n),
      (let same : price (write_act field k (replaced field k byte value)) ≡ price (write_act field 0 0) = one_write price u field.kind field k (replaced field k byte value) in omega arith),
      λ _. writes price u field needs (k + 1) left value n next h,
    )))

both : (b : Bool) (x y : ℕ) → cond b x 0 + cond b y 0 ≡ cond b (x + y) 0
both true x y = refl
both false x y = refl

-- what stands behind the bytes of a field
abbrev closing : (Act → ℕ) → Bool → Field → ℕ
closing price held field = cond (bursts field) (price (act.Ask request.Bd)) 0 + cond (takes_lock field held) (price act.Unlock) 0

closes : (price : Act → ℕ) (field : Field) (held : Bool) (p : Plan) (n : ℕ) → Costs price p n → Costs price (closed field held p) (closing price held field + n)
closes price field held p n h =
    more price _ _ _ (omega arith) (wanted price (bursts field) (access_needs field held) (act.Ask request.Bd) (unlocked field held p) _ (wanted price (takes_lock field held) false act.Unlock p n h))

-- the lock and burst mode round the bytes of a field
framed : (price : Act → ℕ) (field : Field) (held : Bool) (p : Plan) (bytes n : ℕ) → Costs price p (bytes + (closing price held field + n))
    → Costs price (where_wanted (takes_lock field held) false act.Lock (where_wanted (bursts field) (access_needs field held) (act.Ask request.Be) p)) ((lock_cost price held field + burst_cost price field + bytes) + n)
framed price field held p bytes n h =
    more price _ _ _
    (let lock = both (takes_lock field held) (price act.Lock) (price act.Unlock) in let burst = both (bursts field) (price (act.Ask request.Be)) (price (act.Ask request.Bd)) in omega arith)
    (wanted price (takes_lock field held) false act.Lock _ _ (wanted price (bursts field) (access_needs field held) (act.Ask request.Be) p _ h))

on_read : (price : Act → ℕ) → IsUniform price → (found : Option Field) (f : ℕ) (held : Bool) (last n : ℕ) (next : ℕ → Plan) → ((v : ℕ) → Costs price (next v) n)
    → Costs price (on_field found (op.Read f) held last next) (field_cost price (op.Read f) held found + n)
on_read price u None f held last n next h = more price _ n _ (omega arith) (h last)
on_read price u (Some field) f held last n next h =
    framed price field held _ _ n
    (more price _ (byte_count field * price (read_act field 0) + (closing price held field + n)) _
    (let writes_none = none (price (write_act field 0 0)) 0 in omega arith)
    (reads price u field (access_needs field held) 0 (byte_count field) 0 _ _ (λ v. closes price field held (next v) n (h v))))

on_write : (price : Act → ℕ) → IsUniform price → (found : Option Field) (f x : ℕ) (held : Bool) (last n : ℕ) (next : ℕ → Plan) → ((v : ℕ) → Costs price (next v) n)
    → Costs price (on_field found (op.Write f x) held last next) (field_cost price (op.Write f x) held found + n)
on_write price u None f x held last n next h = more price _ n _ (omega arith) (h last)
on_write price u (Some field) f x held last n next h =
    framed price field held _ _ n
    (more price _ _ _ (omega arith)
    (writes price u field (access_needs field held) 0 (byte_count field) (x % 2 ^ field.width) _ _ (closes price field held (next last) n (h last))))

on_add : (price : Act → ℕ) → IsUniform price → (found : Option Field) (f x : ℕ) (held : Bool) (last n : ℕ) (next : ℕ → Plan) → ((v : ℕ) → Costs price (next v) n)
    → Costs price (on_field found (op.Add f x) held last next) (field_cost price (op.Add f x) held found + n)
on_add price u None f x held last n next h = more price _ n _ (omega arith) (h last)
on_add price u (Some field) f x held last n next h =
    framed price field held _ _ n
    (more price _ _ _
    (let split = add-mul (byte_count field) (partials_from field 0 (byte_count field)) (price (read_act field 0)) in omega arith)
    (reads price u field (access_needs field held) 0 (byte_count field) 0 _ _
    (λ v. writes price u field (access_needs field held) 0 (byte_count field) ((v + x) % 2 ^ field.width) _ _ (closes price field held (next v) n (h v)))))

-- an act that stands alone
alone : (price : Act → ℕ) (a : Act) (n : ℕ) (next : ℕ → Plan) → ((v : ℕ) → Costs price (next v) n) → Costs price (Do false a next) (price a + n)
alone price a n next h = (n, (omega arith), h)

one_op : (price : Act → ℕ) → IsUniform price → (fields : List Field) (held : Bool) (o : Op) (ops : List Op) (last n : ℕ) → is_sound_skip o ops ≡ true
    → ((last skip : ℕ) → list_all is_no_hold (take skip ops) ≡ true → Costs price (plan_from fields ops (held_after o held) last skip) n)
    → Costs price (plan_op fields o held last (λ h l s. plan_from fields ops h l s)) (op_cost price fields held o + n)
one_op price u fields held (op.Read f) ops last n s behind = on_read price u (slice_get fields f) f held last n _ (λ v. behind v 0 refl)
one_op price u fields held (op.Write f x) ops last n s behind = on_write price u (slice_get fields f) f x held last n _ (λ v. behind v 0 refl)
one_op price u fields held (op.Add f x) ops last n s behind = on_add price u (slice_get fields f) f x held last n _ (λ v. behind v 0 refl)
one_op price u fields held (op.Skip v k) ops last n s behind = more price _ n _ (omega arith) (behind last (cond (last == v) 0 k) (over (last == v) k ops s)) where
  over : (b : Bool) (k : ℕ) (ops : List Op) → is_sound_skip (op.Skip 0 k) ops ≡ true → list_all is_no_hold (take (cond b 0 k) ops) ≡ true
  over true k ops s = refl
  over false k ops s = (and_parts _ _ (and_parts _ _ s).1).1
one_op price u fields held op.Hold ops last n s behind = alone price act.Lock n _ (λ _. behind last 0 refl)
one_op price u fields held op.Free ops last n s behind = alone price act.Unlock n _ (λ _. behind last 0 refl)
one_op price u fields held (op.Notify d v) ops last n s behind = alone price (act.Notify d v) n _ (λ _. behind last 0 refl)
one_op price u fields held (op.Drop e) ops last n s behind = alone price (act.Drop e) n _ (λ _. behind last 0 refl)
one_op price u fields held (op.Up e) ops last n s behind = alone price (act.Up e) n _ (λ _. behind last 0 refl)
one_op price u fields held (op.Down e) ops last n s behind = alone price (act.Down e) n _ (λ _. behind last 0 refl)
one_op price u fields held (op.Raise e) ops last n s behind = alone price (act.Raise e) n _ (λ _. behind last 0 refl)
one_op price u fields held (op.Assert e) ops last n s behind = alone price (act.Assert e) n _ (λ _. behind last 0 refl)
one_op price u fields held (op.Push q) ops last n s behind = alone price (act.Push q) n _ (λ _. behind last 0 refl)

after_no_hold : (o : Op) (held : Bool) → is_no_hold o ≡ true → held_after o held ≡ held
after_no_hold op.Hold held e = cc
after_no_hold op.Free held e = cc
after_no_hold _ held e = refl

from_op : (price : Act → ℕ) → IsUniform price → (forbidden : Op → Bool) (fields : List Field) (of_side : Side) (count : ℕ) (hold : Option ℕ) (i : ℕ) (held : Bool) (ops : List Op) (last skip : ℕ)
    → faults_from forbidden of_side count hold i ops ≡ None → list_all is_no_hold (take skip ops) ≡ true
    → Costs price (plan_from fields ops held last skip) (ops_cost price fields held ops)
from_op price u forbidden fields of_side count hold i held [] last skip e s = tt
from_op price u forbidden fields of_side count hold i held (o ∷ ops) last zero e s =
    let k = kept forbidden of_side count (is_some hold) i o ops (faults_from forbidden of_side count (open_after i o hold) (i + 1) ops) e in
    one_op price u fields held o ops last _ k.0.skip (λ last skip. from_op price u forbidden fields of_side count (open_after i o hold) (i + 1) (held_after o held) ops last skip k.1)
from_op price u forbidden fields of_side count hold i held (o ∷ ops) last (suc skip) e s =
    let k = kept forbidden of_side count (is_some hold) i o ops (faults_from forbidden of_side count (open_after i o hold) (i + 1) ops) e in
    let p = and_parts (is_no_hold o) (list_all is_no_hold (take skip ops)) s in
    let same : held_after o held ≡ held = after_no_hold o held p.0 in
    more price _ (ops_cost price fields held ops) _ (let kept_held = ap (λ h. ops_cost price fields h ops) same in omega arith)
    (from_op price u forbidden fields of_side count (open_after i o hold) (i + 1) held ops last skip k.1 p.1)

pub costs : CostsItsOps
unfolding script_fault
costs price fields ops u a = from_op price u a.forbidden fields a.of_side (length fields) None 0 false ops 0 0 a.faultless refl
