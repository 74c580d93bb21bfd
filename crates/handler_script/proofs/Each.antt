-- What is true on every field, and of the act of every op that names none, is true of each act of a script.
use Rattle.std.proofs.Common.{◌≡◌, ◌<◌, ℕ, zero, suc, ◌+◌, ◌%◌, ◌^◌, ◌==◌, Bool, true, false, cond, ◌&&◌, List, [], ◌∷◌, Option, Some, None, slice_get, refl, arith}
use Rattle.std.proofs.lemmas.Bool.{and_parts}
use Rattle.acpi_regs.specs.declared.entry.Request.TheVariants as request
use Rattle.field_units.specs.Bits.{byte_count, joined, replaced}
use Rattle.field_units.specs.Field.{Field}
use Rattle.handler_script.specs.declared.act.Act.{Act}
use Rattle.handler_script.specs.declared.act.Act.TheVariants as act
use Rattle.handler_script.specs.declared.op.Op.{Op}
use Rattle.handler_script.specs.declared.op.Op.TheVariants as op
use Rattle.handler_script.specs.Each.{Each, IsTrueOfEach, IsTrueOn, act_alone}
use Rattle.handler_script.specs.Parts.{access_needs, bursts, reads_first, takes_lock}
use Rattle.handler_script.specs.Plan.{Plan, closed, old_byte, on_field, plan_from, plan_op, read_from, unlocked, where_wanted, write_from}

wanted : (P : Bool → Act → Bool) (b needs : Bool) (a : Act) (p : Plan) → (b ≡ true → P needs a ≡ true) → Each P p → Each P (where_wanted b needs a p)
wanted P true needs a p holds rest = (holds refl, λ byte. rest)
wanted P false needs a p holds rest = rest

reads : (P : Bool → Act → Bool) (field : Field) (held : Bool) (k left so_far : ℕ) (next : ℕ → Plan) → IsTrueOn P field → k + left ≡ byte_count field → ((v : ℕ) → Each P (next v))
    → Each P (read_from field (access_needs field held) k left so_far next)
reads P field held k zero so_far next h size rest = rest so_far
reads P field held k (suc left) so_far next h size rest =
    (h.read held k (omega arith), λ byte. reads P field held (k + 1) left (joined field k byte so_far) next h (omega arith) rest)

old : (P : Bool → Act → Bool) (b : Bool) (field : Field) (held : Bool) (k : ℕ) (next : ℕ → Plan) → IsTrueOn P field → k < byte_count field → ((v : ℕ) → Each P (next v)) → Each P (old_byte b field (access_needs field held) k next)
old P false field held k next h below rest = rest 0
old P true field held k next h below rest = (h.read held k below, rest)

writes : (P : Bool → Act → Bool) (field : Field) (held : Bool) (k left value : ℕ) (next : Plan) → IsTrueOn P field → k + left ≡ byte_count field → Each P next
    → Each P (write_from field (access_needs field held) k left value next)
writes P field held k zero value next h size rest = rest
writes P field held k (suc left) value next h size rest =
    let below : k < byte_count field = omega arith in
    let onwards : (k + 1) + left ≡ byte_count field = omega arith in
    old P (reads_first field k) field held k _ h below
    (λ byte. (h.write held k (replaced field k byte value) below, λ _. writes P field held (k + 1) left value next h onwards rest))

takes : (n held : Bool) → (n && held) ≡ true → n ≡ true
takes n held e = (and_parts n held e).0

closes : (P : Bool → Act → Bool) (field : Field) (held : Bool) (p : Plan) → IsTrueOn P field → Each P p → Each P (closed field held p)
closes P field held p h rest =
    wanted P (bursts field) (access_needs field held) (act.Ask request.Bd) (unlocked field held p) (λ b. (h.burst held b).1)
    (wanted P (takes_lock field held) false act.Unlock p (λ t. (h.lock (takes _ _ t)).1) rest)

framed : (P : Bool → Act → Bool) (field : Field) (held : Bool) (p : Plan) → IsTrueOn P field → Each P p
    → Each P (where_wanted (takes_lock field held) false act.Lock (where_wanted (bursts field) (access_needs field held) (act.Ask request.Be) p))
framed P field held p h rest =
    wanted P (takes_lock field held) false act.Lock _ (λ t. (h.lock (takes _ _ t)).0)
    (wanted P (bursts field) (access_needs field held) (act.Ask request.Be) p (λ b. (h.burst held b).0) rest)

-- it holds on the field that is found
abbrev OnFound : (Bool → Act → Bool) → Option Field → Type 0
OnFound P None = Unit {0}
OnFound P (Some field) = IsTrueOn P field

on_found : (P : Bool → Act → Bool) (fields : List Field) (f : ℕ) (found : Option Field) → ((f : ℕ) (field : Field) → slice_get fields f ≡ Some field → IsTrueOn P field) → slice_get fields f ≡ found → OnFound P found
on_found P fields f None h is = tt
on_found P fields f (Some field) h is = h f field is

on_read : (P : Bool → Act → Bool) (found : Option Field) (f : ℕ) (held : Bool) (last : ℕ) (next : ℕ → Plan) → OnFound P found → ((v : ℕ) → Each P (next v)) → Each P (on_field found (op.Read f) held last next)
on_read P None f held last next h rest = rest last
on_read P (Some field) f held last next h rest =
    framed P field held _ h (reads P field held 0 (byte_count field) 0 _ h (omega arith) (λ v. closes P field held (next v) h (rest v)))

on_write : (P : Bool → Act → Bool) (found : Option Field) (f x : ℕ) (held : Bool) (last : ℕ) (next : ℕ → Plan) → OnFound P found → ((v : ℕ) → Each P (next v)) → Each P (on_field found (op.Write f x) held last next)
on_write P None f x held last next h rest = rest last
on_write P (Some field) f x held last next h rest =
    framed P field held _ h (writes P field held 0 (byte_count field) (x % 2 ^ field.width) _ h (omega arith) (closes P field held (next last) h (rest last)))

on_add : (P : Bool → Act → Bool) (found : Option Field) (f x : ℕ) (held : Bool) (last : ℕ) (next : ℕ → Plan) → OnFound P found → ((v : ℕ) → Each P (next v)) → Each P (on_field found (op.Add f x) held last next)
on_add P None f x held last next h rest = rest last
on_add P (Some field) f x held last next h rest =
    framed P field held _ h (reads P field held 0 (byte_count field) 0 _ h (omega arith)
    (λ v. writes P field held 0 (byte_count field) ((v + x) % 2 ^ field.width) _ h (omega arith) (closes P field held (next v) h (rest v))))

one_op : (P : Bool → Act → Bool) (fields : List Field) (held : Bool) (o : Op) (ops : List Op) (last : ℕ)
    → ((f : ℕ) (field : Field) → slice_get fields f ≡ Some field → IsTrueOn P field)
    → ((a : Act) → act_alone o ≡ Some a → P false a ≡ true)
    → ((held : Bool) (last skip : ℕ) → Each P (plan_from fields ops held last skip))
    → Each P (plan_op fields o held last (λ h l s. plan_from fields ops h l s))
one_op P fields held (op.Read f) ops last h alone rest = on_read P (slice_get fields f) f held last _ (on_found P fields f _ h refl) (λ v. rest held v 0)
one_op P fields held (op.Write f x) ops last h alone rest = on_write P (slice_get fields f) f x held last _ (on_found P fields f _ h refl) (λ v. rest held v 0)
one_op P fields held (op.Add f x) ops last h alone rest = on_add P (slice_get fields f) f x held last _ (on_found P fields f _ h refl) (λ v. rest held v 0)
one_op P fields held (op.Skip v k) ops last h alone rest = rest held last (cond (last == v) 0 k)
one_op P fields held op.Hold ops last h alone rest = (alone act.Lock refl, λ _. rest true last 0)
one_op P fields held op.Free ops last h alone rest = (alone act.Unlock refl, λ _. rest false last 0)
one_op P fields held (op.Notify d v) ops last h alone rest = (alone (act.Notify d v) refl, λ _. rest held last 0)
one_op P fields held (op.Drop e) ops last h alone rest = (alone (act.Drop e) refl, λ _. rest held last 0)
one_op P fields held (op.Up e) ops last h alone rest = (alone (act.Up e) refl, λ _. rest held last 0)
one_op P fields held (op.Down e) ops last h alone rest = (alone (act.Down e) refl, λ _. rest held last 0)
one_op P fields held (op.Raise e) ops last h alone rest = (alone (act.Raise e) refl, λ _. rest held last 0)
one_op P fields held (op.Assert e) ops last h alone rest = (alone (act.Assert e) refl, λ _. rest held last 0)
one_op P fields held (op.Push q) ops last h alone rest = (alone (act.Push q) refl, λ _. rest held last 0)

from_op : (P : Bool → Act → Bool) (fields : List Field) (held : Bool) (ops : List Op) (last skip : ℕ)
    → ((f : ℕ) (field : Field) → slice_get fields f ≡ Some field → IsTrueOn P field)
    → ((i : ℕ) (o : Op) (a : Act) → slice_get ops i ≡ Some o → act_alone o ≡ Some a → P false a ≡ true)
    → Each P (plan_from fields ops held last skip)
from_op P fields held [] last skip h alone = tt
from_op P fields held (o ∷ ops) last zero h alone =
    one_op P fields held o ops last h (λ a is. alone 0 o a refl is) (λ held last skip. from_op P fields held ops last skip h (λ i. alone (suc i)))
from_op P fields held (o ∷ ops) last (suc skip) h alone = from_op P fields held ops last skip h (λ i. alone (suc i))

pub each : IsTrueOfEach
each P fields ops h alone = from_op P fields false ops 0 0 h alone
