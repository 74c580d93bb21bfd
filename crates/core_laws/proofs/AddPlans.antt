-- What the plan of a script adds to one cell.
use Rattle.std.proofs.Common.{ℕ, zero, suc, ◌+◌, ◌%◌, ◌^◌, ◌<◌, ◌≡◌, ◌==◌, Bool, true, false, List, [], ◌∷◌, Option, Some, None, slice_get, if◌then◌else◌, refl, sym, ap, ◌∙◌, subst, arith}
use Rattle.std.specs.List.{list_all}
use Rattle.std.proofs.lemmas.Bool.{and_from, and_parts, eq-eqb, eqb-true, not-true, or_left}
use Rattle.acpi_regs.specs.declared.entry.Cell.{Cell}
use Rattle.acpi_regs.specs.declared.entry.Request.TheVariants as request
use Rattle.field_units.specs.declared.rules.LockRule.TheVariants as lock
use Rattle.field_units.specs.declared.rules.RegionKind.{RegionKind}
use Rattle.field_units.specs.declared.rules.RegionKind.TheVariants as kind
use Rattle.field_units.specs.Bits.{byte_count, first_byte, joined, replaced}
use Rattle.field_units.specs.Field.{Field, is_lock, needs_lock}
use Rattle.handler_script.specs.declared.act.Act.{Act}
use Rattle.handler_script.specs.declared.act.Act.TheVariants as act
use Rattle.handler_script.specs.declared.op.Op.{Op}
use Rattle.handler_script.specs.declared.op.Op.TheVariants as op
use Rattle.handler_script.specs.Parts.{access_needs, bursts, cell_of, read_in, reads_first, takes_lock, write_in}
use Rattle.handler_script.specs.Plan.{Plan, Do, End, closed, old_byte, on_field, plan, plan_from, plan_op, query_plan, read_from, unlocked, where_wanted, write_from}
use Rattle.machine_history.specs.Values.{same_cell}
use Rattle.machine_history.proofs.ScriptPrices.{sums-same}
use Rattle.machine_history.proofs.Totals.{sum_of}
use Rattle.core_laws.specs.Adds.{added, adds, is_no_skip, only_adds}
use Rattle.core_laws.proofs.AddFields.{IsByte, at_offset, joined_byte, one_byte, replaced_byte, whole_byte}

-- Whatever its acts are answered, the plan adds n to the cell in all. Each read of the cell is followed at once by the write of its
-- byte and what is added, both under the lock, and the cell is not written otherwise. Between the two, the byte to be written is told.
abbrev pub Adds : Cell → Option ℕ → ℕ → Plan → Type 0
Adds c None n End = n ≡ 0
Adds c (Some w) n End = ⊥
Adds c None n (Do needs (act.Read d) next) =
    (same_cell d c ≡ false → (byte : ℕ) → Adds c None n (next byte))
    × (same_cell d c ≡ true → (needs ≡ true) × (v : ℕ) × (rest : ℕ) × (n ≡ v + rest) × ((byte : ℕ) → byte < 256 → Adds c (Some ((byte + v) % 256)) rest (next byte)))
Adds c None n (Do needs (act.Write d u) next) = (same_cell d c ≡ false) × ((byte : ℕ) → Adds c None n (next byte))
Adds c None n (Do needs a next) = (byte : ℕ) → Adds c None n (next byte)
Adds c (Some w) n (Do needs (act.Write d u) next) = (needs ≡ true) × (same_cell d c ≡ true) × (u ≡ w) × ((byte : ℕ) → Adds c None n (next byte))
Adds c (Some w) n (Do needs a next) = ⊥

-- acts that neither read nor write a cell of memory
abbrev pub is_quiet : Act → Bool
is_quiet (act.Read d) = false
is_quiet (act.Write d u) = false
is_quiet _ = true

pub quietly : (c : Cell) (n : ℕ) (needs : Bool) (a : Act) (next : ℕ → Plan) → is_quiet a ≡ true → ((byte : ℕ) → Adds c None n (next byte)) → Adds c None n (Do needs a next)
quietly c n needs (act.Read d) next quiet rest = cc
quietly c n needs (act.Write d u) next quiet rest = cc
quietly c n needs _ next quiet rest = rest

wanted : (c : Cell) (n : ℕ) (b needs : Bool) (a : Act) (p : Plan) → is_quiet a ≡ true → Adds c None n p → Adds c None n (where_wanted b needs a p)
wanted c n true needs a p quiet rest = quietly c n needs a (λ _. p) quiet (λ byte. rest)
wanted c n false needs a p quiet rest = rest

-- ---- a field that does not touch the cell

abbrev Beside : Cell → Field → Type 0
Beside c field = (k : ℕ) → k < byte_count field → same_cell (cell_of field k) c ≡ false

false_true : {X : Type 0} (b : Bool) → b ≡ false → b ≡ true → X
false_true b isnt is = cc

read_beside : (c : Cell) (n : ℕ) (needs : Bool) (field : Field) (k : ℕ) (of_kind : RegionKind) (next : ℕ → Plan) → same_cell (cell_of field k) c ≡ false → ((byte : ℕ) → Adds c None n (next byte)) → Adds c None n (Do needs (read_in of_kind field k) next)
read_beside c n needs field k kind.Memory next other rest = (λ no. rest, λ yes. false_true (same_cell (cell_of field k) c) other yes)
read_beside c n needs field k kind.Controller next other rest = rest

write_beside : (c : Cell) (n : ℕ) (needs : Bool) (field : Field) (k u : ℕ) (of_kind : RegionKind) (next : ℕ → Plan) → same_cell (cell_of field k) c ≡ false → ((byte : ℕ) → Adds c None n (next byte)) → Adds c None n (Do needs (write_in of_kind field k u) next)
write_beside c n needs field k u kind.Memory next other rest = (other, rest)
write_beside c n needs field k u kind.Controller next other rest = rest

reads : (c : Cell) (n : ℕ) (field : Field) (needs : Bool) (k left so_far : ℕ) (next : ℕ → Plan) → Beside c field → k + left ≡ byte_count field → ((v : ℕ) → Adds c None n (next v))
    → Adds c None n (read_from field needs k left so_far next)
reads c n field needs k zero so_far next beside size rest = rest so_far
reads c n field needs k (suc left) so_far next beside size rest =
    read_beside c n needs field k field.kind _ (beside k (omega arith)) (λ byte. reads c n field needs (k + 1) left (joined field k byte so_far) next beside (omega arith) rest)

old : (c : Cell) (n : ℕ) (b : Bool) (field : Field) (needs : Bool) (k : ℕ) (next : ℕ → Plan) → Beside c field → k < byte_count field → ((v : ℕ) → Adds c None n (next v)) → Adds c None n (old_byte b field needs k next)
old c n false field needs k next beside below rest = rest 0
old c n true field needs k next beside below rest = read_beside c n needs field k field.kind next (beside k below) rest

writes : (c : Cell) (n : ℕ) (field : Field) (needs : Bool) (k left value : ℕ) (next : Plan) → Beside c field → k + left ≡ byte_count field → Adds c None n next
    → Adds c None n (write_from field needs k left value next)
writes c n field needs k zero value next beside size rest = rest
writes c n field needs k (suc left) value next beside size rest =
    let below : k < byte_count field = omega arith in
    let onwards : (k + 1) + left ≡ byte_count field = omega arith in
    old c n (reads_first field k) field needs k _ beside below
    (λ byte. write_beside c n needs field k (replaced field k byte value) field.kind _ (beside k below) (λ _. writes c n field needs (k + 1) left value next beside onwards rest))

-- ---- the frame of an op: the lock and burst mode

closes : (c : Cell) (n : ℕ) (field : Field) (held : Bool) (p : Plan) → Adds c None n p → Adds c None n (closed field held p)
closes c n field held p rest =
    wanted c n (bursts field) (access_needs field held) (act.Ask request.Bd) (unlocked field held p) refl (wanted c n (takes_lock field held) false act.Unlock p refl rest)

framed : (c : Cell) (n : ℕ) (field : Field) (held : Bool) (p : Plan) → Adds c None n p
    → Adds c None n (where_wanted (takes_lock field held) false act.Lock (where_wanted (bursts field) (access_needs field held) (act.Ask request.Be) p))
framed c n field held p rest =
    wanted c n (takes_lock field held) false act.Lock _ refl (wanted c n (bursts field) (access_needs field held) (act.Ask request.Be) p refl rest)

-- ---- ops on a field that does not touch the cell

abbrev BesideFound : Cell → Option Field → Type 0
BesideFound c None = Unit {0}
BesideFound c (Some field) = Beside c field

on_read : (c : Cell) (n : ℕ) (found : Option Field) (f : ℕ) (held : Bool) (last : ℕ) (next : ℕ → Plan) → BesideFound c found → ((v : ℕ) → Adds c None n (next v)) → Adds c None n (on_field found (op.Read f) held last next)
on_read c n None f held last next beside rest = rest last
on_read c n (Some field) f held last next beside rest =
    framed c n field held _ (reads c n field (access_needs field held) 0 (byte_count field) 0 _ beside (omega arith) (λ v. closes c n field held (next v) (rest v)))

on_write : (c : Cell) (n : ℕ) (found : Option Field) (f x : ℕ) (held : Bool) (last : ℕ) (next : ℕ → Plan) → BesideFound c found → ((v : ℕ) → Adds c None n (next v)) → Adds c None n (on_field found (op.Write f x) held last next)
on_write c n None f x held last next beside rest = rest last
on_write c n (Some field) f x held last next beside rest =
    framed c n field held _ (writes c n field (access_needs field held) 0 (byte_count field) (x % 2 ^ field.width) _ beside (omega arith) (closes c n field held (next last) (rest last)))

on_add : (c : Cell) (n : ℕ) (found : Option Field) (f x : ℕ) (held : Bool) (last : ℕ) (next : ℕ → Plan) → BesideFound c found → ((v : ℕ) → Adds c None n (next v)) → Adds c None n (on_field found (op.Add f x) held last next)
on_add c n None f x held last next beside rest = rest last
on_add c n (Some field) f x held last next beside rest =
    framed c n field held _ (reads c n field (access_needs field held) 0 (byte_count field) 0 _ beside (omega arith)
    (λ v. writes c n field (access_needs field held) 0 (byte_count field) ((v + x) % 2 ^ field.width) _ beside (omega arith) (closes c n field held (next v) (rest v))))

-- ---- an addition to the field that is the cell

-- the field is the cell's byte, in memory and under the lock
pub record IsOn (c : Cell) (field : Field) : Type 0 where
  pub memory : field.kind ≡ kind.Memory
  pub region : field.region ≡ c.region
  pub byte : IsByte field c.offset
  pub lock : field.lock ≡ lock.Lock

cell_is : (c : Cell) (field : Field) → IsOn c field → same_cell (cell_of field 0) c ≡ true
cell_is c field h = and_from _ _ (eq-eqb field.region c.region h.region) (eq-eqb (first_byte field + 0) c.offset (at_offset field c.offset h.byte))

needs : (c : Cell) (field : Field) (held : Bool) → IsOn c field → access_needs field held ≡ true
needs c field held h = or_left (needs_lock field) held (ap is_lock h.lock)

-- the read and the write
write_at : (c : Cell) (n : ℕ) (of_lock : Bool) (field : Field) (u w : ℕ) (of_kind : RegionKind) (next : ℕ → Plan) → of_kind ≡ kind.Memory → of_lock ≡ true → same_cell (cell_of field 0) c ≡ true → u ≡ w
    → ((byte : ℕ) → Adds c None n (next byte)) → Adds c (Some w) n (Do of_lock (write_in of_kind field 0 u) next)
write_at c n of_lock field u w kind.Memory next memory locked same is rest = (locked, same, is, rest)
write_at c n of_lock field u w kind.Controller next memory locked same is rest = cc

read_at : (c : Cell) (n x : ℕ) (of_lock : Bool) (field : Field) (of_kind : RegionKind) (next : ℕ → Plan) → of_kind ≡ kind.Memory → of_lock ≡ true → same_cell (cell_of field 0) c ≡ true
    → ((byte : ℕ) → byte < 256 → Adds c (Some ((byte + x) % 256)) n (next byte)) → Adds c None (x + n) (Do of_lock (read_in of_kind field 0) next)
read_at c n x of_lock field kind.Memory next memory locked same rest = (λ other. false_true (same_cell (cell_of field 0) c) other same, λ is. (locked, x, n, refl, rest))
read_at c n x of_lock field kind.Controller next memory locked same rest = cc

write_sum : (c : Cell) (n : ℕ) (field : Field) (held : Bool) (w : ℕ) (next : Plan) → IsOn c field → w < 256 → Adds c None n next → Adds c (Some w) n (write_from field (access_needs field held) 0 (byte_count field) w next)
write_sum c n field held w next h small rest =
    rw (one_byte field c.offset h.byte, whole_byte field c.offset h.byte) (write_at c n (access_needs field held) field (replaced field 0 0 w) w field.kind _ h.memory (needs c field held h) (cell_is c field h) (replaced_byte field c.offset 0 w h.byte small) (λ byte. rest))

add_byte : (c : Cell) (n : ℕ) (field : Field) (f x : ℕ) (held : Bool) (last : ℕ) (next : ℕ → Plan) → IsOn c field → ((v : ℕ) → Adds c None n (next v)) → Adds c None (x + n) (on_field (Some field) (op.Add f x) held last next)
add_byte c n field f x held last next h rest = framed c (x + n) field held _ read_it
  where
    write_it : (byte : ℕ) → byte < 256 → Adds c (Some ((byte + x) % 256)) n (write_from field (access_needs field held) 0 (byte_count field) ((joined field 0 byte 0 + x) % 2 ^ field.width) (closed field held (next (joined field 0 byte 0))))
    write_it byte small =
        let same = joined_byte field c.offset byte h.byte small in
        let sum : (byte + x) % 256 ≡ (joined field 0 byte 0 + x) % 2 ^ field.width = ap (λ y. (y + x) % 256) (sym same) ∙ ap (λ k. (joined field 0 byte 0 + x) % 2 ^ k) (sym h.byte.width) in
        subst (λ w. Adds c (Some w) n (write_from field (access_needs field held) 0 (byte_count field) ((joined field 0 byte 0 + x) % 2 ^ field.width) (closed field held (next (joined field 0 byte 0))))) (sym sum)
        (write_sum c n field held _ _ h (subst (λ w. w < 256) sum (omega arith)) (closes c n field held (next (joined field 0 byte 0)) (rest (joined field 0 byte 0))))

    read_it : Adds c None (x + n) (read_from field (access_needs field held) 0 (byte_count field) 0 (λ value. write_from field (access_needs field held) 0 (byte_count field) ((value + x) % 2 ^ field.width) (closed field held (next value))))
    read_it = subst (λ k. Adds c None (x + n) (read_from field (access_needs field held) 0 k 0 (λ value. write_from field (access_needs field held) 0 (byte_count field) ((value + x) % 2 ^ field.width) (closed field held (next value))))) (sym (one_byte field c.offset h.byte))
        (read_at c n x (access_needs field held) field field.kind _ h.memory (needs c field held h) (cell_is c field h) write_it)

-- ---- a script

-- the fields of a machine, as the cell sees them: f is its own, and no other touches it
pub record Around (fields : List Field) (c : Cell) (f : ℕ) : Type 0 where
  pub field : Field
  pub named : slice_get fields f ≡ Some field
  pub on : IsOn c field
  pub others : (g : ℕ) (other : Field) → slice_get fields g ≡ Some other → (g == f) ≡ false → Beside c other

beside_found : (fields : List Field) (c : Cell) (f g : ℕ) (found : Option Field) → Around fields c f → (g == f) ≡ false → slice_get fields g ≡ found → BesideFound c found
beside_found fields c f g None around other is = tt
beside_found fields c f g (Some field) around other is = around.others g field is other

on_own : (fields : List Field) (c : Cell) (n f g x : ℕ) (held : Bool) (last : ℕ) (next : ℕ → Plan) → Around fields c f → g ≡ f → ((v : ℕ) → Adds c None n (next v)) → Adds c None (x + n) (on_field (slice_get fields g) (op.Add g x) held last next)
on_own fields c n f g x held last next around same rest =
    subst (λ found. Adds c None (x + n) (on_field found (op.Add g x) held last next)) (sym (ap (slice_get fields) same ∙ around.named)) (add_byte c n around.field g x held last next around.on rest)

-- an op that adds nothing
more : (c : Cell) (n : ℕ) (p : Plan) → Adds c None n p → Adds c None (0 + n) p
more c n p rest = let same : n ≡ 0 + n = omega arith in subst (λ k. Adds c None k p) same rest

add_op : (fields : List Field) (c : Cell) (n f g x : ℕ) (held : Bool) (last : ℕ) (next : ℕ → Plan) → Around fields c f → ((v : ℕ) → Adds c None n (next v)) → Adds c None (added f (op.Add g x) + n) (on_field (slice_get fields g) (op.Add g x) held last next)
add_op fields c n f g x held last next around rest = at (g == f) refl
  where
    at : (b : Bool) → (g == f) ≡ b → Adds c None ((if b then x else 0) + n) (on_field (slice_get fields g) (op.Add g x) held last next)
    at true is = on_own fields c n f g x held last next around (eqb-true g f is) rest
    at false is = more c n _ (on_add c n (slice_get fields g) g x held last next (beside_found fields c f g _ around is refl) rest)

one_op : (fields : List Field) (c : Cell) (f n : ℕ) (held : Bool) (o : Op) (last : ℕ) (next : Bool → ℕ → ℕ → Plan) → Around fields c f → only_adds f o ≡ true → is_no_skip o ≡ true
    → ((held : Bool) (last : ℕ) → Adds c None n (next held last 0))
    → Adds c None (added f o + n) (plan_op fields o held last next)
one_op fields c f n held (op.Read g) last next around only no_skip rest = more c n (plan_op fields (op.Read g) held last next) (on_read c n (slice_get fields g) g held last _ (beside_found fields c f g _ around (not-true (g == f) only) refl) (λ v. rest held v))
one_op fields c f n held (op.Write g x) last next around only no_skip rest = more c n (plan_op fields (op.Write g x) held last next) (on_write c n (slice_get fields g) g x held last _ (beside_found fields c f g _ around (not-true (g == f) only) refl) (λ v. rest held v))
one_op fields c f n held (op.Add g x) last next around only no_skip rest = add_op fields c n f g x held last _ around (λ v. rest held v)
one_op fields c f n held (op.Skip v k) last next around only no_skip rest = cc
one_op fields c f n held op.Hold last next around only no_skip rest = more c n (plan_op fields op.Hold held last next) (λ _. rest true last)
one_op fields c f n held op.Free last next around only no_skip rest = more c n (plan_op fields op.Free held last next) (λ _. rest false last)
one_op fields c f n held (op.Notify d v) last next around only no_skip rest = more c n (plan_op fields (op.Notify d v) held last next) (λ _. rest held last)
one_op fields c f n held (op.Drop e) last next around only no_skip rest = more c n (plan_op fields (op.Drop e) held last next) (λ _. rest held last)
one_op fields c f n held (op.Up e) last next around only no_skip rest = more c n (plan_op fields (op.Up e) held last next) (λ _. rest held last)
one_op fields c f n held (op.Down e) last next around only no_skip rest = more c n (plan_op fields (op.Down e) held last next) (λ _. rest held last)
one_op fields c f n held (op.Raise e) last next around only no_skip rest = more c n (plan_op fields (op.Raise e) held last next) (λ _. rest held last)
one_op fields c f n held (op.Assert e) last next around only no_skip rest = more c n (plan_op fields (op.Assert e) held last next) (λ _. rest held last)
one_op fields c f n held (op.Push q) last next around only no_skip rest = more c n (plan_op fields (op.Push q) held last next) (λ _. rest held last)

from_op : (fields : List Field) (c : Cell) (f : ℕ) (ops : List Op) (held : Bool) (last : ℕ) → Around fields c f → list_all (only_adds f) ops ≡ true → list_all is_no_skip ops ≡ true → Adds c None (sum_of (added f) ops) (plan_from fields ops held last 0)
from_op fields c f [] held last around only no_skip = refl
from_op fields c f (o ∷ ops) held last around only no_skip =
    let p = and_parts (only_adds f o) (list_all (only_adds f) ops) only in
    let q = and_parts (is_no_skip o) (list_all is_no_skip ops) no_skip in
    one_op fields c f (sum_of (added f) ops) held o last (λ held last skip. plan_from fields ops held last skip) around p.0 q.0 (λ held last. from_op fields c f ops held last around p.1 q.1)

-- a script adds what its ops add
pub script_adds : (fields : List Field) (c : Cell) (f : ℕ) (ops : List Op) → Around fields c f → list_all (only_adds f) ops ≡ true → list_all is_no_skip ops ≡ true → Adds c None (adds f ops) (plan fields ops)
script_adds fields c f ops around only no_skip = subst (λ n. Adds c None n (plan fields ops)) (sym (sums-same (added f) ops)) (from_op fields c f ops false 0 around only no_skip)

pub query_adds : (c : Cell) (glk : Bool) → Adds c None 0 (query_plan glk)
query_adds c false = λ _. refl
query_adds c true = λ _. λ _. λ _. refl
