-- An accepted script's acts stand to the lock as they should, and are marked as they should.
use Rattle.std.proofs.Common.{◌≡◌, ℕ, zero, suc, ◌+◌, ◌<◌, ◌≤◌, ◌%◌, ◌^◌, ◌==◌, Bool, true, false, cond, ◌||◌, ◌&&◌, not, nat_le, nat_lt, List, [], ◌∷◌, length, take, Option, Some, None, is_some, option_map, slice_get, refl, sym, ap, ◌∙◌, arith, rules}
use Rattle.std.specs.List.{list_all}
use Rattle.std.proofs.lemmas.Bool.{and_parts, or_left}
use Rattle.acpi_regs.specs.declared.actor.Side.{Side}
use Rattle.acpi_regs.specs.declared.entry.Request.{Request}
use Rattle.acpi_regs.specs.declared.entry.Request.TheVariants as request
use Rattle.field_units.specs.declared.rules.RegionKind.{RegionKind}
use Rattle.field_units.specs.declared.rules.RegionKind.TheVariants as kind
use Rattle.field_units.specs.Bits.{byte_count, first_byte, joined, replaced}
use Rattle.field_units.specs.Field.{Field, is_controller, is_lock, needs_lock}
use Rattle.handler_script.specs.declared.act.Act.TheVariants as act
use Rattle.handler_script.specs.declared.fault.ScriptFault.TheVariants as fault
use Rattle.handler_script.specs.declared.op.Op.{Op}
use Rattle.handler_script.specs.declared.op.Op.TheVariants as op
use Rattle.handler_script.specs.Accepts.{Accepted, faults_from, is_balanced, is_no_hold, is_sound_skip, open_after, script_fault}
use Rattle.handler_script.specs.Laws.{LocksInTurn, MarksNeeds}
use Rattle.handler_script.specs.Locked.{Locked, held_by, is_lock_step}
use Rattle.handler_script.specs.Marked.{Marked, accesses, always_needs, is_for, is_locked_cell, is_locked_request, is_of}
use Rattle.handler_script.specs.Parts.{access_needs, bursts, cell_of, read_in, reads_first, takes_lock, write_act, write_in}
use Rattle.handler_script.specs.Plan.{Plan, Do, End, closed, old_byte, on_field, plan, plan_from, plan_op, read_from, unlocked, where_wanted, write_from}
use Rattle.handler_script.proofs.Sounds.{kept}

-- what is shown of each act: `Locked` and `Marked` follow from it
abbrev Right : Bool → List Field → Bool → Plan → Type 0
Right glk fields held End = held ≡ false
Right glk fields held (Do needs a next) = ((not (always_needs glk fields a) || needs) ≡ true) × (needs ≡ (accesses a && held)) × (is_lock_step a held ≡ true) × ((byte : ℕ) → Right glk fields (held_by a held) (next byte))

under_lock : (needs access held : Bool) → needs ≡ (access && held) → (not needs || held) ≡ true
under_lock false access held e = refl
under_lock true true true e = refl
under_lock true true false e = cc
under_lock true false held e = cc

right_locked : (glk : Bool) (fields : List Field) (held : Bool) (p : Plan) → Right glk fields held p → Locked held p
right_locked glk fields held End h = h
right_locked glk fields held (Do needs a next) h = (under_lock needs (accesses a) held h.1, h.2, λ byte. right_locked glk fields (held_by a held) (next byte) (h.3 byte))

right_marked : (glk : Bool) (fields : List Field) (held : Bool) (p : Plan) → Right glk fields held p → Marked glk fields held p
right_marked glk fields held End h = tt
right_marked glk fields held (Do needs a next) h = (h.0, h.1, λ byte. right_marked glk fields (held_by a held) (next byte) (h.3 byte))

lock_opened : (glk : Bool) (fields : List Field) (n held : Bool) (p : Plan) → Right glk fields (n || held) p → Right glk fields held (where_wanted (n && not held) false act.Lock p)
lock_opened glk fields true true p h = h
lock_opened glk fields true false p h = (refl, refl, refl, λ byte. h)
lock_opened glk fields false held p h = h

lock_closed : (glk : Bool) (fields : List Field) (n held : Bool) (p : Plan) → Right glk fields held p → Right glk fields (n || held) (where_wanted (n && not held) false act.Unlock p)
lock_closed glk fields true true p h = h
lock_closed glk fields true false p h = (refl, refl, refl, λ byte. h)
lock_closed glk fields false held p h = h

in_burst : (glk : Bool) (fields : List Field) (b inner : Bool) (r : Request) (p : Plan) → (b ≡ true → (not (is_locked_request glk fields r) || inner) ≡ true) → Right glk fields inner p → Right glk fields inner (where_wanted b inner (act.Ask r) p)
in_burst glk fields true inner r p e h = (e refl, refl, refl, λ byte. h)
in_burst glk fields false inner r p e h = h

-- with this mark the accesses of a field are marked as they should
record Marks (glk : Bool) (fields : List Field) (field : Field) (inner : Bool) : Type 0 where
  begins : bursts field ≡ true → (not (is_locked_request glk fields request.Be) || inner) ≡ true
  ends : bursts field ≡ true → (not (is_locked_request glk fields request.Bd) || inner) ≡ true
  reads : (j : ℕ) → j < byte_count field → is_controller field.kind ≡ true → (not (is_locked_request glk fields (request.Rd (first_byte field + j))) || inner) ≡ true
  writes : (j byte : ℕ) → j < byte_count field → is_controller field.kind ≡ true → (not (is_locked_request glk fields (request.Wr (first_byte field + j) byte)) || inner) ≡ true
  cells : (j : ℕ) → j < byte_count field → (not (is_locked_cell fields (cell_of field j)) || inner) ≡ true

all_at : (fields : List Field) (f : ℕ) (field : Field) (p : Field → Bool) → list_all p fields ≡ true → slice_get fields f ≡ Some field → p field ≡ true
all_at [] zero field p e at = cc
all_at [] (suc f) field p e at = cc
all_at (x ∷ fields) zero field p e at = let same : x ≡ field = cc in ap p (sym same) ∙ (and_parts (p x) (list_all p fields) e).0
all_at (x ∷ fields) (suc f) field p e at = all_at fields f field p (and_parts (p x) (list_all p fields) e).1 at

own_byte : (c : Bool) (first j count : ℕ) → c ≡ true → j < count → (c && (nat_le first (first + j) && nat_lt (first + j) (first + count))) ≡ true
own_byte true first j count is less = grind (arith, rules)
own_byte false first j count is less = cc

own_cell : (region first j count : ℕ) → j < count → ((region == region) && (nat_le first (first + j) && nat_lt (first + j) (first + count))) ≡ true
own_cell region first j count less = grind (arith, rules)

of_own : (own needs : Bool) → own ≡ true → (not own || needs) ≡ true → needs ≡ true
of_own true needs is e = e
of_own false needs is e = cc

where_locked : (locked needs held : Bool) → (locked ≡ true → needs ≡ true) → (not locked || (needs || held)) ≡ true
where_locked true needs held p = or_left needs held (p refl)
where_locked false needs held p = refl

-- where each field that is so needs the lock, this one does if it is so
needed : (fields : List Field) (f : ℕ) (field : Field) (held : Bool) (test : Field → Bool) → slice_get fields f ≡ Some field → test field ≡ true
    → (not (list_all (λ x. not (test x) || needs_lock x) fields) || access_needs field held) ≡ true
needed fields f field held test at is = where_locked (list_all (λ x. not (test x) || needs_lock x) fields) (needs_lock field) held
    (λ e. of_own (test field) (needs_lock field) is (all_at fields f field (λ x. not (test x) || needs_lock x) e at))

marks : (glk : Bool) (fields : List Field) (f : ℕ) (field : Field) (held : Bool) → slice_get fields f ≡ Some field → Marks glk fields field (access_needs field held)
marks glk fields f field held at = record {
  begins = λ is. needed fields f field held bursts at is;
  ends = λ is. needed fields f field held bursts at is;
  reads = λ j less is. needed fields f field held (is_for (request.Rd (first_byte field + j))) at (own_byte (is_controller field.kind) (first_byte field) j (byte_count field) is less);
  writes = λ j byte less is. needed fields f field held (is_for (request.Wr (first_byte field + j) byte)) at (own_byte (is_controller field.kind) (first_byte field) j (byte_count field) is less);
  cells = λ j less. needed fields f field held (is_of (cell_of field j)) at (own_cell field.region (first_byte field) j (byte_count field) less);
}

accessed_read : (glk : Bool) (fields : List Field) (k : RegionKind) (field : Field) (j : ℕ) (inner : Bool) (next : ℕ → Plan) → (is_controller k ≡ true → (not (is_locked_request glk fields (request.Rd (first_byte field + j))) || inner) ≡ true) → (not (is_locked_cell fields (cell_of field j)) || inner) ≡ true → ((byte : ℕ) → Right glk fields inner (next byte)) → Right glk fields inner (Do inner (read_in k field j) next)
accessed_read glk fields kind.Memory field j inner next asks cell h = (cell, refl, refl, h)
accessed_read glk fields kind.Controller field j inner next asks cell h = (asks refl, refl, refl, h)

accessed_write : (glk : Bool) (fields : List Field) (k : RegionKind) (field : Field) (j byte : ℕ) (inner : Bool) (next : ℕ → Plan) → (is_controller k ≡ true → (not (is_locked_request glk fields (request.Wr (first_byte field + j) byte)) || inner) ≡ true) → (not (is_locked_cell fields (cell_of field j)) || inner) ≡ true → ((byte : ℕ) → Right glk fields inner (next byte)) → Right glk fields inner (Do inner (write_in k field j byte) next)
accessed_write glk fields kind.Memory field j byte inner next asks cell h = (cell, refl, refl, h)
accessed_write glk fields kind.Controller field j byte inner next asks cell h = (asks refl, refl, refl, h)

less : (k left count : ℕ) → k + suc left ≤ count → k < count
less k left count within = omega arith

further : (k left count : ℕ) → k + suc left ≤ count → k + 1 + left ≤ count
further k left count within = omega arith

read_right : (glk : Bool) (fields : List Field) (field : Field) (inner : Bool) (k left so_far : ℕ) (next : ℕ → Plan) → Marks glk fields field inner → k + left ≤ byte_count field → ((v : ℕ) → Right glk fields inner (next v)) → Right glk fields inner (read_from field inner k left so_far next)
read_right glk fields field inner k zero so_far next m within h = h so_far
read_right glk fields field inner k (suc left) so_far next m within h =
    accessed_read glk fields field.kind field k inner (λ byte. read_from field inner (k + 1) left (joined field k byte so_far) next) (m.reads k (less k left (byte_count field) within)) (m.cells k (less k left (byte_count field) within))
    (λ byte. read_right glk fields field inner (k + 1) left (joined field k byte so_far) next m (further k left (byte_count field) within) h)

old_right : (glk : Bool) (fields : List Field) (b : Bool) (field : Field) (inner : Bool) (k : ℕ) (next : ℕ → Plan) → (is_controller field.kind ≡ true → (not (is_locked_request glk fields (request.Rd (first_byte field + k))) || inner) ≡ true) → (not (is_locked_cell fields (cell_of field k)) || inner) ≡ true → ((old : ℕ) → Right glk fields inner (next old)) → Right glk fields inner (old_byte b field inner k next)
old_right glk fields false field inner k next asks cell h = h 0
old_right glk fields true field inner k next asks cell h = accessed_read glk fields field.kind field k inner next asks cell h

write_right : (glk : Bool) (fields : List Field) (field : Field) (inner : Bool) (k left value : ℕ) (next : Plan) → Marks glk fields field inner → k + left ≤ byte_count field → Right glk fields inner next → Right glk fields inner (write_from field inner k left value next)
write_right glk fields field inner k zero value next m within h = h
write_right glk fields field inner k (suc left) value next m within h =
    let cell = m.cells k (less k left (byte_count field) within) in
    old_right glk fields (reads_first field k) field inner k (λ old. Do inner (write_act field k (replaced field k old value)) (λ _. write_from field inner (k + 1) left value next)) (m.reads k (less k left (byte_count field) within)) cell
    (λ old. accessed_write glk fields field.kind field k (replaced field k old value) inner (λ _. write_from field inner (k + 1) left value next) (m.writes k (replaced field k old value) (less k left (byte_count field) within)) cell (λ byte. write_right glk fields field inner (k + 1) left value next m (further k left (byte_count field) within) h))

closed_right : (glk : Bool) (fields : List Field) (field : Field) (held : Bool) (p : Plan) → Marks glk fields field (access_needs field held) → Right glk fields held p → Right glk fields (access_needs field held) (closed field held p)
closed_right glk fields field held p m h =
    in_burst glk fields (bursts field) (access_needs field held) request.Bd (unlocked field held p) m.ends (lock_closed glk fields (needs_lock field) held p h)

opened_right : (glk : Bool) (fields : List Field) (field : Field) (held : Bool) (p : Plan) → Marks glk fields field (access_needs field held) → Right glk fields (access_needs field held) p → Right glk fields held (where_wanted (takes_lock field held) false act.Lock (where_wanted (bursts field) (access_needs field held) (act.Ask request.Be) p))
opened_right glk fields field held p m h =
    lock_opened glk fields (needs_lock field) held (where_wanted (bursts field) (access_needs field held) (act.Ask request.Be) p)
    (in_burst glk fields (bursts field) (access_needs field held) request.Be p m.begins h)

-- the op is on the field at a place of the list
abbrev Marks_of : Bool → List Field → Option Field → Bool → Type 0
Marks_of glk fields found held = (field : Field) → found ≡ Some field → Marks glk fields field (access_needs field held)

read_op : (glk : Bool) (fields : List Field) (found : Option Field) (f : ℕ) (held : Bool) (last : ℕ) (next : ℕ → Plan) → Marks_of glk fields found held → ((v : ℕ) → Right glk fields held (next v)) → Right glk fields held (on_field found (op.Read f) held last next)
read_op glk fields None f held last next m h = h last
read_op glk fields (Some field) f held last next m h =
    opened_right glk fields field held _ (m field refl) (read_right glk fields field (access_needs field held) 0 (byte_count field) 0 (λ value. closed field held (next value)) (m field refl) (omega arith) (λ v. closed_right glk fields field held (next v) (m field refl) (h v)))

write_op : (glk : Bool) (fields : List Field) (found : Option Field) (f x : ℕ) (held : Bool) (last : ℕ) (next : ℕ → Plan) → Marks_of glk fields found held → ((v : ℕ) → Right glk fields held (next v)) → Right glk fields held (on_field found (op.Write f x) held last next)
write_op glk fields None f x held last next m h = h last
write_op glk fields (Some field) f x held last next m h =
    opened_right glk fields field held _ (m field refl) (write_right glk fields field (access_needs field held) 0 (byte_count field) (x % 2 ^ field.width) (closed field held (next last)) (m field refl) (omega arith) (closed_right glk fields field held (next last) (m field refl) (h last)))

add_op : (glk : Bool) (fields : List Field) (found : Option Field) (f x : ℕ) (held : Bool) (last : ℕ) (next : ℕ → Plan) → Marks_of glk fields found held → ((v : ℕ) → Right glk fields held (next v)) → Right glk fields held (on_field found (op.Add f x) held last next)
add_op glk fields None f x held last next m h = h last
add_op glk fields (Some field) f x held last next m h =
    opened_right glk fields field held _ (m field refl) (read_right glk fields field (access_needs field held) 0 (byte_count field) 0
    (λ value. write_from field (access_needs field held) 0 (byte_count field) ((value + x) % 2 ^ field.width) (closed field held (next value)))
    (m field refl) (omega arith)
    (λ v. write_right glk fields field (access_needs field held) 0 (byte_count field) ((v + x) % 2 ^ field.width) (closed field held (next v)) (m field refl) (omega arith) (closed_right glk fields field held (next v) (m field refl) (h v))))

after_no_hold : (i : ℕ) (o : Op) (hold : Option ℕ) → is_no_hold o ≡ true → open_after i o hold ≡ hold
after_no_hold i op.Hold hold e = cc
after_no_hold i op.Free hold e = cc
after_no_hold i _ hold e = refl

at_end : (hold : Option ℕ) → option_map fault.Unbalanced hold ≡ None → is_some hold ≡ false
at_end None e = refl
at_end (Some i) e = cc

taken : (held : Bool) → not held ≡ true → held ≡ false
taken true e = cc
taken false e = refl

-- one op, where `hold` is the place of the hold that is open before it; `behind` is what the ops after it come to
one_op : (glk : Bool) (fields : List Field) (hold : Option ℕ) (i : ℕ) (o : Op) (ops : List Op) (last : ℕ)
    → is_balanced (is_some hold) o ≡ true → is_sound_skip o ops ≡ true
    → ((last skip : ℕ) → list_all is_no_hold (take skip ops) ≡ true → Right glk fields (is_some (open_after i o hold)) (plan_from fields ops (is_some (open_after i o hold)) last skip))
    → Right glk fields (is_some hold) (plan_op fields o (is_some hold) last (λ h l s. plan_from fields ops h l s))
one_op glk fields hold i (op.Read f) ops last b s behind = read_op glk fields (slice_get fields f) f (is_some hold) last _ (λ field at. marks glk fields f field (is_some hold) at) (λ v. behind v 0 refl)
one_op glk fields hold i (op.Write f x) ops last b s behind = write_op glk fields (slice_get fields f) f x (is_some hold) last _ (λ field at. marks glk fields f field (is_some hold) at) (λ v. behind v 0 refl)
one_op glk fields hold i (op.Add f x) ops last b s behind = add_op glk fields (slice_get fields f) f x (is_some hold) last _ (λ field at. marks glk fields f field (is_some hold) at) (λ v. behind v 0 refl)
one_op glk fields hold i (op.Skip v k) ops last b s behind = behind last (cond (last == v) 0 k) (over (last == v) k ops s) where
  over : (b : Bool) (k : ℕ) (ops : List Op) → is_sound_skip (op.Skip 0 k) ops ≡ true → list_all is_no_hold (take (cond b 0 k) ops) ≡ true
  over true k ops s = refl
  over false k ops s = (and_parts _ _ (and_parts _ _ s).1).1
one_op glk fields hold i op.Hold ops last b s behind = (refl, refl, b, λ byte. behind last 0 refl)
one_op glk fields hold i op.Free ops last b s behind = (refl, refl, b, λ byte. behind last 0 refl)
one_op glk fields hold i (op.Notify d v) ops last b s behind = (refl, refl, refl, λ byte. behind last 0 refl)
one_op glk fields hold i (op.Drop e) ops last b s behind = (refl, refl, refl, λ byte. behind last 0 refl)
one_op glk fields hold i (op.Up e) ops last b s behind = (refl, refl, refl, λ byte. behind last 0 refl)
one_op glk fields hold i (op.Down e) ops last b s behind = (refl, refl, refl, λ byte. behind last 0 refl)
one_op glk fields hold i (op.Raise e) ops last b s behind = (refl, refl, refl, λ byte. behind last 0 refl)
one_op glk fields hold i (op.Assert e) ops last b s behind = (refl, refl, refl, λ byte. behind last 0 refl)
one_op glk fields hold i (op.Push q) ops last b s behind = (refl, refl, refl, λ byte. behind last 0 refl)

-- from op i on
from_op : (glk : Bool) (forbidden : Op → Bool) (fields : List Field) (of_side : Side) (count : ℕ) (hold : Option ℕ) (i : ℕ) (ops : List Op) (last skip : ℕ)
    → faults_from forbidden of_side count hold i ops ≡ None → list_all is_no_hold (take skip ops) ≡ true
    → Right glk fields (is_some hold) (plan_from fields ops (is_some hold) last skip)
from_op glk forbidden fields of_side count hold i [] last skip e s = at_end hold e
from_op glk forbidden fields of_side count hold i (o ∷ ops) last zero e s =
    let k = kept forbidden of_side count (is_some hold) i o ops (faults_from forbidden of_side count (open_after i o hold) (i + 1) ops) e in
    one_op glk fields hold i o ops last k.0.balanced k.0.skip (λ last skip. from_op glk forbidden fields of_side count (open_after i o hold) (i + 1) ops last skip k.1)
from_op glk forbidden fields of_side count hold i (o ∷ ops) last (suc skip) e s =
    let k = kept forbidden of_side count (is_some hold) i o ops (faults_from forbidden of_side count (open_after i o hold) (i + 1) ops) e in
    let p = and_parts (is_no_hold o) (list_all is_no_hold (take skip ops)) s in
    let same : open_after i o hold ≡ hold = after_no_hold i o hold p.0 in
    from_op glk forbidden fields of_side count hold (i + 1) ops last skip (ap (λ h. faults_from forbidden of_side count h (i + 1) ops) (sym same) ∙ k.1) p.1

plan_right : (glk : Bool) (fields : List Field) (ops : List Op) → Accepted fields ops → Right glk fields false (plan fields ops)
unfolding script_fault
plan_right glk fields ops a = from_op glk a.forbidden fields a.of_side (length fields) None 0 ops 0 0 a.faultless refl

pub plan_locked : LocksInTurn
plan_locked fields ops a = right_locked false fields false (plan fields ops) (plan_right false fields ops a)

pub plan_marked : MarksNeeds
plan_marked glk fields ops a = right_marked glk fields false (plan fields ops) (plan_right glk fields ops a)
