-- Making the seats of all actors of a machine, one after another, and taking them back.
use Rattle.std.proofs.Common.{◌≡◌, ℕ, zero, suc, ◌+◌, ◌<◌, ◌≤◌, ◌||◌, ◌&&◌, not, Bool, true, false, List, [], ◌∷◌, ◌++◌, append_assoc, length, map, take, slice_get, Option, Some, None, refl, sym, ap, subst, ◌∙◌, arith, rules}
use Rattle.std.proofs.lemmas.Bool.{and_parts, false_from_ne_true, lt-ltb, ltb-true, not-true, or_from, or_parts}
use Rattle.std.proofs.lemmas.List.Elements.{All-push}
use Rattle.std.specs.List.{All}
use Rattle.atomic_table.specs.Seated.{TableId}
use Rattle.acpi_regs.specs.declared.actor.Actor.{Actor}
use Rattle.acpi_regs.specs.declared.actor.Actor.TheVariants as actor
use Rattle.acpi_regs.specs.Actor.{same_actor}
use Rattle.acpi_regs.specs.Phases.{first_phase}
use Rattle.acpi_regs.proofs.LockActors.{actor_self, actor_true}
use Rattle.lock_table.specs.declared.view.Occupant.{Occupant}
use Rattle.lock_table.specs.declared.view.Occupant.TheVariants as who
use Rattle.lock_table.specs.declared.view.Part.{Part}
use Rattle.lock_table.specs.declared.view.Stage.TheVariants as stage
use Rattle.lock_table.specs.declared.view.View.{View}
use Rattle.lock_table.specs.Calls.{Pass}
use Rattle.lock_table.specs.Roots.{HasAllBut, HasFreshBut, is_among}
use Rattle.lock_table.specs.Views.{IsRoot, find, fresh, is_known, lone, root_parts, seated, without}
use Rattle.lock_table.proofs.Rooting.{fresh_splits, less_root}
use Rattle.machine_desc.specs.Actors.{actors_of}
use Rattle.machine_desc.specs.Kept.{IsMachine, counts_in}
use Rattle.machine_desc.specs.Machine.{MachineData}
use Rattle.machine_desc.specs.Rules.{has_actor}
use Rattle.sci_threads.specs.declared.shared.ActorSeat.{ActorSeat}
use Rattle.sci_threads.specs.Actors.{stands, who as who_of}
use Rattle.sci_threads.specs.Seats.{IsFirst, IsRootOf, names_of}
use Rattle.sci_threads.proofs.Known.{known}
use Rattle.sci_threads.proofs.Rows.{take-next}
use Rattle.sci_threads.proofs.Once.{AllOnce, absent, actors-once}

-- ---- each actor of a machine is one that a table knows, and stands once

has_known : (m : MachineData) (a : Actor) → IsMachine m → has_actor (counts_in m) a ≡ true → is_known a ≡ true
has_known m actor.Int is has = refl
has_known m actor.Poll is has = refl
has_known m (actor.Worker k) is has = let few = is.few_workers in let less = ltb-true k m.workers has in lt-ltb k 4 (omega arith)
has_known m actor.Ec is has = refl
has_known m (actor.Device k) is has = let few = is.few_devices in let less = ltb-true k (length m.devices) has in lt-ltb k 8 (omega arith)
has_known m (actor.Firmware k) is has = let few = is.few_firmware in let less = ltb-true k (length m.firmware) has in lt-ltb k 8 (omega arith)

pub actor_known : (m : MachineData) (k : ℕ) (a : Actor) → IsMachine m → slice_get (actors_of m) k ≡ Some a → is_known a ≡ true
actor_known m k a is at = has_known m a is (known m k a at)

swap : (a b : Actor) → same_actor a b ≡ false → same_actor b a ≡ false
swap a b apart = false_from_ne_true (same_actor b a) (λ same. absurd (no (sym apart ∙ subst (λ x. same_actor x b ≡ true) (actor_true b a same) (actor_self b))))
  where
    no : false ≡ true → ⊥
    no e = cc

-- none of the names is this one
apart_at : (x : Actor) (names : List Actor) (k : ℕ) (a : Actor) → absent x names ≡ true → slice_get names k ≡ Some a → same_actor x a ≡ false
apart_at x [] k a none at = cc
apart_at x (y ∷ names) zero a none at = subst (λ z. same_actor x z ≡ false) (let e : y ≡ a = cc in e) (not-true (same_actor x y) (and_parts (not (same_actor x y)) (absent x names) none).0)
apart_at x (y ∷ names) (suc k) a none at = apart_at x names k a (and_parts (not (same_actor x y)) (absent x names) none).1 at

not_before : (names : List Actor) (k : ℕ) (a : Actor) → AllOnce names → slice_get names k ≡ Some a → is_among a (take k names) ≡ false
not_before [] k a once at = cc
not_before (x ∷ names) zero a once at = refl
not_before (x ∷ names) (suc k) a once at = or_from (same_actor a x) (is_among a (take k names)) (swap x a (apart_at x names k a once.0 at)) (not_before names k a once.1 at)

pub actor_new : (m : MachineData) (k : ℕ) (a : Actor) → slice_get (actors_of m) k ≡ Some a → is_among a (take k (actors_of m)) ≡ false
actor_new m k a at = not_before (actors_of m) k a (actors-once m) at

-- ---- one more seat

among_push : (b : Actor) (names : List Actor) (a : Actor) → is_among b (names ++ a ∷ []) ≡ false → is_among b (a ∷ names) ≡ false
among_push b [] a h = h
among_push b (x ∷ names) a h =
    let parts = or_parts (same_actor b x) (is_among b (names ++ a ∷ [])) h in
    let rest = or_parts (same_actor b a) (is_among b names) (among_push b names a parts.1) in
    or_from (same_actor b a) (same_actor b x || is_among b names) rest.0 (or_from (same_actor b x) (is_among b names) parts.0 rest.1)

pub fresh_more : (names : List Actor) (a : Actor) (v : View) → HasFreshBut names v → HasFreshBut (names ++ a ∷ []) (without a v)
fresh_more names a v has b is among = fresh_splits names a v has b is (among_push b names a among)

pub root_more : (id : TableId) (a : Actor) (s t : Pass) → t.table ≡ s.table → t.view ≡ without a s.view → IsRootOf id s → IsRootOf id t
root_more id a s t same view h = record {
  table = same ∙ h.table;
  away = ap (λ (v : View). v.stage) view ∙ h.away;
  root = subst (λ (v : View). IsRoot v.who) (sym view) (less_root a s.view h.root);
}

pub first_seat : (id : TableId) (a : Actor) (s : Pass) (x : ActorSeat) → x.seat.table ≡ s.table → x.seat.view ≡ seated a s.view → find a (root_parts s.view.who) ≡ Some (fresh a) → who_of x.actor ≡ a → stands x.actor ≡ first_phase a → s.table ≡ id → IsFirst id x
first_seat id a s x same view there named phase table = record {
  table = same ∙ table;
  away = ap (λ (v : View). v.stage) view;
  fresh = ap (λ (v : View). v.who) view ∙ ap lone there ∙ ap (λ b. who.One (fresh b)) (sym named);
  stands = phase ∙ ap first_phase (sym named);
}

names_push : (seats : List ActorSeat) (x : ActorSeat) → names_of (seats ++ x ∷ []) ≡ names_of seats ++ who_of x.actor ∷ []
names_push [] x = refl
names_push (y ∷ seats) x = ap (λ l. who_of y.actor ∷ l) (names_push seats x)

-- seats for the first k actors
pub record Preparing (id : TableId) (names : List Actor) (k count : ℕ) (root : Pass) (seats : List ActorSeat) : Type 0 where
  pub counted : count ≡ length names
  pub here : IsRootOf id root
  pub fresh : HasFreshBut (take k names) root.view
  pub named : names_of seats ≡ take k names
  pub first : All (IsFirst id) seats

pub prepares : (id : TableId) (names : List Actor) (count : ℕ) (root : Pass) (seats : List ActorSeat) → seats ≡ [] → count ≡ length names → IsRootOf id root → HasFreshBut [] root.view → Preparing id names 0 count root seats
prepares id names count root seats none counted here fresh = record {
  counted = counted;
  here = here;
  fresh = fresh;
  named = ap names_of none;
  first = subst (All (IsFirst id)) (sym none) (search rules);
}

pub prepares_more : (id : TableId) (names : List Actor) (k count : ℕ) (a : Actor) (root now : Pass) (seats more : List ActorSeat) (x : ActorSeat)
    → Preparing id names k count root seats → slice_get names k ≡ Some a → find a (root_parts root.view.who) ≡ Some (fresh a)
    → now.table ≡ root.table → x.seat.table ≡ root.table → now.view ≡ without a root.view → x.seat.view ≡ seated a root.view → who_of x.actor ≡ a → stands x.actor ≡ first_phase a → more ≡ seats ++ x ∷ []
    → Preparing id names (k + 1) count now more
prepares_more id names k count a root now seats more x h at there same here less seat named phase items = record {
  counted = h.counted;
  here = root_more id a root now same less h.here;
  fresh = subst (λ l. HasFreshBut l now.view) (sym (take-next names k a at)) (subst (HasFreshBut (take k names ++ a ∷ [])) (sym less) (fresh_more (take k names) a root.view h.fresh));
  named = ap names_of items ∙ (names_push seats x ∙ ((λ i. h.named i ++ named i ∷ []) ∙ sym (take-next names k a at)));
  first = subst (All (IsFirst id)) (sym items) (All-push (IsFirst id) seats x h.first (first_seat id a root x here seat there named phase h.here.table));
}
