-- Latches of collected events, one after another.
use Rattle.std.proofs.Common.{◌≡◌, ℕ, ◌+◌, ◌<◌, ◌≤◌, not, Bool, true, false, List, [], ◌∷◌, ◌++◌, append-nil, append_assoc, map, reverse, if◌then◌else◌, refl, sym, ap, ◌∙◌, subst, arith, add-one}
use Rattle.std.proofs.lemmas.Bool.{lt-ltb}
use Rattle.std.proofs.lemmas.List.{reverse-append}
use Rattle.acpi_regs.specs.declared.actor.Actor.{Actor}
use Rattle.acpi_regs.specs.declared.actor.Actor.TheVariants as actor
use Rattle.acpi_regs.specs.declared.entry.Entry.{Entry}
use Rattle.acpi_regs.specs.declared.event.Event.{Event}
use Rattle.acpi_regs.specs.Core.{event_at, events_below, if_in}
use Rattle.acpi_regs.specs.Event.{event_rank, same_event}
use Rattle.machine_core.specs.Board.{BoardData}
use Rattle.machine_desc.specs.Machine.{MachineData}
use Rattle.machine_history.specs.Events.{latches}
use Rattle.machine_history.specs.Legal.{Allowed, Legal, is_host}
use Rattle.machine_history.specs.Machine.{pulses_of}
use Rattle.machine_history.specs.Steps.{is_empty, latch}
use Rattle.world.specs.Duties.{AreLatchable}
use Rattle.world.proofs.Events.{events_first, events_more}
use Rattle.world.proofs.PinSets.{same-rank}

-- ---- one latch

latch-allowed : (m : MachineData) (past : List Entry) (a : Actor) (n : Event) → is_host a ≡ true → latches past n < pulses_of m n → Allowed m past (latch a n)
latch-allowed m past actor.Int n host h = rw (lt-ltb (latches past n) (pulses_of m n) h) refl
latch-allowed m past actor.Poll n host h = rw (lt-ltb (latches past n) (pulses_of m n) h) refl
latch-allowed m past _ n host h = absurd (let x : false ≡ true = host in cc)

pub latch-legal : (m : MachineData) (entries : List Entry) (a : Actor) (n : Event) → Legal m entries → is_host a ≡ true → latches (reverse entries) n < pulses_of m n → Legal m (entries ++ latch a n ∷ [])
latch-legal m entries a n legal host h = rw (reverse-append entries (latch a n ∷ [])) (latch-allowed m (reverse entries) a n host h, legal)

-- a latch of an event leaves the count of a later one
latches_other : (a : Actor) (x n : Event) (past : List Entry) → event_rank x < event_rank n → latches (latch a x ∷ past) n ≡ latches past n
latches_other a x n past less = by_same (same_event x n) refl
  where
    by_same : (b : Bool) → same_event x n ≡ b → (if b then (latches past n + 1) else latches past n) ≡ latches past n
    by_same true is = let e = same-rank x n is in absurd (omega arith)
    by_same false is = refl

-- ---- the events up to a place

-- the board after the latches of the events of a set below k, and whether there was one; those from k on may still be latched
pub record Latching (old : BoardData) (a : Actor) (set : Event → Bool) (k : ℕ) (now : BoardData) (latched : Bool) : Type 0 where
  pub board : now ≡ record old { entries = old.entries ++ map (latch a) (events_below set k) }
  pub some : latched ≡ not (is_empty (events_below set k))
  pub rest : (n : Event) → k ≤ event_rank n → set n ≡ true → latches (reverse now.entries) n < pulses_of old.machine n

pub latching-first : (old : BoardData) (a : Actor) (set : Event → Bool) → AreLatchable old.machine old.entries set → Latching old a set 0 old false
latching-first old a set ok = record {
  board = let e = events_first set in λ i. record old { entries = sym (ap (λ l. old.entries ++ map (latch a) l) e ∙ append-nil old.entries) i };
  some = ap (λ l. not (is_empty l)) (sym (events_first set));
  rest = λ n within is. ok n is;
}

no_more : (events : List Event) (n : Event) → is_empty (events ++ n ∷ []) ≡ false
no_more [] n = refl
no_more (x ∷ events) n = refl

map-push : (a : Actor) (events : List Event) (n : Event) → map (latch a) (events ++ n ∷ []) ≡ map (latch a) events ++ latch a n ∷ []
map-push a [] n = refl
map-push a (x ∷ events) n = ap (λ l. latch a x ∷ l) (map-push a events n)

-- the events below the next place
below-in : (set : Event → Bool) (k : ℕ) (x : Event) → x ≡ event_at k → set x ≡ true → events_below set (k + 1) ≡ events_below set k ++ x ∷ []
below-in set k x at is = rw (add-one k) (events_more set k ∙ (ap (λ n. events_below set k ++ if_in set n) (sym at) ∙ ap (λ b. events_below set k ++ (if b then x ∷ [] else [])) is))

below-out : (set : Event → Bool) (k : ℕ) (x : Event) → x ≡ event_at k → set x ≡ false → events_below set (k + 1) ≡ events_below set k
below-out set k x at is = rw (add-one k) (events_more set k ∙ (ap (λ n. events_below set k ++ if_in set n) (sym at) ∙ (ap (λ b. events_below set k ++ (if b then x ∷ [] else [])) is ∙ append-nil (events_below set k))))

pub latching-pinned : (old : BoardData) (a : Actor) (set : Event → Bool) (k : ℕ) (now now' : BoardData) (latched : Bool) (x : Event) → Latching old a set k now latched → x ≡ event_at k → event_rank x ≡ k → set x ≡ true → now' ≡ record now { entries = now.entries ++ latch a x ∷ [] } → Latching old a set (k + 1) now' true
latching-pinned old a set k now now' latched x so_far at rank is new = record {
  board = new ∙ (λ i. record (so_far.board i) { entries = (so_far.board i).entries ++ latch a x ∷ [] }) ∙ ap (λ l. record old { entries = l }) (append_assoc old.entries (map (latch a) (events_below set k)) (latch a x ∷ []) ∙ ap (λ l. old.entries ++ l) (sym (map-push a (events_below set k) x) ∙ ap (map (latch a)) (sym (below-in set k x at is))));
  some = ap not (sym (no_more (events_below set k) x)) ∙ ap (λ l. not (is_empty l)) (sym (below-in set k x at is));
  rest = λ n within on. subst (λ l. latches l n < pulses_of old.machine n) (sym (ap (λ b. reverse b.entries) new ∙ reverse-append now.entries (latch a x ∷ []))) (subst (λ j. j < pulses_of old.machine n) (sym (latches_other a x n (reverse now.entries) (omega (arith, rank, within)))) (so_far.rest n (omega (arith, within)) on));
}

pub latching-clear : (old : BoardData) (a : Actor) (set : Event → Bool) (k : ℕ) (now : BoardData) (latched : Bool) (x : Event) → Latching old a set k now latched → x ≡ event_at k → set x ≡ false → Latching old a set (k + 1) now latched
latching-clear old a set k now latched x so_far at is = record {
  board = so_far.board ∙ ap (λ l. record old { entries = old.entries ++ map (latch a) l }) (sym (below-out set k x at is));
  some = so_far.some ∙ ap (λ l. not (is_empty l)) (sym (below-out set k x at is));
  rest = λ n within on. so_far.rest n (omega (arith, within)) on;
}
