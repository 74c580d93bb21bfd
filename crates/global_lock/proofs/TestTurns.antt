-- Turns of the tests' seats.
use Rattle.std.proofs.Common.{ℕ, zero, suc, Bool, true, false, Option, ◌≡◌, ◌++◌, ◌∷◌, [], List, map, reverse, refl, sym, ap, subst, ◌∙◌, arith}
use Rattle.acpi_regs.specs.declared.actor.Actor.{Actor}
use Rattle.acpi_regs.specs.declared.actor.Actor.TheVariants as actor
use Rattle.acpi_regs.specs.declared.entry.Deed.{Deed}
use Rattle.acpi_regs.specs.declared.entry.Deed.TheVariants as deed
use Rattle.acpi_regs.specs.declared.event.Event.TheVariants as event
use Rattle.acpi_regs.specs.declared.entry.Entry.{Entry}
use Rattle.acpi_regs.specs.CoreEvents.{IsTurn, IsUnsought, entry, is_host}
use Rattle.acpi_regs.specs.Core.{events_below, events_of}
use Rattle.lock_table.specs.Pins.{pins_of}
use Rattle.acpi_regs.specs.declared.phase.LockPhase.{LockPhase}
use Rattle.acpi_regs.specs.declared.phase.LockPhase.TheVariants as lock
use Rattle.lock_table.specs.declared.view.Occupant.{Occupant}
use Rattle.lock_table.specs.declared.view.Occupant.TheVariants as who
use Rattle.lock_table.specs.declared.view.Part.{Part}
use Rattle.lock_table.specs.declared.view.SeatPhase.{SeatPhase}
use Rattle.lock_table.specs.declared.view.SeatPhase.TheVariants as kept
use Rattle.lock_table.specs.declared.view.Stage.TheVariants as stage
use Rattle.lock_table.specs.declared.view.View.{View}
use Rattle.lock_table.specs.Calls.{Pass}
use Rattle.lock_table.specs.Roots.{TableName}
use Rattle.lock_table.specs.Views.{ForOne, IsFreeHost, IsSeeking, MayAdd, after_deed, after_deeds, deeds_of, exchanged, gave, holding, let_go, map_one, missed, new_in, noted, phase_of, staged, took, with_one, wrote}
use Rattle.lock_table.proofs.Histories.{deeds_back, new_behind}
use Rattle.lock_table.proofs.QuietTurns.{adds_nothing, adds_one}
use Rattle.global_lock.specs.declared.calls.Acquired.TheVariants as acquired
use Rattle.global_lock.specs.Calls.{Acquires, Fails}
use Rattle.global_lock.specs.Phases.{IsSeatOf}
use Rattle.global_lock.specs.TestSeats.{IsAt, IsInside, MayNote, MayPass, Rests}

-- what holds of the one part there
of_one : (P Q : Part → Type 0) (f : Part → Part) → ((p : Part) → P p → Q (f p)) → (w : Occupant) → ForOne P w → ForOne Q (map_one f w)
of_one P Q f each (who.Root ps) h = absurd h
of_one P Q f each (who.One p) h = each p h
of_one P Q f each who.Nobody h = absurd h

pub took_inside : (id : TableName) (a : Actor) (k : SeatPhase) (s t : Pass) (found : List Entry) → t.table ≡ s.table → t.view ≡ staged stage.Inside (took found s.view) → Rests id a k s → IsInside id a k found t
took_inside id a k s t found same view h = (
  same ∙ h.0,
  ap (λ (v : View). v.stage) view,
  ap (λ (v : View). v.seen) view,
  subst (IsSeatOf (IsAt k) a) (sym view) (of_one (λ p. (p.actor ≡ a) × IsAt k p) (λ p. (p.actor ≡ a) × IsAt k p) (noted 0) (λ p is. is) s.view.who h.2),
)

-- what the turn may add
may_add_in : (a : Actor) (k : SeatPhase) (found after : List Entry) (deeds : List Deed) (w : Occupant) → after ≡ found ++ map (entry a) deeds → IsTurn (phase_of k) (reverse found) a deeds
    → ForOne (λ p. (p.actor ≡ a) × IsAt k p) w → MayAdd w found after
may_add_in a k found after deeds (who.Root ps) adds turn h = absurd h
may_add_in a k found after deeds (who.One p) adds turn h = (
  deeds,
  adds ∙ ap (λ b. found ++ map (entry b) deeds) (sym h.0),
  subst (λ b. IsTurn (phase_of p.phase) (reverse found) b deeds) (sym h.0) (subst (λ q. IsTurn (phase_of q) (reverse found) a deeds) (sym h.1) turn),
)
may_add_in a k found after deeds who.Nobody adds turn h = absurd h

pub may : (id : TableName) (a : Actor) (k : SeatPhase) (found after : List Entry) (deeds : List Deed) (s : Pass) → IsInside id a k found s → after ≡ found ++ map (entry a) deeds → IsTurn (phase_of k) (reverse found) a deeds → MayAdd s.view.who s.view.seen after
may id a k found after deeds s h adds turn = subst (λ l. MayAdd s.view.who l after) (sym h.2) (may_add_in a k found after deeds s.view.who adds turn h.3)

pub nothing : (k : SeatPhase) (a : Actor) (found : List Entry) → MayPass k → IsTurn (phase_of k) (reverse found) a []
nothing k a found pass = adds_nothing (phase_of k) (reverse found) a pass

pub one_entry : (k : SeatPhase) (a : Actor) (d : Deed) (found : List Entry) → MayNote k d → IsUnsought (reverse found) a d → IsTurn (phase_of k) (reverse found) a (d ∷ [])
one_entry k a d found note unsought = adds_one (phase_of k) (reverse found) a d note.2 note.1 note.0 unsought

-- and what it leaves
pub left : (id : TableName) (a : Actor) (k : SeatPhase) (found after : List Entry) (deeds : List Deed) (s t : Pass) → IsInside id a k found s → after ≡ found ++ map (entry a) deeds → t.table ≡ s.table → t.view ≡ gave after s.view
    → Rests id a (let_go (after_deeds deeds k)) t
left id a k found after deeds s t h adds same view =
    let new : new_in after s.view ≡ map (entry a) deeds = new_behind s.view.seen (map (entry a) deeds) after (adds ∙ ap (λ l. l ++ map (entry a) deeds) (sym h.2)) in
    let made : deeds_of (new_in after s.view) ≡ deeds = ap deeds_of new ∙ deeds_back a deeds in (
      same ∙ h.0,
      ap (λ (v : View). v.stage) view,
      subst (IsSeatOf (IsAt (let_go (after_deeds deeds k))) a) (sym view)
          (of_one (λ p. (p.actor ≡ a) × IsAt k p) (λ p. (p.actor ≡ a) × IsAt (let_go (after_deeds deeds k)) p) (wrote (new_in after s.view))
          (λ p is. (is.0, (λ i. let_go (after_deeds (made i) (is.1 i))))) s.view.who h.3),
    )

pub with_none : (l : List Entry) → l ≡ l ++ []
with_none [] = refl
with_none (e ∷ es) = ap (λ l. e ∷ l) (with_none es)

pub stays : (k : SeatPhase) → MayPass k → let_go k ≡ k
stays (kept.Lock p) h = refl
stays kept.Free h = refl
stays (kept.Holding hand) h = cc
stays (kept.Pulsed ps) h = refl

-- where the turn was out
pub missed_rests : (id : TableName) (a : Actor) (k : SeatPhase) (s t : Pass) → t.table ≡ s.table → t.view ≡ missed 1 s.view → Rests id a k s → Rests id a k t
missed_rests id a k s t same view h = (
  same ∙ h.0,
  ap (λ (v : View). v.stage) view ∙ h.1,
  subst (IsSeatOf (IsAt k) a) (sym view) (of_one (λ p. (p.actor ≡ a) × IsAt k p) (λ p. (p.actor ≡ a) × IsAt k p) (noted 1) (λ p is. is) s.view.who h.2),
)

-- ---- what a resting seat tells

each : (P Q : Part → Type 0) → ((p : Part) → P p → Q p) → (w : Occupant) → ForOne P w → ForOne Q w
each P Q f (who.Root ps) h = absurd h
each P Q f (who.One p) h = f p h
each P Q f who.Nobody h = absurd h

pub seat_one : (id : TableName) (a : Actor) (k : SeatPhase) (s : Pass) → Rests id a k s → IsSeatOf (λ _. Unit {0}) a s.view
seat_one id a k s h = each (λ p. (p.actor ≡ a) × IsAt k p) (λ p. (p.actor ≡ a) × Unit {0}) (λ p is. (is.0, tt)) s.view.who h.2

pub seat_seeks : (id : TableName) (a : Actor) (l : Option ℕ) (s : Pass) → Rests id a (kept.Lock (lock.Seeking l)) s → ForOne IsSeeking s.view.who
seat_seeks id a l s h = each (λ p. (p.actor ≡ a) × IsAt (kept.Lock (lock.Seeking l)) p) IsSeeking (λ p is. (l, is.1)) s.view.who h.2

pub seat_in : (id : TableName) (a : Actor) (k : SeatPhase) (s : Pass) → Rests id a k s → ForOne (IsAt k) s.view.who
seat_in id a k s h = each (λ p. (p.actor ≡ a) × IsAt k p) (IsAt k) (λ p is. is.1) s.view.who h.2

-- after an exchange of the lock's word
pub tried_rests : (id : TableName) (a : Actor) (k : SeatPhase) (q : LockPhase) (l n : ℕ) (s t : Pass) → t.table ≡ s.table → t.view ≡ with_one (exchanged q l n) s.view → Rests id a k s → Rests id a (kept.Lock q) t
tried_rests id a k q l n s t same view h = (
  same ∙ h.0,
  ap (λ (v : View). v.stage) view ∙ h.1,
  subst (IsSeatOf (IsAt (kept.Lock q)) a) (sym view) (of_one (λ p. (p.actor ≡ a) × IsAt k p) (λ p. (p.actor ≡ a) × IsAt (kept.Lock q) p) (exchanged q l n) (λ p is. (is.0, refl)) s.view.who h.2),
)

-- two names of one seat's actor
pub same_name : (P Q : Part → Type 0) (a b : Actor) (v : View) → IsSeatOf P a v → IsSeatOf Q b v → a ≡ b
same_name P Q a b v h k = of v.who h k
  where
    of : (w : Occupant) → ForOne (λ p. (p.actor ≡ a) × P p) w → ForOne (λ p. (p.actor ≡ b) × Q p) w → a ≡ b
    of (who.Root ps) h k = absurd h
    of (who.One p) h k = sym h.0 ∙ k.0
    of who.Nobody h k = absurd h

-- attempts leave the seat where it was
fails_stage : (k : ℕ) (v w : View) → Fails k v w → w.stage ≡ v.stage
fails_stage zero v w h = ap (λ (u : View). u.stage) h
fails_stage (suc k) v w h = ap (λ (u : View). u.stage) h.4.3 ∙ fails_stage k v h.0 h.3

pub owns_rests : (id : TableName) (a seeking won : Actor) (k : SeatPhase) (s t : Pass) → t.table ≡ s.table → IsSeatOf IsSeeking seeking s.view → Acquires seeking s.view (acquired.Owned won) t.view → Rests id a k s → Rests id a (kept.Lock lock.Won) t
owns_rests id a seeking won k s t same seeks acquires h =
    let name = same_name IsSeeking (IsAt k) seeking a s.view seeks h.2 in
    let one = acquires.1 in (
      same ∙ h.0,
      ap (λ (u : View). u.stage) one.3.3 ∙ fails_stage one.0 s.view one.1 one.2 ∙ h.1,
      subst (λ b. IsSeatOf (IsAt (kept.Lock lock.Won)) b t.view) name acquires.2,
    )

-- ---- a collect that found the pin of GPE 3 alone

pub collected_inside : (id : TableName) (a : Actor) (k : SeatPhase) (hand : List ℕ) (found : List Entry) (s t : Pass) → t.table ≡ s.table → t.view ≡ with_one (holding hand) s.view → IsInside id a k found s → IsInside id a (kept.Holding hand) found t
collected_inside id a k hand found s t same view h = (
  same ∙ h.0,
  ap (λ (v : View). v.stage) view ∙ h.1,
  ap (λ (v : View). v.seen) view ∙ h.2,
  subst (IsSeatOf (IsAt (kept.Holding hand)) a) (sym view) (of_one (λ p. (p.actor ≡ a) × IsAt k p) (λ p. (p.actor ≡ a) × IsAt (kept.Holding hand) p) (holding hand) (λ p is. (is.0, refl)) s.view.who h.3),
)

pub free_host : (id : TableName) (found : List Entry) (s : Pass) → IsInside id actor.Int kept.Free found s → ForOne IsFreeHost s.view.who
free_host id found s h = each (λ p. (p.actor ≡ actor.Int) × IsAt kept.Free p) IsFreeHost (λ p is. (ap is_host is.0, is.1)) s.view.who h.3

one_event : events_of (pins_of (0 ∷ 8 ∷ 0 ∷ 0 ∷ 0 ∷ [])) ≡ event.Gpe 3 ∷ []
unfolding events_below
one_event = refl

pub one_latch : (past : List Entry) → IsTurn (phase_of (kept.Holding (0 ∷ 8 ∷ 0 ∷ 0 ∷ 0 ∷ []))) past actor.Int (deed.Latch (event.Gpe 3) ∷ [])
one_latch past = record {
  latches = ([], sym (ap (λ es. map deed.Latch es ++ []) one_event), refl);
  few = omega arith;
  each = (refl, tt, tt);
}

-- ---- a turn of an idle actor that makes one entry where there is room

abbrev idle : SeatPhase
idle = kept.Lock lock.Idle

made_of : Bool → Deed → List Deed
made_of true d = d ∷ []
made_of false d = []

adds_made : (a : Actor) (d : Deed) (found after : List Entry) (b : Bool) → (b ≡ true → after ≡ found ++ entry a d ∷ []) → (b ≡ false → after ≡ found) → after ≡ found ++ map (entry a) (made_of b d)
unfolding made_of
adds_made a d found after true noted full = noted refl
adds_made a d found after false noted full = full refl ∙ with_none found

turn_made : (a : Actor) (d : Deed) (found : List Entry) (b : Bool) → MayNote idle d → IsUnsought (reverse found) a d → IsTurn (phase_of idle) (reverse found) a (made_of b d)
unfolding made_of
turn_made a d found true note unsought = one_entry idle a d found note unsought
turn_made a d found false note unsought = nothing idle a found refl

idle_made : (d : Deed) (b : Bool) → let_go (after_deed d idle) ≡ idle → let_go (after_deeds (made_of b d) idle) ≡ idle
unfolding made_of
idle_made d true stays = stays
idle_made d false stays = refl

pub may_made : (id : TableName) (a : Actor) (d : Deed) (found after : List Entry) (b : Bool) (s : Pass) → IsInside id a idle found s → MayNote idle d → IsUnsought (reverse found) a d → (b ≡ true → after ≡ found ++ entry a d ∷ []) → (b ≡ false → after ≡ found) → MayAdd s.view.who s.view.seen after
may_made id a d found after b s h note unsought noted full = may id a idle found after (made_of b d) s h (adds_made a d found after b noted full) (turn_made a d found b note unsought)

pub left_idle : (id : TableName) (a : Actor) (d : Deed) (found after : List Entry) (b : Bool) (s t : Pass) → IsInside id a idle found s → let_go (after_deed d idle) ≡ idle → (b ≡ true → after ≡ found ++ entry a d ∷ []) → (b ≡ false → after ≡ found) → t.table ≡ s.table → t.view ≡ gave after s.view → Rests id a idle t
left_idle id a d found after b s t h stays noted full same view = subst (λ k. Rests id a k t) (idle_made d b stays) (left id a idle found after (made_of b d) s t h (adds_made a d found after b noted full) same view)
