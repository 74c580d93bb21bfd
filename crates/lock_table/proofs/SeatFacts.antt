-- What is known of a seat that is taken out of its badge.
use Rattle.std.proofs.Common.{◌≡◌, Bool, true, false, List, [], ◌∷◌, Option, Some, None, refl, sym, ap, subst, ◌∙◌}
use Rattle.atomic_table.specs.declared.badge.Badge.{Badge}
use Rattle.atomic_table.specs.Table.{rest}
use Rattle.acpi_regs.specs.declared.actor.Actor.{Actor}
use Rattle.acpi_regs.specs.declared.actor.Actor.TheVariants as actor
use Rattle.acpi_regs.specs.declared.entry.Deed.{Deed}
use Rattle.acpi_regs.specs.declared.entry.Deed.TheVariants as deed
use Rattle.acpi_regs.specs.declared.entry.Entry.{Entry}
use Rattle.acpi_regs.specs.CoreSound.{is_kind}
use Rattle.lock_table.specs.declared.view.Occupant.{Occupant}
use Rattle.lock_table.specs.declared.view.Occupant.TheVariants as who
use Rattle.lock_table.specs.declared.view.Part.{Part}
use Rattle.lock_table.specs.declared.view.SeatPhase.{SeatPhase}
use Rattle.lock_table.specs.declared.view.SeatPhase.TheVariants as kept
use Rattle.lock_table.specs.declared.view.Stage.TheVariants as stage
use Rattle.lock_table.specs.declared.view.View.{View}
use Rattle.lock_table.specs.Calls.{IsOne, IsSeat, KnowsSignal, Pass, Signals, actor_in, pass_of, view_in}
use Rattle.lock_table.specs.Plays.{Mine}
use Rattle.lock_table.specs.Rule.{IsSomebody}
use Rattle.lock_table.specs.Views.{EachPart, HoldsInTurn, IsOwn, IsRoot, NotHolding, after_deed, after_deeds, deeds_of, find, fresh, gave, learned, less, let_go, lone, map_one, more, new_in, parts_in, phase_of, rejoined, root_parts, seated, staged, took, without, wrote}
use Rattle.lock_table.proofs.PartLists.{each_other}
use Rattle.lock_table.proofs.Splitting.{fresh_free}
use Rattle.lock_table.proofs.Stepping.{still_somebody}

pub seat_me : {B : Type 0} (b : Badge View) (p : Pass) (me : Mine B) → me ≡ (view_in b.views, []) → pass_of b ≡ p → me ≡ (p.view, [])
seat_me b p me at is = at ∙ ap (λ (q : Pass). (q.view, [])) is

pub seat_somebody : (b : Badge View) (p : Pass) (actor : Option Actor) (signal : Bool) → pass_of b ≡ p → IsSeat b actor signal → IsSomebody p.view.who
seat_somebody b p actor signal is h = subst (λ (q : Pass). IsSomebody q.view.who) is h.somebody

-- a seat that took the turn, and one whose slot's value was exchanged
pub took_me : {B : Type 0} (h : List Entry) (b : B) (v : View) (me me' : Mine B) → me ≡ (v, []) → me' ≡ (took h me.0, (0, Some b) ∷ me.1) → me' ≡ (took h v, (0, Some b) ∷ [])
took_me h b v me me' at is = is ∙ ap (λ x. (took h x.0, (0, Some b) ∷ x.1)) at

pub swapped_me : {B : Type 0} (v : View) (old new : Option B) (me me' : Mine B) → me ≡ (v, (0, old) ∷ []) → me' ≡ (me.0, (0, new) ∷ rest me.1) → me' ≡ (v, (0, new) ∷ [])
swapped_me v old new me me' at is = is ∙ ap (λ x. (x.0, (0, new) ∷ rest x.1)) at

pub lifted_me : {B : Type 0} (v : View) (me me' : Mine B) → me ≡ (v, []) → me' ≡ (staged stage.Carrying me.0, (0, None) ∷ me.1) → me' ≡ (staged stage.Carrying v, (0, None) ∷ [])
lifted_me v me me' at is = is ∙ ap (λ x. (staged stage.Carrying x.0, (0, None) ∷ x.1)) at

pub gave_me : {B : Type 0} (entries : B → List Entry) (b : B) (v : View) (me me' : Mine B) → me ≡ (staged stage.Carrying v, (0, Some b) ∷ []) → ((c : B) → me.1 ≡ (0, Some c) ∷ [] → me' ≡ (gave (entries c) me.0, [])) → me' ≡ (gave (entries b) v, [])
gave_me entries b v me me' at is = is b (ap (λ x. x.1) at) ∙ ap (λ x. (gave (entries b) x.0, [])) at

-- it has a slot that it can exchange
pub has_slot : {B : Type 0} (v : View) (old : Option B) (me : Mine B) → me ≡ (v, (0, old) ∷ []) → (x : Option B) × (me.1 ≡ (0, x) ∷ rest me.1)
has_slot v old me at = (old, ap (λ x. x.1) at ∙ ap (λ l. (0, old) ∷ l) (sym (ap (λ x. rest x.1) at)))

-- ---- the seat goes back into its place

-- one view, in a badge
pub is_seat : (b : Badge View) (w : View) (actor : Option Actor) (signal : Bool) → b.views ≡ w ∷ [] → IsOwn w → IsSomebody w.who → actor ≡ actor_in w.who → KnowsSignal signal w.who → IsSeat b actor signal
is_seat b w actor signal is own somebody named signalled =
    let back = sym is in
    record {
      one_view = subst (λ l. l ≡ view_in l ∷ []) back refl;
      own = subst (λ l. IsOwn (view_in l)) back own;
      somebody = subst (λ l. IsSomebody (view_in l).who) back somebody;
      named = subst (λ l. actor ≡ actor_in (view_in l).who) back named;
      signalled = subst (λ l. KnowsSignal signal (view_in l).who) back signalled;
    }

named_still : (f : Part → Part) → ((p : Part) → (f p).actor ≡ p.actor) → (w : Occupant) → actor_in w ≡ actor_in (map_one f w)
named_still f same (who.Root ps) = refl
named_still f same (who.One p) = ap Some (sym (same p))
named_still f same who.Nobody = refl

signal_still : (signal : Bool) (f : Part → Part) → ((p : Part) → Signals signal p.phase → Signals signal (f p).phase) → (w : Occupant) → KnowsSignal signal w → KnowsSignal signal (map_one f w)
signal_still signal f each (who.Root ps) h = tt
signal_still signal f each (who.One p) h = each p h
signal_still signal f each who.Nobody h = tt

-- after a step that changes the part of one actor
pub seat_after : (b c : Badge View) (p : Pass) (actor : Option Actor) (signal : Bool) (f : Part → Part) (w : View) → ((q : Part) → (f q).actor ≡ q.actor) → pass_of b ≡ p → IsSeat b actor signal → c.views ≡ w ∷ [] → IsOwn w → w.who ≡ map_one f p.view.who
    → (now : Bool) → KnowsSignal now (map_one f p.view.who) → IsSeat c actor now
seat_after b c p actor signal f w same is h there own into now signalled =
    let back = sym into in
    is_seat c w actor now there own
    (subst IsSomebody back (still_somebody f same p.view.who (subst (λ (q : Pass). IsSomebody q.view.who) is h.somebody)))
    (h.named ∙ ap (λ (q : Pass). actor_in q.view.who) is ∙ named_still f same p.view.who ∙ ap actor_in back)
    (subst (KnowsSignal now) back signalled)

-- entries of its actor end what a release found, or leave it
keeps_signal : (signal : Bool) (deeds : List Deed) (k : SeatPhase) → Signals signal k → Signals signal (let_go (after_deeds deeds k))
keeps_signal signal [] (kept.Lock p) h = h
keeps_signal signal [] kept.Free h = tt
keeps_signal signal [] (kept.Holding hand) h = tt
keeps_signal signal [] (kept.Pulsed ps) h = tt
keeps_signal signal (d ∷ deeds) k h = keeps_signal signal deeds (after_deed d k) (one d k h)
  where
    one : (d : Deed) (k : SeatPhase) → Signals signal k → Signals signal (after_deed d k)
    one deed.Seek (kept.Lock p) h = tt
    one deed.Busy (kept.Lock p) h = tt
    one deed.Woken (kept.Lock p) h = tt
    one deed.Own (kept.Lock p) h = tt
    one deed.Disown (kept.Lock p) h = tt
    one (deed.Leave s) (kept.Lock p) h = tt
    one _ (kept.Lock p) h = h
    one _ kept.Free h = tt
    one _ (kept.Holding hand) h = tt
    one _ (kept.Pulsed ps) h = tt

pub seat_gave : (b c : Badge View) (p : Pass) (actor : Option Actor) (signal : Bool) (h : List Entry) → pass_of b ≡ p → IsSeat b actor signal → c.views ≡ gave h p.view ∷ [] → IsOwn (gave h p.view) → IsSeat c actor signal
seat_gave b c p actor signal h is seat there own =
    seat_after b c p actor signal (wrote (new_in h p.view)) (gave h p.view) (λ q. refl) is seat there own refl signal
    (signal_still signal (wrote (new_in h p.view)) (λ q known. keeps_signal signal (deeds_of (new_in h p.view)) q.phase known) p.view.who (subst (λ (q : Pass). KnowsSignal signal q.view.who) is seat.signalled))

-- ---- the seats of a split

own_less : (a : Actor) (v : View) → IsOwn v → (w : Occupant) → v.who ≡ w → IsOwn (without a v)
own_less a v h (who.Root ps) is =
    let left = ap (less a) is in
    record {
      kinds = subst (λ w. EachPart (λ q. is_kind q.actor (phase_of q.phase) ≡ true) (parts_in w)) (sym left) (each_other (λ q. is_kind q.actor (phase_of q.phase) ≡ true) (λ q. is_kind q.actor (phase_of q.phase) ≡ true) a (λ q _ it. it) ps (subst (λ w. EachPart (λ q. is_kind q.actor (phase_of q.phase) ≡ true) (parts_in w)) is h.kinds));
      free = subst (HoldsInTurn v.stage) (sym left) (each_other NotHolding NotHolding a (λ q _ it. it) ps (subst (HoldsInTurn v.stage) is h.free));
    }
own_less a v h (who.One p) is =
    let left = ap (less a) is ∙ sym is in
    record { kinds = subst (λ w. EachPart (λ q. is_kind q.actor (phase_of q.phase) ≡ true) (parts_in w)) (sym left) h.kinds; free = subst (HoldsInTurn v.stage) (sym left) h.free }
own_less a v h who.Nobody is =
    let left = ap (less a) is ∙ sym is in
    record { kinds = subst (λ w. EachPart (λ q. is_kind q.actor (phase_of q.phase) ≡ true) (parts_in w)) (sym left) h.kinds; free = subst (HoldsInTurn v.stage) (sym left) h.free }

named_less : (a : Actor) (w : Occupant) → actor_in w ≡ actor_in (less a w)
named_less a (who.Root ps) = refl
named_less a (who.One p) = refl
named_less a who.Nobody = refl

somebody_less : (a : Actor) (w : Occupant) → IsSomebody w → IsSomebody (less a w)
somebody_less a (who.Root ps) h = tt
somebody_less a (who.One p) h = tt
somebody_less a who.Nobody h = h

signal_less : (signal : Bool) (a : Actor) (w : Occupant) → KnowsSignal signal w → KnowsSignal signal (less a w)
signal_less signal a (who.Root ps) h = tt
signal_less signal a (who.One p) h = h
signal_less signal a who.Nobody h = tt

pub seat_without : (b c : Badge View) (p : Pass) (actor : Option Actor) (signal : Bool) (a : Actor) → pass_of b ≡ p → IsSeat b actor signal → c.views ≡ without a p.view ∷ [] → IsSeat c actor signal
seat_without b c p actor signal a is h there =
    is_seat c (without a p.view) actor signal there
    (own_less a p.view (subst (λ (q : Pass). IsOwn q.view) is h.own) p.view.who refl)
    (somebody_less a p.view.who (subst (λ (q : Pass). IsSomebody q.view.who) is h.somebody))
    (h.named ∙ ap (λ (q : Pass). actor_in q.view.who) is ∙ named_less a p.view.who)
    (signal_less signal a p.view.who (subst (λ (q : Pass). KnowsSignal signal q.view.who) is h.signalled))

fresh_kind : (a : Actor) → is_kind a (phase_of (fresh a).phase) ≡ true
fresh_kind actor.Int = refl
fresh_kind actor.Poll = refl
fresh_kind actor.Ec = refl
fresh_kind (actor.Worker k) = refl
fresh_kind (actor.Device k) = refl
fresh_kind (actor.Firmware k) = refl

fresh_signal : (a : Actor) → Signals false (fresh a).phase
fresh_signal actor.Int = tt
fresh_signal actor.Poll = tt
fresh_signal actor.Ec = tt
fresh_signal (actor.Worker k) = tt
fresh_signal (actor.Device k) = tt
fresh_signal (actor.Firmware k) = tt

pub seat_fresh : (c : Badge View) (v : View) (a b : Actor) → find a (root_parts v.who) ≡ Some (fresh a) → a ≡ b → c.views ≡ seated a v ∷ [] → IsSeat c (Some b) false
seat_fresh c v a b found same there =
    let one = sym (ap lone found) in
    is_seat c (seated a v) (Some b) false there
    (record { kinds = subst (λ w. EachPart (λ q. is_kind q.actor (phase_of q.phase) ≡ true) (parts_in w)) one (fresh_kind a, tt); free = subst (HoldsInTurn stage.Away) one (λ _. fresh_free a) })
    (subst IsSomebody one tt) (ap Some (sym same) ∙ ap actor_in one) (subst (KnowsSignal false) one (fresh_signal a))

-- ---- the root of a join

pub rejoined_me : {B : Type 0} (v w : View) (me its after : Mine B) → me ≡ (v, []) → its ≡ (w, []) → after ≡ (rejoined me.0 its.0, me.1) → after ≡ (rejoined v w, [])
rejoined_me v w me its after at at_other is = is ∙ ap (λ y. (rejoined me.0 y.0, me.1)) at_other ∙ ap (λ x. (rejoined x.0 w, x.1)) at

pub learned_me : {B : Type 0} (v : View) (me after : Mine B) → me ≡ (v, []) → after ≡ (learned me.0, me.1) → after ≡ (learned v, [])
learned_me v me after at is = is ∙ ap (λ x. (learned x.0, x.1)) at

pub seat_rejoined : (b c d : Badge View) (r t : Pass) (actor its : Option Actor) (signal found : Bool) → pass_of b ≡ r → IsSeat b actor signal → pass_of c ≡ t → IsSeat c its found → IsRoot r.view.who → IsOne t.view.who → t.view.stage ≡ stage.Away
    → d.views ≡ learned (rejoined r.view t.view) ∷ [] → IsSeat d actor signal
seat_rejoined b c d r t actor its signal found is h is_other other root one away there =
    let own = subst (λ (q : Pass). IsOwn q.view) is h.own in
    let its_own = subst (λ (q : Pass). IsOwn q.view) is_other other.own in
    let now : more r.view.who t.view.who ≡ who.Root (one.0 ∷ root.0) = ap (λ o. more o t.view.who) root.1 ∙ ap (more (who.Root root.0)) one.1 in
    let back = sym now in
    is_seat d (learned (rejoined r.view t.view)) actor signal there
    (record {
      kinds = subst (λ w. EachPart (λ q. is_kind q.actor (phase_of q.phase) ≡ true) (parts_in w)) back ((subst (λ w. EachPart (λ q. is_kind q.actor (phase_of q.phase) ≡ true) (parts_in w)) one.1 its_own.kinds).0, subst (λ w. EachPart (λ q. is_kind q.actor (phase_of q.phase) ≡ true) (parts_in w)) root.1 own.kinds);
      free = subst (HoldsInTurn r.view.stage) back (subst (HoldsInTurn t.view.stage) one.1 its_own.free away, subst (HoldsInTurn r.view.stage) root.1 own.free);
    })
    (subst IsSomebody back tt)
    (h.named ∙ ap (λ (q : Pass). actor_in q.view.who) is ∙ ap actor_in root.1 ∙ ap actor_in back)
    (subst (KnowsSignal signal) back tt)
