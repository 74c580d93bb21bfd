-- What one more entry changes of the lock's state after a past.
use Rattle.std.proofs.Common.{ℕ, ◌+◌, ◌≤◌, ◌≡◌, ◌||◌, Bool, true, false, not, cond, List, ◌∷◌, Option, Some, None, refl, sym, ap, ◌∙◌, arith}
use Rattle.acpi_regs.specs.declared.actor.Actor.{Actor}
use Rattle.acpi_regs.specs.declared.actor.Actor.TheVariants as actor
use Rattle.acpi_regs.specs.declared.actor.Side.{Side}
use Rattle.acpi_regs.specs.declared.actor.Side.TheVariants as side
use Rattle.acpi_regs.specs.declared.entry.Deed.{Deed}
use Rattle.acpi_regs.specs.declared.entry.Deed.TheVariants as deed
use Rattle.acpi_regs.specs.declared.entry.Entry.{Entry}
use Rattle.acpi_regs.specs.declared.phase.LockPhase.{LockPhase}
use Rattle.acpi_regs.specs.Actor.{same_actor, stands_on}
use Rattle.acpi_regs.specs.CoreEvents.{entry, one}
use Rattle.acpi_regs.specs.CoreSound.{Fits, competes, has_good_word, is_signalled, tells}
use Rattle.acpi_regs.specs.Event.{is_gbl}
use Rattle.acpi_regs.specs.Lock.{busies, busies_in, busy_after, disowned_after, gbl_status, has_disowned, has_owned, is_busy, is_someone, leaves, other, own_word, owned_after, owner, owner_after, seeker, signals_in, wake}
use Rattle.acpi_regs.specs.Phases.{is_idle, is_lock_deed, is_owning, moved}
use Rattle.acpi_regs.proofs.LockActors.{actor_self, actor_swap}

-- ---- the actor's own side

abbrev pub seeker_by : Actor → Deed → Option Actor → Option Actor
seeker_by a deed.Seek old = Some a
seeker_by a (deed.Leave s) old = None
seeker_by a _ old = old

pub seeker_self : (s : Side) (a : Actor) (d : Deed) (past : List Entry) → competes s a ≡ true → seeker s (entry a d ∷ past) ≡ seeker_by a d (seeker s past)
seeker_self side.Os (actor.Worker k) deed.Seek past is = refl
seeker_self side.Os (actor.Worker k) (deed.Leave x) past is = refl
seeker_self side.Firmware (actor.Firmware k) deed.Seek past is = refl
seeker_self side.Firmware (actor.Firmware k) (deed.Leave x) past is = refl
seeker_self side.Os (actor.Worker k) _ past is = refl
seeker_self side.Firmware (actor.Firmware k) _ past is = refl
seeker_self side.Os _ d past is = cc
seeker_self side.Firmware _ d past is = cc

pub leaves_self : (s : Side) (a : Actor) (d : Deed) (past : List Entry) → competes s a ≡ true → leaves s (entry a d ∷ past) ≡ signals_in d + leaves s past
leaves_self side.Os (actor.Worker k) d past is = refl
leaves_self side.Firmware (actor.Firmware k) d past is = refl
leaves_self side.Os _ d past is = cc
leaves_self side.Firmware _ d past is = cc

pub busies_self : (s : Side) (a : Actor) (d : Deed) (past : List Entry) → competes s a ≡ true → busies s (entry a d ∷ past) ≡ busies_in d + busies s past
busies_self side.Os (actor.Worker k) d past is = refl
busies_self side.Firmware (actor.Firmware k) d past is = refl
busies_self side.Os _ d past is = cc
busies_self side.Firmware _ d past is = cc

-- ---- the other side

pub seeker_other : (s : Side) (a : Actor) (d : Deed) (past : List Entry) → competes s a ≡ true → seeker (other s) (entry a d ∷ past) ≡ seeker (other s) past
seeker_other side.Os (actor.Worker k) deed.Seek past is = refl
seeker_other side.Os (actor.Worker k) (deed.Leave x) past is = refl
seeker_other side.Firmware (actor.Firmware k) deed.Seek past is = refl
seeker_other side.Firmware (actor.Firmware k) (deed.Leave x) past is = refl
seeker_other side.Os (actor.Worker k) _ past is = refl
seeker_other side.Firmware (actor.Firmware k) _ past is = refl
seeker_other side.Os _ d past is = cc
seeker_other side.Firmware _ d past is = cc

pub leaves_other : (s : Side) (a : Actor) (d : Deed) (past : List Entry) → competes s a ≡ true → leaves (other s) (entry a d ∷ past) ≡ leaves (other s) past
leaves_other side.Os (actor.Worker k) d past is = omega arith
leaves_other side.Firmware (actor.Firmware k) d past is = omega arith
leaves_other side.Os _ d past is = cc
leaves_other side.Firmware _ d past is = cc

pub busies_other : (s : Side) (a : Actor) (d : Deed) (past : List Entry) → competes s a ≡ true → busies (other s) (entry a d ∷ past) ≡ busies (other s) past
busies_other side.Os (actor.Worker k) d past is = omega arith
busies_other side.Firmware (actor.Firmware k) d past is = omega arith
busies_other side.Os _ d past is = cc
busies_other side.Firmware _ d past is = cc

-- ---- signals

-- entries of the lock that touch no signal
abbrev pub is_still : Deed → Bool
is_still deed.Seek = true
is_still deed.Busy = true
is_still deed.Own = true
is_still deed.Disown = true
is_still (deed.Leave s) = not s
is_still _ = false

pub signals_still : (s : Side) (a : Actor) (d : Deed) (past : List Entry) → is_still d ≡ true → is_signalled s (entry a d ∷ past) ≡ is_signalled s past
signals_still side.Os a deed.Seek past still = refl
signals_still side.Firmware a deed.Seek past still = refl
signals_still side.Os a deed.Busy past still = refl
signals_still side.Firmware a deed.Busy past still = refl
signals_still side.Os a deed.Own past still = refl
signals_still side.Firmware a deed.Own past still = refl
signals_still side.Os a deed.Disown past still = refl
signals_still side.Firmware a deed.Disown past still = refl
signals_still side.Os a (deed.Leave false) past still = refl
signals_still side.Firmware a (deed.Leave false) past still = refl
signals_still s a (deed.Leave true) past still = cc
signals_still s a _ past still = cc

or_true : (b : Bool) → (b || true) ≡ true
or_true true = refl
or_true false = refl

-- a signalling leave gives a signal to the other side, and leaves its own as it was
pub signals_leave_other : (s : Side) (a : Actor) (past : List Entry) → competes s a ≡ true → is_signalled (other s) (entry a (deed.Leave true) ∷ past) ≡ true
signals_leave_other side.Os (actor.Worker k) past is = refl
signals_leave_other side.Firmware (actor.Firmware k) past is = or_true (wake side.Os past)
signals_leave_other side.Os _ past is = cc
signals_leave_other side.Firmware _ past is = cc

pub signals_leave_self : (s : Side) (a : Actor) (past : List Entry) → competes s a ≡ true → is_signalled s (entry a (deed.Leave true) ∷ past) ≡ is_signalled s past
signals_leave_self side.Os (actor.Worker k) past is = refl
signals_leave_self side.Firmware (actor.Firmware k) past is = refl
signals_leave_self side.Os _ past is = cc
signals_leave_self side.Firmware _ past is = cc

-- a woken takes the signal of its own side alone
pub signals_woken_other : (s : Side) (a : Actor) (past : List Entry) → competes s a ≡ true → is_signalled (other s) (entry a deed.Woken ∷ past) ≡ is_signalled (other s) past
signals_woken_other side.Os (actor.Worker k) past is = refl
signals_woken_other side.Firmware (actor.Firmware k) past is = refl
signals_woken_other side.Os _ past is = cc
signals_woken_other side.Firmware _ past is = cc

claim_risen : (g w e : Bool) → one (w || e) ≤ one (cond g true w || cond g false e)
claim_risen true w e = one_most (w || e)
  where
    one_most : (b : Bool) → one b ≤ 1
    one_most true = omega arith
    one_most false = omega arith
claim_risen false w e = omega arith

raise_risen : (g w e : Bool) → one (w || e) ≤ one (w || cond g true e)
raise_risen true true e = omega arith
raise_risen true false true = omega arith
raise_risen true false false = omega arith
raise_risen false w e = omega arith

-- no entry but those of the lock lowers a signal
pub signals_risen : (s : Side) (a : Actor) (d : Deed) (past : List Entry) → is_lock_deed d ≡ false → one (is_signalled s past) ≤ one (is_signalled s (entry a d ∷ past))
signals_risen side.Os a (deed.Claim n) past quiet = claim_risen (is_gbl n) (wake side.Os past) (gbl_status past)
signals_risen side.Os a (deed.Raise n) past quiet = raise_risen (is_gbl n) (wake side.Os past) (gbl_status past)
signals_risen side.Os a (deed.Latch n) past quiet = raise_risen (is_gbl n) (wake side.Os past) (gbl_status past)
signals_risen side.Os a (deed.Assert n) past quiet = raise_risen (is_gbl n) (wake side.Os past) (gbl_status past)
signals_risen side.Firmware a (deed.Claim n) past quiet = omega arith
signals_risen side.Firmware a (deed.Raise n) past quiet = omega arith
signals_risen side.Firmware a (deed.Latch n) past quiet = omega arith
signals_risen side.Firmware a (deed.Assert n) past quiet = omega arith
signals_risen side.Os a deed.Seek past quiet = cc
signals_risen side.Os a deed.Busy past quiet = cc
signals_risen side.Os a deed.Woken past quiet = cc
signals_risen side.Os a deed.Own past quiet = cc
signals_risen side.Os a deed.Disown past quiet = cc
signals_risen side.Os a (deed.Leave x) past quiet = cc
signals_risen side.Firmware a deed.Seek past quiet = cc
signals_risen side.Firmware a deed.Busy past quiet = cc
signals_risen side.Firmware a deed.Woken past quiet = cc
signals_risen side.Firmware a deed.Own past quiet = cc
signals_risen side.Firmware a deed.Disown past quiet = cc
signals_risen side.Firmware a (deed.Leave x) past quiet = cc
signals_risen side.Os a _ past quiet = omega arith
signals_risen side.Firmware a _ past quiet = omega arith

-- ---- entries that are none of the lock's

pub quiet_seeker : (d : Deed) (s : Side) (a : Actor) (past : List Entry) → is_lock_deed d ≡ false → seeker s (entry a d ∷ past) ≡ seeker s past
quiet_seeker deed.Seek s a past quiet = cc
quiet_seeker (deed.Leave x) s a past quiet = cc
quiet_seeker _ s a past quiet = refl

pub quiet_owner : (d : Deed) (a : Actor) (past : List Entry) → is_lock_deed d ≡ false → owner (entry a d ∷ past) ≡ owner past
quiet_owner deed.Own a past quiet = cc
quiet_owner deed.Disown a past quiet = cc
quiet_owner _ a past quiet = refl

same_if : (b x : Bool) → cond b x x ≡ x
same_if true x = refl
same_if false x = refl

pub quiet_owned : (d : Deed) (a b : Actor) (past : List Entry) → is_lock_deed d ≡ false → has_owned b (entry a d ∷ past) ≡ has_owned b past
quiet_owned deed.Seek a b past quiet = cc
quiet_owned deed.Own a b past quiet = cc
quiet_owned _ a b past quiet = same_if (same_actor b a) (has_owned b past)

pub quiet_disowned : (d : Deed) (a b : Actor) (past : List Entry) → is_lock_deed d ≡ false → has_disowned b (entry a d ∷ past) ≡ has_disowned b past
quiet_disowned deed.Seek a b past quiet = cc
quiet_disowned deed.Disown a b past quiet = cc
quiet_disowned _ a b past quiet = same_if (same_actor b a) (has_disowned b past)

pub quiet_busy : (d : Deed) (a b : Actor) (past : List Entry) → is_lock_deed d ≡ false → is_busy b (entry a d ∷ past) ≡ is_busy b past
quiet_busy deed.Seek a b past quiet = cc
quiet_busy deed.Woken a b past quiet = cc
quiet_busy deed.Busy a b past quiet = cc
quiet_busy _ a b past quiet = same_if (same_actor b a) (is_busy b past)

pub quiet_leaves : (d : Deed) (s : Side) (a : Actor) (past : List Entry) → is_lock_deed d ≡ false → leaves s (entry a d ∷ past) ≡ leaves s past
quiet_leaves (deed.Leave x) s a past quiet = cc
quiet_leaves _ s a past quiet = none (stands_on s a) (leaves s past)
  where
    none : (b : Bool) (n : ℕ) → cond b 0 0 + n ≡ n
    none true n = omega arith
    none false n = omega arith

pub quiet_busies : (d : Deed) (s : Side) (a : Actor) (past : List Entry) → is_lock_deed d ≡ false → busies s (entry a d ∷ past) ≡ busies s past
quiet_busies deed.Busy s a past quiet = cc
quiet_busies _ s a past quiet = none (stands_on s a) (busies s past)
  where
    none : (b : Bool) (n : ℕ) → cond b 0 0 + n ≡ n
    none true n = omega arith
    none false n = omega arith

pub quiet_moved : (d : Deed) (p : LockPhase) → is_lock_deed d ≡ false → moved d p ≡ p
quiet_moved deed.Seek p quiet = cc
quiet_moved deed.Busy p quiet = cc
quiet_moved deed.Woken p quiet = cc
quiet_moved deed.Own p quiet = cc
quiet_moved deed.Disown p quiet = cc
quiet_moved (deed.Leave s) p quiet = cc
quiet_moved _ p quiet = refl

-- ---- one actor's fit

-- if nothing changes for an actor
pub refit : (past later : List Entry) (s : Side) (b : Actor) (p : LockPhase) → is_someone b (seeker s later) ≡ is_someone b (seeker s past) → is_someone b (owner later) ≡ is_someone b (owner past)
    → has_owned b later ≡ has_owned b past → has_disowned b later ≡ has_disowned b past → is_busy b later ≡ is_busy b past → Fits past s b p → Fits later s b p
refit past later s b p es eo ew ed eb h = record {
  seeker = h.seeker ∙ ap not (sym es);
  owner = h.owner ∙ sym eo;
  since = ap (λ x. tells p x (has_disowned b later) (is_busy b later)) ew ∙ (ap (λ x. tells p (has_owned b past) x (is_busy b later)) ed ∙ (ap (λ x. tells p (has_owned b past) (has_disowned b past) x) eb ∙ h.since));
  loaded = h.loaded;
}

pub other_word : (after : Deed → Bool → Bool) (a b : Actor) (d : Deed) (past : List Entry) → same_actor a b ≡ false → own_word after b (entry a d ∷ past) ≡ own_word after b past
other_word after a b d past apart = ap (λ x. cond x (after d (own_word after b past)) (own_word after b past)) (actor_swap a b apart)

pub own_words : (after : Deed → Bool → Bool) (a : Actor) (d : Deed) (past : List Entry) → own_word after a (entry a d ∷ past) ≡ after d (own_word after a past)
own_words after a d past = ap (λ x. cond x (after d (own_word after a past)) (own_word after a past)) (actor_self a)

-- an actor beside the one whose entry it is
pub other_fits : (past : List Entry) (s : Side) (a b : Actor) (d : Deed) (p : LockPhase) → same_actor a b ≡ false
    → is_someone b (seeker s (entry a d ∷ past)) ≡ is_someone b (seeker s past) → is_someone b (owner (entry a d ∷ past)) ≡ is_someone b (owner past) → Fits past s b p → Fits (entry a d ∷ past) s b p
other_fits past s a b d p apart es eo h = refit past (entry a d ∷ past) s b p es eo (other_word owned_after a b d past apart) (other_word disowned_after a b d past apart) (other_word busy_after a b d past apart) h

-- the actor itself
pub self_fits : (past : List Entry) (s : Side) (a : Actor) (d : Deed) (p : LockPhase) → competes s a ≡ true → is_idle p ≡ not (is_someone a (seeker_by a d (seeker s past))) → is_owning p ≡ is_someone a (owner_after a d (owner past))
    → tells p (owned_after d (has_owned a past)) (disowned_after d (has_disowned a past)) (busy_after d (is_busy a past)) ≡ true → has_good_word p ≡ true → Fits (entry a d ∷ past) s a p
self_fits past s a d p is es eo since good = record {
  seeker = es ∙ ap (λ o. not (is_someone a o)) (sym (seeker_self s a d past is));
  owner = eo;
  since = ap (λ x. tells p x (has_disowned a (entry a d ∷ past)) (is_busy a (entry a d ∷ past))) (own_words owned_after a d past) ∙ (ap (λ x. tells p (owned_after d (has_owned a past)) x (is_busy a (entry a d ∷ past))) (own_words disowned_after a d past) ∙ (ap (λ x. tells p (owned_after d (has_owned a past)) (disowned_after d (has_disowned a past)) x) (own_words busy_after a d past) ∙ since));
  loaded = good;
}
