-- How far an actor is in an episode of the lock, by its own entries; its stage agrees with the words of the lock.
use Rattle.std.proofs.Common.{ℕ, ◌+◌, ◌*◌, ◌≤◌, ◌≡◌, Bool, true, false, cond, not, ◌&&◌, List, [], ◌∷◌, Option, Some, None, if◌then◌else◌, refl, sym, ap, ◌∙◌, subst, arith}
use Rattle.std.proofs.lemmas.Bool.{and_parts, not-true}
use Rattle.acpi_regs.specs.declared.actor.Actor.{Actor}
use Rattle.acpi_regs.specs.declared.actor.Side.{Side}
use Rattle.acpi_regs.specs.declared.actor.Side.TheVariants as side
use Rattle.acpi_regs.specs.declared.entry.Deed.{Deed}
use Rattle.acpi_regs.specs.declared.entry.Deed.TheVariants as deed
use Rattle.acpi_regs.specs.declared.entry.Entry.{Entry}
use Rattle.acpi_regs.specs.Actor.{same_actor, side_of}
use Rattle.acpi_regs.specs.Lock.{busy_after, disowned_after, has_disowned, has_owned, is_busy, is_someone, owned_after, owner, seeker}
use Rattle.machine_desc.specs.Machine.{MachineData}
use Rattle.machine_history.specs.Legal.{Allowed, LegalPast, has_quit, is_leave, is_seeker, is_trying, runs_scripts, seeks, unsought}
use Rattle.machine_history.proofs.Known.{hold, none_someone, other_someone, same_actor-true, same_self}
use Rattle.machine_history.proofs.Totals.{by_deed, bounded, own, total}

pub data Stage : Type 0 where
  Away : Stage
  Sought : Stage
  Busied : Stage
  Owned : Stage
  Disowned : Stage

abbrev pub stage_after : Deed → Stage → Stage
stage_after deed.Seek old = Sought
stage_after deed.Busy old = Busied
stage_after deed.Woken old = Sought
stage_after deed.Own old = Owned
stage_after deed.Disown old = Disowned
stage_after (deed.Leave s) old = Away
stage_after _ old = old

abbrev pub stage : Actor → List Entry → Stage
stage a [] = Away
stage a (e ∷ past) = if same_actor a e.actor then stage_after e.deed (stage a past) else stage a past

abbrev pub is_active : Stage → Bool
is_active Away = false
is_active _ = true

abbrev pub is_trying_at : Stage → Bool
is_trying_at Sought = true
is_trying_at Busied = true
is_trying_at _ = false

abbrev pub is_owned : Stage → Bool
is_owned Owned = true
is_owned _ = false

-- ---- cases by whether an entry is an actor's own

pub by_own : (a b : Actor) (P : Bool → Type 0) → (a ≡ b → P true) → (same_actor a b ≡ false → P false) → P (same_actor a b)
by_own a b P mine others = at (same_actor a b) refl
  where
    at : (x : Bool) → same_actor a b ≡ x → P x
    at true same = mine (same_actor-true a b same)
    at false other = others other

-- ---- the words of the lock

-- owned, disowned and busy since the seek
abbrev pub Words : Stage → Bool → Bool → Bool → Type 0
Words Away o d b = Unit {0}
Words Sought o d b = (o ≡ false) × (d ≡ false) × (b ≡ false)
Words Busied o d b = (o ≡ false) × (d ≡ false) × (b ≡ true)
Words Owned o d b = (o ≡ true) × (d ≡ false)
Words Disowned o d b = (o ≡ true) × (d ≡ true)

-- k: it is its side's seeker; w: it is the owner
abbrev pub At : Bool → Bool → Stage → Bool → Bool → Bool → Type 0
At k w st o d b = (k ≡ is_active st) × (w ≡ is_owned st) × Words st o d b

abbrev pub Staged : List Entry → Actor → Type 0
Staged past a = At (is_seeker past a) (is_someone a (owner past)) (stage a past) (has_owned a past) (has_disowned a past) (is_busy a past)

-- ---- where each deed starts

pub at_seek : (k w : Bool) (st : Stage) (o d b : Bool) → k ≡ false → At k w st o d b → st ≡ Away
at_seek k w Away o d b is_o at = refl
at_seek k w Sought o d b is_o at = let k_is = at.0 in cc
at_seek k w Busied o d b is_o at = let k_is = at.0 in cc
at_seek k w Owned o d b is_o at = let k_is = at.0 in cc
at_seek k w Disowned o d b is_o at = let k_is = at.0 in cc

pub at_try : (k w : Bool) (st : Stage) (o d b : Bool) → k ≡ true → o ≡ false → b ≡ false → At k w st o d b → st ≡ Sought
at_try k w Away o d b is_k is_o nob at = let k_is = at.0 in cc
at_try k w Sought o d b is_k is_o nob at = refl
at_try k w Busied o d b is_k is_o nob at = let b_is = at.2.2 in cc
at_try k w Owned o d b is_k is_o nob at = let o_is = at.2.0 in cc
at_try k w Disowned o d b is_k is_o nob at = let o_is = at.2.0 in cc

pub at_woken : (k w : Bool) (st : Stage) (o d b : Bool) → k ≡ true → o ≡ false → b ≡ true → At k w st o d b → st ≡ Busied
at_woken k w Away o d b is_k is_o isb at = let k_is = at.0 in cc
at_woken k w Sought o d b is_k is_o isb at = let b_is = at.2.2 in cc
at_woken k w Busied o d b is_k is_o isb at = refl
at_woken k w Owned o d b is_k is_o isb at = let o_is = at.2.0 in cc
at_woken k w Disowned o d b is_k is_o isb at = let o_is = at.2.0 in cc

pub at_disown : (k w : Bool) (st : Stage) (o d b : Bool) → w ≡ true → At k w st o d b → st ≡ Owned
at_disown k w Away o d b is_k at = let w_is = at.1 in cc
at_disown k w Sought o d b is_k at = let w_is = at.1 in cc
at_disown k w Busied o d b is_k at = let w_is = at.1 in cc
at_disown k w Owned o d b is_k at = refl
at_disown k w Disowned o d b is_k at = let w_is = at.1 in cc

pub at_leave : (k w : Bool) (st : Stage) (o d b : Bool) → k ≡ true → d ≡ true → At k w st o d b → st ≡ Disowned
at_leave k w Away o d b is_k quit at = let k_is = at.0 in cc
at_leave k w Sought o d b is_k quit at = let d_is = at.2.1 in cc
at_leave k w Busied o d b is_k quit at = let d_is = at.2.1 in cc
at_leave k w Owned o d b is_k quit at = let d_is = at.2.1 in cc
at_leave k w Disowned o d b is_k quit at = refl

abbrev pub Follows : Deed → Stage → Type 0
Follows deed.Seek st = st ≡ Away
Follows deed.Busy st = st ≡ Sought
Follows deed.Woken st = st ≡ Busied
Follows deed.Own st = st ≡ Sought
Follows deed.Disown st = st ≡ Owned
Follows (deed.Leave s) st = st ≡ Disowned
Follows _ st = Unit {0}

pub unsought-seeks : (past : List Entry) (a : Actor) (s : Option Side) → unsought past s ≡ true → seeks past a s ≡ false
unsought-seeks past a None none = refl
unsought-seeks past a (Some s) none = none_someone a (seeker s past) none

pub quits : (b l : Bool) → l ≡ true → cond b l (not l) ≡ true → b ≡ true
quits true l is h = refl
quits false true is h = cc
quits false false is h = cc

-- a leave is allowed only to an actor that has quit
pub quit_by : (m : MachineData) (past : List Entry) (a : Actor) (s : Bool) → Allowed m past (record { actor = a; deed = deed.Leave s }) → (is_seeker past a ≡ true) × (has_disowned a past ≡ true)
quit_by m past a s allowed =
    let h = hold m past a (deed.Leave s) allowed in
    let quit = and_parts (runs_scripts m a && is_seeker past a) (has_disowned a past) (quits (has_quit m past a) (is_leave (deed.Leave s)) refl h.1.0) in
    ((and_parts (runs_scripts m a) (is_seeker past a) quit.0).1, quit.1)

pub trying_parts : (past : List Entry) (a : Actor) → is_trying past a ≡ true → (is_seeker past a ≡ true) × (has_owned a past ≡ false)
trying_parts past a h = let p = and_parts (is_seeker past a) (not (has_owned a past)) h in (p.0, not-true (has_owned a past) p.1)

pub follows : (m : MachineData) (past : List Entry) (a : Actor) (d : Deed) → Allowed m past (record { actor = a; deed = d }) → Staged past a → Follows d (stage a past)
follows m past a deed.Seek allowed at =
    let h = hold m past a deed.Seek allowed in
    at_seek _ _ _ _ _ _ (unsought-seeks past a (side_of a) h.1.1.1.0) at
follows m past a deed.Busy allowed at =
    let h = hold m past a deed.Busy allowed in
    let t = trying_parts past a h.1.1.0 in
    at_try _ _ _ _ _ _ t.0 t.1 (not-true _ h.1.1.1.0) at
follows m past a deed.Woken allowed at =
    let h = hold m past a deed.Woken allowed in
    let t = trying_parts past a h.1.1.0 in
    at_woken _ _ _ _ _ _ t.0 t.1 h.1.1.1.0 at
follows m past a deed.Own allowed at =
    let h = hold m past a deed.Own allowed in
    let t = trying_parts past a h.1.1.0 in
    at_try _ _ _ _ _ _ t.0 t.1 (not-true _ h.1.1.1.0) at
follows m past a deed.Disown allowed at =
    let h = hold m past a deed.Disown allowed in
    at_disown _ _ _ _ _ _ h.1.1.0 at
follows m past a (deed.Leave s) allowed at = let q = quit_by m past a s allowed in at_leave _ _ _ _ _ _ q.0 q.1 at
follows m past a _ allowed at = tt

-- ---- an entry of its own

abbrev pub entry : Actor → Deed → Entry
entry a d = record { actor = a; deed = d }

pub own_seek : (past : List Entry) (a : Actor) (s : Option Side) → side_of a ≡ s → unsought past s ≡ true → seeks (entry a deed.Seek ∷ past) a s ≡ true
own_seek past a None is none = cc
own_seek past a (Some side.Os) is none = rw is (same_self a)
own_seek past a (Some side.Firmware) is none = rw is (same_self a)

pub own_leave : (past : List Entry) (a : Actor) (x : Bool) (s : Option Side) → side_of a ≡ s → seeks (entry a (deed.Leave x) ∷ past) a s ≡ false
own_leave past a x None is = refl
own_leave past a x (Some side.Os) is = rw is refl
own_leave past a x (Some side.Firmware) is = rw is refl

-- an entry that changes no seeker
pub seeks-quiet : (past : List Entry) (e : Entry) (a : Actor) (s : Option Side) → ((t : Side) → seeker t (e ∷ past) ≡ seeker t past) → seeks (e ∷ past) a s ≡ seeks past a s
seeks-quiet past e a None same = refl
seeks-quiet past e a (Some t) same = ap (is_someone a) (same t)

abbrev pub StagedAfter : List Entry → Actor → Deed → Type 0
StagedAfter past a d = At (is_seeker (entry a d ∷ past) a) (is_someone a (owner (entry a d ∷ past))) (stage_after d (stage a past)) (owned_after d (has_owned a past)) (disowned_after d (has_disowned a past)) (busy_after d (is_busy a past))

pub own_step : (m : MachineData) (past : List Entry) (a : Actor) (d : Deed) → Allowed m past (entry a d) → Follows d (stage a past) → Staged past a → StagedAfter past a d
own_step m past a deed.Seek allowed f at =
    let h = hold m past a deed.Seek allowed in
    (own_seek past a (side_of a) refl h.1.1.1.0, at.1 ∙ ap is_owned f, (refl, refl, refl))
own_step m past a deed.Busy allowed f at =
    let k = seeks-quiet past (entry a deed.Busy) a (side_of a) (λ t. refl) in
    let old = subst (λ st. At (is_seeker past a) (is_someone a (owner past)) st (has_owned a past) (has_disowned a past) (is_busy a past)) f at in
    (k ∙ old.0, old.1, (old.2.0, old.2.1, refl))
own_step m past a deed.Woken allowed f at =
    let k = seeks-quiet past (entry a deed.Woken) a (side_of a) (λ t. refl) in
    let old = subst (λ st. At (is_seeker past a) (is_someone a (owner past)) st (has_owned a past) (has_disowned a past) (is_busy a past)) f at in
    (k ∙ old.0, old.1, (old.2.0, old.2.1, refl))
own_step m past a deed.Own allowed f at =
    let k = seeks-quiet past (entry a deed.Own) a (side_of a) (λ t. refl) in
    let old = subst (λ st. At (is_seeker past a) (is_someone a (owner past)) st (has_owned a past) (has_disowned a past) (is_busy a past)) f at in
    (k ∙ old.0, same_self a, (refl, old.2.1))
own_step m past a deed.Disown allowed f at =
    let k = seeks-quiet past (entry a deed.Disown) a (side_of a) (λ t. refl) in
    let old = subst (λ st. At (is_seeker past a) (is_someone a (owner past)) st (has_owned a past) (has_disowned a past) (is_busy a past)) f at in
    (k ∙ old.0, refl, (old.2.0, refl))
own_step m past a (deed.Leave s) allowed f at = (own_leave past a s (side_of a) refl, at.1 ∙ ap is_owned f, tt)
own_step m past a d allowed f at = (seeks-quiet past (entry a d) a (side_of a) (λ t. refl) ∙ at.0, at.1, at.2)

pub own_whole : (past : List Entry) (a : Actor) (d : Deed) → StagedAfter past a d → Staged (entry a d ∷ past) a
own_whole past a d after = rw (same_self a) after

-- ---- another's entry

pub other_seek : (past : List Entry) (a b : Actor) (s t : Option Side) → side_of b ≡ t → same_actor a b ≡ false → unsought past t ≡ true → seeks (entry b deed.Seek ∷ past) a s ≡ seeks past a s
other_seek past a b None t is other none = refl
other_seek past a b (Some s) None is other none = cc
other_seek past a b (Some side.Os) (Some side.Os) is other none = rw is (other ∙ sym (none_someone a (seeker side.Os past) none))
other_seek past a b (Some side.Firmware) (Some side.Firmware) is other none = rw is (other ∙ sym (none_someone a (seeker side.Firmware past) none))
other_seek past a b (Some side.Os) (Some side.Firmware) is other none = rw is refl
other_seek past a b (Some side.Firmware) (Some side.Os) is other none = rw is refl

pub other_leave : (past : List Entry) (a b : Actor) (x : Bool) (s t : Option Side) → side_of b ≡ t → same_actor a b ≡ false → seeks past b t ≡ true → seeks (entry b (deed.Leave x) ∷ past) a s ≡ seeks past a s
other_leave past a b x None t is other its = refl
other_leave past a b x (Some s) None is other its = cc
other_leave past a b x (Some side.Os) (Some side.Os) is other its = rw is (sym (other_someone a b (seeker side.Os past) other its))
other_leave past a b x (Some side.Firmware) (Some side.Firmware) is other its = rw is (sym (other_someone a b (seeker side.Firmware past) other its))
other_leave past a b x (Some side.Os) (Some side.Firmware) is other its = rw is refl
other_leave past a b x (Some side.Firmware) (Some side.Os) is other its = rw is refl

abbrev pub StagedBeside : List Entry → Actor → Entry → Type 0
StagedBeside past a e = At (is_seeker (e ∷ past) a) (is_someone a (owner (e ∷ past))) (stage a past) (has_owned a past) (has_disowned a past) (is_busy a past)

pub other_step : (m : MachineData) (past : List Entry) (a b : Actor) (d : Deed) → Allowed m past (entry b d) → same_actor a b ≡ false → Staged past a → StagedBeside past a (entry b d)
other_step m past a b deed.Seek allowed other at =
    let h = hold m past b deed.Seek allowed in
    (other_seek past a b (side_of a) (side_of b) refl other h.1.1.1.0 ∙ at.0, at.1, at.2)
other_step m past a b (deed.Leave s) allowed other at =
    let q = quit_by m past b s allowed in
    (other_leave past a b s (side_of a) (side_of b) refl other q.0 ∙ at.0, at.1, at.2)
other_step m past a b deed.Own allowed other at =
    let h = hold m past b deed.Own allowed in
    (seeks-quiet past (entry b deed.Own) a (side_of a) (λ t. refl) ∙ at.0, other ∙ (sym (none_someone a (owner past) h.1.1.1.1.0) ∙ at.1), at.2)
other_step m past a b deed.Disown allowed other at =
    let h = hold m past b deed.Disown allowed in
    (seeks-quiet past (entry b deed.Disown) a (side_of a) (λ t. refl) ∙ at.0, sym (other_someone a b (owner past) other h.1.1.0) ∙ at.1, at.2)
other_step m past a b d allowed other at = (seeks-quiet past (entry b d) a (side_of a) (λ t. refl) ∙ at.0, at.1, at.2)

pub other_whole : (past : List Entry) (a : Actor) (e : Entry) → same_actor a e.actor ≡ false → StagedBeside past a e → Staged (e ∷ past) a
other_whole past a e other after = rw other after

pub staged : (m : MachineData) (past : List Entry) (a : Actor) → LegalPast m past → Staged past a
staged m [] a legal = (none (side_of a), refl, tt)
  where
    none : (s : Option Side) → seeks [] a s ≡ false
    none None = refl
    none (Some s) = refl
staged m (e ∷ past) a legal = at (same_actor a e.actor) refl (staged m past a legal.1)
  where
    mine : (b : Actor) → a ≡ b → Allowed m past (entry b e.deed) → Staged past a → Staged (entry b e.deed ∷ past) a
    mine b same allowed before = subst (λ x. Allowed m past (entry x e.deed) → Staged (entry x e.deed ∷ past) a) same (λ ok. own_whole past a e.deed (own_step m past a e.deed ok (follows m past a e.deed ok before) before)) allowed

    at : (x : Bool) → same_actor a e.actor ≡ x → Staged past a → Staged (e ∷ past) a
    at true same before = mine e.actor (same_actor-true a e.actor same) legal.0 before
    at false other before = other_whole past a e other (other_step m past a e.actor e.deed legal.0 other before)

-- where an entry of its own starts
pub follows_own : (m : MachineData) (past : List Entry) (a : Actor) (e : Entry) → a ≡ e.actor → LegalPast m past → Allowed m past e → Follows e.deed (stage a past)
follows_own m past a e same legal allowed = subst (λ x. Follows e.deed (stage x past)) (sym same) (follows m past e.actor e.deed allowed (staged m past e.actor legal))

-- ---- entries of episodes

abbrev pub is_seek : Deed → ℕ
is_seek deed.Seek = 1
is_seek _ = 0

abbrev pub is_woken : Deed → ℕ
is_woken deed.Woken = 1
is_woken _ = 0

abbrev pub is_left : Deed → ℕ
is_left (deed.Leave s) = 1
is_left _ = 0

-- busy, own, disown, leave
abbrev pub is_episode : Deed → ℕ
is_episode deed.Busy = 1
is_episode deed.Own = 1
is_episode deed.Disown = 1
is_episode (deed.Leave s) = 1
is_episode _ = 0

-- the entries that may still come of an episode
abbrev pub left : Stage → ℕ
left Away = 0
left Sought = 4
left Busied = 3
left Owned = 2
left Disowned = 1

abbrev pub allows : Deed → ℕ
allows d = 4 * is_seek d + is_woken d

pub own_count : (d : Deed) (st : Stage) → Follows d st → is_episode d + left (stage_after d st) ≤ allows d + left st
own_count deed.Seek st f = omega arith
own_count deed.Busy st f = let at : left st ≡ 4 = ap left f in omega arith
own_count deed.Woken st f = let at : left st ≡ 3 = ap left f in omega arith
own_count deed.Own st f = let at : left st ≡ 4 = ap left f in omega arith
own_count deed.Disown st f = let at : left st ≡ 2 = ap left f in omega arith
own_count (deed.Leave s) st f = let at : left st ≡ 1 = ap left f in omega arith
own_count _ st f = omega arith

pub episodes : (m : MachineData) (a : Actor) (past : List Entry) → LegalPast m past → total (own a (by_deed is_episode)) past + left (stage a past) ≤ 0 + total (own a (by_deed allows)) past
episodes m a past legal =
    bounded m (λ p. left (stage a p)) (own a (by_deed is_episode)) (own a (by_deed allows)) 0 (omega arith)
    (λ p e lp ok. by_own a e.actor (λ x. (if x then is_episode e.deed else 0) + left (if x then stage_after e.deed (stage a p) else stage a p) ≤ (if x then allows e.deed else 0) + left (stage a p))
    (λ same. own_count e.deed (stage a p) (follows_own m p a e same lp ok))
    (λ other. omega arith))
    past legal

abbrev pub one_active : Stage → ℕ
one_active st = if is_active st then 1 else 0

pub leave_count : (d : Deed) (st : Stage) → Follows d st → is_left d + one_active (stage_after d st) ≤ is_seek d + one_active st
leave_count deed.Seek st f = omega arith
leave_count deed.Busy st f = let at : one_active st ≡ 1 = ap one_active f in omega arith
leave_count deed.Woken st f = let at : one_active st ≡ 1 = ap one_active f in omega arith
leave_count deed.Own st f = let at : one_active st ≡ 1 = ap one_active f in omega arith
leave_count deed.Disown st f = let at : one_active st ≡ 1 = ap one_active f in omega arith
leave_count (deed.Leave s) st f = let at : one_active st ≡ 1 = ap one_active f in omega arith
leave_count _ st f = omega arith

-- each leave ends an episode that a seek began
pub few_leaves : (m : MachineData) (a : Actor) (past : List Entry) → LegalPast m past → total (own a (by_deed is_left)) past + one_active (stage a past) ≤ 0 + total (own a (by_deed is_seek)) past
few_leaves m a past legal =
    bounded m (λ p. one_active (stage a p)) (own a (by_deed is_left)) (own a (by_deed is_seek)) 0 (omega arith)
    (λ p e lp ok. by_own a e.actor (λ x. (if x then is_left e.deed else 0) + one_active (if x then stage_after e.deed (stage a p) else stage a p) ≤ (if x then is_seek e.deed else 0) + one_active (stage a p))
    (λ same. leave_count e.deed (stage a p) (follows_own m p a e same lp ok))
    (λ other. omega arith))
    past legal
