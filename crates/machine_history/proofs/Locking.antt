-- Entries of the lock: seeks, episodes, wokens and claims of the lock's event come to eight a seek, and three for what raises
-- the event.
use Rattle.std.proofs.Common.{ℕ, ◌+◌, ◌*◌, ◌≤◌, ◌≡◌, ◌⊎◌, inl, inr, Bool, true, false, List, [], ◌∷◌, Option, Some, None, if◌then◌else◌, refl, arith}
use Rattle.std.proofs.lemmas.Bool.{or_left, or_right}
use Rattle.acpi_regs.specs.declared.actor.Actor.{Actor}
use Rattle.acpi_regs.specs.declared.actor.Side.{Side}
use Rattle.acpi_regs.specs.declared.actor.Side.TheVariants as side
use Rattle.acpi_regs.specs.declared.entry.Deed.{Deed}
use Rattle.acpi_regs.specs.declared.entry.Deed.TheVariants as deed
use Rattle.acpi_regs.specs.declared.entry.Entry.{Entry}
use Rattle.acpi_regs.specs.Actor.{is_side, side_of, stands_on}
use Rattle.acpi_regs.specs.Event.{gbl, is_gbl}
use Rattle.acpi_regs.specs.Lock.{wake, wake_after}
use Rattle.machine_desc.specs.Machine.{MachineData}
use Rattle.machine_history.specs.Legal.{Allowed, LegalPast, is_firmware, is_worker, runs_scripts, woken_on}
use Rattle.machine_history.specs.Machine.{is_own}
use Rattle.machine_history.proofs.Actors.{ByScripts, over-le, over_within, within_over}
use Rattle.machine_history.proofs.Claims.{claims_within, is_signal, latch_in, sets_in, signal_of, takes}
use Rattle.machine_history.proofs.JobCounts.{few_finishes, is_finish, is_start}
use Rattle.machine_history.proofs.Known.{hold}
use Rattle.machine_history.proofs.Prices.{charged, lifts}
use Rattle.machine_history.proofs.Stages.{episodes, few_leaves, is_episode, is_left, is_seek, is_woken}
use Rattle.machine_history.proofs.Totals.{Count, bounded, by_deed, one, own, total, total-le, total-le_all, total-plus, when}

-- ---- who makes what

pub by_worker : (m : MachineData) (a : Actor) → is_worker m a ≡ true → runs_scripts m a ≡ true
by_worker m a is = or_left (is_worker m a) (is_firmware m a) is

pub by_firmware : (m : MachineData) (a : Actor) → is_firmware m a ≡ true → runs_scripts m a ≡ true
by_firmware m a is = or_right (is_worker m a) (is_firmware m a) is

pub episode_by : (m : MachineData) → ByScripts m (by_deed is_episode)
episode_by m past e ok = at e.actor e.deed ok
  where
    at : (a : Actor) (d : Deed) → Allowed m past (record { actor = a; deed = d }) → (is_episode d ≡ 0) ⊎ (runs_scripts m a ≡ true)
    at a deed.Busy ok = inr (hold m past a deed.Busy ok).0
    at a deed.Own ok = inr (hold m past a deed.Own ok).0
    at a deed.Disown ok = inr (hold m past a deed.Disown ok).0
    at a (deed.Leave s) ok = inr (hold m past a (deed.Leave s) ok).0
    at a _ ok = inl refl

pub leave_by : (m : MachineData) → ByScripts m (by_deed is_left)
leave_by m past e ok = at e.actor e.deed ok
  where
    at : (a : Actor) (d : Deed) → Allowed m past (record { actor = a; deed = d }) → (is_left d ≡ 0) ⊎ (runs_scripts m a ≡ true)
    at a (deed.Leave s) ok = inr (hold m past a (deed.Leave s) ok).0
    at a _ ok = inl refl

pub finish_by : (m : MachineData) → ByScripts m (by_deed is_finish)
finish_by m past e ok = at e.actor e.deed ok
  where
    at : (a : Actor) (d : Deed) → Allowed m past (record { actor = a; deed = d }) → (is_finish d ≡ 0) ⊎ (runs_scripts m a ≡ true)
    at a (deed.Finish j) ok = inr (by_worker m a (hold m past a (deed.Finish j) ok).0)
    at a _ ok = inl refl

-- ---- sums over actors

-- a count of scripts' actors that is within another, actor by actor, is within it
pub by_actors : (m : MachineData) (c d : Count) → ByScripts m c → ((a : Actor) (past : List Entry) → LegalPast m past → total (own a c) past ≤ total (own a d) past) → (past : List Entry) → LegalPast m past → total c past ≤ total d past
by_actors m c d by each past legal =
    let split = within_over m c by past legal in
    let less = over-le m (λ a. total (own a c) past) (λ a. total (own a d) past) (λ a. each a past legal) in
    let joined = over_within m d past in
    omega arith

pub four_seeks : (past : List Entry) → total (by_deed (λ d. 4 * is_seek d + is_woken d)) past ≡ 4 * total (by_deed is_seek) past + total (by_deed is_woken) past
four_seeks [] = refl
four_seeks (e ∷ past) = let before = four_seeks past in omega arith

pub all_episodes : (m : MachineData) (past : List Entry) → LegalPast m past → total (by_deed is_episode) past ≤ 4 * total (by_deed is_seek) past + total (by_deed is_woken) past
all_episodes m past legal =
    let all = by_actors m (by_deed is_episode) (by_deed (λ d. 4 * is_seek d + is_woken d)) (episode_by m) (λ a p lp. (let one = episodes m a p lp in omega arith)) past legal in
    let split = four_seeks past in
    omega arith

pub all_leaves : (m : MachineData) (past : List Entry) → LegalPast m past → total (by_deed is_left) past ≤ total (by_deed is_seek) past
all_leaves m past legal = by_actors m (by_deed is_left) (by_deed is_seek) (leave_by m) (λ a p lp. (let one = few_leaves m a p lp in omega arith)) past legal

pub all_finishes : (m : MachineData) (past : List Entry) → LegalPast m past → total (by_deed is_finish) past ≤ total (by_deed is_start) past
all_finishes m past legal = by_actors m (by_deed is_finish) (by_deed is_start) (finish_by m) (λ a p lp. (let one = few_finishes m a p lp in omega arith)) past legal

-- ---- wokens by side, and what sets the wakes

abbrev pub woken_on_side : Side → Count
woken_on_side s past e = when (stands_on s e.actor) (is_woken e.deed)

abbrev pub signals_on : Side → Count
signals_on s past e = signal_of s e.actor e.deed

pub wake_on : (past : List Entry) (s : Side) (o : Option Side) → woken_on past o ≡ true → is_side s o ≡ true → wake s past ≡ true
wake_on past s None woken is = cc
wake_on past side.Os (Some side.Os) woken is = woken
wake_on past side.Firmware (Some side.Firmware) woken is = woken
wake_on past side.Os (Some side.Firmware) woken is = cc
wake_on past side.Firmware (Some side.Os) woken is = cc

pub at_wake : (b old : Bool) → (b ≡ true → old ≡ true) → when b 1 + one (if b then false else old) ≤ one old
at_wake true old is = rw (is refl) (omega arith)
at_wake false old is = omega arith

pub set_wake : (b old : Bool) → one (if b then true else old) ≤ when b 1 + one old
set_wake true old = omega arith
set_wake false old = omega arith

pub none_there : (b : Bool) → when b 0 ≡ 0
none_there true = refl
none_there false = refl

pub os_woken : (m : MachineData) (past : List Entry) (a : Actor) (d : Deed) → Allowed m past (record { actor = a; deed = d }) → when (stands_on side.Os a) (is_woken d) + one (wake_after side.Os a d (wake side.Os past)) ≤ takes m gbl past (record { actor = a; deed = d }) + one (wake side.Os past)
os_woken m past a deed.Woken ok =
    let h = hold m past a deed.Woken ok in
    let all = at_wake (stands_on side.Os a) (wake side.Os past) (λ is. wake_on past side.Os (side_of a) h.1.1.1.1.0 is) in
    omega arith
os_woken m past a (deed.Claim n) ok = let none = none_there (stands_on side.Os a) in let set = set_wake (is_gbl n) (wake side.Os past) in omega arith
os_woken m past a (deed.Leave true) ok = let none = none_there (stands_on side.Os a) in omega arith
os_woken m past a (deed.Leave false) ok = let none = none_there (stands_on side.Os a) in omega arith
os_woken m past a _ ok = let none = none_there (stands_on side.Os a) in omega arith

pub firmware_woken : (m : MachineData) (past : List Entry) (a : Actor) (d : Deed) → Allowed m past (record { actor = a; deed = d }) → when (stands_on side.Firmware a) (is_woken d) + one (wake_after side.Firmware a d (wake side.Firmware past)) ≤ signal_of side.Os a d + one (wake side.Firmware past)
firmware_woken m past a deed.Woken ok =
    let h = hold m past a deed.Woken ok in
    let all = at_wake (stands_on side.Firmware a) (wake side.Firmware past) (λ is. wake_on past side.Firmware (side_of a) h.1.1.1.1.0 is) in
    omega arith
firmware_woken m past a (deed.Leave true) ok = let none = none_there (stands_on side.Firmware a) in let set = set_wake (stands_on side.Os a) (wake side.Firmware past) in omega arith
firmware_woken m past a (deed.Leave false) ok = let none = none_there (stands_on side.Firmware a) in omega arith
firmware_woken m past a (deed.Claim n) ok = let none = none_there (stands_on side.Firmware a) in omega arith
firmware_woken m past a _ ok = let none = none_there (stands_on side.Firmware a) in omega arith

pub all_os_wokens : (m : MachineData) (past : List Entry) → LegalPast m past → total (woken_on_side side.Os) past + one (wake side.Os past) ≤ 0 + total (takes m gbl) past
all_os_wokens m past legal = bounded m (λ p. one (wake side.Os p)) (woken_on_side side.Os) (takes m gbl) 0 (omega arith) (λ p e lp ok. os_woken m p e.actor e.deed ok) past legal

pub all_firmware_wokens : (m : MachineData) (past : List Entry) → LegalPast m past → total (woken_on_side side.Firmware) past + one (wake side.Firmware past) ≤ 0 + total (signals_on side.Os) past
all_firmware_wokens m past legal = bounded m (λ p. one (wake side.Firmware p)) (woken_on_side side.Firmware) (signals_on side.Os) 0 (omega arith) (λ p e lp ok. firmware_woken m p e.actor e.deed ok) past legal

pub on_a_side : (past : List Entry) (o : Option Side) → woken_on past o ≡ true → 1 ≤ when (is_side side.Os o) 1 + when (is_side side.Firmware o) 1
on_a_side past None woken = cc
on_a_side past (Some side.Os) woken = omega arith
on_a_side past (Some side.Firmware) woken = omega arith

pub woken_side : (m : MachineData) (past : List Entry) (a : Actor) (d : Deed) → Allowed m past (record { actor = a; deed = d }) → is_woken d ≤ when (stands_on side.Os a) (is_woken d) + when (stands_on side.Firmware a) (is_woken d)
woken_side m past a deed.Woken ok = on_a_side past (side_of a) (hold m past a deed.Woken ok).1.1.1.1.0
woken_side m past a _ ok = omega arith

pub all_wokens : (m : MachineData) (past : List Entry) → LegalPast m past → total (by_deed is_woken) past ≤ total (woken_on_side side.Os) past + total (woken_on_side side.Firmware) past
all_wokens m past legal =
    let each = total-le m (by_deed is_woken) (λ p e. woken_on_side side.Os p e + woken_on_side side.Firmware p e) (λ p e lp ok. woken_side m p e.actor e.deed ok) past legal in
    let split = total-plus (woken_on_side side.Os) (woken_on_side side.Firmware) past in
    omega arith

pub one_side : (o : Option Side) (x y : ℕ) → x ≤ y → when (is_side side.Os o) x + when (is_side side.Firmware o) x ≤ y
one_side None x y less = omega arith
one_side (Some side.Os) x y less = omega arith
one_side (Some side.Firmware) x y less = omega arith

pub signal_left : (d : Deed) → is_signal d ≤ is_left d
signal_left (deed.Leave true) = omega arith
signal_left (deed.Leave false) = omega arith
signal_left _ = omega arith

pub all_signals : (past : List Entry) → total (signals_on side.Os) past + total (signals_on side.Firmware) past ≤ total (by_deed is_left) past
all_signals past =
    let each = total-le_all (λ p e. signals_on side.Os p e + signals_on side.Firmware p e) (by_deed is_left) (λ p e. one_side (side_of e.actor) (is_signal e.deed) (is_left e.deed) (signal_left e.deed)) past in
    let split = total-plus (signals_on side.Os) (signals_on side.Firmware) past in
    omega arith

-- what sets the lock's event: raises, latches, and the firmware's signals
pub gbl_sets : (m : MachineData) (past : List Entry) → is_own m gbl ≡ false → total (sets_in m gbl) past ≡ (total (charged (lifts gbl)) past + total (by_deed (latch_in gbl)) past) + total (signals_on side.Firmware) past
gbl_sets m [] other = refl
gbl_sets m (e ∷ past) other = let before = gbl_sets m past other in rw other (omega arith)

-- seeks, episodes, wokens and claims of the lock's event
pub all_lock : (m : MachineData) (past : List Entry) (reach : ℕ) → is_own m gbl ≡ false → LegalPast m past → total (charged (lifts gbl)) past + total (by_deed (latch_in gbl)) past ≤ reach
    → total (by_deed is_seek) past + (total (by_deed is_episode) past + (total (by_deed is_woken) past + total (takes m gbl) past)) ≤ 8 * total (by_deed is_seek) past + 3 * reach
all_lock m past reach other legal raises =
    let claims = claims_within m gbl past legal in
    let sets = gbl_sets m past other in
    let episodes = all_episodes m past legal in
    let wokens = all_wokens m past legal in
    let os = all_os_wokens m past legal in
    let firmware = all_firmware_wokens m past legal in
    let signals = all_signals past in
    let leaves = all_leaves m past legal in
    omega arith
