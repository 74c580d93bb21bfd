-- The core for which a closed table stands, with the actors that are back.
use Rattle.std.proofs.Common.{◌≡◌, ℕ, ◌<◌, ◌≤◌, ◌&&◌, Bool, true, false, nat_lt, List, [], ◌∷◌, map, Some, if◌then◌else◌, refl, sym, ap, subst, ◌∙◌, arith}
use Rattle.std.proofs.lemmas.Bool.{false_from_ne_true, lt-ltb, ltb-true, or_from}
use Rattle.std.proofs.lemmas.List.Elements.{All-head, All-tail}
use Rattle.std.specs.List.{All}
use Rattle.acpi_regs.specs.declared.actor.Actor.{Actor}
use Rattle.acpi_regs.specs.declared.actor.Actor.TheVariants as actor
use Rattle.acpi_regs.specs.declared.event.Event.{Event}
use Rattle.acpi_regs.specs.Actor.{same_actor}
use Rattle.acpi_regs.specs.Core.{Core, all_events}
use Rattle.acpi_regs.specs.CoreEvents.{is_holding, past_in}
use Rattle.acpi_regs.specs.CoreSound.{CoreSound, is_word}
use Rattle.acpi_regs.specs.Event.{event_rank}
use Rattle.acpi_regs.specs.Phases.{first_phase}
use Rattle.acpi_regs.proofs.LockActors.{actor_true}
use Rattle.core_laws.specs.Sound.{Sound}
use Rattle.core_laws.proofs.Asking.{codes_sound}
use Rattle.lock_table.specs.declared.view.Part.{Part}
use Rattle.lock_table.specs.declared.view.View.{View}
use Rattle.lock_table.specs.declared.words.Bits.{Bits}
use Rattle.lock_table.specs.declared.words.Words.{Words}
use Rattle.lock_table.specs.Bits.{IsEvent, is_set}
use Rattle.lock_table.specs.Roots.{HasFreshBut, is_among}
use Rattle.lock_table.specs.Rule.{StandsIn}
use Rattle.lock_table.specs.Views.{EachPart, find, fresh, is_known, phase_of, root_parts}
use Rattle.machine_core.specs.Board.{BoardData}
use Rattle.machine_desc.specs.Actors.{actors_of}
use Rattle.machine_desc.specs.Kept.{IsMachine}
use Rattle.machine_desc.specs.Machine.{MachineData}
use Rattle.machine_history.specs.Legal.{Legal}
use Rattle.machine_reader.specs.Canonical.{canonical}
use Rattle.history_text.specs.Text.{log_text}
use Rattle.sci_threads.specs.declared.any.AnyActor.{AnyActor}
use Rattle.sci_threads.specs.declared.any.AnyActor.TheVariants as any
use Rattle.sci_threads.specs.Actors.{IsSound, core_in, phases_of, stands, who}
use Rattle.threaded_run.specs.Raced.{IsBack}
use Rattle.threaded_run.proofs.Back.{actor_swap, first_is}
use Rattle.world.specs.Duties.{pinned}
use Rattle.world.specs.Serial.{Serial}

no_false : {X : Type 0} → false ≡ true → X
no_false e = absurd (let x = e in cc)

-- ---- pins

pins_same : (core : Core) (pins : Bits) → ((n : Event) → IsEvent n → core.pins n ≡ is_set pins n) → ((n : Event) → core.pins n ≡ true → event_rank n < all_events) → (n : Event) → core.pins n ≡ pinned pins n
pins_same core pins are known n = by_test (nat_lt (event_rank n) all_events) refl
  where
    by_test : (b : Bool) → nat_lt (event_rank n) all_events ≡ b → core.pins n ≡ (b && is_set pins n)
    by_test true less = are n (ltb-true (event_rank n) all_events less)
    by_test false more = false_from_ne_true (core.pins n) (λ set. no_false (sym more ∙ lt-ltb (event_rank n) all_events (known n set)))

-- ---- phases

found_has : (P : Part → Type 0) (a : Actor) (parts : List Part) (p : Part) → EachPart P parts → find a parts ≡ Some p → P p × (same_actor a p.actor ≡ true)
found_has P a [] p each at = cc
found_has P a (q ∷ parts) p each at = by_test (same_actor a q.actor) refl at (λ e. found_has P a parts p each.1 e)
  where
    by_test : (b : Bool) → same_actor a q.actor ≡ b → (if b then Some q else find a parts) ≡ Some p → (find a parts ≡ Some p → P p × (same_actor a p.actor ≡ true)) → P p × (same_actor a p.actor ≡ true)
    by_test true same at rest = subst (λ r. P r × (same_actor a r.actor ≡ true)) (let e : q ≡ p = cc in e) (each.0, same)
    by_test false apart at rest = rest at

phase_of_found : (core : Core) (a : Actor) (parts : List Part) (p : Part) → EachPart (StandsIn core) parts → find a parts ≡ Some p → core.phases a ≡ phase_of p.phase
phase_of_found core a parts p each at =
    let has = found_has (StandsIn core) a parts p each at in
    ap core.phases (actor_true a p.actor has.1) ∙ sym has.0.0

phases_same : (m : MachineData) (turns : ℕ) (core : Core) (parts : List Part) (actors : List AnyActor) (a : Actor) → EachPart (StandsIn core) parts → All (IsBack m turns parts) actors
    → (is_among a (map who actors) ≡ false → core.phases a ≡ first_phase a) → core.phases a ≡ phases_of actors a
phases_same m turns core parts [] a each back other = other refl
phases_same m turns core parts (x ∷ actors) a each back other =
    by_test (same_actor (who x) a) refl (λ rest. phases_same m turns core parts actors a each (All-tail (IsBack m turns parts) x actors back) rest)
  where
    by_test : (b : Bool) → same_actor (who x) a ≡ b → ((is_among a (map who actors) ≡ false → core.phases a ≡ first_phase a) → core.phases a ≡ phases_of actors a) → core.phases a ≡ (if b then stands x else phases_of actors a)
    by_test true same behind =
        let it = All-head (IsBack m turns parts) x actors back in
        ap core.phases (sym (actor_true (who x) a same)) ∙ (phase_of_found core (who x) parts it.part each it.there ∙ it.phase)
    by_test false apart behind = behind (λ none. other (or_from (same_actor a (who x)) (is_among a (map who actors)) (actor_swap (who x) a apart) none))

-- an actor that the machine has not did nothing
others_first : (m : MachineData) (core : Core) (v : View) (a : Actor) → EachPart (StandsIn core) (root_parts v.who) → HasFreshBut (actors_of m) v → ((b : Actor) → is_known b ≡ false → core.phases b ≡ first_phase b)
    → is_among a (actors_of m) ≡ false → core.phases a ≡ first_phase a
others_first m core v a each fresh_are unknown none = by_known (is_known a) refl
  where
    by_known : (b : Bool) → is_known a ≡ b → core.phases a ≡ first_phase a
    by_known true known = phase_of_found core a (root_parts v.who) (fresh a) each (fresh_are a known none) ∙ first_is a
    by_known false not_known = unknown a not_known

-- ---- nobody holds pins

stands_free : (x : AnyActor) → is_holding (stands x) ≡ false
stands_free (any.Int i) = refl
stands_free (any.Poll p) = refl
stands_free (any.Worker w) = refl
stands_free (any.Ec c) = refl
stands_free (any.Device d) = refl
stands_free (any.Firmware f) = refl

first_free : (a : Actor) → is_holding (first_phase a) ≡ false
first_free actor.Int = refl
first_free actor.Poll = refl
first_free (actor.Worker k) = refl
first_free actor.Ec = refl
first_free (actor.Device k) = refl
first_free (actor.Firmware k) = refl

nobody : (actors : List AnyActor) (a : Actor) → is_holding (phases_of actors a) ≡ false
nobody [] a = first_free a
nobody (x ∷ actors) a = by_test (same_actor (who x) a) (nobody actors a)
  where
    by_test : (b : Bool) → is_holding (phases_of actors a) ≡ false → is_holding (if b then stands x else phases_of actors a) ≡ false
    by_test true rest = stands_free x
    by_test false rest = rest

-- ---- the word of the lock

pub small_word : (w : ℕ) → is_word w ≡ true → w ≤ 3
small_word w is = grind arith

-- ---- the core

pub record ClosedCore (m : MachineData) (w : Serial) (actors : List AnyActor) (core : Core) : Type 0 where
  pub is_it : core ≡ core_in w actors
  pub sound : IsSound m (core_in w actors)

pub closed : (m : MachineData) (turns : ℕ) (w : Serial) (board : BoardData) (words : Words) (actors : List AnyActor) (v : View) (core : Core)
    → IsMachine m → w ≡ record { board = board; words = words } → Legal m board.entries
    → core.history ≡ board.entries → core.word ≡ words.facs → ((n : Event) → IsEvent n → core.pins n ≡ is_set words.pins n)
    → EachPart (StandsIn core) (root_parts v.who) → CoreSound m.devices core → ((b : Actor) → is_known b ≡ false → core.phases b ≡ first_phase b)
    → map who actors ≡ actors_of m → All (IsBack m turns (root_parts v.who)) actors → HasFreshBut (actors_of m) v → IsSound m (core_in w actors)
closed m turns w board words actors v core ok world legal history word pins stand sound unknown whole back fresh_are =
    let phases : (a : Actor) → core.phases a ≡ phases_of actors a = λ a. phases_same m turns core (root_parts v.who) actors a stand back
    (λ none. others_first m core v a stand fresh_are unknown (subst (λ l. is_among a l ≡ false) whole none)) in
    let pinned_are : (n : Event) → core.pins n ≡ pinned words.pins n = pins_same core words.pins pins sound.pinned.pins_known in
    let plain : Serial = record { board = board; words = words } in
    let same : core ≡ core_in plain actors = (λ i. record { word = word i; pins = λ n. pinned_are n i; history = history i; phases = λ a. phases a i }) in
    let past : Legal m core.history = subst (Legal m) (sym history) legal in
    let is_sound : Sound m core = record { legal = past; core = sound; codes = codes_sound m ok (past_in core) past } in
    subst (λ x. IsSound m (core_in x actors)) (sym world)
    (record { sound = subst (Sound m) same is_sound; nobody = nobody actors })

-- ---- what is written

pub text_is : (m inner : MachineData) (board : BoardData) (text given : List ℕ) → board.machine ≡ inner → inner ≡ m → given ≡ text → text ≡ canonical inner → log_text board.machine given board.entries ≡ log_text m (canonical m) board.entries
text_is m inner board text given machine its plain canonical_text =
    let named : board.machine ≡ m = machine ∙ its in
    let texts : given ≡ canonical m = plain ∙ (canonical_text ∙ ap canonical its) in
    (λ i. log_text (named i) (texts i) board.entries)
