-- Steps one after another, and rounds.
use Rattle.std.proofs.Common.{◌≡◌, ℕ, zero, suc, ◌+◌, ◌<◌, ◌≤◌, Bool, true, false, List, [], ◌∷◌, ◌++◌, append-nil, append_assoc, length, map, reverse, slice_get, take, Option, Some, None, unwrap_or, refl, sym, ap, ◌∙◌, subst, arith}
use Rattle.std.specs.Option.{option_map}
use Rattle.acpi_regs.specs.declared.actor.Actor.{Actor}
use Rattle.acpi_regs.specs.declared.entry.Entry.{Entry}
use Rattle.acpi_regs.specs.Core.{Core, events_of, first_core}
use Rattle.core_laws.specs.Gives.{NobodyHolds}
use Rattle.core_laws.specs.Rounds.{to_come}
use Rattle.core_laws.specs.Sound.{Sound}
use Rattle.machine_desc.specs.Actors.{actors_of}
use Rattle.machine_desc.specs.Kept.{IsMachine, counts_in}
use Rattle.machine_desc.specs.Rules.{has_actor}
use Rattle.machine_desc.specs.Machine.{MachineData}
use Rattle.machine_history.specs.Played.{IsQuiet, Played, Settles, rounds, stepped, steps}
use Rattle.machine_history.specs.Steps.{Adds, Attempts, Pulses, Releases, Step, Sweeps, entry, gives, happens, latch, next_step}
use Rattle.sci_threads.specs.Actors.{IsSound}
use Rattle.sci_threads.specs.Rounds.{Begins, RowDone, StepDone}
use Rattle.sci_threads.proofs.Known.{known}
use Rattle.world.specs.declared.outcome.StepOutcome.{StepOutcome}
use Rattle.world.specs.declared.outcome.StepOutcome.TheVariants as outcome
use Rattle.world.specs.Stepping.{after_step, is_stepped}

no : {X : Type 0} → true ≡ false → X
no e = absurd (let x = e in cc)

nothing : {X Y : Type 0} {x : X} → None ≡ Some x → Y
nothing e = absurd (let x = e in cc)

-- ---- one step

-- a step that does what its actor is given, and nothing where it has nothing
pub leads-by : (m : MachineData) (a : Actor) (c d : Core) (o : StepOutcome) → gives m c a ≡ after_step o d → (is_stepped o ≡ false → d ≡ c) → d ≡ stepped m c a
leads-by m a c d outcome.Stepped is idle = sym (ap (λ x. unwrap_or x c) is)
leads-by m a c d outcome.NotReady is idle = idle refl ∙ sym (ap (λ x. unwrap_or x c) is)
leads-by m a c d outcome.Out is idle = idle refl ∙ sym (ap (λ x. unwrap_or x c) is)
leads-by m a c d outcome.Moved is idle = idle refl ∙ sym (ap (λ x. unwrap_or x c) is)
leads-by m a c d outcome.Ended is idle = idle refl ∙ sym (ap (λ x. unwrap_or x c) is)

quiet-by : (m : MachineData) (a : Actor) (c d : Core) (o : StepOutcome) → gives m c a ≡ after_step o d → is_stepped o ≡ false → gives m c a ≡ None
quiet-by m a c d outcome.Stepped is idle = no idle
quiet-by m a c d outcome.NotReady is idle = is
quiet-by m a c d outcome.Out is idle = is
quiet-by m a c d outcome.Moved is idle = is
quiet-by m a c d outcome.Ended is idle = is

some-by : (m : MachineData) (a : Actor) (c d : Core) (o : StepOutcome) → gives m c a ≡ after_step o d → is_stepped o ≡ true → gives m c a ≡ Some d
some-by m a c d outcome.Stepped is some = is
some-by m a c d outcome.NotReady is some = no (sym some)
some-by m a c d outcome.Out is some = no (sym some)
some-by m a c d outcome.Moved is some = no (sym some)
some-by m a c d outcome.Ended is some = no (sym some)

-- each step of an actor of the machine lessens what is to come
abbrev pub Lessens : Type 0
Lessens = (m : MachineData) (c d : Core) (a : Actor) → IsMachine m → Sound m c → NobodyHolds c → has_actor (counts_in m) a ≡ true → gives m c a ≡ Some d → to_come m d < to_come m c

pub step-done : (m : MachineData) (k : ℕ) (a : Actor) (c d : Core) (o : StepOutcome) → Lessens → IsMachine m → IsSound m c → slice_get (actors_of m) k ≡ Some a → gives m c a ≡ after_step o d → (is_stepped o ≡ false → d ≡ c) → StepDone m a c o d
step-done m k a c d o lessens ok sound at is idle = record {
  leads = leads-by m a c d o is idle;
  quiet = quiet-by m a c d o is;
  less = λ some. lessens m c d a ok sound.sound sound.nobody (known m k a at) (some-by m a c d o is some);
}

-- ---- a row of steps

pub take-next : (names : List Actor) (k : ℕ) (a : Actor) → slice_get names k ≡ Some a → take (k + 1) names ≡ take k names ++ a ∷ []
take-next [] k a at = nothing at
take-next (x ∷ names) zero a at = (let e : x ≡ a = cc in ap (λ y. y ∷ []) e)
take-next (x ∷ names) (suc k) a at = let e : suc k + 1 ≡ suc (k + 1) = omega arith in ap (λ n. take n (x ∷ names)) e ∙ ap (λ l. x ∷ l) (take-next names k a at)

pub steps-next : (m : MachineData) (names : List Actor) (a : Actor) (c : Core) → steps m (names ++ a ∷ []) c ≡ stepped m (steps m names c) a
steps-next m [] a c = refl
steps-next m (x ∷ names) a c = steps-next m names a (stepped m c x)

quiet-next : (m : MachineData) (names : List Actor) (a : Actor) (c : Core) → IsQuiet m names c → gives m c a ≡ None → IsQuiet m (names ++ a ∷ []) c
quiet-next m [] a c quiet none = (none, tt)
quiet-next m (x ∷ names) a c quiet none = (quiet.0, quiet-next m names a c quiet.1 none)

pub row-first : (m : MachineData) (names : List Actor) (c : Core) → RowDone m (take 0 names) c false c
row-first m names c = record { leads = refl; quiet = λ idle. (tt, refl); less = λ moved. no (sym moved) }

-- a row so far leaves no more than before it
no-more : (m : MachineData) (names : List Actor) (c d : Core) (moved : Bool) → RowDone m names c moved d → to_come m d ≤ to_come m c
no-more m names c d true row = let less = row.less refl in omega arith
no-more m names c d false row = let same = ap (to_come m) (row.quiet refl).1 in omega arith

next-leads : (m : MachineData) (names : List Actor) (k : ℕ) (a : Actor) (c d e : Core) (moved : Bool) (o : StepOutcome) → slice_get names k ≡ Some a → RowDone m (take k names) c moved d → StepDone m a d o e → e ≡ steps m (take (k + 1) names) c
next-leads m names k a c d e moved o at row step = step.leads ∙ (ap (λ x. stepped m x a) row.leads ∙ (sym (steps-next m (take k names) a c) ∙ ap (λ l. steps m l c) (sym (take-next names k a at))))

pub row-moved : (m : MachineData) (names : List Actor) (k : ℕ) (a : Actor) (c d e : Core) (moved : Bool) (o : StepOutcome) → slice_get names k ≡ Some a → RowDone m (take k names) c moved d → StepDone m a d o e → is_stepped o ≡ true → RowDone m (take (k + 1) names) c true e
row-moved m names k a c d e moved o at row step some = record {
  leads = next-leads m names k a c d e moved o at row step;
  quiet = λ idle. no idle;
  less = λ is. (let before = no-more m (take k names) c d moved row in let now = step.less some in omega arith);
}

idle-step : (m : MachineData) (a : Actor) (c d : Core) (o : StepOutcome) → StepDone m a c o d → is_stepped o ≡ false → d ≡ c
idle-step m a c d o step idle = step.leads ∙ ap (λ x. unwrap_or x c) (step.quiet idle)

pub row-idle : (m : MachineData) (names : List Actor) (k : ℕ) (a : Actor) (c d e : Core) (moved : Bool) (o : StepOutcome) → slice_get names k ≡ Some a → RowDone m (take k names) c moved d → StepDone m a d o e → is_stepped o ≡ false → RowDone m (take (k + 1) names) c moved e
row-idle m names k a c d e moved o at row step idle = record {
  leads = next-leads m names k a c d e moved o at row step;
  quiet = λ none. (let before = row.quiet none in (
    subst (λ l. IsQuiet m l c) (sym (take-next names k a at)) (quiet-next m (take k names) a c before.0 (ap (λ x. gives m x a) (sym before.1) ∙ step.quiet idle)),
    idle-step m a d e o step idle ∙ before.1,
  ));
  less = λ is. (let before = row.less is in let same = ap (to_come m) (idle-step m a d e o step idle) in omega arith);
}

pub row-done : (m : MachineData) (names : List Actor) (k : ℕ) (c d : Core) (moved : Bool) → k ≡ length names → RowDone m (take k names) c moved d → RowDone m names c moved d
row-done m names k c d moved all row = subst (λ l. RowDone m l c moved d) (ap (λ n. take n names) all ∙ take_whole names) row
  where
    take_whole : (names : List Actor) → take (length names) names ≡ names
    take_whole [] = refl
    take_whole (x ∷ names) = ap (λ l. x ∷ l) (take_whole names)

-- ---- rounds

pub rounds-next : (m : MachineData) (names : List Actor) (k : ℕ) (c : Core) → rounds m names (suc k) c ≡ steps m names (rounds m names k c)
rounds-next m names zero c = refl
rounds-next m names (suc k) c = rounds-next m names k (steps m names c)

-- so many rounds have led here
abbrev pub Rounded : MachineData → Core → Core → Type 0
Rounded m c d = (k : ℕ) × (d ≡ rounds m (actors_of m) k c)

pub rounded-more : (m : MachineData) (c d e : Core) (moved : Bool) → Rounded m c d → RowDone m (actors_of m) d moved e → Rounded m c e
rounded-more m c d e moved so_far row = (suc so_far.0, row.leads ∙ (ap (steps m (actors_of m)) so_far.1 ∙ sym (rounds-next m (actors_of m) so_far.0 c)))

pub settles : (m : MachineData) (c d e : Core) (moved : Bool) → Rounded m c d → RowDone m (actors_of m) d moved e → moved ≡ false → Settles m (actors_of m) c e
settles m c d e moved so_far row idle =
    let quiet = row.quiet idle in
    (so_far.0, quiet.1 ∙ so_far.1, subst (IsQuiet m (actors_of m)) (sym quiet.1) quiet.0)

-- ---- histories grow

begins-more : (first next last : List Entry) → Begins first next → Begins next last → Begins first last
begins-more first next last one two = (one.0 ++ two.0, two.1 ∙ (ap (λ l. l ++ two.0) one.1 ∙ append_assoc first one.0 two.0))

begins-same : (history : List Entry) → Begins history history
begins-same history = ([], sym (append-nil history))

happens-begins : (c : Core) (a : Actor) (s : Step) → Begins c.history (happens c a s).history
happens-begins c a Attempts = begins-same c.history
happens-begins c a Releases = begins-same c.history
happens-begins c a (Pulses n) = begins-same c.history
happens-begins c a Sweeps = (map (latch a) (events_of c.pins), refl)
happens-begins c a (Adds d) = (entry a d ∷ [], refl)

stepped-begins : (m : MachineData) (c : Core) (a : Actor) → Begins c.history (stepped m c a).history
stepped-begins m c a = by_step (next_step m c.pins (reverse c.history) a (c.phases a))
  where
    by_step : (o : Option Step) → Begins c.history (unwrap_or (option_map (happens c a) o) c).history
    by_step None = begins-same c.history
    by_step (Some s) = happens-begins c a s

steps-begins : (m : MachineData) (names : List Actor) (c : Core) → Begins c.history (steps m names c).history
steps-begins m [] c = begins-same c.history
steps-begins m (a ∷ names) c = begins-more c.history (stepped m c a).history (steps m names (stepped m c a)).history (stepped-begins m c a) (steps-begins m names (stepped m c a))

rounds-begin : (m : MachineData) (names : List Actor) (k : ℕ) (c : Core) → Begins c.history (rounds m names k c).history
rounds-begin m names zero c = begins-same c.history
rounds-begin m names (suc k) c = begins-more c.history (steps m names c).history (rounds m names k (steps m names c)).history (steps-begins m names c) (rounds-begin m names k (steps m names c))

pub settled-begins : (m : MachineData) (names : List Actor) (c d : Core) → Settles m names c d → Begins c.history d.history
settled-begins m names c d settled = let more = rounds-begin m names settled.0 c in (more.0, ap (λ x. x.history) settled.1 ∙ more.1)

-- ---- what a machine plays

pub played : (m : MachineData) (c d : Core) → c ≡ first_core → Settles m (actors_of m) (steps m m.schedule c) d → Played m d.history
played m c d first settled = (d, subst (λ x. Settles m (actors_of m) (steps m m.schedule x) d) first settled, refl)
