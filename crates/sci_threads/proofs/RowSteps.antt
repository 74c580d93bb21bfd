-- One step of the actor at a place of the row.
use Rattle.std.proofs.Common.{◌≡◌, ℕ, false, List, map, slice_get, slice_set, Some, sym, ap, ◌∙◌, subst}
use Rattle.acpi_regs.specs.declared.actor.Actor.{Actor}
use Rattle.acpi_regs.specs.Core.{Core}
use Rattle.acpi_regs.specs.Phases.{Phase, put}
use Rattle.core_laws.specs.Gives.{NobodyHolds}
use Rattle.core_laws.specs.Sound.{Sound}
use Rattle.machine_desc.specs.Actors.{actors_of}
use Rattle.machine_desc.specs.Kept.{IsMachine}
use Rattle.machine_desc.specs.Machine.{MachineData}
use Rattle.machine_history.specs.Played.{stepped}
use Rattle.machine_history.specs.Steps.{gives}
use Rattle.sci_threads.specs.declared.any.AnyActor.{AnyActor}
use Rattle.sci_threads.specs.Actors.{IsSound, core_in, stands, who}
use Rattle.sci_threads.specs.Rounds.{StepDone}
use Rattle.sci_threads.proofs.Once.{AllOnce, actors-once}
use Rattle.sci_threads.proofs.Rows.{Lessens, leads-by, step-done}
use Rattle.sci_threads.proofs.Served.{PlacedStep, named-at, names-set, placed-step}
use Rattle.world.specs.declared.outcome.StepOutcome.{StepOutcome}
use Rattle.world.specs.Serial.{Serial, core_of}
use Rattle.world.specs.Stepping.{after_step, is_stepped}

-- a step of the machine keeps a core sound
abbrev pub Keeps : Type 0
Keeps = (m : MachineData) (c : Core) (a : Actor) → IsMachine m → Sound m c → NobodyHolds c → Sound m (stepped m c a) × NobodyHolds (stepped m c a)

pub record RowStep (m : MachineData) (w w' : Serial) (actors : List AnyActor) (k : ℕ) (x' : AnyActor) (o : StepOutcome) : Type 0 where
  pub names : map who (slice_set actors k x') ≡ actors_of m
  pub sound : IsSound m (core_in w' (slice_set actors k x'))
  pub step : (a : Actor) → slice_get (actors_of m) k ≡ Some a → StepDone m a (core_in w actors) o (core_in w' (slice_set actors k x'))

pub row-step : (m : MachineData) (w w' : Serial) (actors : List AnyActor) (k : ℕ) (x x' : AnyActor) (o : StepOutcome) → Keeps → Lessens → IsMachine m → map who actors ≡ actors_of m → IsSound m (core_in w actors) → slice_get actors k ≡ Some x → who x' ≡ who x
    → ((phases : Actor → Phase) → phases (who x) ≡ stands x → gives m (core_of w phases) (who x) ≡ after_step o (core_of w' (put (who x) (stands x') phases)))
    → (is_stepped o ≡ false → ((phases : Actor → Phase) → core_of w' phases ≡ core_of w phases) × (stands x' ≡ stands x))
    → RowStep m w w' actors k x' o
row-step m w w' actors k x x' o keeps lessens ok names sound at same given still =
    let once : AllOnce (map who actors) = subst AllOnce (sym names) (actors-once m) in
    let placed : PlacedStep m w w' actors (slice_set actors k x') (who x) o = placed-step m w w' actors k x x' o once at same given still in
    let leads = leads-by m (who x) (core_in w actors) (core_in w' (slice_set actors k x')) o placed.given placed.idle in
    let kept = keeps m (core_in w actors) (who x) ok sound.sound sound.nobody in
    let sound' : IsSound m (core_in w' (slice_set actors k x')) = subst (IsSound m) (sym leads) (record { sound = kept.0; nobody = kept.1 }) in
    record {
      names = names-set actors k x x' at same ∙ names;
      sound = sound';
      step = λ a there. (let e = named-at (actors_of m) actors k x a names at there in
          subst (λ b. StepDone m b (core_in w actors) o (core_in w' (slice_set actors k x'))) (sym e)
          (step-done m k (who x) (core_in w actors) (core_in w' (slice_set actors k x')) o lessens ok sound (there ∙ ap Some e) placed.given placed.idle));
    }
