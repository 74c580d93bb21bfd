-- A world whose journal is empty, with clear words, and all actors at their start stand for the first core, which is sound.
use Rattle.std.proofs.Common.{◌≡◌, false, List, [], sym, ap, ◌∙◌, subst}
use Rattle.acpi_regs.specs.declared.event.Event.{Event}
use Rattle.acpi_regs.specs.Core.{Core, first_core}
use Rattle.acpi_regs.specs.Phases.{first_phase}
use Rattle.core_laws.specs.Gives.{NobodyHolds}
use Rattle.core_laws.specs.Sound.{Sound}
use Rattle.lock_table.specs.declared.words.Bits.{Bits}
use Rattle.lock_table.specs.Bits.{IsEvent, is_set}
use Rattle.machine_core.specs.Board.{BoardData}
use Rattle.machine_desc.specs.Machine.{MachineData}
use Rattle.sci_threads.specs.declared.any.AnyActor.{AnyActor}
use Rattle.sci_threads.specs.Actors.{IsSound, core_in, phases_of}
use Rattle.world.specs.Serial.{Serial}
use Rattle.world.proofs.PinSets.{none_pinned}

pub starts : (w : Serial) (actors : List AnyActor) → w.words.facs ≡ 0 → ((n : Event) → IsEvent n → is_set w.words.pins n ≡ false) → w.board.entries ≡ [] → phases_of actors ≡ first_phase → core_in w actors ≡ first_core
starts w actors word pins entries phases = λ i. record {
  word = word i;
  pins = none_pinned w.words.pins pins i;
  history = entries i;
  phases = phases i;
}

pub sound_at_start : (m : MachineData) (c : Core) → c ≡ first_core → Sound m first_core → NobodyHolds first_core → IsSound m c
sound_at_start m c first sound nobody = subst (IsSound m) (sym first) (record { sound = sound; nobody = nobody })

-- a fresh board of a copy of a machine, clear words, and the actors of the machine
pub fresh : (m copy : MachineData) (w : Serial) (board : BoardData) (pins : Bits) (actors : List AnyActor) → w ≡ record { board = board; words = record { facs = 0; pins = pins } } → board ≡ record { machine = copy; entries = [] } → copy ≡ m → ((n : Event) → IsEvent n → is_set pins n ≡ false) → phases_of actors ≡ first_phase → (w.board.machine ≡ m) × (core_in w actors ≡ first_core)
fresh m copy w board pins actors world made copied clear phases = (
  ap (λ x. x.board.machine) world ∙ (ap (λ b. b.machine) made ∙ copied),
  starts w actors (ap (λ x. x.words.facs) world) (subst (λ x. (n : Event) → IsEvent n → is_set x.words.pins n ≡ false) (sym world) clear) (ap (λ x. x.board.entries) world ∙ ap (λ b. b.entries) made) phases,
)
