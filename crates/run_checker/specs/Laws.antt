-- Laws of verdicts.
use Rattle.std.specs.Prelude.{ℕ, ◌≡◌, ◌↔◌, List, reverse}
use Rattle.acpi_regs.specs.declared.entry.Entry.{Entry}
use Rattle.acpi_regs.specs.declared.event.Event.{Event}
use Rattle.machine_desc.specs.Kept.{IsMachine}
use Rattle.machine_desc.specs.Machine.{MachineData}
use Rattle.machine_history.specs.Complete.{Complete}
use Rattle.machine_history.specs.Legal.{Legal}
use Rattle.run_checker.specs.declared.verdict.Verdict.{Verdict}
use Rattle.run_checker.specs.Reasons.{NoneUnfinished}
use Rattle.run_checker.specs.Verdict.{Judges}

-- a log has one verdict at most
abbrev pub OneVerdict : Type 0
OneVerdict = (m : MachineData) (entries : List Entry) (told : List Event) (last : ℕ) (v w : Verdict)
    → Judges m entries told last v → Judges m entries told last w → v ≡ w

-- a legal history of a machine is complete exactly where no actor has a reason
abbrev pub CompletesAll : Type 0
CompletesAll = (m : MachineData) (history : List Entry) → IsMachine m → Legal m history
    → Complete m history ↔ NoneUnfinished m (reverse history)
