-- What the board keeps of events: their registers, and how many pulses of each have no latch yet.
use Rattle.std.specs.Prelude.{◌≡◌, ◌<◌, ℕ, ◌-◌, List, length, slice_index, if◌then◌else◌}
use Rattle.acpi_regs.specs.declared.entry.Deed.{Deed}
use Rattle.acpi_regs.specs.declared.entry.Deed.TheVariants as deed
use Rattle.acpi_regs.specs.declared.entry.Entry.{Entry}
use Rattle.acpi_regs.specs.declared.event.Event.{Event}
use Rattle.acpi_regs.specs.Event.{event_rank, same_event}
use Rattle.event_chip.specs.Chip.{slot_of}
use Rattle.machine_desc.specs.Machine.{MachineData}
use Rattle.machine_history.specs.Events.{latches, slot}
use Rattle.machine_history.specs.Machine.{pulses_of}
use Rattle.machine_core.specs.declared.events.Events.{Events}

-- an event whose number is a byte
abbrev pub IsEvent : Event → Type 0
IsEvent n = event_rank n < 261

-- how many of its pulses have no latch
abbrev pub unlatched_of : List ℕ → Event → ℕ
unlatched_of unlatched n = slice_index unlatched (event_rank n)

-- the pulses without a latch after a deed
abbrev pub unlatched_after : Event → Deed → ℕ → ℕ
unlatched_after n (deed.Latch x) old = if same_event x n then (old - 1) else old
unlatched_after n _ old = old

pub record IsEvents (m : MachineData) (past : List Entry) (events : Events) : Type 0 where
  pub slots_are : (n : Event) → slot_of events.chip n ≡ slot m past n
  pub size : length events.unlatched.items ≡ 261
  pub unlatched_are : (n : Event) → IsEvent n → unlatched_of events.unlatched.items n ≡ pulses_of m n - latches past n
