use Rattle.std.proofs.Common.{◌≡◌, ◌+◌, ◌≤◌, ℕ, drop, slice_index}
use Rattle.acpi_regs.specs.declared.event.Event.{Event}
use Rattle.machine_history.specs.Machine.{times}
use Rattle.machine_core.specs.Events.{IsEvent, unlatched_of}
use Rattle.machine_core.proofs.events.add_pulses.Given as goal

abbrev pub invariant-loop-event : goal.invariant-loop-event
invariant-loop-event l = record {
  counts : (n : Event) → IsEvent n → unlatched_of l.counts n + times n (drop l.event-index l.pulses) ≡ unlatched_of l.initial.counts n + times n l.pulses;
  most : (k : ℕ) → slice_index l.counts k ≤ slice_index l.initial.counts k + l.event-index;
}
