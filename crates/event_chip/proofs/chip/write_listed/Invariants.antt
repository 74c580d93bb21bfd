use Rattle.std.proofs.Common.{◌≡◌, ◌-◌, length, drop}
use Rattle.acpi_regs.specs.declared.event.Event.{Event}
use Rattle.event_chip.specs.Chip.{listing, slot_of, slot_or}
use Rattle.event_chip.specs.Kept.{IsQuiet, Shows, enables}
use Rattle.event_chip.proofs.chip.write_listed.Given as goal

abbrev pub invariant-loop-written : goal.invariant-loop-written
invariant-loop-written l =
    (IsQuiet l.initial.slots → IsQuiet l.slots)
    × (Shows enables l.initial.slots l.initial.enable.words → Shows enables l.slots l.enable.words)
    × ((n : Event) → slot_of l.slots n ≡ slot_or (listing (drop (length l.listed - l.written) l.listed) n) (slot_of l.initial.slots n))
