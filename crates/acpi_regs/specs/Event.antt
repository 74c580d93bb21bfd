-- Events: their bits, their order, and which is which.
use Rattle.std.specs.Prelude.{ℕ, ◌+◌, ◌/◌, ◌%◌, ◌==◌, Bool, false}
use Rattle.acpi_regs.specs.declared.event.Fixed.{Fixed}
use Rattle.acpi_regs.specs.declared.event.Fixed.TheVariants as fixed
use Rattle.acpi_regs.specs.declared.event.Event.{Event}
use Rattle.acpi_regs.specs.declared.event.Event.TheVariants as event

-- the bit of PM1_STS and PM1_EN that belongs to a fixed event (ACPI 6.5, section 4.8.3.1)
abbrev pub fixed_bit : Fixed → ℕ
fixed_bit fixed.Tmr = 0
fixed_bit fixed.Gbl = 5
fixed_bit fixed.Pwr = 8
fixed_bit fixed.Slp = 9
fixed_bit fixed.Rtc = 10

-- the place of an event in the order in which events are served: fixed events first, then GPEs by number
abbrev pub fixed_rank : Fixed → ℕ
fixed_rank fixed.Tmr = 0
fixed_rank fixed.Gbl = 1
fixed_rank fixed.Pwr = 2
fixed_rank fixed.Slp = 3
fixed_rank fixed.Rtc = 4

abbrev pub event_rank : Event → ℕ
event_rank (event.Fixed f) = fixed_rank f
event_rank (event.Gpe n) = 5 + n

-- the two are one event
abbrev pub same_event : Event → Event → Bool
same_event (event.Fixed f) (event.Fixed g) = fixed_rank f == fixed_rank g
same_event (event.Fixed f) (event.Gpe k) = false
same_event (event.Gpe n) (event.Fixed g) = false
same_event (event.Gpe n) (event.Gpe k) = n == k

-- the event of the Global Lock's release (ACPI 6.5, section 5.2.10.1)
abbrev pub gbl : Event
gbl = event.Fixed fixed.Gbl

abbrev pub is_gbl : Event → Bool
is_gbl n = same_event n gbl

-- the word and the bit of an event's pin: fixed events in word 0 by their PM1 bits, GPEs in four words of 64 bits
abbrev pub word_of : Event → ℕ
word_of (event.Fixed f) = 0
word_of (event.Gpe n) = 1 + n / 64

abbrev pub bit_of : Event → ℕ
bit_of (event.Fixed f) = fixed_bit f
bit_of (event.Gpe n) = n % 64
