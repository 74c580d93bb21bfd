-- The status and enable bits of all events in 17 registers of 16 bits. Register 0 has the fixed events by their PM1
-- bits (ACPI 6.5, section 4.8.3.1). Each later register has 16 GPEs by number (ACPI 6.5, section 4.8.4.1).
use Rattle.std.specs.Prelude.{ℕ, ◌+◌, ◌/◌, ◌%◌}
use Rattle.acpi_regs.specs.declared.event.Event.{Event}
use Rattle.acpi_regs.specs.declared.event.Event.TheVariants as event
use Rattle.acpi_regs.specs.Event.{fixed_bit}

abbrev pub register_of : Event → ℕ
register_of (event.Fixed f) = 0
register_of (event.Gpe n) = 1 + n / 16

abbrev pub register_bit : Event → ℕ
register_bit (event.Fixed f) = fixed_bit f
register_bit (event.Gpe n) = n % 16

-- bit b of register k is at place 16 k + b
abbrev pub place_of : Event → ℕ
place_of (event.Fixed f) = fixed_bit f
place_of (event.Gpe n) = 16 + n
