-- Registers of flags, each as the number whose bits are its flags, and the names of these bits.
use Rattle.std.specs.Prelude.{ℕ, ◌^◌, List, [], ◌∷◌, codes}
use Rattle.acpi_regs.specs.declared.flags.Pm1Bits.{Pm1Bits}
use Rattle.acpi_regs.specs.declared.flags.EcStatus.{EcStatus}

-- PM1 status and enable bits (ACPI 6.5, section 4.8.3.1)
abbrev pub pm1_bits : Pm1Bits → ℕ
pm1_bits b = b.0

-- the controller's status register EC_SC (ACPI 6.5, section 12.2.1)
abbrev pub ec_bits : EcStatus → ℕ
ec_bits s = s.0

-- timer 0, Global Lock 5, power button 8, sleep button 9, clock 10, wake 15 (ACPI 6.5, section 4.8.3.1.1)
abbrev pub pm1_flags : List (List ℕ × ℕ)
pm1_flags =
    (codes "TMR", 2 ^ 0) ∷ (codes "GBL", 2 ^ 5) ∷ (codes "PWRBTN", 2 ^ 8) ∷ (codes "SLPBTN", 2 ^ 9)
    ∷ (codes "RTC", 2 ^ 10) ∷ (codes "WAK", 2 ^ 15) ∷ []

-- output full 0, input full 1, command 3, burst mode 4, event 5 (ACPI 6.5, section 12.2.1)
abbrev pub ec_flags : List (List ℕ × ℕ)
ec_flags =
    (codes "OBF", 2 ^ 0) ∷ (codes "IBF", 2 ^ 1) ∷ (codes "CMD", 2 ^ 3) ∷ (codes "BURST", 2 ^ 4)
    ∷ (codes "SCI_EVT", 2 ^ 5) ∷ []
