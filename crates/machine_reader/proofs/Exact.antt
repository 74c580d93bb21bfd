-- `==` of two faults of a reader, case by case.
use Rattle.std.proofs.Common.{◌≡◌, ℕ, List, Bool, IsTrue, refl, subst, rules}
use Rattle.acpi_regs.specs.Comparisons.{IsExact}
use Rattle.machine_desc.specs.declared.fault.BadMachine.{BadMachine}
use Rattle.machine_desc.specs.contracts.fault.BadMachinePartialEq.TheImpl as bad_eq
use Rattle.machine_reader.specs.declared.fault.ReaderFault.{ReaderFault}
use Rattle.machine_reader.specs.declared.fault.ReaderFault.TheVariants as fault
use Rattle.machine_reader.specs.contracts.fault.ReaderFaultPartialEq.TheImpl as fault_eq
use Rattle.std.specs.Str.{bytes_eq}

abbrev pub eq : ReaderFault → ReaderFault → Bool
eq = (fault_eq.ghosts).eq

same_path : (x y : List ℕ) → IsTrue (bytes_eq x y) → x ≡ y
same_path x y h = search rules

same : IsExact BadMachine (bad_eq.ghosts).eq → (a b : ReaderFault) → IsTrue (eq a b) → a ≡ b
same exact fault.NotJson fault.NotJson h = refl
same exact (fault.BadShape x) (fault.BadShape y) h = let e : x ≡ y = same_path x y h in cc
same exact (fault.BadMachine x) (fault.BadMachine y) h = let e : x ≡ y = (exact x y).0 h in cc
same exact (fault.TooLong m) (fault.TooLong n) h = search rules
same exact fault.Memory fault.Memory h = refl
same exact _ _ h = cc

back : IsExact BadMachine (bad_eq.ghosts).eq → (a : ReaderFault) → IsTrue (eq a a)
back exact fault.NotJson = refl
back exact (fault.BadShape x) = search rules
back exact (fault.BadMachine x) = (exact x x).1 refl
back exact (fault.TooLong n) = search rules
back exact fault.Memory = refl

pub faults : IsExact BadMachine (bad_eq.ghosts).eq → IsExact ReaderFault eq
faults exact a b = (same exact a b, λ e. subst (λ x. IsTrue (eq a x)) e (back exact a))
