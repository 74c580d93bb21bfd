-- Laws of the descriptions.
use Rattle.std.specs.Prelude.{◌≡◌, ◌≤◌, Result, Ok, Err}
use Rattle.machine_desc.specs.Machine.{MachineData}
use Rattle.machine_desc.specs.Weight.{weight_of}
use Rattle.machine_reader.specs.declared.fault.ReaderFault.{ReaderFault}
use Rattle.machine_reader.specs.declared.fault.ReaderFault.TheVariants as fault
use Rattle.machine_reader.specs.Canonical.{canonical}
use Rattle.machine_reader.specs.Description.{Describes, limit}

-- each answer to the canonical text of a machine within the limit, unless it is `Memory`, is that machine
abbrev pub ReadsBack : MachineData → Type 0
ReadsBack m =
    weight_of m ≤ limit → (answer : Result MachineData ReaderFault)
    → Describes (canonical m) answer → (answer ≡ Err fault.Memory → ⊥) → answer ≡ Ok m
