-- Which machine bytes describe, or why they describe none.
use Rattle.std.specs.Prelude.{◌≡◌, ℕ, nat_lt, List, Option, Some, None, if◌then◌else◌, Result, Ok, Err, IsUtf8}
use Rattle.serde_json.specs.Data.{Data}
use Rattle.serde_json.specs.Read.{read}
use Rattle.machine_desc.specs.declared.fault.BadMachine.{BadMachine}
use Rattle.machine_desc.specs.declared.parts.MachineParts.{MachineParts}
use Rattle.machine_desc.specs.Machine.{MachineData, described}
use Rattle.machine_desc.specs.Rules.{first_fault}
use Rattle.machine_desc.specs.Weight.{weight_of}
use Rattle.machine_reader.specs.declared.fault.ReaderFault.{ReaderFault}
use Rattle.machine_reader.specs.declared.fault.ReaderFault.TheVariants as fault
use Rattle.machine_reader.specs.Reading.{Reading, under}
use Rattle.machine_reader.specs.Shape.{shape}

-- the bytes are UTF-8, and the JSON text of this value
abbrev pub IsJson : List ℕ → Data → Type 0
IsJson bytes d = IsUtf8 bytes × (read bytes ≡ Some d)

-- how many entries the history of a machine may have
abbrev pub limit : ℕ
limit = 1048576

-- the machine of an accepted description, unless its history may be too long
abbrev pub unless_long : MachineData → Result MachineData ReaderFault
unless_long m = if nat_lt limit (weight_of m) then Err (fault.TooLong (weight_of m)) else Ok m

-- the machine of parts, unless they break a rule
abbrev pub unless_broken : MachineParts → Option BadMachine → Result MachineData ReaderFault
unless_broken parts None = unless_long (described parts)
unless_broken parts (Some bad) = Err (fault.BadMachine bad)

-- the machine of what was read, unless a value has not its form
abbrev pub unless_misshapen : Reading MachineParts → Result MachineData ReaderFault
unless_misshapen (Ok parts) = unless_broken parts (first_fault parts)
unless_misshapen (Err path) = Err (fault.BadShape path)

-- the machine that a value describes: first its form, then the rules, then the weight
unfoldable pub machine_in : Data → Result MachineData ReaderFault
machine_in d = unless_misshapen (shape d)

-- What is answered for bytes: `NotJson` if they are the text of no value, and else what their value describes.
-- `Memory` may be answered in any case.
abbrev pub Describes : List ℕ → Result MachineData ReaderFault → Type 0
Describes bytes (Err fault.NotJson) = (d : Data) → IsJson bytes d → ⊥
Describes bytes (Err fault.Memory) = Unit {0}
Describes bytes answer = (d : Data) × IsJson bytes d × (machine_in d ≡ answer)

-- What is answered for bytes that are to hold a value of this form: what is read of it, or where it fails. No rule of
-- machines is tested. `Memory` may be answered in any case.
abbrev pub ReadsAs : {A : Type 0} → (Data → Reading A) → List ℕ → Result A ReaderFault → Type 0
ReadsAs form bytes (Ok x) = (d : Data) × IsJson bytes d × (form d ≡ Ok x)
ReadsAs form bytes (Err (fault.BadShape path)) = (d : Data) × IsJson bytes d × (form d ≡ Err path)
ReadsAs form bytes (Err fault.NotJson) = (d : Data) → IsJson bytes d → ⊥
ReadsAs form bytes (Err fault.Memory) = Unit {0}
ReadsAs form bytes (Err _) = ⊥

-- the machine of parts, unless they break a rule; its weight is not tested
abbrev pub kept_of : MachineParts → Option BadMachine → Result MachineData ReaderFault
kept_of parts None = Ok (described parts)
kept_of parts (Some bad) = Err (fault.BadMachine bad)

abbrev pub of_parts : Reading MachineParts → Result MachineData ReaderFault
of_parts (Ok parts) = kept_of parts (first_fault parts)
of_parts (Err path) = Err (fault.BadShape path)

-- the machine of a value at this path of a larger value: first its form, then the rules
unfoldable pub found_at : List ℕ → Data → Result MachineData ReaderFault
found_at path d = of_parts (under path (shape d))

-- What is answered if this is found. `Memory` may be answered in any case.
abbrev pub Finds : Result MachineData ReaderFault → Result MachineData ReaderFault → Type 0
Finds found (Err fault.NotJson) = ⊥
Finds found (Err fault.Memory) = Unit {0}
Finds found answer = found ≡ answer
