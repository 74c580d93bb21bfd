-- What is answered for the parts of a description.
use Rattle.std.specs.Prelude.{◌≡◌, Some, None, Result, Ok, Err}
use Rattle.machine_desc.specs.declared.fault.MachineError.{MachineError}
use Rattle.machine_desc.specs.declared.fault.MachineError.TheVariants as error
use Rattle.machine_desc.specs.declared.parts.MachineParts.{MachineParts}
use Rattle.machine_desc.specs.Machine.{MachineData, described}
use Rattle.machine_desc.specs.Rules.{first_fault}

-- The machine that the parts describe, where they break no rule; or the first rule that they break; or want of
-- memory, where they break none.
abbrev pub Answers : MachineParts → Result MachineData MachineError → Type 0
Answers p (Ok m) = (first_fault p ≡ None) × (described p ≡ m)
Answers p (Err (error.BadMachine bad)) = first_fault p ≡ Some bad
Answers p (Err error.Memory) = first_fault p ≡ None
