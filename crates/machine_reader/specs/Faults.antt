-- For private clauses: a fault of a step of the reader as a fault of the whole.
use Rattle.machine_desc.specs.declared.fault.MachineError.{MachineError}
use Rattle.machine_desc.specs.declared.fault.MachineError.TheVariants as rules
use Rattle.machine_reader.specs.declared.fault.ReaderFault.{ReaderFault}
use Rattle.machine_reader.specs.declared.fault.ReaderFault.TheVariants as fault
use Rattle.machine_reader.specs.declared.path.ShapeFault.{ShapeFault}
use Rattle.machine_reader.specs.declared.path.ShapeFault.TheVariants as form

abbrev pub fault_of_shape : ShapeFault → ReaderFault
fault_of_shape (form.BadShape path) = fault.BadShape path
fault_of_shape form.Memory = fault.Memory

abbrev pub fault_of_rule : MachineError → ReaderFault
fault_of_rule (rules.BadMachine bad) = fault.BadMachine bad
fault_of_rule rules.Memory = fault.Memory
