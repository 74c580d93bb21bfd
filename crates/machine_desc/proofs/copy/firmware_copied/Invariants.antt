use Rattle.std.proofs.Common.{◌≡◌, take}
use Rattle.machine_desc.proofs.copy.firmware_copied.Given as goal

abbrev pub invariant-loop-script : goal.invariant-loop-script
invariant-loop-script l = l.copies.items ≡ take l.script-index l.machine.firmware
