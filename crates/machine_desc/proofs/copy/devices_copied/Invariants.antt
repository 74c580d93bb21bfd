use Rattle.std.proofs.Common.{◌≡◌, take}
use Rattle.machine_desc.proofs.copy.devices_copied.Given as goal

abbrev pub invariant-loop-pulses : goal.invariant-loop-pulses
invariant-loop-pulses l = l.copies.items ≡ take l.pulses-index l.devices
