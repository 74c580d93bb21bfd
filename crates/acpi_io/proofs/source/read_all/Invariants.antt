use Rattle.std.proofs.Common.{◌≡◌, ◌+◌, ◌-◌, ◌≤◌, length, take}
use Rattle.std.specs.Io.KnownBytes.{Consumes}
use Rattle.acpi_io.proofs.source.read_all.Given as goal

-- The bytes so far are those that were taken, and each read took one at least.
abbrev pub invariant-loop-bytes : goal.invariant-loop-bytes
invariant-loop-bytes g l = record {
  consumed : Consumes (g.S.Source.left l.initial.source) (g.S.Source.left l.source) (take l.filled l.bytes.items);
  within : l.filled ≤ l.limit;
  inside : l.filled ≤ length l.bytes.items;
  room : length l.bytes.items ≤ l.limit + 1;
  kept : g.S.Source.faults l.source ≡ g.S.Source.faults l.initial.source;
  turns : g.S.Source.reads l.source ≤ g.S.Source.reads l.initial.source + l.filled;
}

abbrev pub decreases-loop-bytes : goal.decreases-loop-bytes
decreases-loop-bytes g l = l.limit + 1 - l.filled
