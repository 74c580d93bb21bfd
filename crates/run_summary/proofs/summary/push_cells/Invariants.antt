use Rattle.std.proofs.Common.{◌≡◌, ◌+◌, ◌*◌, ◌++◌, flat_map, length, reverse}
use Rattle.machine_maker.specs.Summary.{spaced_byte}
use Rattle.run_summary.specs.Told.{bytes_of}
use Rattle.run_summary.proofs.summary.push_cells.Given as goal

-- The bytes of the first cells stand behind the word.
abbrev pub invariant-loop-offset : goal.invariant-loop-offset
invariant-loop-offset l = record {
  text : l.text ≡ l.initial.text ++ flat_map spaced_byte (bytes_of l.board.machine (reverse l.board.entries) l.offset);
  len : length l.text ≡ length l.initial.text + 3 * l.offset;
}
