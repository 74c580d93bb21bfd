use Rattle.std.proofs.Common.{◌≡◌, ◌+◌, ◌≤◌, drop, length, take, ◌∙◌, ap, arith}
use Rattle.std.proofs.lemmas.List.{length-drop, length-take-le}
use Rattle.acpi_io.proofs.KnownBytes.{Consumes-behind, written_back}
use Rattle.acpi_io.proofs.source.read_all.Goals as goal

pub returns-then-filled-limit-clause-ends : goal.returns-then-filled-limit-clause-ends
returns-then-filled-limit-clause-ends g c =
    let filled = c.loop-bytes.filled in
    let count = c.in-Took.count in
    let after = c.read_behind.new.bytes in
    let items = c.make_room.new.bytes.items in
    let same : length after ≡ length items = c.read_behind.auto.bytes ∙ ap length c.as_mut_slice.ensures.value in
    let some : 1 ≤ count = c.in-Took.ensures.bytes.0 in
    let most : count ≤ length (drop filled after) = c.in-Took.ensures.bytes.1 in
    let inside : filled + count ≤ length after = omega (arith, length-drop filled after) in
    (take (filled + count) after, omega (arith, length-take-le (filled + count) after inside, same, c.in_ok-make_room.ensures.room.1, c.if-filled-limit.true), Consumes-behind _ (g.S.Source.left c.loop-bytes.source) _ c.loop-bytes.bytes.items items after filled count c.loop-bytes.invariant.consumed c.in_ok-make_room.ensures.kept (c.read_behind.ensures.kept ∙ ap (take filled) c.as_mut_slice.ensures.value) c.in-Took.ensures.bytes.2)

pub returns-then-filled-limit-clause-asked : goal.returns-then-filled-limit-clause-asked
returns-then-filled-limit-clause-asked g c =
    let filled = c.loop-bytes.filled in
    let count = c.in-Took.count in
    let after = c.read_behind.new.bytes in
    let items = c.make_room.new.bytes.items in
    let same : length after ≡ length items = c.read_behind.auto.bytes ∙ ap length c.as_mut_slice.ensures.value in
    let some : 1 ≤ count = c.in-Took.ensures.bytes.0 in
    let most : count ≤ length (drop filled after) = c.in-Took.ensures.bytes.1 in
    let inside : filled + count ≤ length after = omega (arith, length-drop filled after) in
    (take (filled + count) after, Consumes-behind _ (g.S.Source.left c.loop-bytes.source) _ c.loop-bytes.bytes.items items after filled count c.loop-bytes.invariant.consumed c.in_ok-make_room.ensures.kept (c.read_behind.ensures.kept ∙ ap (take filled) c.as_mut_slice.ensures.value) c.in-Took.ensures.bytes.2, omega (arith, length-take-le (filled + count) after inside, c.in-Took.ensures.asked, c.loop-bytes.invariant.turns))

pub loop-bytes-preserved : goal.loop-bytes-preserved
loop-bytes-preserved g c =
    let filled = c.loop-bytes.filled in
    let count = c.in-Took.count in
    let after = c.read_behind.new.bytes in
    let items = c.make_room.new.bytes.items in
    let same : length after ≡ length items = c.read_behind.auto.bytes ∙ ap length c.as_mut_slice.ensures.value in
    let now = written_back c.make_room.new.bytes.len after items (c.read_behind.auto.bytes ∙ c.as_mut_slice.ensures.len) in
    let some : 1 ≤ count = c.in-Took.ensures.bytes.0 in
    let most : count ≤ length (drop filled after) = c.in-Took.ensures.bytes.1 in
    let inside : filled + count ≤ length after = omega (arith, length-drop filled after) in
    record {
      consumed = rw now (Consumes-behind _ (g.S.Source.left c.loop-bytes.source) _ c.loop-bytes.bytes.items items after filled count c.loop-bytes.invariant.consumed c.in_ok-make_room.ensures.kept (c.read_behind.ensures.kept ∙ ap (take filled) c.as_mut_slice.ensures.value) c.in-Took.ensures.bytes.2);
      within = c.if-filled-limit.false;
      inside = rw now inside;
      room = rw now (omega (arith, same, c.in_ok-make_room.ensures.room.1));
      kept = c.in-Took.ensures.told (λ same. cc) ∙ c.loop-bytes.invariant.kept;
      turns = omega (arith, c.in-Took.ensures.asked, c.loop-bytes.invariant.turns);
    }
