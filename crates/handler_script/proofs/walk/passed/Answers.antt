use Rattle.std.proofs.Common.{◌≡◌, ◌<◌, ◌||◌, ◌∙◌, false, sym, ap, rules}
use Rattle.field_units.specs.Bits.{byte_count}
use Rattle.field_units.specs.Field.{needs_lock}
use Rattle.handler_script.specs.Left.{read_done, written}
use Rattle.handler_script.specs.Parts.{reads_first}
use Rattle.handler_script.specs.Plan.{closed}
use Rattle.handler_script.proofs.Stages.{writing, after_read, after_written}
use Rattle.handler_script.proofs.walk.passed.Goals as goal

pub returns-in-Reading-clause-same : goal.returns-in-Reading-clause-same
returns-in-Reading-clause-same c = λ next.
    let field = c.args.field.now in
    let held = needs_lock field || c.args.held in
    let inside : c.in-Reading.k < byte_count field = search rules in
    rw c.get_bits.ensures (rw c.in-Reading.is (sym (after_read field held c.in-Reading.k (byte_count field) c.in-Reading.so_far c.args.byte (read_done c.args.op field c.args.held next) inside)))

pub returns-in-Writing-2-clause-same : goal.returns-in-Writing-2-clause-same
returns-in-Writing-2-clause-same c = λ next.
    let field = c.args.field.now in
    let held = needs_lock field || c.args.held in
    let inside : c.in-Writing-2.k < byte_count field = search rules in
    let first : reads_first field c.in-Writing-2.k ≡ false = ap (reads_first field) (writing c.in-Writing-2.k c.in-Writing.k (sym c.in-Writing-2.is ∙ c.in-Writing.is)) ∙ sym c.reads_first.ensures ∙ c.if-reads_first.false in
    rw c.in-Writing-2.is (sym (after_written field held c.in-Writing-2.k (byte_count field) (written c.args.op field c.args.place.last) c.args.byte (closed field c.args.held (next c.args.place.last)) inside first))
