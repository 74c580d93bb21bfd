use Rattle.std.proofs.Common.{◌≡◌, ◌<◌, ◌||◌, ◌∙◌, true, false, sym, ap, Some, rules}
use Rattle.field_units.specs.Bits.{byte_count}
use Rattle.field_units.specs.Field.{needs_lock}
use Rattle.handler_script.specs.Left.{written}
use Rattle.handler_script.specs.Parts.{reads_first}
use Rattle.handler_script.specs.Plan.{closed}
use Rattle.handler_script.proofs.Stages.{writing, first_read, first_written}
use Rattle.handler_script.proofs.walk.act.Goals as goal

pub returns-in-Writing : goal.returns-in-Writing
returns-in-Writing c = λ next.
    let field = c.args.field.now in
    let held = needs_lock field || c.args.held in
    let inside : c.in-Writing.k < byte_count field = search rules in
    let first : reads_first field c.in-Writing.k ≡ true = sym c.reads_first.ensures ∙ c.if-reads_first.true in
    rw c.in-Writing.is (first_read field held c.in-Writing.k (byte_count field) (written c.args.op field c.args.place.last) (closed field c.args.held (next c.args.place.last)) inside first ∙ ap Some (sym c.read_act-in-Writing.ensures))

pub returns-in-Writing-2 : goal.returns-in-Writing-2
returns-in-Writing-2 c = λ next.
    let field = c.args.field.now in
    let held = needs_lock field || c.args.held in
    let inside : c.in-Writing-2.k < byte_count field = search rules in
    let first : reads_first field c.in-Writing-2.k ≡ false = ap (reads_first field) (writing c.in-Writing-2.k c.in-Writing.k (sym c.in-Writing-2.is ∙ c.in-Writing.is)) ∙ sym c.reads_first.ensures ∙ c.if-reads_first.false in
    rw c.in-Writing-2.is (first_written field held c.in-Writing-2.k (byte_count field) (written c.args.op field c.args.place.last) (closed field c.args.held (next c.args.place.last)) inside first ∙ ap Some (sym c.write_byte.ensures))
