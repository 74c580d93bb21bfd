use Rattle.std.proofs.Common.{List, get_or, reverse, take, sym, subst}
use Rattle.acpi_regs.specs.declared.actor.Actor.TheVariants as actor
use Rattle.acpi_regs.specs.declared.entry.Deed.TheVariants as deed
use Rattle.acpi_regs.specs.declared.entry.Entry.{Entry}
use Rattle.run_checker.specs.Ends.{AreLatched}
use Rattle.run_checker.proofs.Lists.{past_at}
use Rattle.run_checker.proofs.Steps.{entry, latched_more}
use Rattle.run_checker.proofs.ends.latched.Goals as goal

pub loop-entry-preserved : goal.loop-entry-preserved
loop-entry-preserved c =
    let first = entry actor.Int deed.Seek in
    subst (λ (past : List Entry). AreLatched past c.latch.new.latched) (sym (past_at c.args.entries.now c.loop-entry.entry-index first c.loop-entry-test.true)) (latched_more (reverse (take c.loop-entry.entry-index c.args.entries.now)) (get_or c.args.entries.now c.loop-entry.entry-index first) c.loop-entry.latched c.latch.new.latched c.loop-entry.invariant c.latch.ensures)
