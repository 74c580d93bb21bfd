use Rattle.std.proofs.Common.{◌≡◌, true, get_or, take, sym, subst, ◌∙◌}
use Rattle.std.proofs.lemmas.Bool.{not-false, not-true}
use Rattle.acpi_regs.specs.declared.event.Event.TheVariants as event
use Rattle.acpi_regs.specs.declared.event.Fixed.TheVariants as fixed
use Rattle.lock_table.specs.Bits.{IsEvent, is_set}
use Rattle.run_checker.specs.Ends.{AllSet}
use Rattle.run_checker.proofs.Given.{at_pulsed}
use Rattle.run_checker.proofs.Lists.{all_at, all_taken, read_at}
use Rattle.run_checker.proofs.ends.misses.Goals as goal

pub returns-then-is_missing : goal.returns-then-is_missing
returns-then-is_missing c =
    let pulses = c.args.pulses.now in
    let i = c.loop-pulse.pulse-index in
    let n = get_or pulses i (event.Fixed fixed.Tmr) in
    (n, c.is_missing.ensures.range, at_pulsed pulses i n c.loop-pulse-test.true (read_at pulses i (event.Fixed fixed.Tmr) c.loop-pulse-test.true), not-true (is_set c.args.set.now n) (sym c.is_missing.ensures.value ∙ c.if-is_missing.true))

pub loop-pulse-preserved : goal.loop-pulse-preserved
loop-pulse-preserved c =
    let pulses = c.args.pulses.now in
    let i = c.loop-pulse.pulse-index in
    let n = get_or pulses i (event.Fixed fixed.Tmr) in
    all_at (λ n. IsEvent n × (is_set c.args.set.now n ≡ true)) pulses i (event.Fixed fixed.Tmr) c.loop-pulse-test.true c.loop-pulse.invariant (c.is_missing.ensures.range, not-false (is_set c.args.set.now n) (sym c.is_missing.ensures.value ∙ c.if-is_missing.false))

pub returns : goal.returns
returns c = subst (AllSet c.args.set.now) (all_taken c.args.pulses.now c.loop-pulse.pulse-index c.loop-pulse-test.false) c.loop-pulse.invariant
