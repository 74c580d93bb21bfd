use Rattle.std.proofs.Common.{◌<◌, ◌≤◌, ◌∙◌, length, arith}
use Rattle.history_text.proofs.Numbers.{bound_fits, bound_step, value_step}
use Rattle.history_text.proofs.guess.number_guess.Goals as goal

pub overflow_mul-number : goal.overflow_mul-number
overflow_mul-number c =
    let fits = bound_fits c.loop-digit.number c.loop-digit.digit-index c.loop-digit.invariant.bound (omega (arith, c.requires)) in
    omega (arith, fits)

pub overflow_add-number : goal.overflow_add-number
overflow_add-number c =
    let fits = bound_fits c.loop-digit.number c.loop-digit.digit-index c.loop-digit.invariant.bound (omega (arith, c.requires)) in
    omega (arith, fits, c.from.ensures, c.digit_of.ensures.small)

pub loop-digit-preserved : goal.loop-digit-preserved
loop-digit-preserved c = record {
  value = value_step c.args.digits.now c.loop-digit.digit-index c.loop-digit.number c.from.result (omega arith) c.loop-digit.invariant.value (c.from.ensures ∙ c.digit_of.ensures.value);
  bound = bound_step c.loop-digit.number c.from.result c.loop-digit.digit-index c.loop-digit.invariant.bound (omega (arith, c.from.ensures, c.digit_of.ensures.small));
}
