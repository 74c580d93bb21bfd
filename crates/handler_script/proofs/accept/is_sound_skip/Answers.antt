use Rattle.std.proofs.Common.{◌≡◌, sym, ap, ◌∙◌}
use Rattle.std.specs.Prelude.{nat_le}
use Rattle.handler_script.specs.Accepts.{is_sound_skip}
use Rattle.handler_script.proofs.Runs.{sound_within}
use Rattle.handler_script.proofs.accept.is_sound_skip.Goals as goal

pub returns-then-count-gt0 : goal.returns-then-count-gt0
returns-then-count-gt0 c rest e =
    ap (λ k. nat_le k c.args.run) c.from.ensures ∙ sound_within c.in-Skip.field-0 c.in-Skip.count c.args.run rest c.if-count-gt0.true e
    ∙ sym (ap (λ o. is_sound_skip o rest) c.in-Skip.is)
