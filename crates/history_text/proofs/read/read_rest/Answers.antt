use Rattle.std.proofs.Common.{◌∙◌}
use Rattle.std.proofs.lemmas.Bool.{iff_false}
use Rattle.history_text.proofs.Guesses.{none_rest}
use Rattle.history_text.proofs.read.read_rest.Goals as goal

pub returns-else-same_text : goal.returns-else-same_text
returns-else-same_text c =
    none_rest c.args.line.now c.job_guess-guess.result c.job_guess-guess.ensures.value (λ same. iff_false c.same_text.ensures c.if-same_text.false (c.as_slice.ensures ∙ (c.text_of_rest.ensures.text ∙ same)))
