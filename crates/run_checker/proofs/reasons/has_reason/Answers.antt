use Rattle.std.proofs.Common.{reverse}
use Rattle.run_checker.proofs.Given.{any_reason}
use Rattle.run_checker.proofs.reasons.has_reason.Goals as goal

pub returns : goal.returns
returns c =
    any_reason c.args.board.now.machine (reverse c.args.board.now.entries) c.args.actor c.args.ends.now c.has_own.result c.answers.result c.either.result c.requires c.has_own.ensures c.answers.ensures c.either.ensures
