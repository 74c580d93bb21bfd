use Rattle.std.proofs.Common.{reverse}
use Rattle.machine_core.proofs.Resting.{rest_is}
use Rattle.machine_core.proofs.board.Board.rest.Goals as goal

pub returns : goal.returns
returns c =
    rest_is c.args.self.now.machine (reverse c.args.self.now.entries) c.is_quiet-events.result c.no_code_waits-codes.result c.both-quiet.result c.all_started.result c.none_runs.result c.both-jobs.result c.is_closed.result c.is_free.result c.both-lock.result c.both-work.result c.both.result
    c.is_quiet-events.ensures c.no_code_waits-codes.ensures c.both-quiet.ensures c.all_started.ensures c.none_runs.ensures c.both-jobs.ensures c.is_closed.ensures c.is_free.ensures c.both-lock.ensures c.both-work.ensures c.both.ensures
