use Rattle.std.proofs.Common.{ap}
use Rattle.world.proofs.SharedTurns.{may_act}
use Rattle.world.proofs.table_world.TableWorldWorld.turn.Goals as goal

pub act_in-requires-clause-may : goal.act_in-requires-clause-may
act_in-requires-clause-may g c = may_act _ c.args.collect _ _ _ c.enter.new.seat.view c.requires.may.1 c.law_own.ensures c.requires.collects (ap (λ v. v.who) c.in-Turn.ensures.entered.2)
