use Rattle.std.proofs.Common.{sym, refl, subst}
use Rattle.machine_core.specs.Actors.{IsFirst}
use Rattle.machine_core.proofs.actors.ActorState.first.Goals as goal

pub returns : goal.returns
returns c = subst (IsFirst c.args.number) (sym c.on.ensures) (λ m. (refl, c.begun.ensures.left m, c.begun.ensures.stands m))
