use Rattle.std.proofs.Common.{ap, sym, ◌∙◌}
use Rattle.machine_core.specs.Lock.{lock_after}
use Rattle.machine_core.proofs.lock.LockState.after.Goals as goal

pub returns-in-Claim : goal.returns-in-Claim
returns-in-Claim c = c.claimed.ensures c.args.actor ∙ ap (λ d. lock_after c.args.actor d c.args.self) (sym c.in-Claim.is)
