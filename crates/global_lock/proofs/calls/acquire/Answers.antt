use Rattle.global_lock.proofs.Retries.{goes_on}
use Rattle.global_lock.proofs.calls.acquire.Goals as goal

pub loop-preserved : goal.loop-preserved
loop-preserved g c = goes_on _ _ _ _ _ _ _ _ c.loop.invariant c.try_lock.ensures.same c.in-Moved.ensures.tries
