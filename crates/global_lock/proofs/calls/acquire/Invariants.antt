use Rattle.global_lock.proofs.Retries.{Retrying}
use Rattle.global_lock.proofs.calls.acquire.Given as goal

abbrev pub invariant-loop : goal.invariant-loop
invariant-loop g l = Retrying l.fn.s l.fn.seat l.seat l.seeking
