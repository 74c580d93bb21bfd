use Rattle.history_laws.proofs.JobOrder.{jobs_done, jobs_in_order}
use Rattle.history_laws.proofs.laws.law_jobs_in_order.Goals as goal

pub returns-clause-legal : goal.returns-clause-legal
returns-clause-legal c = jobs_in_order

pub returns-clause-complete : goal.returns-clause-complete
returns-clause-complete c = jobs_done
