use Rattle.machine_history.proofs.Fitting.{left_fits}
use Rattle.machine_history.proofs.laws.law_acts_fit.Goals as goal

pub returns : goal.returns
returns c m past a ok = left_fits m ok past a
