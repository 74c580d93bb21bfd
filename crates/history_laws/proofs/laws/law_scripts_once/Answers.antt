use Rattle.history_laws.proofs.ActsOnce.{jobs_once, scripts_once}
use Rattle.history_laws.proofs.laws.law_scripts_once.Goals as goal

pub returns-clause-firmware : goal.returns-clause-firmware
returns-clause-firmware c = scripts_once

pub returns-clause-jobs : goal.returns-clause-jobs
returns-clause-jobs c = jobs_once
