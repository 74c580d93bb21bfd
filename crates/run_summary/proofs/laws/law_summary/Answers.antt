use Rattle.std.proofs.Common.{reverse}
use Rattle.run_summary.proofs.Drawn.{no_skip_anywhere}
use Rattle.run_summary.proofs.Lines.{told_is}
use Rattle.run_summary.proofs.Summed.{summed}
use Rattle.machine_maker.specs.Maker.{made}
use Rattle.run_summary.proofs.laws.law_summary.Goals as goal

pub returns-clause-sums : goal.returns-clause-sums
returns-clause-sums c = λ number size history ok complete. summed number size history ok complete (c.law_adds.ensures (made number size) history ok (no_skip_anywhere number size) complete)

pub returns-clause-lines : goal.returns-clause-lines
returns-clause-lines c = λ number size history ok complete.
    told_is number size (reverse history) (summed number size history ok complete (c.law_adds.ensures (made number size) history ok (no_skip_anywhere number size) complete))
