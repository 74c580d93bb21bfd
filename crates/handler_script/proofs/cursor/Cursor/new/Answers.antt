use Rattle.handler_script.proofs.Lefts.{fresh_left, fresh_stands}
use Rattle.handler_script.proofs.cursor.Cursor.new.Goals as goal

pub returns-clause-left : goal.returns-clause-left
returns-clause-left c = λ fields ops. fresh_left fields ops _ 0 c.fresh_at.ensures

pub returns-clause-stands : goal.returns-clause-stands
returns-clause-stands c = λ fields ops. fresh_stands fields ops _ c.fresh_at.ensures
