use Rattle.hart.proofs.Stopped.{answered}
use Rattle.hart.proofs.control.Control.answer_halt.Goals as goal

pub returns : goal.returns
returns c = answered _ c.halt-outcome.result.outcome c.halt-outcome.ensures
