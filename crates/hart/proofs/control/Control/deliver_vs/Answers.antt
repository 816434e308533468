use Rattle.hart.specs.Deliver.{delivered_vs}
use Rattle.hart.proofs.control.Control.deliver_vs.Goals as goal

pub returns : goal.returns
unfolding delivered_vs
returns c = rw (c.handler.ensures, c.enter_s-s.ensures)
