use Rattle.hart.specs.Deliver.{delivered_m}
use Rattle.hart.proofs.control.Control.deliver_m.Goals as goal

pub returns : goal.returns
unfolding delivered_m
returns c = rw (c.handler.ensures, c.enter_m-s.ensures)
