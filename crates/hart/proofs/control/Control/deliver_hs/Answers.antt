use Rattle.hart.specs.Deliver.{delivered_hs}
use Rattle.hart.proofs.control.Control.deliver_hs.Goals as goal

pub returns : goal.returns
unfolding delivered_hs
returns c = rw (c.handler.ensures, c.enter_h-h.ensures, c.enter_s-s.ensures)
