use Rattle.hart.specs.Deliver.{delivered}
use Rattle.hart.proofs.control.Control.deliver.Goals as goal

pub returns : goal.returns
unfolding delivered
returns c = rw (c.delivers_to-to.ensures, c.context.ensures) at c.deliver_to.ensures
