use Rattle.hart.specs.Trap.{trap}
use Rattle.hart.proofs.state.Hart.trap.Goals as goal

pub returns : goal.returns
unfolding trap
returns c = rw (c.trapping.ensures, c.check.ensures, c.context.ensures)
