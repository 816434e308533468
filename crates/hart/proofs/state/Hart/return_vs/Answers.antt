use Rattle.hart.specs.Return.{returned_vs}
use Rattle.hart.proofs.state.Hart.return_vs.Goals as goal

pub returns : goal.returns
unfolding returned_vs
returns c = rw (c.leave_s.ensures, c.get.ensures)
