use Rattle.hart.specs.Return.{returned_hs}
use Rattle.hart.proofs.state.Hart.return_hs.Goals as goal

pub returns : goal.returns
unfolding returned_hs
returns c = rw (c.leave_h.ensures, c.leave_hs.ensures, c.get-2.ensures, c.get.ensures)
