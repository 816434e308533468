use Rattle.hart.specs.Return.{returned_m}
use Rattle.hart.proofs.state.Hart.return_m.Goals as goal

pub returns : goal.returns
unfolding returned_m
returns c = rw (c.leave_m.ensures, c.get.ensures, c.v_after_mret.ensures)
