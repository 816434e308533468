use Rattle.hart.specs.Trap.{ebreak}
use Rattle.hart.proofs.state.Hart.ebreak.Goals as goal

pub returns : goal.returns
unfolding ebreak
returns c = rw (c.trapping.ensures, c.breakpoint.ensures)
