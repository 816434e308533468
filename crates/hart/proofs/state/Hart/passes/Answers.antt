use Rattle.hart.specs.Hart.{passes}
use Rattle.hart.proofs.state.Hart.passes.Goals as goal

pub returns : goal.returns
unfolding passes
returns c = rw (c.check.ensures, c.pass.ensures, c.context-c.ensures)
