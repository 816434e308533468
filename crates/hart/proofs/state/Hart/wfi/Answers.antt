use Rattle.hart.specs.Wait.{wfi}
use Rattle.hart.proofs.state.Hart.wfi.Goals as goal

pub returns : goal.returns
unfolding wfi
returns c = rw (c.passing.ensures, c.wfi.ensures, c.context.ensures)
