use Rattle.hart.specs.Wait.{hfence_vvma}
use Rattle.hart.proofs.state.Hart.hfence_vvma.Goals as goal

pub returns : goal.returns
unfolding hfence_vvma
returns c = rw (c.passing.ensures, c.hfence_vvma.ensures, c.context.ensures)
