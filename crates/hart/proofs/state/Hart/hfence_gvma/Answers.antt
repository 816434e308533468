use Rattle.hart.specs.Wait.{hfence_gvma}
use Rattle.hart.proofs.state.Hart.hfence_gvma.Goals as goal

pub returns : goal.returns
unfolding hfence_gvma
returns c = rw (c.passing.ensures, c.hfence_gvma.ensures, c.context.ensures)
