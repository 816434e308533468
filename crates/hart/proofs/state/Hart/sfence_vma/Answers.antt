use Rattle.hart.specs.Wait.{sfence_vma}
use Rattle.hart.proofs.state.Hart.sfence_vma.Goals as goal

pub returns : goal.returns
unfolding sfence_vma
returns c = rw (c.passing.ensures, c.sfence_vma.ensures, c.context.ensures)
