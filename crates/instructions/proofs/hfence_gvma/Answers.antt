use Rattle.instructions.proofs.hfence_gvma.Goals as goal

pub returns : goal.returns
returns c = rw c.illegal_with-illegal.ensures
