use Rattle.instructions.proofs.hfence_vvma.Goals as goal

pub returns : goal.returns
returns c = rw c.is.ensures
