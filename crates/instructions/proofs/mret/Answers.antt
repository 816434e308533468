use Rattle.instructions.proofs.mret.Goals as goal

pub returns : goal.returns
returns c = rw c.is.ensures
