use Rattle.interrupts.proofs.exception.Goals as goal

pub returns : goal.returns
returns c = rw c.written.ensures
