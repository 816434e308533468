use Rattle.instructions.proofs.illegal_with.Goals as goal

pub returns : goal.returns
returns c = rw (c.get.ensures, c.is-2.ensures, c.is.ensures)
