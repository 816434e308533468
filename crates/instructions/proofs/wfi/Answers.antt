use Rattle.instructions.proofs.wfi.Goals as goal

pub returns : goal.returns
returns c = rw (c.virtual_with.ensures, c.is-2.ensures, c.get.ensures, c.is.ensures)
