use Rattle.instructions.proofs.sfence_vma.Goals as goal

pub returns : goal.returns
returns c = rw (c.virtual_with.ensures, c.illegal_with.ensures)
