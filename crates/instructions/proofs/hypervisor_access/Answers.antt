use Rattle.instructions.proofs.hypervisor_access.Goals as goal

pub returns : goal.returns
returns c = rw (c.get.ensures, c.is.ensures)
