use Rattle.privilege.proofs.Context.has_stray_mprv.Goals as goal

pub returns : goal.returns
returns c = rw (c.is.ensures, c.get.ensures)
