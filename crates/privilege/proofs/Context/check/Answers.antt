use Rattle.privilege.proofs.Context.check.Goals as goal

pub returns : goal.returns
returns c = rw (c.has_stray_mprv.ensures, c.is_among_five.ensures)
