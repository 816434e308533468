use Rattle.registers.proofs.rules.mode_fits.Goals as goal

pub returns : goal.returns
returns c = rw c.get-m.ensures
