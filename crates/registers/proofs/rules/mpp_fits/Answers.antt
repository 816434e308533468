use Rattle.registers.proofs.rules.mpp_fits.Goals as goal

pub returns : goal.returns
returns c = rw c.get-p.ensures
