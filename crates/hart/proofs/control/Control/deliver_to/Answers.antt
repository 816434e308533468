use Rattle.hart.proofs.control.Control.deliver_to.Goals as goal

pub returns-in-M : goal.returns-in-M
returns-in-M c = rw c.in-M.is c.deliver_m.ensures

pub returns-in-HS : goal.returns-in-HS
returns-in-HS c = rw c.in-HS.is c.deliver_hs.ensures

pub returns-in-VS : goal.returns-in-VS
returns-in-VS c = rw c.in-VS.is c.deliver_vs.ensures
