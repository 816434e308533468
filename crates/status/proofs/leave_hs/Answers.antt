use Rattle.status.proofs.leave_hs.Goals as goal

pub returns : goal.returns
returns c = rw (c.put.ensures, c.leave_s.ensures)
