use Rattle.status.proofs.enter_s.Goals as goal

pub returns : goal.returns
returns c = rw (c.put-3.ensures, c.put-2.ensures, c.put.ensures, c.get.ensures)
