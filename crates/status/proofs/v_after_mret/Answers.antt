use Rattle.status.proofs.v_after_mret.Goals as goal

pub returns : goal.returns
returns c = rw (c.select.ensures, c.get-2.ensures, c.get.ensures)
