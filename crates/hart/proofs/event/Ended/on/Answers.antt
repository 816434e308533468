use Rattle.hart.proofs.event.Ended.on.Goals as goal

pub returns : goal.returns
returns c = rw c.on.ensures
