use Rattle.hart.proofs.guest.unwalked.Goals as goal

pub returns : goal.returns
returns c = rw c.none.ensures
