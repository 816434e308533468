use Rattle.hart.proofs.state.Hart.moved.Goals as goal

pub returns : goal.returns
returns c = rw c.next.ensures
