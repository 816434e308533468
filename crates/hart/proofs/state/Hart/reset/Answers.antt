use Rattle.hart.proofs.state.Hart.reset.Goals as goal

pub returns : goal.returns
returns c = rw c.reset.ensures
