use Rattle.hart.proofs.state.Hart.access.Goals as goal

pub access-outcome-requires-clause-checked : goal.access-outcome-requires-clause-checked
access-outcome-requires-clause-checked c = rw c.control.ensures c.passes-passed.ensures

pub returns : goal.returns
returns c = rw c.on.ensures (rw c.control.ensures at c.access-outcome.ensures)
