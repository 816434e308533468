use Rattle.traps.proofs.never_flagged.Goals as goal

pub returns : goal.returns
returns c = rw c.is_call.ensures
