use Rattle.std.proofs.Common.{◌≡◌, ◌∙◌, sym}
use Rattle.hart.specs.Event.{settled}
use Rattle.hart.proofs.state.Hart.settle.Goals as goal

pub returns-in-Ok-clause-finishes : goal.returns-in-Ok-clause-finishes
unfolding settled
returns-in-Ok-clause-finishes g c finished one = rw (← c.in-Ok.ensures) (one _ c.finish.ensures)

pub returns-in-Err-clause-finishes : goal.returns-in-Err-clause-finishes
unfolding settled
returns-in-Err-clause-finishes g c finished one = rw (← c.in-Err.ensures) (c.on.ensures ∙ rw c.control.ensures at c.halt-ended.ensures)

pub returns-in-Err-clause-halts : goal.returns-in-Err-clause-halts
returns-in-Err-clause-halts g c halt stopped =
    let stop = c.in-Err.ensures in
    let same : c.in-Err.halt ≡ halt = cc in
    rw (sym same) (c.on.ensures ∙ rw c.control.ensures at c.halt-ended.ensures)
