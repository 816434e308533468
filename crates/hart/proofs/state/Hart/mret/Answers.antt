use Rattle.std.proofs.Common.{rules}
use Rattle.hart.specs.Event.{done}
use Rattle.hart.specs.Return.{returned_m, mret}
use Rattle.hart.proofs.state.Hart.mret.Goals as goal

pub returns : goal.returns
unfolding mret
returns c = rw (c.mret.ensures, c.context.ensures) at c.settle.ensures.finishes (done (returned_m c.args.self)) (λ s e. search rules)
