use Rattle.std.proofs.Common.{rules}
use Rattle.hart.specs.Event.{done}
use Rattle.hart.specs.Return.{returned_s, sret}
use Rattle.hart.proofs.state.Hart.sret.Goals as goal

pub returns : goal.returns
unfolding sret
returns c = rw (c.sret.ensures, c.context.ensures) at c.settle.ensures.finishes (done (returned_s c.args.self)) (λ s e. search rules)
