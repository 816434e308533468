use Rattle.std.proofs.Common.{rules}
use Rattle.hart.specs.Event.{done, moved}
use Rattle.hart.proofs.state.Hart.passing.Goals as goal

pub returns : goal.returns
returns c = c.settle.ensures.finishes (done (moved c.args.self)) (λ s e. search rules)
