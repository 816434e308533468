use Rattle.std.proofs.Common.{rules}
use Rattle.hart.specs.Event.{trapped}
use Rattle.hart.proofs.state.Hart.trapping.Goals as goal

pub returns : goal.returns
returns c = c.settle.ensures.finishes (trapped c.args.self c.args.t) (λ s e. search rules)
