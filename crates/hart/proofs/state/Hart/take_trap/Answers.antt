use Rattle.std.proofs.Common.{ap}
use Rattle.hart.specs.declared.state.Hart.{Hart}
use Rattle.hart.specs.declared.event.Outcome.TheVariants.{Trapped}
use Rattle.hart.specs.Event.{step}
use Rattle.hart.proofs.state.Hart.take_trap.Goals as goal

pub returns : goal.returns
returns c = ap (λ (h : Hart). step h (Trapped c.args.t.cause)) c.deliver-taken.ensures
