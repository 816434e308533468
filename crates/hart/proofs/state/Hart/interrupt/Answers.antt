use Rattle.std.proofs.Common.{rules}
use Rattle.interrupts.specs.Interrupts.{chosen}
use Rattle.hart.specs.Hart.{context, lines}
use Rattle.hart.specs.Interrupt.{taking, interrupt}
use Rattle.hart.proofs.state.Hart.interrupt.Goals as goal

pub returns : goal.returns
unfolding interrupt
returns c = let h = c.args.self in c.settle.ensures.finishes (taking h (chosen (context h) (lines h))) (λ s e. search rules)
