-- "A new event takes the interrupt that is due .. or leaves the hart as it is." (2026-01)
use Rattle.std.specs.Prelude.{ℕ, false, Option, Some, None, Ok}
use Rattle.privilege.specs.Mode.{gives}
use Rattle.delivery.specs.declared.Target.{Target}
use Rattle.interrupts.specs.Interrupts.{chosen, interruption}
use Rattle.hart.specs.declared.state.Hart.{Hart}
use Rattle.hart.specs.declared.event.Outcome.TheVariants.{Interrupted}
use Rattle.hart.specs.declared.event.Step.{Step}
use Rattle.hart.specs.Hart.{context, lines}
use Rattle.hart.specs.Deliver.{delivered_to}
use Rattle.hart.specs.Event.{no_value, step, done, settled}

-- taken, or none is due
abbrev pub taking : Hart → Option (Target × ℕ) → Step
taking h (Some (to, n)) = step (delivered_to to h (interruption to n)) (Interrupted n)
taking h None = done h

unfoldable pub interrupt : Hart → Step
interrupt h = settled h (Ok tt) (gives false false) no_value (taking h (chosen (context h) (lines h)))
