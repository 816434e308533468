use mathlib.Core.Path.{sym, ◌∙◌}
use Rattle.stepper.specs.Position.{before}
use Rattle.stepper.proofs.position.Position.before.Goals as goal

pub returns-then-inside : goal.returns-then-inside
unfolding before
returns-then-inside c = rw (sym c.inside.ensures ∙ c.if-inside.true)

pub returns : goal.returns
unfolding before
returns c = rw (c.access_fault.ensures, sym c.inside.ensures ∙ c.if-inside.false)
