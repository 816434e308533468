use mathlib.Core.Path.{sym, ◌∙◌}
use Rattle.stepper.specs.Press.{unfit_place}
use Rattle.stepper.proofs.Place.refusal.Goals as goal

pub returns-then-base-self : goal.returns-then-base-self
unfolding unfit_place
returns-then-base-self c = rw (sym c.refused.ensures ∙ c.if-refused.false, ← c.access.ensures, ← c.is_unfinished_badly-bad.ensures, c.if-base-self.true)

pub returns : goal.returns
unfolding unfit_place
returns c = rw (sym c.refused.ensures ∙ c.if-refused.false, ← c.access.ensures, ← c.is_unfinished_badly-bad.ensures, c.if-base-self.false)
