use mathlib.Core.Path.{sym, ◌∙◌}
use Rattle.listing.specs.Taken.{put_kind}
use Rattle.listing.proofs.put_translation.Goals as goal

pub returns-then-misfit : goal.returns-then-misfit
unfolding put_kind
returns-then-misfit c = rw (← c.misfit.ensures.test, c.if-misfit.true)

pub returns-in_default : goal.returns-in_default
unfolding put_kind
returns-in_default c = rw (← c.misfit.ensures.test, c.if-misfit.false, sym c.try_from.ensures ∙ c.in_default.is)

pub returns : goal.returns
unfolding put_kind
returns c = rw (← c.misfit.ensures.test, c.if-misfit.false, sym c.try_from.ensures ∙ c.in-Ok.is, c.translate_into.ensures)
