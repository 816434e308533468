use mathlib.Core.Path.{◌∙◌}
use borrow.Author.Tests.{eq-eqb}
use Rattle.layout.specs.Taken.{put}
use Rattle.layout.proofs.put.Goals as goal

pub returns-then-misfit : goal.returns-then-misfit
unfolding put
returns-then-misfit g c = rw (← c.SIZE.ensures, ← c.misfit.ensures.test, c.if-misfit.true)

pub returns : goal.returns
unfolding put
returns g c = rw (← c.SIZE.ensures, ← c.misfit.ensures.test, c.if-misfit.false, c.write_to.ensures, eq-eqb _ _ (c.if-misfit.ensures.fits.1 ∙ c.SIZE.ensures))
