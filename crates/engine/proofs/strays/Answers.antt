use borrow.Author.Tests.{eq-eqb, ne_eqb}
use Rattle.engine.specs.Place.{strays}
use Rattle.engine.proofs.strays.Goals as goal

pub returns-then-levels-ne0 : goal.returns-then-levels-ne0
unfolding strays
returns-then-levels-ne0 c = simp (ne_eqb _ _ c.if-levels-ne0.true, c.is_extended.ensures)

pub returns-else-levels-ne0 : goal.returns-else-levels-ne0
unfolding strays
returns-else-levels-ne0 c = simp (eq-eqb _ _ c.if-levels-ne0.false)
