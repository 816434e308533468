use borrow.Author.Tests.{eq-eqb, ne_eqb}
use Rattle.engine.specs.Place.{start_guest}
use Rattle.engine.proofs.start.Goals as goal

pub returns-then-levels-eq0 : goal.returns-then-levels-eq0
unfolding start_guest
returns-then-levels-eq0 c = simp (eq-eqb _ _ c.if-levels-eq0.true)

pub returns : goal.returns
unfolding start_guest
returns c = simp (ne_eqb _ _ c.if-levels-eq0.false, c.index.ensures.value)
