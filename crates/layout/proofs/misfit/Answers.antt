use borrow.Author.Tests.{eq-eqb, ne_eqb}
use Rattle.layout.specs.Taken.{misfit}
use Rattle.layout.proofs.misfit.Goals as goal

pub returns-then-hart-ne-HART-clause-test : goal.returns-then-hart-ne-HART-clause-test
unfolding misfit
returns-then-hart-ne-HART-clause-test c = simp (ne_eqb _ _ c.if-hart-ne-HART.true)

pub returns-else-hart-ne-HART-clause-test : goal.returns-else-hart-ne-HART-clause-test
unfolding misfit
returns-else-hart-ne-HART-clause-test c = simp (eq-eqb _ _ c.if-hart-ne-HART.false)
