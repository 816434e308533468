use mathlib.Core.Path.{sym}
use borrow.Author.Tests.{eq-eqb, ne_eqb}
use Rattle.table.proofs.Listed.{lookup-found}
use Rattle.exports.specs.Calls.{place}
use Rattle.exports.proofs.lookup.balcumentri_place.Goals as goal

pub returns-in_default : goal.returns-in_default
unfolding place
returns-in_default c = rw (← c.in_default.ensures)

pub reach-at-requires : goal.reach-at-requires
reach-at-requires c = (lookup-found _ _ _ (sym c.in-Some.ensures)).below

pub returns-then-at : goal.returns-then-at
unfolding place
returns-then-at c = rw (← c.in-Some.ensures, c.reach-at.ensures, eq-eqb _ _ (rw c.reach-at.ensures at c.if-at.true))

pub returns : goal.returns
unfolding place
returns c = rw (← c.in-Some.ensures, ne_eqb _ _ (rw c.reach-at.ensures at c.if-at.false))
