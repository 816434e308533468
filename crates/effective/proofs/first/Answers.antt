use borrow.Author.Tests.{eq-eqb, ne_eqb}
use Rattle.effective.specs.Effective.{first_root}
use Rattle.effective.proofs.first.Goals as goal

pub returns-then-m : goal.returns-then-m
unfolding first_root
returns-then-m c = rw c.if-m.true c.tables.ensures

pub returns-then-m-eq3 : goal.returns-then-m-eq3
unfolding first_root
returns-then-m-eq3 c = rw (c.if-m.false, eq-eqb _ _ c.if-m-eq3.true) c.off.ensures

pub returns : goal.returns
unfolding first_root
returns c = rw (c.if-m.false, ne_eqb _ _ c.if-m-eq3.false) c.tables-2.ensures
