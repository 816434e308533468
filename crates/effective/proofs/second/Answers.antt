use Rattle.effective.specs.Effective.{second_root}
use Rattle.effective.proofs.second.Goals as goal

pub returns-then-m : goal.returns-then-m
unfolding second_root
returns-then-m c = rw c.if-m.true c.tables.ensures

pub returns : goal.returns
unfolding second_root
returns c = rw c.if-m.false c.off.ensures
