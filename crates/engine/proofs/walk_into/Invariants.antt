use lib.ListN.{length}
use Rattle.stages.specs.Stages.{look}
use Rattle.engine.proofs.Walks.{Walks}
use Rattle.engine.proofs.walk_into.Given as goal

abbrev pub invariant-loop-m : goal.invariant-loop-m
invariant-loop-m l = Walks (look l.image.base l.image.bytes.now) l.image.base (length l.image.bytes.now) l.a l.initial.out l.from l.out l.next l.left l.guest

abbrev pub decreases-loop-m : goal.decreases-loop-m
decreases-loop-m l = l.left
