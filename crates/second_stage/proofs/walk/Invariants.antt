use Rattle.stages.specs.Stages.{look}
use Rattle.second_stage.proofs.Descents.{Descends}
use Rattle.second_stage.proofs.walk.Given as goal

abbrev pub invariant-loop-j : goal.invariant-loop-j
invariant-loop-j l = Descends (look l.image.base l.image.bytes.now) l.a l.left l.guest l.initial.out l.from l.out l.next l.level l.at

abbrev pub decreases-loop-j : goal.decreases-loop-j
decreases-loop-j l = l.level
