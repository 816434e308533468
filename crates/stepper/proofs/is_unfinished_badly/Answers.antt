use Rattle.stepper.specs.Press.{unfinished_badly}
use Rattle.stepper.proofs.is_unfinished_badly.Goals as goal

pub returns-in-Going : goal.returns-in-Going
unfolding unfinished_badly
returns-in-Going c = rw (c.is_misplaced.ensures, c.in-Going.is)

pub returns-in-Ended : goal.returns-in-Ended
unfolding unfinished_badly
returns-in-Ended c = rw c.in-Ended.is
