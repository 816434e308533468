use Rattle.stepper.specs.Press.{started}
use Rattle.stepper.proofs.Place.start.Goals as goal

pub returns : goal.returns
unfolding started
returns c = rw (c.none.ensures, c.first.ensures, c.paging.ensures, c.context.ensures)
