use mathlib.Core.Path.{refl}
use Rattle.stepper.specs.Position.{misplaced}
use Rattle.stepper.proofs.position.Position.is_misplaced.Goals as goal

pub returns : goal.returns
unfolding misplaced
returns c = refl
