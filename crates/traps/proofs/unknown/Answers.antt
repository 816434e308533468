use mathlib.Core.Path.{refl}
use Rattle.traps.proofs.unknown.Goals as goal

pub returns : goal.returns
returns c = refl
