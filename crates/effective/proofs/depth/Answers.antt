use mathlib.Core.Path.{refl}
use Rattle.bits.specs.Every.{every}
use Rattle.effective.specs.Effective.{depth}
use Rattle.effective.proofs.Roots.{packed}
use Rattle.effective.proofs.depth.Goals as goal

pub returns : goal.returns
unfolding every depth
returns c = packed _ refl _ c.requires
