use mathlib.Core.Path.{refl}
use Rattle.bits.specs.Field.{put}
use Rattle.registers.proofs.file.reset.Goals as goal

pub returns : goal.returns
unfolding put
returns c = refl
