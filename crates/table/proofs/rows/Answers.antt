use mathlib.Core.Path.{refl}
use Rattle.bits.specs.Field.{put}
use Rattle.table.proofs.rows.Goals as goal

pub returns : goal.returns
unfolding put
returns c = refl
