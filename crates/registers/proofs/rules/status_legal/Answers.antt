use Rattle.bits.specs.Field.{put}
use Rattle.registers.specs.Rules.{legal}
use Rattle.registers.proofs.rules.status_legal.Goals as goal

pub returns : goal.returns
unfolding legal put
returns c = rw c.masked.ensures
