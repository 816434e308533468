use Rattle.bits.specs.Field.{put}
use Rattle.registers.specs.Rules.{legal}
use Rattle.registers.proofs.rules.supervisor_legal.Goals as goal

pub returns : goal.returns
unfolding legal put
returns c = rw (c.masked-3.ensures, c.masked-2.ensures, c.masked.ensures, c.mode_fits.ensures)
