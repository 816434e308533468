use Rattle.bits.specs.Field.{put}
use Rattle.registers.specs.Rules.{legal}
use Rattle.registers.proofs.rules.machine_legal.Goals as goal

pub returns : goal.returns
unfolding legal put
returns c =
    rw (
      c.masked-7.ensures,
      c.masked-6.ensures,
      c.masked-5.ensures,
      c.masked-4.ensures,
      c.masked-3.ensures,
      c.masked-2.ensures,
      c.masked.ensures,
      c.mpp_fits.ensures,
    )
