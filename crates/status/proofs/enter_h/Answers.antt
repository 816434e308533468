use Rattle.bits.proofs.Bools.{number_of}
use Rattle.status.proofs.enter_h.Goals as goal

pub returns : goal.returns
returns c =
    rw (
      c.put-3.ensures,
      c.put-2.ensures,
      c.put.ensures,
      c.from-gva.ensures,
      number_of c.args.flag,
      c.select-spvp.ensures,
      c.get.ensures,
    )
