use Rattle.bits.proofs.Bools.{number_of}
use Rattle.status.proofs.enter_m.Goals as goal

pub returns : goal.returns
returns c =
    rw (
      c.put-5.ensures,
      c.put-4.ensures,
      c.put-3.ensures,
      c.put-2.ensures,
      c.put.ensures,
      c.get.ensures,
      c.from-gva.ensures,
      number_of c.args.flag,
    )
