use Rattle.bits.specs.Field.{get}
use Rattle.bits.proofs.Shifts.{one_up, one_up_pos}
use Rattle.bits.proofs.Field.get.Goals as goal

pub nonzero_rem-result : goal.nonzero_rem-result
nonzero_rem-result c = one_up_pos c.args.self.width c.requires.width

pub returns : goal.returns
unfolding get
returns c = rw (one_up c.args.self.width c.requires.width)
