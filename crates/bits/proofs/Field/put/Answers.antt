use Rattle.bits.specs.Field.{put}
use Rattle.bits.proofs.Shifts.{one_up_pos, ones-code, place-code}
use Rattle.bits.proofs.Field.put.Goals as goal

pub overflow_sub-m : goal.overflow_sub-m
overflow_sub-m c = one_up_pos c.args.self.width c.requires.width

pub returns : goal.returns
unfolding put
returns c =
    rw (
      ones-code c.args.self c.requires,
      place-code c.args.self c.requires,
    )
