use Rattle.privilege.proofs.Modes.{five}
use Rattle.privilege.proofs.Context.is_among_five.Goals as goal

pub returns : goal.returns
returns c = let s = c.args.self in rw c.is.ensures (five s.v s.privilege)
