use Rattle.access.proofs.Widths.{powered}
use Rattle.access.proofs.is_misaligned.Goals as goal

pub overflow_sub-t : goal.overflow_sub-t
overflow_sub-t c = (powered c.args.address c.args.width c.requires).0

pub returns : goal.returns
returns c = let a = c.args in rw (c.by.ensures, (powered a.address a.width c.requires).1)
