use Rattle.std.proofs.Common.{arith}
use Rattle.delivery.proofs.handler.Goals as goal

pub returns-then-has : goal.returns-then-has
returns-then-has c =
    rw (c.wrapping_add_u64.ensures.value, rw (c.has-2.ensures, c.has.ensures) at c.if-has.true) (omega arith)

pub returns : goal.returns
returns c = rw (rw (c.has-2.ensures, c.has.ensures) at c.if-has.false)
