use Rattle.std.proofs.Common.{◌≡◌, true, ◌&&◌, eqb}
use Rattle.bits.specs.Field.{has}
use Rattle.delivery.proofs.delivers_to.Goals as goal

pub returns-then-is-has : goal.returns-then-is-has
returns-then-is-has c = rw (rw (c.is.ensures, c.has.ensures) at c.if-is-has.true)

pub returns-then-c-has : goal.returns-then-c-has
returns-then-c-has c =
    let a = c.args in
    let delegated : (eqb a.c.v 1 && has a.cause a.hedeleg) ≡ true = rw c.has-2.ensures at c.if-c-has.true in
    rw (
      rw (c.is.ensures, c.has.ensures) at c.if-is-has.false,
      delegated,
    )

pub returns : goal.returns
returns c =
    rw (
      rw (c.is.ensures, c.has.ensures) at c.if-is-has.false,
      rw c.has-2.ensures at c.if-c-has.false,
    )
