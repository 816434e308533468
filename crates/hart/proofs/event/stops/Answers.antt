use Rattle.std.proofs.lemmas.Result.{err_from_is_err_and}
use Rattle.hart.proofs.event.stops.Goals as goal

pub returns-then-not-passed : goal.returns-then-not-passed
returns-then-not-passed c h e = rw (← e, c.if-not-passed.true)

pub returns-in_err-own : goal.returns-in_err-own
returns-in_err-own c h e =
    let p = err_from_is_err_and c.from_residual.result c.from_residual.ensures.1 in
    rw (← e, c.if-not-passed.false, c.in_err-own.was, p.1, p.2)

pub returns-then-verdict : goal.returns-then-verdict
returns-then-verdict c h e = rw (← e, c.if-not-passed.false, c.in_ok-own.was, c.if-verdict.true)

pub returns-then-verdict-2 : goal.returns-then-verdict-2
returns-then-verdict-2 c h e = rw (← e, c.if-not-passed.false, c.in_ok-own.was, c.if-verdict.false, c.if-verdict-2.true)

pub returns : goal.returns
returns c h e = rw (← e, c.if-not-passed.false, c.in_ok-own.was, c.if-verdict.false, c.if-verdict-2.false)
