use mathlib.Core.Path.{sym, ◌∙◌}
use native.Mathlib.Omega.{arith}
use Rattle.stepper.proofs.Moves.{from-off, from_bad, from-root}
use Rattle.stepper.proofs.position.begin.Goals as goal

pub returns-then-levels-eq0 : goal.returns-then-levels-eq0
returns-then-levels-eq0 c =
    let a = c.args in
    c.enter.ensures ∙ sym (from-off a.base a.len a.a a.a.first.levels c.if-levels-eq0.true)

pub returns-then-not-is_extended : goal.returns-then-not-is_extended
returns-then-not-is_extended c =
    let a = c.args in
    rw (
      c.page_fault.ensures,
      from_bad a.base a.len a.a a.a.first.levels (omega (arith, c.if-levels-eq0.false)) (sym c.is_extended.ensures ∙ c.if-not-is_extended.true),
    )

pub returns : goal.returns
returns c =
    let a = c.args in
    c.enter-2.ensures ∙ sym (from-root a.base a.len a.a a.a.first.levels c.index.result (omega (arith, c.if-levels-eq0.false))
    (sym c.is_extended.ensures ∙ c.if-not-is_extended.false) c.index.ensures.value)
