use mathlib.Core.Path.{sym, ◌∙◌}
use native.Mathlib.Omega.{arith}
use Rattle.stepper.proofs.Moves.{fault_for_lem, onto-off, onto_bad, onto-root}
use Rattle.stepper.proofs.position.enter.Goals as goal

pub returns-then-levels-eq0 : goal.returns-then-levels-eq0
returns-then-levels-eq0 c =
    let a = c.args in
    rw (c.pass.ensures, c.passed.ensures, onto-off a.base a.len a.a a.first a.entry a.guest a.a.second.levels c.if-levels-eq0.true)

pub returns-then-not-is_small : goal.returns-then-not-is_small
returns-then-not-is_small c =
    let a = c.args in
    rw (
      c.fault-fault.ensures,
      c.left.ensures,
      fault_for_lem a.a a.entry a.guest,
      onto_bad a.base a.len a.a a.first a.entry a.guest a.a.second.levels (omega (arith, c.if-levels-eq0.false)) (sym c.is_small.ensures ∙ c.if-not-is_small.true),
    )

pub returns : goal.returns
returns c =
    let a = c.args in
    c.before-2.ensures ∙ sym (onto-root a.base a.len a.a a.first a.entry a.guest a.a.second.levels c.root_index.result (omega (arith, c.if-levels-eq0.false))
    (sym c.is_small.ensures ∙ c.if-not-is_small.false) c.root_index.ensures.value)
