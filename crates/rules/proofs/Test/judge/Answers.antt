use mathlib.Core.Path.{sym}
use mathlib.Core.Bool.{true, false}
use Prim.Native.Nat.{◌+◌, ◌*◌}
use native.Mathlib.Omega.{arith}
use borrow.Author.Tests.{eq-eqb, ne_eqb}
use Rattle.bits.proofs.Shifts.{one_up_pos}
use Rattle.rules.proofs.Masks.{judged-pointer, judged-leaf, leaf_fits}
use Rattle.rules.proofs.Test.judge.Goals as goal

pub returns-then-level-eq0 : goal.returns-then-level-eq0
returns-then-level-eq0 c =
    let a = c.args in
    λ n p. rw (judged-pointer n a.level a.address a.e c.if-e-eq1.true, eq-eqb _ _ c.if-level-eq0.true)

pub returns-then-e-eq1 : goal.returns-then-e-eq1
returns-then-e-eq1 c =
    let a = c.args in
    λ n p. rw (judged-pointer n a.level a.address a.e c.if-e-eq1.true, ne_eqb _ _ c.if-level-eq0.false)

pub overflow_sub-low : goal.overflow_sub-low
overflow_sub-low c = one_up_pos (12 + 9 * c.args.level) (omega arith)

pub overflow_add-result : goal.overflow_add-result
overflow_add-result c =
    let a = c.args in
    omega (arith, leaf_fits a.level a.address a.e c.requires)

pub returns-then-asked-e : goal.returns-then-asked-e
returns-then-asked-e c =
    let a = c.args in
    λ n p. sym (judged-leaf n a.level a.address a.e c.if-e-eq1.false c.requires a.self p true c.if-asked-e.true)

pub returns : goal.returns
returns c =
    let a = c.args in
    λ n p. sym (judged-leaf n a.level a.address a.e c.if-e-eq1.false c.requires a.self p false c.if-asked-e.false)
