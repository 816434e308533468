use mathlib.Core.Path.{sym, ◌∙◌}
use native.Mathlib.Omega.{arith}
use Rattle.stages.specs.Stages.{look, machine}
use Rattle.second_stage.specs.Words.{Sees}
use Rattle.second_stage.proofs.Descents.{off, too_large, from-root, outside, bad, leaf, bounds, further}
use Rattle.second_stage.proofs.walk.Goals.{In-Some}
use Rattle.second_stage.proofs.walk.Goals as goal

-- the entry that was read, and what it is
sees : (k : In-Some) → let a = k.args in
    let l = k.loop-j in
    Sees (look a.image.base a.image.bytes.now) k.test-t.result 2 l.level a.guest.0 (machine l.at) l.next l.out k.inspect-seen.new.out k.in-Some.j
sees k = rw k.in-Some.is at k.inspect-seen.ensures

pub returns-then-levels-eq0 : goal.returns-then-levels-eq0
returns-then-levels-eq0 c =
    let a = c.args in
    rw c.passed.ensures (off (look a.image.base a.image.bytes.now) a.a a.left a.guest a.out.now a.from c.if-levels-eq0.true)

pub returns-then-not-is_small : goal.returns-then-not-is_small
returns-then-not-is_small c =
    let a = c.args in
    rw c.fault.ensures
    (too_large (look a.image.base a.image.bytes.now) a.a a.left a.guest a.out.now a.from (omega (arith, c.if-levels-eq0.false)) (sym c.is_small.ensures ∙ c.if-not-is_small.true))

pub loop-j-init : goal.loop-j-init
loop-j-init c =
    let a = c.args in
    from-root (look a.image.base a.image.bytes.now) a.a a.left a.guest a.out.now a.from (omega (arith, c.if-levels-eq0.false))
    (sym c.is_small.ensures ∙ c.if-not-is_small.false) c.requires.room c.root_index.result c.root_index.ensures.value

pub returns-in_default : goal.returns-in_default
returns-in_default c = rw c.access_fault.ensures (outside c.loop-j.invariant (rw c.in_default.is at c.inspect-seen.ensures))

pub returns-in-Bad : goal.returns-in-Bad
returns-in-Bad c = rw c.fault-in-Bad.ensures (bad c.loop-j.invariant c.test-t.ensures (sees (goal.at.returns-in-Bad c).In-Some) c.in-Bad.is)

pub returns-in-Leaf : goal.returns-in-Leaf
returns-in-Leaf c = leaf c.loop-j.invariant c.test-t.ensures (sees (goal.at.returns-in-Leaf c).In-Some) c.in-Leaf.is

pub overflow_sub-level-in-Pointer : goal.overflow_sub-level-in-Pointer
overflow_sub-level-in-Pointer c = omega (arith, (bounds (sees (goal.at.overflow_sub-level-in-Pointer c).In-Some) _ c.test-t.ensures c.in-Pointer.is).0)

pub overflow_add-at-in-Pointer : goal.overflow_add-at-in-Pointer
overflow_add-at-in-Pointer c = omega (arith, (bounds (sees (goal.at.overflow_add-at-in-Pointer c).In-Some) _ c.test-t.ensures c.in-Pointer.is).1, c.index.ensures.small)

pub loop-j-smaller : goal.loop-j-smaller
loop-j-smaller c = omega (arith, (bounds (sees (goal.at.loop-j-smaller c).In-Some) _ c.test-t.ensures c.in-Pointer.is).0)

pub loop-j-preserved : goal.loop-j-preserved
loop-j-preserved c = further c.loop-j.invariant c.test-t.ensures (sees (goal.at.loop-j-preserved c).In-Some) c.in-Pointer.is c.index.ensures.value
