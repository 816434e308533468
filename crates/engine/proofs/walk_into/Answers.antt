use Rattle.std.specs.Prelude.{Ok}
use mathlib.Core.Path.{◌≡◌, sym, ◌∙◌}
use Prim.Native.Nat.{◌-◌, ◌<◌}
use native.Mathlib.Omega.{arith}
use lib.Dec.{eqb}
use lib.ListN.{length}
use borrow.Author.Tests.{eqb-true}
use Rattle.bits.proofs.Bools.{and_left, and_right}
use Rattle.rules.specs.Test.{test_of}
use Rattle.access.specs.Needs.{first_need}
use Rattle.stages.specs.Stages.{look}
use Rattle.second_stage.specs.Words.{Sees}
use Rattle.second_stage.proofs.Descents.{bounds, off}
use Rattle.engine.proofs.Walks.{Walks, Arrives, astray, start, arrives, failed, finished, has_room, outside, bad, leaf, further}
use Rattle.engine.proofs.walk_into.Goals.{After-start-guest, After-walk-s, In-Ok, In-Some}
use Rattle.engine.proofs.walk_into.Goals as goal

-- where the walk begins
begins : (s : After-start-guest) → let a = s.args in
    Walks (look a.image.base a.image.bytes.now) a.image.base (length a.image.bytes.now) a.a a.out.now a.from a.out.now a.from a.a.first.levels s.start-guest.result
begins s =
    let a = s.args in
    rw s.start-guest.ensures (start (look a.image.base a.image.bytes.now) a.image.base (length a.image.bytes.now) a.a a.out.now a.from (sym s.strays.ensures ∙ s.if-strays.false) s.requires.room)

-- after the second stage
arrival : (s : After-walk-s) → let a = s.args in
    Arrives (look a.image.base a.image.bytes.now) a.image.base (length a.image.bytes.now) a.a a.out.now a.from s.walk-s.new.out s.walk-s.result.next s.loop-m.left s.walk-s.result.reached
arrival s = arrives s.loop-m.invariant s.walk-s.ensures

-- at a machine address
reached : (r : In-Ok) → let a = r.args in
    Arrives (look a.image.base a.image.bytes.now) a.image.base (length a.image.bytes.now) a.a a.out.now a.from r.walk-s.new.out r.walk-s.result.next r.loop-m.left (Ok r.in-Ok.m)
reached r = rw r.in-Ok.is at (arrives r.loop-m.invariant r.walk-s.ensures)

-- the entry that was read, and what it is; a first-stage level was left for it
sees : (k : In-Some) → let a = k.args in
    Sees (look a.image.base a.image.bytes.now) k.test-t.result 1 (k.loop-m.left - 1) a.a.address k.in-Ok.m k.walk-s.result.next k.walk-s.new.out k.inspect-seen.new.out k.in-Some.j
sees k = rw k.in-Some.is at k.inspect-seen.ensures

tested : (k : In-Some) → k.test-t.result ≡ test_of (first_need k.args.a)
tested k = rw k.first_need.ensures at k.test-t.ensures

on : (k : In-Some) → 0 < k.loop-m.left
on k = omega (arith, k.if-left-eq0.false)

pub returns-then-strays : goal.returns-then-strays
returns-then-strays c =
    let a = c.args in
    rw c.page_fault.ensures (astray (look a.image.base a.image.bytes.now) a.image.base (length a.image.bytes.now) a.a a.out.now a.from (sym c.strays.ensures ∙ c.if-strays.true))

-- neither stage is on
pub returns-then-left-a : goal.returns-then-left-a
returns-then-left-a c =
    let a = c.args in
    let f = eqb a.a.first.levels 0 in
    let s = eqb a.a.second.levels 0 in
    let none = off (look a.image.base a.image.bytes.now) a.a a.a.first.levels c.start-guest.result a.out.now a.from (eqb-true _ _ (and_right f s c.if-left-a.true)) in
    rw (c.conclude.ensures, c.passed.ensures) (finished (arrives (begins (goal.at.returns-then-left-a c).After-start-guest) none) (eqb-true _ _ (and_left f s c.if-left-a.true)))

pub loop-m-init : goal.loop-m-init
loop-m-init c = begins (goal.at.loop-m-init c).After-start-guest

pub returns-in_default : goal.returns-in_default
returns-in_default c = rw c.in_default.is (failed (rw c.in_default.is at (arrival (goal.at.returns-in_default c).After-walk-s)))

pub returns-then-left-eq0 : goal.returns-then-left-eq0
returns-then-left-eq0 c = rw c.conclude-then-left-eq0.ensures (finished (reached (goal.at.returns-then-left-eq0 c).In-Ok) c.if-left-eq0.true)

pub inspect-seen-requires : goal.inspect-seen-requires
inspect-seen-requires c =
    let on : 0 < c.loop-m.left = omega (arith, c.if-left-eq0.false) in
    record { low = omega (arith, c.loop-m.invariant.depth, c.requires.tables.first); room = has_room (reached (goal.at.inspect-seen-requires c).In-Ok) on }

pub returns-in_default-seen : goal.returns-in_default-seen
returns-in_default-seen c = rw c.access_fault.ensures (outside (reached (goal.at.returns-in_default-seen c).In-Ok) (omega (arith, c.if-left-eq0.false)) (rw c.in_default-seen.is at c.inspect-seen.ensures))

pub overflow_add-next : goal.overflow_add-next
overflow_add-next c = omega (arith, has_room (reached (goal.at.overflow_add-next c).In-Ok) (on (goal.at.overflow_add-next c).In-Some), (arrival (goal.at.overflow_add-next c).After-walk-s).size)

pub returns-in-Bad : goal.returns-in-Bad
returns-in-Bad c =
    let k = (goal.at.returns-in-Bad c).In-Some in
    let m = (goal.at.returns-in-Bad c).In-Ok in
    rw c.page_fault-in-Bad.ensures (bad (reached m) (on k) (tested k) (sees k) c.in-Bad.is)

pub loop-m-preserved-in-Leaf : goal.loop-m-preserved-in-Leaf
loop-m-preserved-in-Leaf c =
    let k = (goal.at.loop-m-preserved-in-Leaf c).In-Some in
    let m = (goal.at.loop-m-preserved-in-Leaf c).In-Ok in
    leaf (reached m) (on k) (tested k) (sees k) c.in-Leaf.is

pub overflow_sub-left-in-Pointer : goal.overflow_sub-left-in-Pointer
overflow_sub-left-in-Pointer c =
    let k = (goal.at.overflow_sub-left-in-Pointer c).In-Some in
    omega (arith, (bounds (sees k) _ (tested k) c.in-Pointer.is).0)

pub overflow_add-guest : goal.overflow_add-guest
overflow_add-guest c =
    let k = (goal.at.overflow_add-guest c).In-Some in
    omega (arith, (bounds (sees k) _ (tested k) c.in-Pointer.is).1, c.index.ensures.small)

pub loop-m-preserved : goal.loop-m-preserved
loop-m-preserved c =
    let k = (goal.at.loop-m-preserved c).In-Some in
    let m = (goal.at.loop-m-preserved c).In-Ok in
    further (reached m) (on k) (tested k) (sees k) c.in-Pointer.is c.index.ensures.value
