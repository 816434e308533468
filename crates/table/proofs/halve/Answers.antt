use Prim.Native.Nat.{◌-◌}
use mathlib.Core.Path.{◌≡◌, refl, sym, ◌∙◌}
use mathlib.Core.List.{◌++◌}
use native.Mathlib.Omega.{arith}
use lib.ListN.{replicate, get_or}
use borrow.Author.Rules.{rules}
use Rattle.table.specs.Search.{no_row, row_at, halving}
use Rattle.table.proofs.Halving.{middle}
use Rattle.table.proofs.Going.{room, over, hit, on-above, on_below, two_looks}
use Rattle.table.proofs.Parts.{part_at}
use Rattle.table.proofs.halve.Goals.{After-row-1}
use Rattle.table.proofs.halve.Goals as goal

-- the row looked at, where it stands in the table
looked-at : (c : After-row-1) → let a = c.args in let m = middle c.loop-low.low c.loop-low.high in row_at (replicate a.first no_row ++ a.rows) m ≡ get_or a.rows (m - a.first) no_row
looked-at c =
    let a = c.args in
    part_at a.rows a.first (middle c.loop-low.low c.loop-low.high) (omega arith)

pub loop-low-init : goal.loop-low-init
loop-low-init c =
    let a = c.args in (
      omega arith,
      omega arith,
      search rules,
      record { at_most = omega arith; long = refl; covered = omega arith; told = two_looks 20 a.half (halving 6 (replicate a.first no_row ++ a.rows) a.n a.first a.end) },
    )

pub offset_bounds-places-looked : goal.offset_bounds-places-looked
offset_bounds-places-looked c = omega (arith, room _ _ _ _ _ _ _ c.loop-low.invariant.3 c.loop-low-test.true)

pub bounds-places-looked : goal.bounds-places-looked
bounds-places-looked c = room _ _ _ _ _ _ _ c.loop-low.invariant.3 c.loop-low-test.true

pub overflow_add-looked : goal.overflow_add-looked
overflow_add-looked c = omega (arith, room _ _ _ _ _ _ _ c.loop-low.invariant.3 c.loop-low-test.true)

pub returns-then-number-n : goal.returns-then-number-n
returns-then-number-n c =
    hit _ _ _ _ _ _ _ c.loop-low.invariant.3 c.loop-low-test.true _ (looked-at (goal.at.returns-then-number-n c).After-row-1)
    (sym c.number_of-number.ensures ∙ c.if-number-n.true)

pub loop-low-preserved-then-number-n-2 : goal.loop-low-preserved-then-number-n-2
loop-low-preserved-then-number-n-2 c = (
  omega arith,
  omega arith,
  search rules,
  on-above _ _ _ _ _ _ _ c.loop-low.invariant.3 c.loop-low-test.true _ (looked-at (goal.at.loop-low-preserved-then-number-n-2 c).After-row-1)
      (omega (arith, c.number_of-number.ensures)),
)

pub loop-low-preserved : goal.loop-low-preserved
loop-low-preserved c = (
  omega arith,
  omega arith,
  search rules,
  on_below _ _ _ _ _ _ _ c.loop-low.invariant.3 c.loop-low-test.true _ (looked-at (goal.at.loop-low-preserved c).After-row-1)
      (omega (arith, c.number_of-number.ensures)),
)

pub returns : goal.returns
returns c = over _ _ _ _ _ _ _ c.loop-low.invariant.3 c.loop-low-test.false
