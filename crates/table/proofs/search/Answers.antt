use mathlib.Core.Path.{◌≡◌, sym, ◌∙◌}
use native.Mathlib.Omega.{arith}
use Rattle.table.specs.Search.{looks, after, halving, searched}
use Rattle.table.proofs.Halving.{here, above, below}
use Rattle.table.proofs.Parts.{two_down, quartered}
use Rattle.table.proofs.search.Goals.{Else-number_of-n-2, Then-number_of-n-2}
use Rattle.table.proofs.search.Goals as goal

-- the first look leads to the half above the middle row, or to the one below it
goes-up : (c : Then-number_of-n-2) → let a = c.args in halving looks a.table a.n 0 41 ≡ after 20 (halving 7 a.table a.n 21 41)
goes-up c = above 7 _ _ 0 41 (omega arith) (omega (arith, c.number_of-2.ensures))

goes_down : (c : Else-number_of-n-2) → let a = c.args in halving looks a.table a.n 0 41 ≡ after 20 (halving 7 a.table a.n 0 20)
goes_down c = below 7 _ _ 0 41 (omega arith) (omega (arith, c.number_of-2.ensures))

pub returns-then-number_of-n : goal.returns-then-number_of-n
unfolding searched
returns-then-number_of-n c = rw (here 7 c.args.table c.args.n 0 41 (omega arith) (sym c.number_of.ensures ∙ c.if-number_of-n.true))

pub returns-then-number_of-n-3 : goal.returns-then-number_of-n-3
returns-then-number_of-n-3 c = two_down _ _ 21 41 31 _ (goes-up (goal.at.returns-then-number_of-n-3 c).Then-number_of-n-2) (here 6 _ _ 21 41 (omega arith) (sym c.number_of-then-number_of-n-2.ensures ∙ c.if-number_of-n-3.true))

pub returns-then-number_of-n-4 : goal.returns-then-number_of-n-4
returns-then-number_of-n-4 c =
    rw (c.halve.ensures, c.quarter.ensures)
    (quartered _ _ 21 41 31 9 32 _ (goes-up (goal.at.returns-then-number_of-n-4 c).Then-number_of-n-2) (above 6 _ _ 21 41 (omega arith) (omega (arith, c.number_of-then-number_of-n-2-2.ensures))))

pub returns-then-number_of-n-2 : goal.returns-then-number_of-n-2
returns-then-number_of-n-2 c =
    rw (c.halve-then-number_of-n-2.ensures, c.quarter-then-number_of-n-2.ensures)
    (quartered _ _ 21 41 31 10 21 _ (goes-up (goal.at.returns-then-number_of-n-2 c).Then-number_of-n-2) (below 6 _ _ 21 41 (omega arith) (omega (arith, c.number_of-then-number_of-n-2-2.ensures))))

pub returns-then-number_of-n-5 : goal.returns-then-number_of-n-5
returns-then-number_of-n-5 c = two_down _ _ 0 20 10 _ (goes_down (goal.at.returns-then-number_of-n-5 c).Else-number_of-n-2) (here 6 _ _ 0 20 (omega arith) (sym c.number_of-3.ensures ∙ c.if-number_of-n-5.true))

pub returns-then-number_of-n-6 : goal.returns-then-number_of-n-6
returns-then-number_of-n-6 c =
    rw (c.halve-then-number_of-n-6.ensures, c.quarter-then-number_of-n-6.ensures)
    (quartered _ _ 0 20 10 9 11 _ (goes_down (goal.at.returns-then-number_of-n-6 c).Else-number_of-n-2) (above 6 _ _ 0 20 (omega arith) (omega (arith, c.number_of-4.ensures))))

pub returns : goal.returns
returns c =
    rw (c.halve-2.ensures, c.quarter-2.ensures)
    (quartered _ _ 0 20 10 10 0 _ (goes_down (goal.at.returns c).Else-number_of-n-2) (below 6 _ _ 0 20 (omega arith) (omega (arith, c.number_of-4.ensures))))
