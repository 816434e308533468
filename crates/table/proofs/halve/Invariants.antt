use Prim.Native.Nat.{◌-◌, ◌≤◌}
use mathlib.Core.Path.{◌≡◌}
use mathlib.Core.List.{◌++◌}
use lib.ListN.{replicate, length}
use Rattle.table.specs.Search.{looks, no_row, after, halving, told_from}
use Rattle.table.proofs.Going.{Going}
use Rattle.table.proofs.halve.Given as goal

abbrev pub invariant-loop-low : goal.invariant-loop-low
invariant-loop-low l =
    (l.first ≤ l.low) × (l.high ≤ l.end) × (length l.rows ≡ 10)
    × Going (replicate l.first no_row ++ l.rows) l.n (told_from (replicate looks 0) 0 (after 20 (after l.half (halving 6 (replicate l.first no_row ++ l.rows) l.n l.first l.end)))) l.places l.looked l.low l.high

abbrev pub decreases-loop-low : goal.decreases-loop-low
decreases-loop-low l = l.high - l.low
