-- How many places a walk needs: five levels over five read at most as many entries as the list has places. Assumes nothing.
use Rattle.std.specs.Prelude.{Option}
use Prim.Native.Nat.{ℕ, ◌≤◌}
use native.Mathlib.Omega.{arith}
use lib.ListN.{length}
use Rattle.access.specs.declared.Access.{Access}
use Rattle.access.specs.declared.Machine.{Machine}
use Rattle.stages.specs.Tree.{run}
use Rattle.stages.specs.Stages.{walk_of}
use Rattle.stages.specs.Listed.{places}
use Rattle.stages.proofs.Bounds.{most-sum, most-places, at_most}
use Rattle.second_stage.specs.Place.{Tables}
use Rattle.engine.specs.Place.{reach}

pub enough : (a : Access) → Tables a → reach a a.first.levels ≤ places
enough a t = rw (most-sum a.first.levels a.second.levels) at (most-places _ _ t.first t.second)

module _ (a : Access) (base len : ℕ) (look : Machine → Option ℕ) where
  -- the reads, by what the code counts down
  pub within-reach : length (run look (walk_of base len a)).reads ≤ reach a a.first.levels
  within-reach = rw (most-sum a.first.levels a.second.levels) at (at_most a base len look)

  pub few : Tables a → length (run look (walk_of base len a)).reads ≤ places
  few t = omega (arith, within-reach, enough a t)
