-- A position that a press takes, in the request's words: the opposite of `misplaced`, said of numbers.
use Rattle.std.specs.Prelude.{◌≡◌, true, ◌⊎◌, ◌<◌}
use Rattle.access.specs.declared.Access.{Access}
use Rattle.stepper.specs.declared.position.Position.{Position}

-- Not one "whose stage isn't 1 or 2, or where a level still being walked isn't below its mode's depth" (2026-07): the first stage's level is still being walked at
-- its own entry, and while the second stage is walked for a guest entry.
pub record Placed (a : Access) (q : Position) : Type 0 where
  pub stage : (q.stage ≡ 1) ⊎ (q.stage ≡ 2)
  pub first : (q.stage ≡ 1) ⊎ (q.entry ≡ true) → q.first < a.first.levels
  pub second : q.stage ≡ 2 → q.second < a.second.levels
