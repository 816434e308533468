use Rattle.std.specs.Prelude.{Result}
use mathlib.Core.Path.{refl, ◌∙◌}
use Prim.Native.Nat.{◌+◌, ◌*◌, ◌≤◌}
use native.Mathlib.Omega.{arith}
use lib.ListN.{length}
use Rattle.exceptions.specs.declared.Exception.{Exception}
use Rattle.access.specs.declared.Machine.{Machine}
use Rattle.stages.specs.Tree.{Ran, run}
use Rattle.stages.specs.Stages.{look, walk_of}
use Rattle.engine.proofs.Places.{within-reach}
use Rattle.engine.proofs.Left.{Left, left_by}
use Rattle.engine.proofs.Zeros.{zeroed}
use Rattle.engine.proofs.list.Goals.{After-walk_into-w}
use Rattle.engine.proofs.list.Goals as goal

abbrev ran : After-walk_into-w → Ran (Result Machine Exception)
ran w = let a = w.args in run (look a.image.base a.image.bytes.now) (walk_of a.image.base (length a.image.bytes.now) a.a)

-- what the walk left
left : (w : After-walk_into-w) → let a = w.args in
    Left (ran w) a.out.now a.from w.walk_into-w.new.out w.walk_into-w.result.next w.walk_into-w.result.reached
left w =
    let a = w.args in
    left_by (look a.image.base a.image.bytes.now) (walk_of a.image.base (length a.image.bytes.now) a.a) a.out.now a.from w.walk_into-w.ensures

-- the reads have places
fits : (w : After-walk_into-w) → length (ran w).reads ≤ w.args.places
fits w =
    let a = w.args in
    omega (arith, within-reach a.a a.image.base (length a.image.bytes.now) (look a.image.base a.image.bytes.now), w.requires.enough)

pub clear-requires : goal.clear-requires
clear-requires c =
    let w = (goal.at.clear-requires c).After-walk_into-w in
    record { order = omega (arith, (left w).next, fits w); fits = omega (arith, (left w).size, c.requires.room) }

pub overflow_sub-result : goal.overflow_sub-result
overflow_sub-result c = omega (arith, (left (goal.at.overflow_sub-result c).After-walk_into-w).next)

pub returns : goal.returns
returns c =
    let a = c.args in
    let w = (goal.at.returns c).After-walk_into-w in
    record {
      words =
          c.clear.ensures
          ∙ rw ((left w).words, (left w).next) (zeroed a.out.now a.from a.places (a.from + 4 * a.places) (ran w).reads refl);
      count = omega (arith, (left w).next);
      end = (left w).end;
    }
