-- Where the code stands between two reads, as what is left of the walk. Serves contracts below the public face.
use Rattle.std.specs.Prelude.{Bool, ◌&&◌, not, ℕ, zero, suc, ◌+◌, ◌-◌, ◌*◌, eqb, Result}
use Rattle.exceptions.specs.declared.Exception.{Exception}
use Rattle.bits.specs.Field.{get, pick}
use Rattle.rules.specs.Address.{Stage, well_formed, index_bits}
use Rattle.access.specs.declared.Access.{Access}
use Rattle.access.specs.declared.Guest.{Guest}
use Rattle.access.specs.declared.Machine.{Machine}
use Rattle.stages.specs.Tree.{Walk, done}
use Rattle.stages.specs.Stages.{◌then◌, inspect, translation, first_of, guest, last, final}
use Rattle.second_stage.specs.Place.{second_at, below}

module _ (base len : ℕ) (a : Access) where
  -- after the second stage: the access itself, or a first-stage entry
  unfoldable pub arrived : ℕ → Machine → Walk (Result Machine Exception)
  arrived zero m = done (last base len a m)
  arrived (suc l) m = inspect (first_of a) l (below (first_of a) l) m then final base len a

  unfoldable pub entered : ℕ → Guest → Walk (Result Machine Exception)
  entered left g = translation (second_at a left g) then arrived left

-- how many reads a walk makes at most, with so many first-stage levels left
abbrev pub reach : Access → ℕ → ℕ
reach a left = left * suc a.second.levels + a.second.levels

-- where the walk begins: at the first stage's root entry, or with the access's own address
unfoldable pub start_guest : Access → Guest
start_guest a = pick (eqb a.first.levels 0) (guest a.address) (guest (a.first.ppn * 4096 + 8 * get (index_bits 9 (a.first.levels - 1)) a.address))

-- a first stage that is on finds fault with the address
unfoldable pub strays : Access → Bool
strays a = not (eqb a.first.levels 0) && not (well_formed Stage.first a.first.levels a.address)
