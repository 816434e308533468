-- What the second stage is asked for, and where its code stands between two reads. Serves contracts below the public face.
use Rattle.std.specs.Prelude.{ℕ, zero, suc, ◌^◌, ◌<◌, ◌≤◌, eqb, Result, Err}
use Rattle.bits.specs.Field.{pick}
use Rattle.exceptions.specs.declared.Exception.{Exception}
use Rattle.rules.specs.declared.Need.{Need}
use Rattle.access.specs.declared.Access.{Access}
use Rattle.access.specs.declared.Guest.{Guest}
use Rattle.access.specs.declared.Machine.{Machine}
use Rattle.access.specs.Needs.{second_need, entry_need}
use Rattle.access.specs.Faults.{guest_page_fault, entry_fault}
use Rattle.stages.specs.Tree.{Walk, done}
use Rattle.stages.specs.Stages.{Translation, down, second_of}

-- what the second stage needs and raises: for the access itself where no first-stage level is left, else for a guest entry
abbrev pub need_at : Access → ℕ → Need
need_at a left = pick (eqb left 0) (second_need a) entry_need

abbrev pub fault_at : Access → ℕ → Guest → Exception
fault_at a left g = pick (eqb left 0) (guest_page_fault a g) (entry_fault a g)

abbrev pub second_at : Access → ℕ → Guest → Translation Machine
second_at a left g = second_of a (need_at a left) (fault_at a left g) g

-- where a pointer at a level leads
unfoldable pub below : {A : Type 0} → Translation A → ℕ → ℕ → Walk (Result A Exception)
below t zero table = done (Err t.fault)
below t (suc l) table = down t l table

-- tables of at most five levels, below 2 ^ 56
pub record Tables (a : Access) : Type 0 where
  pub first : a.first.levels ≤ 5
  pub second : a.second.levels ≤ 5
  pub first_root : a.first.ppn < 2 ^ 44
  pub second_root : a.second.ppn < 2 ^ 44
