-- Where a walk begins and goes on, by what the code has found. Assumes nothing.
use Rattle.std.specs.Prelude.{Err}
use mathlib.Core.Path.{◌≡◌, refl}
use mathlib.Core.Bool.{Bool, true, false}
use Prim.Native.Nat.{ℕ, zero, suc, ◌+◌, ◌-◌, ◌*◌, ◌<◌}
use native.Mathlib.Omega.{arith}
use Rattle.bits.specs.Field.{pick, get}
use Rattle.rules.specs.Address.{Stage, well_formed, index_bits, index}
use Rattle.rules.proofs.Indices.{below_root}
use Rattle.access.specs.declared.Access.{Access}
use Rattle.access.specs.declared.Guest.{Guest}
use Rattle.access.specs.Faults.{page_fault}
use Rattle.stages.specs.Stages.{guest, machine, slot, first_of}
use Rattle.second_stage.specs.Place.{need_at, fault_at}
use Rattle.stepper.specs.Position.{position, need_for, fault_for, second_for, ended, before, passed, onto, enters, from}

-- what the second stage's code goes by
pub need_for_lem : (a : Access) (entry : Bool) → need_at a (pick entry 1 0) ≡ need_for a entry
need_for_lem a true = refl
need_for_lem a false = refl

pub fault_for_lem : (a : Access) (entry : Bool) (g : Guest) → fault_at a (pick entry 1 0) g ≡ fault_for a entry g
fault_for_lem a true g = refl
fault_for_lem a false g = refl

-- a first-stage slot, and one of the second stage below its root, by nine bits of the address
pub first_slot : (a : Access) (level table i : ℕ) → i ≡ get (index_bits 9 level) a.address → table + 8 * i ≡ slot (first_of a) level table
unfolding index
first_slot a level table i e = rw e

pub second-slot : (a : Access) (entry : Bool) (g : Guest) (level table i : ℕ) → suc level < a.second.levels → i ≡ get (index_bits 9 level) g.0
    → table + 8 * i ≡ slot (second_for a entry g) level table
second-slot a entry g level table i h e = rw (e, below_root Stage.second a.second.levels level g.0 h)

module _ (base len : ℕ) (a : Access) where
  -- a guest address at the second stage: off, with wrong high bits, or at its root
  module _ (first : ℕ) (entry : Bool) (g : Guest) where
    pub onto-off : (levels : ℕ) → levels ≡ 0 → onto base len a levels first entry g ≡ passed base len a (position 2 first 0 entry g (machine g.0))
    unfolding onto
    onto-off levels e = rw e

    pub onto_bad : (levels : ℕ) → 0 < levels → well_formed Stage.second levels g.0 ≡ false → onto base len a levels first entry g ≡ ended base len a (Err (fault_for a entry g))
    unfolding onto
    onto_bad zero h w = absurd (omega arith)
    onto_bad (suc l) h w = rw w

    pub onto-root : (levels i : ℕ) → 0 < levels → well_formed Stage.second levels g.0 ≡ true → i ≡ index Stage.second a.second.levels (levels - 1) g.0
        → onto base len a levels first entry g ≡ before base len a (position 2 first (levels - 1) entry g (machine (a.second.ppn * 4096 + 8 * i)))
    unfolding onto
    onto-root zero i h w e = absurd (omega arith)
    onto-root (suc l) i h w e = let d : suc l - 1 ≡ l = omega arith in rw (e, d, w)

  -- the access at the first stage, likewise
  pub from-off : (levels : ℕ) → levels ≡ 0 → from base len a levels ≡ enters base len a 0 false (guest a.address)
  unfolding from
  from-off levels e = rw e

  pub from_bad : (levels : ℕ) → 0 < levels → well_formed Stage.first levels a.address ≡ false → from base len a levels ≡ ended base len a (Err (page_fault a))
  unfolding from
  from_bad zero h w = absurd (omega arith)
  from_bad (suc l) h w = rw w

  pub from-root : (levels i : ℕ) → 0 < levels → well_formed Stage.first levels a.address ≡ true → i ≡ get (index_bits 9 (levels - 1)) a.address
      → from base len a levels ≡ enters base len a (levels - 1) true (guest (a.first.ppn * 4096 + 8 * i))
  unfolding from
  from-root zero i h w e = absurd (omega arith)
  from-root (suc l) i h w e = let d : suc l - 1 ≡ l = omega arith in rw (first_slot a (suc l - 1) (a.first.ppn * 4096) i e, d, w)
