-- The tables that an access goes by: at most five levels, none exactly in Bare. Assumes nothing.
use mathlib.Core.Path.{◌≡◌}
use mathlib.Core.Bool.{Bool, true, false}
use Prim.Native.Nat.{ℕ, ◌*◌, ◌/◌, ◌%◌, ◌^◌, ◌<◌, ◌≤◌}
use native.Mathlib.Omega.{arith}
use lib.Dec.{eqb}
use lib.ListN.{replicate}
use borrow.Author.Tests.{eqb-true}
use Rattle.bits.specs.Field.{pick, get}
use Rattle.bits.specs.Every.{every}
use Rattle.bits.proofs.Bools.{pick_both}
use Rattle.bits.proofs.Every.{every-below}
use Rattle.bits.proofs.Fields.{get-lt}
use Rattle.registers.specs.Fields.{MODE, PPN}
use Rattle.access.specs.declared.Root.{Root}
use Rattle.effective.specs.declared.Paging.{Paging}
use Rattle.effective.specs.declared.EffectiveMode.{EffectiveMode}
use Rattle.effective.specs.Effective.{is_bare, depth, root, off, first_root, second_root}

-- what holds of 3, 4 and 5 holds of every depth but Bare's
each_on : (P : ℕ → Type 0) (b c : Bool) → P 3 → P 4 → P 5 → P (pick b 3 (pick c 4 5))
each_on P true c three four five = three
each_on P false true three four five = four
each_on P false false three four five = five

-- a word that has the depths, four bits for each MODE
abbrev pub four-bits : ℕ → ℕ → ℕ
four-bits word mode = word / 2 ^ (4 * mode) % 16

pub packed : (word : ℕ) → every (λ i (x : ℕ). eqb (four-bits word i) (depth i)) 0 (replicate 16 0) ≡ true → (mode : ℕ) → mode < 16 → four-bits word mode ≡ depth mode
packed word all mode small = eqb-true _ _ (every-below (λ m. eqb (four-bits word m) (depth m)) 16 all mode small)

pub bare-depth : (x : ℕ) → is_bare x ≡ true → depth (get MODE x) ≡ 0
unfolding depth
bare-depth x e = rw e

pub on-depth : (x : ℕ) → is_bare x ≡ false → 0 < depth (get MODE x)
unfolding depth
on-depth x e = rw e (each_on (λ n. 0 < n) (eqb (get MODE x) 8) (eqb (get MODE x) 9) (omega arith) (omega arith) (omega arith))

depth_five : (mode : ℕ) → depth mode ≤ 5
unfolding depth
depth_five mode = pick_both (λ n. n ≤ 5) (eqb mode 0) 0 _ (λ e. omega arith) (λ e. each_on (λ n. n ≤ 5) (eqb mode 8) (eqb mode 9) (omega arith) (omega arith) (omega arith))

-- tables of at most five levels
pub record Five (r : Root) : Type 0 where
  pub levels : r.levels ≤ 5
  pub ppn : r.ppn < 2 ^ 44

five_off : Five off
five_off = record { levels = omega arith; ppn = omega arith }

five_root : (x : ℕ) → Five (root x)
five_root x = record { levels = depth_five (get MODE x); ppn = get-lt PPN x }

pub first_five : (p : Paging) (m : EffectiveMode) → Five (first_root p m)
unfolding first_root
first_five p m =
    pick_both Five m.v (root p.vsatp) (pick (eqb m.privilege 3) off (root p.satp)) (λ e. five_root p.vsatp)
    (λ e. pick_both Five (eqb m.privilege 3) off (root p.satp) (λ e. five_off) (λ e. five_root p.satp))

pub second_five : (p : Paging) (m : EffectiveMode) → Five (second_root p m)
unfolding second_root
second_five p m = pick_both Five m.v (root p.hgatp) off (λ e. five_root p.hgatp) (λ e. five_off)
