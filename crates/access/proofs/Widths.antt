-- What an access of a known width has. Assumes nothing.
use mathlib.Core.Path.{◌≡◌, refl, sym, subst}
use mathlib.Core.Bool.{Bool, true, false, ◌||◌}
use Prim.Native.Nat.{ℕ, ◌-◌, ◌%◌, ◌^◌, ◌≤◌}
use native.Mathlib.Omega.{arith}
use lib.Bits.{bit_and, and_mask}
use lib.Dec.{eqb}
use borrow.Author.Tests.{eqb-true}
use Rattle.bits.proofs.Bools.{clash}
use Rattle.access.specs.Widths.{known}

-- what holds of each width holds of a known one
pub each_width : (P : ℕ → Type 0) → P 1 → P 2 → P 4 → P 8 → (width : ℕ) → known width ≡ true → P width
each_width P one two four eight width h = go (eqb width 1) (eqb width 2) (eqb width 4) (eqb width 8) refl refl refl refl h
  where
    go : (a b c d : Bool) → eqb width 1 ≡ a → eqb width 2 ≡ b → eqb width 4 ≡ c → eqb width 8 ≡ d → (a || b || c || d) ≡ true → P width
    go true b c d e f g i q = subst P (sym (eqb-true width 1 e)) one
    go false true c d e f g i q = subst P (sym (eqb-true width 2 f)) two
    go false false true d e f g i q = subst P (sym (eqb-true width 4 g)) four
    go false false false true e f g i q = subst P (sym (eqb-true width 8 i)) eight
    go false false false false e f g i q = clash q

-- a known width is a power of two: the remainder by it, as the code takes it
pub powered : (address width : ℕ) → known width ≡ true → (1 ≤ width) × (bit_and address (width - 1) ≡ address % width)
powered address =
    each_width (λ (w : ℕ). (1 ≤ w) × (bit_and address (w - 1) ≡ address % w)) (omega arith, and_mask address 0) (omega arith, and_mask address 1)
    (omega arith, and_mask address 2) (omega arith, and_mask address 3)

-- a byte at least, eight at most
pub at_most_eight : (width : ℕ) → known width ≡ true → (1 ≤ width) × (width ≤ 8)
at_most_eight = each_width (λ (w : ℕ). (1 ≤ w) × (w ≤ 8)) (omega arith, omega arith) (omega arith, omega arith) (omega arith, omega arith) (omega arith, omega arith)

-- an access of 2 ^ k bytes, from a multiple of them on
pub record Aligned (address width : ℕ) : Type 0 where
  pub k : ℕ
  pub small : k ≤ 12
  pub size : width ≡ 2 ^ k
  pub multiple : address % 2 ^ k ≡ 0

pub a_power : (address width : ℕ) → known width ≡ true → address % width ≡ 0 → Aligned address width
a_power address =
    each_width (λ (w : ℕ). address % w ≡ 0 → Aligned address w) (λ m. record { k = 0; small = omega arith; size = refl; multiple = m })
    (λ m. record { k = 1; small = omega arith; size = refl; multiple = m }) (λ m. record { k = 2; small = omega arith; size = refl; multiple = m }) (λ m. record { k = 3; small = omega arith; size = refl; multiple = m })
