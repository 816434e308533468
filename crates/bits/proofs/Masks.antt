-- Laws of masks that `lib.Bits` does not state. Assumes nothing.
use mathlib.Core.Path.{◌≡◌, refl, sym, ap, ap₂, ◌∙◌}
use Prim.Native.Nat.{ℕ, ◌/◌, ◌%◌, ◌<◌, min, max}
use native.Mathlib.Omega.{arith}
use lib.Arith.{bin_ind}
use lib.Bits.{bit_and, bit_or, and_step, or_step, and_shr, or_shr}

-- a number and its halves: equal where half and last digit are
halves : (x y : ℕ) → x / 2 ≡ y / 2 → x % 2 ≡ y % 2 → x ≡ y
halves x y p q = omega arith

pub and_half : (a b : ℕ) → bit_and a b / 2 ≡ bit_and (a / 2) (b / 2)
and_half a b = and_shr a b 1

pub or_half : (a b : ℕ) → bit_or a b / 2 ≡ bit_or (a / 2) (b / 2)
or_half a b = or_shr a b 1

min-bit : (a b : ℕ) → min (a % 2) (b % 2) < 2
min-bit a b = omega arith

max-bit : (a b : ℕ) → max (a % 2) (b % 2) < 2
max-bit a b = omega arith

pub and_odd : (a b : ℕ) → bit_and a b % 2 ≡ min (a % 2) (b % 2)
and_odd a b = omega (arith, and_step a b, min-bit a b)

pub or_odd : (a b : ℕ) → bit_or a b % 2 ≡ max (a % 2) (b % 2)
or_odd a b = omega (arith, or_step a b, max-bit a b)

pub and_assoc : (a b c : ℕ) → bit_and (bit_and a b) c ≡ bit_and a (bit_and b c)
and_assoc a =
    bin_ind (λ (n : ℕ). (b c : ℕ) → bit_and (bit_and n b) c ≡ bit_and n (bit_and b c)) (λ b c. refl)
    (λ n ih b c. halves _ _
    (and_half (bit_and n b) c ∙ ap (λ (x : ℕ). bit_and x (c / 2)) (and_half n b) ∙ ih (b / 2) (c / 2)
    ∙ sym (and_half n (bit_and b c) ∙ ap (λ (x : ℕ). bit_and (n / 2) x) (and_half b c)))
    (omega (arith, and_odd (bit_and n b) c, and_odd n b, and_odd n (bit_and b c), and_odd b c))) a

-- & over |
pub and-or : (a b c : ℕ) → bit_and (bit_or a b) c ≡ bit_or (bit_and a c) (bit_and b c)
and-or a =
    bin_ind (λ (n : ℕ). (b c : ℕ) → bit_and (bit_or n b) c ≡ bit_or (bit_and n c) (bit_and b c)) (λ b c. refl)
    (λ n ih b c. halves _ _
    (and_half (bit_or n b) c ∙ ap (λ (x : ℕ). bit_and x (c / 2)) (or_half n b) ∙ ih (b / 2) (c / 2)
    ∙ sym (or_half (bit_and n c) (bit_and b c) ∙ ap₂ bit_or (and_half n c) (and_half b c)))
    (omega (arith, and_odd (bit_or n b) c, or_odd n b, or_odd (bit_and n c) (bit_and b c), and_odd n c, and_odd b c))) a
