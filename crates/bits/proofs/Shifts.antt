-- What the code computes for a field is what the definitions say. Assumes nothing.
use mathlib.Core.Path.{◌≡◌, sym, ap, ◌∙◌}
use Prim.Native.Nat.{ℕ, ◌+◌, ◌*◌, ◌%◌, ◌^◌, ◌-◌, ◌<◌, ◌≤◌}
use native.Mathlib.Nat.{one-mul, mod-eq_of_lt, mod-lt}
use native.Mathlib.Omega.{arith}
use lib.Bits.{bit_and, and_high, and_mod}
use lib.Pow.{pow-lt, pow_pos, high_ones, shl-shr, shl_exact, ones_lt}
use Rattle.bits.specs.declared.Field.{Field}
use Rattle.bits.specs.Field.{Fits, ones, place}

pub one_up : (w : ℕ) → w < 64 → (1 * 2 ^ w) % 2 ^ 64 ≡ 2 ^ w
one_up w h = ap (λ (x : ℕ). x % 2 ^ 64) (one-mul (2 ^ w)) ∙ mod-eq_of_lt (pow-lt h)

pub one_up_pos : (w : ℕ) → w < 64 → 1 ≤ (1 * 2 ^ w) % 2 ^ 64
one_up_pos w h = rw (one_up w h) (pow_pos w)

module _ (f : Field) (h : Fits f) where
  wl : f.width + f.low ≤ 64
  wl = omega (arith, h.sum)

  pub ones-code : (((1 * 2 ^ f.width) % 2 ^ 64) - 1) * 2 ^ f.low % 2 ^ 64 ≡ ones f
  ones-code = ap (λ (x : ℕ). (x - 1) * 2 ^ f.low % 2 ^ 64) (one_up f.width h.width) ∙ shl_exact f.width f.low 64 (ones_lt f.width) wl

  ones-mod : ones f % 2 ^ 64 ≡ ones f
  ones-mod = shl_exact f.width f.low 64 (ones_lt f.width) wl

  place-mod : (v : ℕ) → place f v % 2 ^ 64 ≡ place f v
  place-mod v = shl_exact f.width f.low 64 (mod-lt v (pow_pos f.width)) wl

  pub place-and : (v : ℕ) → bit_and (v * 2 ^ f.low) (ones f) ≡ place f v
  place-and v =
      ap (bit_and (v * 2 ^ f.low)) (sym (high_ones f.width f.low)) ∙ and_high (v * 2 ^ f.low) f.width f.low
      ∙ ap (λ (x : ℕ). x % 2 ^ f.width * 2 ^ f.low) (shl-shr v f.low)

  -- the code's v << low, cut to the field
  pub place-code : (v : ℕ) → bit_and (v * 2 ^ f.low % 2 ^ 64) (ones f) ≡ place f v
  place-code v =
      ap (bit_and (v * 2 ^ f.low % 2 ^ 64)) (sym ones-mod) ∙ sym (and_mod (v * 2 ^ f.low) (ones f) 64)
      ∙ ap (λ (x : ℕ). x % 2 ^ 64) (place-and v) ∙ place-mod v
