-- Laws of an address's fields. Assumes nothing.
use mathlib.Core.Path.{◌≡◌, refl, sym, ap, ◌∙◌}
use mathlib.Core.Bool.{◌||◌}
use Prim.Native.Nat.{ℕ, zero, suc, ◌+◌, ◌-◌, ◌*◌, ◌/◌, ◌%◌, ◌^◌, ◌<◌, ◌≤◌}
use native.Mathlib.Nat.{lt_of_lt_of_le, mod-eq_of_lt, mod-lt}
use native.Mathlib.Omega.{arith}
use lib.Dec.{eqb, ltb}
use lib.Pow.{pow_mono, pow_pos, pow-add, ones_lt, ones_split, high, shr-shr, shr_mod}
use borrow.Author.Tests.{eq-eqb, ne_eqb, eqb-true, ltb-true, lt-ltb}
use Rattle.bits.specs.Field.{get, has, span, pick, top}
use Rattle.bits.proofs.Bools.{both_ways, same_test, or-false}
use Rattle.bits.proofs.Fields.{get-lt}
use Rattle.rules.specs.Entry.{offset}
use Rattle.rules.specs.Address.{Stage, first, second, extended, small, index_width, index, index_bits}

-- the second stage's root has eleven bits of index
pub root-width : (levels : ℕ) → 0 < levels → index_width second levels (levels - 1) ≡ 11
root-width levels h = rw (eq-eqb (suc (levels - 1)) levels (omega arith))

-- below the root both stages have nine
pub below_root : (s : Stage) (levels level a : ℕ) → suc level < levels → index s levels level a ≡ get (index_bits 9 level) a
unfolding index
below_root first levels level a h = refl
below_root second levels level a h = rw (ne_eqb (suc level) levels (λ e. omega arith))

-- the low bits of an address fall short of the whole of a page of the highest level
pub offset-lt : (level address : ℕ) → level < 5 → get (offset level) address < 2 ^ 48
offset-lt level address h = lt_of_lt_of_le (get-lt (offset level) address) (pow_mono {i = 12 + 9 * level} {j = 48} (omega arith))

-- ---- an address's high bits

-- the bits from low up are what a shift leaves
high_bits : (low x : ℕ) → low ≤ 63 → x < 2 ^ 64 → get (span 63 low) x ≡ x / 2 ^ low
unfolding get
high_bits low x h b =
    let w : 63 + 1 - low ≡ 64 - low = omega arith in
    let s : 64 - low + low ≡ 64 = omega arith in
    rw w (shr_mod (64 - low) low (rw s b))

-- the second stage's: what is left above a page's offset is an index of eleven bits
module _ (levels address : ℕ) (on : 0 < levels) (five : levels ≤ 5) (fits : address < 2 ^ 64) where
  pub small-code : ltb (address / 2 ^ (12 + 9 * (levels - 1))) 2048 ≡ small (14 + 9 * levels) address
  unfolding small
  small-code =
      let i : ℕ = address / 2 ^ (12 + 9 * (levels - 1)) in
      let s : 12 + 9 * (levels - 1) + 11 ≡ 14 + 9 * levels = omega arith in
      let a : get (span 63 (14 + 9 * levels)) address ≡ i / 2 ^ 11 = high_bits (14 + 9 * levels) address (omega arith) fits ∙ rw (← s) (sym (shr-shr address (12 + 9 * (levels - 1)) 11)) in
      both_ways (ltb i 2048) (eqb (get (span 63 (14 + 9 * levels)) address) 0) (λ t. eq-eqb (get (span 63 (14 + 9 * levels)) address) 0 (omega (arith, a, ltb-true i 2048 t)))
      (λ t. lt-ltb i 2048 (omega (arith, a, eqb-true (get (span 63 (14 + 9 * levels)) address) 0 t)))

  pub root-code : address / 2 ^ (12 + 9 * (levels - 1)) < 2048 → address / 2 ^ (12 + 9 * (levels - 1)) ≡ index second levels (levels - 1) address
  unfolding index get
  root-code h = rw (root-width levels on) (sym (mod-eq_of_lt h))

-- the first stage's: with the bit below them all clear or all set
parity : (q t : ℕ) → t % 2 ≡ 1 → (eqb q 0 || eqb q t) ≡ eqb (q / 2) (pick (eqb (q % 2) 1) (t / 2) 0)
parity q t o = go (q % 2) refl (mod-lt q (pow_pos 1))
  where
    go : (r : ℕ) → q % 2 ≡ r → r < 2 → (eqb q 0 || eqb q t) ≡ eqb (q / 2) (pick (eqb r 1) (t / 2) 0)
    go zero e h = rw (ne_eqb q t (λ p. omega (arith, ap (λ (x : ℕ). x % 2) p)), or-false) (same_test q 0 (q / 2) 0 (λ p. omega arith) (λ p. omega arith))
    go (suc zero) e h = rw (ne_eqb q 0 (λ p. omega arith)) (same_test q t (q / 2) (t / 2) (λ p. ap (λ (x : ℕ). x / 2) p) (λ p. omega arith))
    go (suc (suc r)) e h = absurd (omega arith)

module _ (k : ℕ) (under : k < 63) where
  halved : (x : ℕ) → x < 2 ^ 64 → x / 2 ^ k / 2 ≡ get (span 63 (k + 1)) x
  halved x b = shr-shr x k 1 ∙ sym (high_bits (k + 1) x (omega arith) b)

  -- all ones from a bit up are odd
  odd : top / 2 ^ k % 2 ≡ 1
  odd =
      let j : ℕ = 63 - k in
      let s : 64 ≡ j + 1 + k = omega arith in
      let o : top / 2 ^ k ≡ 2 ^ (j + 1) - 1 = ap (λ (n : ℕ). (2 ^ n - 1) / 2 ^ k) s ∙ ap (λ (x : ℕ). x / 2 ^ k) (ones_split (j + 1) k) ∙ high (2 ^ (j + 1) - 1) k (ones_lt k) in
      omega (arith, o, pow-add 2 j 1, pow_pos j)

  lowest : (x : ℕ) → has k x ≡ eqb (x / 2 ^ k % 2) 1
  unfolding get
  lowest x = refl

  pub extended-code : (address : ℕ) → address < 2 ^ 64 → (eqb (address / 2 ^ k) 0 || eqb (address / 2 ^ k) (top / 2 ^ k)) ≡ extended (k + 1) address
  unfolding extended
  extended-code address b =
      let e : k + 1 - 1 ≡ k = omega arith in
      rw (e, ← halved address b, ← halved top (ones_lt 64), lowest address) (parity (address / 2 ^ k) (top / 2 ^ k) odd)
