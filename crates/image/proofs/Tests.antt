-- The image's tests, from the comparisons that the code makes. Assumes nothing.
use Rattle.std.proofs.Common.{◌≡◌, ℕ, ◌+◌, ◌-◌, ◌%◌, ◌^◌, ◌<◌, ◌≤◌, Bool, true, false, not, ◌&&◌, ◌||◌, eqb, ltb, leb, sym, refl, arith, ltb-false, le-leb, leb-true}
use Rattle.bits.proofs.Bools.{and_left, and_right, both, or_right}
use Rattle.image.specs.Image.{unfit, within}

-- two tests are one where each answer of the first is the second's
pub same : (s t : Bool) → (s ≡ true → t ≡ true) → (s ≡ false → t ≡ false) → s ≡ t
same true t f g = sym (f refl)
same false t f g = sym (g refl)

-- an image that is not refused ends by 2 ^ 56
pub fit : (base len : ℕ) → unfit base len ≡ false → base + len ≤ 2 ^ 56
unfolding unfit
fit base len e = ltb-false (2 ^ 56) (base + len) (or_right (ltb 67108864 len || not (eqb (base % 4096) 0) || not (eqb (len % 4096) 0)) (ltb (2 ^ 56) (base + len)) e)

-- what lies in the image begins and ends there
pub within_facts : (base len address width : ℕ) → within base len address width ≡ true → (base ≤ address) × (address + width ≤ base + len)
unfolding within
within_facts base len address width t =
    (leb-true base address (and_left (leb base address) (leb (address + width) (base + len)) t), leb-true (address + width) (base + len) (and_right (leb base address) (leb (address + width) (base + len)) t))

-- one comparison: an address below the base wraps to an offset past the limit
module _ (base len address : ℕ) (top : base + len ≤ 2 ^ 56) (fits : address < 2 ^ 64) where
  abbrev offset : ℕ
  offset = (address + (2 ^ 64 - base)) % 2 ^ 64

  pub below-limit : offset < len - 7 → (within base len address 8 ≡ true) × (address - base ≡ offset)
  unfolding within
  below-limit h = (both (leb base address) (leb (address + 8) (base + len)) (le-leb base address (omega arith)) (le-leb (address + 8) (base + len) (omega arith)), omega arith)

  pub past_limit : len - 7 ≤ offset → within base len address 8 ≡ false
  unfolding within
  past_limit h = go (leb base address) (leb (address + 8) (base + len)) refl refl
    where
      go : (s t : Bool) → leb base address ≡ s → leb (address + 8) (base + len) ≡ t → (s && t) ≡ false
      go false t p q = refl
      go true false p q = refl
      go true true p q = absurd (omega (arith, leb-true base address p, leb-true (address + 8) (base + len) q))
