-- The laws' conditions as computed tests, so that for named fields each is `refl`. Assumes nothing.
use mathlib.Core.Path.{◌≡◌, sym, ap, ap₂, ◌∙◌}
use mathlib.Core.Bool.{Bool, true, ◌&&◌, ◌||◌}
use mathlib.Core.Logic.{◌⊎◌, inl, inr, ⊎_elim}
use Prim.Native.Nat.{ℕ, ◌+◌, ◌*◌, ◌^◌, ◌-◌, ◌<◌, ◌≤◌}
use native.Mathlib.Nat.{mod-eq_of_lt}
use lib.Dec.{eqb, ltb, leb}
use lib.Bits.{bit_and, bit_or, and_zero_r, or_zero_r}
use borrow.Author.Tests.{ltb-true, leb-true, eqb-true}
use Rattle.bits.specs.declared.Field.{Field}
use Rattle.bits.specs.Field.{Fits, ones, place, get, put, top}
use Rattle.bits.proofs.Bools.{and_left, and_right, or_cases}
use Rattle.bits.proofs.Masks.{and-or, and_assoc}
use Rattle.bits.proofs.Shifts.{place-and}
use Rattle.bits.proofs.Fields.{Apart, get-put, get-put_other}

-- within 64 bits
unfoldable pub fits : Field → Bool
fits f = ltb f.low 64 && (ltb f.width 64 && leb (f.low + f.width) 64)

-- both within 64 bits, one wholly below the other
unfoldable pub apart : Field → Field → Bool
apart f g = fits f && (fits g && (leb (f.low + f.width) g.low || leb (g.low + g.width) f.low))

pub fits_test : (f : Field) → fits f ≡ true → Fits f
unfolding fits
fits_test f t =
    record {
      low = ltb-true f.low 64 (and_left (ltb f.low 64) (ltb f.width 64 && leb (f.low + f.width) 64) t);
      width = ltb-true f.width 64 (and_left (ltb f.width 64) (leb (f.low + f.width) 64) (and_right (ltb f.low 64) (ltb f.width 64 && leb (f.low + f.width) 64) t));
      sum = leb-true (f.low + f.width) 64 (and_right (ltb f.width 64) (leb (f.low + f.width) 64) (and_right (ltb f.low 64) (ltb f.width 64 && leb (f.low + f.width) 64) t));
    }

apart_or : (a b c d : ℕ) → (leb a b || leb c d) ≡ true → (a ≤ b) ⊎ (c ≤ d)
apart_or a b c d e = ⊎_elim (λ p. inl (leb-true a b p)) (λ p. inr (leb-true c d p)) (or_cases (leb a b) (leb c d) e)

-- what was put is got
pub got : (f : Field) → fits f ≡ true → (v x : ℕ) → v < 2 ^ f.width → get f (put f v x) ≡ v
got f t v x h = get-put f (fits_test f t) v x ∙ mod-eq_of_lt h

-- every other field is as it was
pub other : (f g : Field) → apart f g ≡ true → (v x : ℕ) → get g (put f v x) ≡ get g x
unfolding apart Apart
other f g t v x =
    let o : Bool = leb (f.low + f.width) g.low || leb (g.low + g.width) f.low in
    let r = and_right (fits f) (fits g && o) t in
    get-put_other f g (fits_test f (and_left (fits f) (fits g && o) t)) (fits_test g (and_left (fits g) o r))
    (apart_or (f.low + f.width) g.low (g.low + g.width) f.low (and_right (fits g) o r)) v x

-- the mask k has no bit of the field
unfoldable pub outside : Field → ℕ → Bool
outside f k = fits f && (eqb (bit_and (ones f) k) 0 && eqb (bit_and (top - ones f) k) k)

-- seen through such a mask, nothing changed
pub put-outside : (f : Field) (k : ℕ) → outside f k ≡ true → (v x : ℕ) → bit_and (put f v x) k ≡ bit_and x k
unfolding outside put
put-outside f k t v x =
    let a : Bool = eqb (bit_and (ones f) k) 0 in
    let b : Bool = eqb (bit_and (top - ones f) k) k in
    let h = fits_test f (and_left (fits f) (a && b) t) in
    let r = and_right (fits f) (a && b) t in
    let p : bit_and (ones f) k ≡ 0 = eqb-true (bit_and (ones f) k) 0 (and_left a b r) in
    let q : bit_and (top - ones f) k ≡ k = eqb-true (bit_and (top - ones f) k) k (and_right a b r) in
    let n : bit_and (place f v) k ≡ 0 =
    ap (λ (y : ℕ). bit_and y k) (sym (place-and f h v)) ∙ and_assoc (v * 2 ^ f.low) (ones f) k ∙ ap (bit_and (v * 2 ^ f.low)) p ∙ and_zero_r (v * 2 ^ f.low) in
    and-or (bit_and x (top - ones f)) (place f v) k
    ∙ ap₂ bit_or (and_assoc x (top - ones f) k ∙ ap (bit_and x) q) n
    ∙ or_zero_r (bit_and x k)
