-- A bit of what is made bit by bit. Assumes nothing.
use mathlib.Core.Path.{◌≡◌, refl, sym, ap, ◌∙◌}
use mathlib.Core.Bool.{Bool, true, false, ◌&&◌, ◌||◌, not}
use Prim.Native.Nat.{ℕ, zero, suc, ◌*◌, ◌%◌, ◌^◌, ◌-◌, ◌<◌}
use native.Mathlib.Nat.{mod-eq_of_lt, div-eq_of_lt}
use native.Mathlib.Omega.{arith}
use lib.Bits.{bit_and, bit_or}
use lib.Dec.{eqb, ltb}
use lib.Pow.{pow_pos}
use borrow.Author.Tests.{ltb-true, ltb-false}
use Rattle.bits.specs.declared.Field.{Field}
use Rattle.bits.specs.Field.{pick, bit, Fits, top, ones, get, put, has, copy}
use Rattle.bits.proofs.Fields.{get-and, get-or, get-lt, get_comp, get_past, ones_bound}
use Rattle.bits.proofs.Tested.{field-mask}

-- of two bits at once: a law of the four pairs
pairs : (f : ℕ → ℕ → Bool) (g : Bool → Bool → Bool) → f 0 0 ≡ g false false → f 0 1 ≡ g false true → f 1 0 ≡ g true false → f 1 1 ≡ g true true
    → (x y : ℕ) → x < 2 → y < 2 → f x y ≡ g (eqb x 1) (eqb y 1)
pairs f g a b c d zero zero h k = a
pairs f g a b c d zero (suc zero) h k = b
pairs f g a b c d (suc zero) zero h k = c
pairs f g a b c d (suc zero) (suc zero) h k = d
pairs f g a b c d (suc (suc x)) y h k = absurd (omega arith)
pairs f g a b c d zero (suc (suc y)) h k = absurd (omega arith)
pairs f g a b c d (suc zero) (suc (suc y)) h k = absurd (omega arith)

pub has-and : (n a b : ℕ) → has n (bit_and a b) ≡ (has n a && has n b)
has-and n a b = rw (get-and (bit n) a b) (pairs (λ x y. eqb (bit_and x y) 1) (λ s t. s && t) refl refl refl refl _ _ (get-lt (bit n) a) (get-lt (bit n) b))

pub has-or : (n a b : ℕ) → has n (bit_or a b) ≡ (has n a || has n b)
has-or n a b = rw (get-or (bit n) a b) (pairs (λ x y. eqb (bit_or x y) 1) (λ s t. s || t) refl refl refl refl _ _ (get-lt (bit n) a) (get-lt (bit n) b))

pub has-zero : (n : ℕ) → has n 0 ≡ false
unfolding get
has-zero n = ap (λ (x : ℕ). eqb (x % 2) 1) (div-eq_of_lt (pow_pos n))

fits_bit : (n : ℕ) → n < 64 → Fits (bit n)
fits_bit n h = record { low = h; width = omega arith; sum = omega arith }

pub has-not : (n a : ℕ) → n < 64 → a < 2 ^ 64 → has n (top - a) ≡ not (has n a)
has-not n a h b =
    rw (get_comp (bit n) (fits_bit n h) a b) (pairs (λ x y. eqb (1 - x) 1) (λ s t. not s) refl refl refl refl _ 0 (get-lt (bit n) a) (omega arith))

-- a bit of one word without another's; past 64 there is none
pub has_without : (n a b : ℕ) → a < 2 ^ 64 → b < 2 ^ 64 → has n (bit_and a (top - b)) ≡ (has n a && not (has n b))
has_without n a b h k = has-and n a (top - b) ∙ go (ltb n 64) refl
  where
    go : (t : Bool) → ltb n 64 ≡ t → (has n a && has n (top - b)) ≡ (has n a && not (has n b))
    go true e = rw (has-not n b (ltb-true _ _ e) k)
    go false e = let z : get (bit n) a ≡ 0 = get_past (bit n) a (ltb-false _ _ e) h in rw z

chosen : (m w o : Bool) → ((o && not m) || (w && m)) ≡ pick m w o
chosen true true true = refl
chosen true true false = refl
chosen true false true = refl
chosen true false false = refl
chosen false true true = refl
chosen false true false = refl
chosen false false true = refl
chosen false false false = refl

-- a bit of a word into which some bits are copied
pub has-copy : (n m w old : ℕ) → n < 64 → m < 2 ^ 64 → has n (copy m w old) ≡ pick (has n m) (has n w) (has n old)
has-copy n m w old h b =
    has-or n (bit_and old (top - m)) (bit_and w m)
    ∙ rw (has-and n old (top - m), has-and n w m, has-not n m h b) (chosen (has n m) (has n w) (has n old))

-- a field put back is a copy of its bits
put_back : (f : Field) (old x : ℕ) → put f (get f old) x ≡ copy (ones f) old x
unfolding put
put_back f old x =
    ap (bit_or (bit_and x (top - ones f))) (ap (λ (v : ℕ). v * 2 ^ f.low) (mod-eq_of_lt (get-lt f old)) ∙ sym (field-mask f old))

-- and changes no bit that is as it was
pub has_back : (n : ℕ) (f : Field) (old x : ℕ) → n < 64 → Fits f → has n x ≡ has n old → has n (put f (get f old) x) ≡ has n old
has_back n f old x h k e =
    ap (has n) (put_back f old x) ∙ has-copy n (ones f) old x h (ones_bound f k) ∙ rw e (same (has n (ones f)) (has n old))
  where
    same : (b c : Bool) → pick b c c ≡ c
    same true c = refl
    same false c = refl
