-- Bytes joined and split as the code does it, and the sign of a number of some bytes. Assumes nothing.
use Rattle.std.specs.Int.{w64, from_le_bytes}
use Rattle.std.proofs.Common.{zero-add, append-nil, append_assoc, replicate, length-append, length-drop, drop_of_length-le, zero, [], ◌∷◌, ◌++◌, ◌≡◌, ℕ, suc, ◌+◌, ◌-◌, ◌*◌, ◌/◌, ◌%◌, ◌^◌, ◌<◌, ◌≤◌, Bool, true, false, ◌&&◌, leb, List, length, get_or, drop, set, sym, refl, ap, ◌∙◌, one-mul, arith, pow_mono, pow-add, leb-false, leb-true}
use native.Mathlib.Nat.{div-eq_of_lt}
use Rattle.std.proofs.lemmas.List.{length-replicate}
use lib.Pow.{high}
use lib.Seq.{sets, sets-eq, drop-drop}
use borrow.Rule.Slice.PartMut.{put_mid}
use Rattle.bits.specs.Field.{get, has}
use Rattle.bits.proofs.Bools.{and_right}
use Rattle.bits.proofs.Shifts.{one_up}
use Rattle.image.specs.Data.{little, low_bytes, extended}

-- ---- bytes joined

-- a byte and those behind it; there may be none
little_next : (bs : List ℕ) (i : ℕ) → little (drop i bs) ≡ get_or bs i 0 + 256 * little (drop (suc i) bs)
little_next [] zero = refl
little_next [] (suc i) = refl
little_next (b ∷ bs) zero = refl
little_next (b ∷ bs) (suc i) = little_next bs i

-- zeros behind add nothing
little_dropped : (bs : List ℕ) (n : ℕ) → little bs ≡ 0 → little (drop n bs) ≡ 0
little_dropped [] zero e = refl
little_dropped [] (suc n) e = refl
little_dropped (b ∷ bs) zero e = e
little_dropped (b ∷ bs) (suc n) e = little_dropped bs n (omega arith)

little_append : (bs zs : List ℕ) → little zs ≡ 0 → little (bs ++ zs) ≡ little bs
little_append [] zs e = e
little_append (b ∷ bs) zs e = ap (λ (n : ℕ). b + 256 * n) (little_append bs zs e)

-- eight bytes at most, in the library's word
pub spelled : (bs : List ℕ) → length bs ≤ 8 → from_le_bytes w64 bs ≡ little bs
spelled bs h =
    let none : little (drop 8 bs) ≡ 0 = ap little (drop_of_length-le bs h) in
    omega (arith, little_next bs 0, little_next bs 1, little_next bs 2, little_next bs 3, little_next bs 4, little_next bs 5, little_next bs 6, little_next bs 7, none)

-- bytes at the front of eight zeros
pub filled : (bs : List ℕ) (n : ℕ) → length bs ≡ n → n ≤ 8 → from_le_bytes w64 (bs ++ drop n (replicate 8 0)) ≡ little bs
filled bs n e h =
    spelled (bs ++ drop n (replicate 8 0)) (simp (length-append, length-drop, length-replicate) (omega arith)) ∙ little_append bs (drop n (replicate 8 0)) (little_dropped (replicate 8 0) n refl)

-- eight bits for each byte
pub little-lt : (bs : List ℕ) → ((i : ℕ) → i < length bs → get_or bs i 0 < 256) → little bs < 2 ^ (8 * length bs)
little-lt [] h = omega arith
little-lt (b ∷ bs) h =
    let e : 8 * suc (length bs) ≡ 8 + 8 * length bs = omega arith in
    rw (e, pow-add 2 8 (8 * length bs)) (omega (arith, h 0 (omega arith), little-lt bs (λ i l. h (suc i) (omega arith))))

-- ---- bytes split

pub length-low : (n x : ℕ) → length (low_bytes n x) ≡ n
length-low zero x = refl
length-low (suc n) x = ap suc (length-low n (x / 256))

-- the whole of a list stored anew
pub anew : (l xs : List ℕ) → length l ≡ length xs → sets l 0 xs ≡ xs
anew l xs e = sets-eq xs l 0 (omega arith) ∙ rw zero-add (ap (λ (ys : List ℕ). xs ++ ys) (drop_of_length-le l (omega arith)) ∙ append-nil xs)

-- a part of a list that holds others now
pub put-sets : (s xs ys : List ℕ) (at k : ℕ) → ys ≡ xs → k ≡ length xs → at + length xs ≤ length s → put_mid at k s ys ≡ sets s at xs
put-sets s xs ys at k e n h = rw (e, n, drop-drop, sets-eq xs s at h, append_assoc)

-- a byte stored, and those behind it
pub splits : (s : List ℕ) (width i rest : ℕ) → i < width → sets (set s i (rest % 256)) (i + 1) (low_bytes (width - (i + 1)) (rest / 256)) ≡ sets s i (low_bytes (width - i) rest)
splits s width i rest l =
    let one : width - i ≡ suc (width - (i + 1)) = omega arith in
    let next : i + 1 ≡ suc i = omega arith in
    rw (one, next)

-- ---- the sign

-- x has n + 1 bits: its top one is set exactly if x is not below 2 ^ n
top_bit : (n x : ℕ) → x < 2 * 2 ^ n → has n x ≡ leb (2 ^ n) x
unfolding get
top_bit n x l = go (leb (2 ^ n) x) refl
  where
    go : (b : Bool) → leb (2 ^ n) x ≡ b → has n x ≡ b
    go true e =
        let above = leb-true (2 ^ n) x e in
        let split : 1 * 2 ^ n + (x - 2 ^ n) ≡ x = rw (one-mul (2 ^ n)) (omega arith) in
        let q : x / 2 ^ n ≡ 1 = ap (λ (y : ℕ). y / 2 ^ n) (sym split) ∙ high 1 n (omega (arith, above)) in
        rw q
    go false e = let q : x / 2 ^ n ≡ 0 = div-eq_of_lt (leb-false (2 ^ n) x e) in rw q

-- the sign of a number of width bytes: exactly if it is not below 2 ^ (8 width - 1)
pub sign_bit : (width x : ℕ) → 1 ≤ width → width ≤ 8 → x < 2 ^ (8 * width) → has (8 * width - 1) x ≡ leb (2 ^ (8 * width - 1)) x
sign_bit width x low high l =
    let e : 8 * width ≡ 1 + (8 * width - 1) = omega arith in
    let twice : 2 ^ (8 * width) ≡ 2 * 2 ^ (8 * width - 1) = ap (λ (k : ℕ). 2 ^ k) e ∙ pow-add 2 1 (8 * width - 1) in
    top_bit (8 * width - 1) x (rw twice at l)

-- the same as the code has it
module _ (signed : Bool) (width x : ℕ) (low : 1 ≤ width) (high : width ≤ 8) (l : x < 2 ^ (8 * width)) where
  abbrev sign : ℕ
  sign = (1 * 2 ^ (8 * width - 1)) % 2 ^ 64

  power : sign ≡ 2 ^ (8 * width - 1)
  power = one_up (8 * width - 1) (omega arith)

  twice : 2 ^ (8 * width) ≡ 2 * sign
  twice = let e : 8 * width ≡ 1 + (8 * width - 1) = omega arith in rw power (ap (λ (k : ℕ). 2 ^ k) e ∙ pow-add 2 1 (8 * width - 1))

  test : (signed && leb sign x) ≡ (signed && has (8 * width - 1) x)
  test = ap (λ (b : Bool). signed && b) (ap (λ (n : ℕ). leb n x) power ∙ sym (sign_bit width x low high l))

  pub kept : (signed && leb sign x) ≡ false → x ≡ extended signed width x
  kept e = rw (sym test ∙ e)

  pub record Grows : Type 0 where
    pub above : sign ≤ x
    pub word : x - sign + (2 ^ 64 - 1 - sign) + 1 < 2 ^ 64
    pub value : x - sign + (2 ^ 64 - 1 - sign) + 1 ≡ extended signed width x

  pub grows : (signed && leb sign x) ≡ true → Grows
  grows e =
      let from = leb-true sign x (and_right signed _ e) in
      let most = rw twice at (pow_mono {i = 8 * width} {j = 64} (omega arith)) in
      let less = rw twice at l in
      record { above = from; word = omega (arith, from, most, less); value = rw (sym test ∙ e, twice) (omega (arith, from, most)) }
