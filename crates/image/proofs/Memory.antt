-- What a store leaves, and what a load then finds. Assumes nothing.
use Rattle.std.proofs.Common.{◌≡◌, ℕ, zero, suc, ◌+◌, ◌-◌, ◌*◌, ◌/◌, ◌%◌, ◌^◌, ◌<◌, ◌≤◌, Bool, true, false, ◌⊎◌, List, [], ◌∷◌, ◌++◌, length, get_or, take, drop, set, refl, ap, ◌∙◌, inl, inr, append_assoc, add-zero, arith, length-set, length-take-le, drop-cons, get_or-set_other, get_or-set_same, take_at, drop_at, shr-shr, Some, None}
use lib.Pow.{mod-pow-add}
use lib.Seq.{sets, sets-eq, length-sets}
use Rattle.bits.specs.Field.{pick}
use Rattle.image.specs.Image.{within, eight, entry}
use Rattle.image.specs.Data.{little, low_bytes, bytes_at, stored}
use Rattle.image.proofs.Bytes.{length-low}
use Rattle.image.proofs.Tests.{within_facts}

-- ---- a run of stores

-- a place before or behind n others
abbrev pub Apart : (from n k : ℕ) → Type 0
Apart from n k = (k < from) ⊎ (from + n ≤ k)

next_apart : (from n k : ℕ) → Apart from (suc n) k → Apart (suc from) n k
next_apart from n k (inl h) = inl (omega arith)
next_apart from n k (inr h) = inr (omega arith)

differs : (from n k : ℕ) → Apart from (suc n) k → k ≡ from → ⊥
differs from n k (inl h) e = omega arith
differs from n k (inr h) e = omega arith

sets_apart : (vs l : List ℕ) (from k : ℕ) → Apart from (length vs) k → get_or (sets l from vs) k 0 ≡ get_or l k 0
sets_apart [] l from k h = refl
sets_apart (v ∷ vs) l from k h = sets_apart vs (set l from v) (suc from) k (next_apart from (length vs) k h) ∙ get_or-set_other l from k v 0 (differs from (length vs) k h)

sets_there : (vs l : List ℕ) (from i : ℕ) → i < length vs → from + length vs ≤ length l → get_or (sets l from vs) (from + i) 0 ≡ get_or vs i 0
sets_there [] l from i h f = absurd (omega arith)
sets_there (v ∷ vs) l from zero h f = rw add-zero (sets_apart vs (set l from v) (suc from) from (inl (omega arith)) ∙ get_or-set_same l from v 0 (omega arith))
sets_there (v ∷ vs) l from (suc i) h f = let e : from + suc i ≡ suc from + i = omega arith in rw e (sets_there vs (set l from v) (suc from) i (omega arith) (omega (arith, length-set l from v)))

-- ---- the low bytes of a number

low_byte : (n x i : ℕ) → i < n → get_or (low_bytes n x) i 0 ≡ x / 2 ^ (8 * i) % 256
low_byte zero x i h = absurd (omega arith)
low_byte (suc n) x zero h = omega arith
low_byte (suc n) x (suc i) h =
    let e : 8 + 8 * i ≡ 8 * suc i = omega arith in
    low_byte n (x / 256) i (omega arith) ∙ ap (λ (y : ℕ). y % 256) (shr-shr x 8 (8 * i) ∙ ap (λ (k : ℕ). x / 2 ^ k) e)

little-low : (n x : ℕ) → little (low_bytes n x) ≡ x % 2 ^ (8 * n)
little-low zero x = omega arith
little-low (suc n) x =
    let e : 8 * suc n ≡ 8 * n + 8 = omega arith in
    rw (little-low n (x / 256), e, mod-pow-add x (8 * n) 8) (omega arith)

-- ---- a store

module _ (base : ℕ) (s : List ℕ) (address width value : ℕ) where
  abbrev at : ℕ
  at = address - base

  abbrev s' : List ℕ
  s' = stored base s address width value

  pub stored-length : length s' ≡ length s
  unfolding stored
  stored-length = length-sets s at (low_bytes width value)

  -- a byte outside those stored
  pub stored_apart : (k : ℕ) → Apart at width k → get_or s' k 0 ≡ get_or s k 0
  unfolding stored
  stored_apart k h = sets_apart (low_bytes width value) s at k (rw (length-low width value) h)

  module _ (fits : at + width ≤ length s) where
    size : at + length (low_bytes width value) ≤ length s
    size = rw (length-low width value) fits

    -- a byte of those stored: eight bits of the value
    pub stored_byte : (i : ℕ) → i < width → get_or s' (at + i) 0 ≡ value / 2 ^ (8 * i) % 256
    unfolding stored
    stored_byte i h = sets_there (low_bytes width value) s at i (rw (length-low width value) h) size ∙ low_byte width value i h

    -- all of them, loaded
    pub stored_loads : little (bytes_at base s' address width) ≡ value % 2 ^ (8 * width)
    unfolding stored
    stored_loads =
        let low = low_bytes width value in
        let rest = drop (at + length low) s in
        let behind : drop at (sets s at low) ≡ low ++ rest = ap (drop at) (sets-eq low s at size ∙ append_assoc (take at s) low rest) ∙ drop_at (take at s) (low ++ rest) at (length-take-le at s (omega (arith, fits))) in
        ap (λ (xs : List ℕ). little (take width xs)) behind ∙ ap little (take_at low rest width (length-low width value)) ∙ little-low width value

  -- an entry none of whose eight bytes is stored is as it was
  pub entry_apart : base ≤ address → (m : ℕ) → (m + 8 ≤ address) ⊎ (address + width ≤ m) → entry base s' m ≡ entry base s m
  unfolding entry
  entry_apart low m h = rw stored-length (go (within base (length s) m 8) refl)
    where
      o : ℕ
      o = m - base

      apart : base ≤ m → (m + 8 ≤ address) ⊎ (address + width ≤ m) → (i : ℕ) → o ≤ i → i < o + 8 → Apart at width i
      apart l (inl e) i p q = inl (omega arith)
      apart l (inr e) i p q = inr (omega arith)

      eights : base ≤ m → eight s' o ≡ eight s o
      eights l =
          let b : (i : ℕ) → o ≤ i → i < o + 8 → get_or s' i 0 ≡ get_or s i 0 = λ i p q. stored_apart i (apart l h i p q) in
          rw (b o (omega arith) (omega arith), b (o + 1) (omega arith) (omega arith), b (o + 2) (omega arith) (omega arith), b (o + 3) (omega arith) (omega arith), b (o + 4) (omega arith) (omega arith), b (o + 4 + 1) (omega arith) (omega arith), b (o + 4 + 2) (omega arith) (omega arith), b (o + 4 + 3) (omega arith) (omega arith))

      go : (b : Bool) → within base (length s) m 8 ≡ b → pick b (Some (eight s' o)) None ≡ pick b (Some (eight s o)) None
      go true e = ap Some (eights (within_facts base (length s) m 8 e).0)
      go false e = refl

-- two images that have the same bytes there load the same
pub same_bytes : (s s' : List ℕ) (at width : ℕ) → at + width ≤ length s → at + width ≤ length s' → ((i : ℕ) → i < width → get_or s (at + i) 0 ≡ get_or s' (at + i) 0) → take width (drop at s) ≡ take width (drop at s')
same_bytes s s' at zero f f' h = refl
same_bytes s s' at (suc n) f f' h =
    let first = rw add-zero at (h 0 (omega arith)) in
    let rest = same_bytes s s' (suc at) n (omega arith) (omega arith) (λ i l. let e : suc at + i ≡ at + suc i = omega arith in rw e (h (suc i) (omega arith))) in
    rw (drop-cons s at 0 (omega arith), drop-cons s' at 0 (omega arith), first, rest)
