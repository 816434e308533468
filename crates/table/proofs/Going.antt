-- A search under way: what is left of it, told behind the places so far, is the whole. Assumes nothing.
use mathlib.Core.Path.{◌≡◌, refl, sym, subst, ap, ◌∙◌}
use mathlib.Core.Bool.{Bool, true, false}
use mathlib.Core.List.{List, [], ◌∷◌}
use Prim.Native.Nat.{ℕ, suc, ◌+◌, ◌-◌, ◌<◌, ◌≤◌}
use native.Mathlib.Numerals.{add-one}
use native.Mathlib.Omega.{arith}
use lib.Dec.{ltb}
use lib.ListN.{length, set, length-set, replicate}
use lib.Seq.{sets}
use borrow.Author.Tests.{ltb-true, ltb-false}
use Rattle.table.specs.declared.Row.{Row}
use Rattle.std.specs.Prelude.{Some, None}
use Rattle.table.specs.declared.Searched.{Searched}
use Rattle.table.specs.Search.{looks, row_at, Looked, after, halving, told_from}
use Rattle.table.proofs.Halving.{middle, ended, here, above, below, covers, above_covered, below_covered}

pub record Going (t : List Row) (n : ℕ) (whole : Searched) (places : List ℕ) (looked low high : ℕ) : Type 0 where
  pub at_most : looked ≤ looks
  pub long : length places ≡ looks
  pub covered : high - low ≤ covers (looks - looked)
  pub told : told_from places looked (halving (looks - looked) t n low high) ≡ whole

module _ (t : List Row) (n : ℕ) (whole : Searched) (places : List ℕ) (looked low high : ℕ) (g : Going t n whole places looked low high) where
  -- a look is left as long as there are rows
  pub room : low < high → looked < looks
  room h = at (ltb looked looks) refl
    where
      at : (b : Bool) → ltb looked looks ≡ b → looked < looks
      at true p = ltb-true looked looks p
      at false p =
          let no_look : looks - looked ≡ 0 = omega (arith, ltb-false looked looks p) in
          let c = subst (λ (k : ℕ). high - low ≤ covers k) no_look g.covered in
          omega arith

  -- all of them are settled
  pub over : high ≤ low → record { found = None; places = places; count = looked } ≡ whole
  over h =
      let none_more : looked ≡ looked + 0 = omega arith in
      ap (λ (k : ℕ). record { found = None; places = places; count = k }) none_more
      ∙ ap (told_from places looked) (sym (ended (looks - looked) t n low high h))
      ∙ g.told

  -- what a look leads to is told behind its place
  turned : low < high → (s : Looked) → halving (suc (looks - (looked + 1))) t n low high ≡ after (middle low high) s → told_from (set places looked (middle low high)) (looked + 1) s ≡ whole
  turned h s e =
      let one_less : looks - looked ≡ suc (looks - (looked + 1)) = omega (arith, room h) in
      let one_more : suc looked + length s.1 ≡ looked + suc (length s.1) = omega arith in
      let ps = sets (set places looked (middle low high)) (suc looked) s.1 in
      ap (λ (k : ℕ). told_from (set places looked (middle low high)) k s) (add-one looked)
      ∙ ap (λ (k : ℕ). record { found = s.0; places = ps; count = k }) one_more
      ∙ ap (told_from places looked) (sym e)
      ∙ subst (λ (k : ℕ). told_from places looked (halving k t n low high) ≡ whole) one_less g.told

  -- the search goes on
  on : (low' high' : ℕ) → low < high → high' - low' ≤ covers (looks - (looked + 1)) → halving (suc (looks - (looked + 1))) t n low high ≡ after (middle low high) (halving (looks - (looked + 1)) t n low' high') → Going t n whole (set places looked (middle low high)) (looked + 1) low' high'
  on low' high' h c e = record {
    at_most = omega (arith, room h);
    long = length-set places looked (middle low high) ∙ g.long;
    covered = c;
    told = turned h _ e;
  }

  covered_by : low < high → high - low ≤ covers (suc (looks - (looked + 1)))
  covered_by h =
      let one_less : looks - looked ≡ suc (looks - (looked + 1)) = omega (arith, room h) in
      subst (λ (k : ℕ). high - low ≤ covers k) one_less g.covered

  -- the row looked at bears n; its number is lower; it is not
  module _ (h : low < high) (row : Row) (e : row_at t (middle low high) ≡ row) where
    pub hit : row.number ≡ n → record { found = Some (middle low high, row); places = set places looked (middle low high); count = looked + 1 } ≡ whole
    hit b =
        let none_more : looked + 1 ≡ looked + 1 + 0 = omega arith in
        ap (λ (k : ℕ). record { found = Some (middle low high, row); places = set places looked (middle low high); count = k }) none_more
        ∙ turned h (Some (middle low high, row), [])
        (here (looks - (looked + 1)) t n low high h (ap (λ (r : Row). r.number) e ∙ b) ∙ ap (λ (r : Row). (Some (middle low high, r), middle low high ∷ [])) e)

    pub on-above : row.number < n → Going t n whole (set places looked (middle low high)) (looked + 1) (middle low high + 1) high
    on-above b =
        rw (add-one (middle low high))
        (on (suc (middle low high)) high h (above_covered (looks - (looked + 1)) low high h (covered_by h)) (above (looks - (looked + 1)) t n low high h (subst (λ (r : Row). r.number < n) (sym e) b)))

    pub on_below : n < row.number → Going t n whole (set places looked (middle low high)) (looked + 1) low (middle low high)
    on_below b = on low (middle low high) h (below_covered (looks - (looked + 1)) low high h (covered_by h)) (below (looks - (looked + 1)) t n low high h (subst (λ (r : Row). n < r.number) (sym e) b))

-- after two looks
pub two_looks : (a b : ℕ) (s : Looked) → told_from (a ∷ b ∷ replicate 6 0) 2 s ≡ told_from (replicate looks 0) 0 (after a (after b s))
two_looks a b s =
    let two_more : 2 + length s.1 ≡ 0 + suc (suc (length s.1)) = omega arith in
    ap (λ (k : ℕ). record { found = s.0; places = sets (a ∷ b ∷ replicate 6 0) 2 s.1; count = k }) two_more
