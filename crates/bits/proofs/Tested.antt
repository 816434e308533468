-- A word under a mask of fields is what is wanted exactly if each field holds its own. Assumes nothing.
use mathlib.Core.Path.{◌≡◌, refl, sym, ap, ap₂, ◌∙◌}
use mathlib.Core.Bool.{Bool, true, ◌&&◌, not}
use mathlib.Core.List.{List, [], ◌∷◌, map}
use Prim.Native.Nat.{ℕ, zero, suc, ◌*◌, ◌^◌, ◌-◌, ◌<◌}
use native.Mathlib.Omega.{arith}
use lib.Dec.{eqb}
use lib.Bits.{bit_and, bit_or, and_comm, and_zero_r, and_high}
use lib.Pow.{high_ones}
use borrow.Author.Tests.{eqb-true, eq-eqb}
use Rattle.bits.specs.declared.Field.{Field}
use Rattle.bits.specs.Field.{ones, bits, get, has, bit}
use Rattle.bits.specs.Assign.{Assignment, ◌after◌}
use Rattle.bits.proofs.Bools.{both_ways, and_left, and_right, both}
use Rattle.bits.proofs.Masks.{and-or}
use Rattle.bits.proofs.Fields.{get-and, get_all, get-lt}

-- all ones in each field
abbrev pub mask : List Assignment → ℕ
mask fs = bits (map (λ a. a.field) fs)

-- each field holds its value
abbrev pub matched : List Assignment → ℕ → Bool
matched [] e = true
matched (a ∷ more) e = eqb (get a.field e) a.value && matched more e

-- each value at its field
abbrev pub wanted : List Assignment → ℕ
wanted [] = 0
wanted (a ∷ more) = bit_or (a.value * 2 ^ a.field.low) (wanted more)

-- the mask m and the word w show each field so
abbrev pub shown : List Assignment → ℕ → ℕ → Bool
shown [] m w = true
shown (a ∷ more) m w = eqb (get a.field m) (2 ^ a.field.width - 1) && (eqb (get a.field w) a.value && shown more m w)

pub field-mask : (f : Field) (e : ℕ) → bit_and e (ones f) ≡ get f e * 2 ^ f.low
unfolding get
field-mask f e = ap (bit_and e) (sym (high_ones f.width f.low)) ∙ and_high e f.width f.low

over : (e a b : ℕ) → bit_and e (bit_or a b) ≡ bit_or (bit_and e a) (bit_and e b)
over e a b = and_comm e (bit_or a b) ∙ and-or a b e ∙ ap₂ bit_or (and_comm a e) (and_comm b e)

from_fields : (fs : List Assignment) (e : ℕ) → matched fs e ≡ true → bit_and e (mask fs) ≡ wanted fs
from_fields [] e t = and_zero_r e
from_fields (a ∷ more) e t =
    let holds : Bool = eqb (get a.field e) a.value in
    over e (ones a.field) (mask more)
    ∙ ap₂ bit_or (field-mask a.field e ∙ ap (λ (x : ℕ). x * 2 ^ a.field.low) (eqb-true _ _ (and_left holds (matched more e) t)))
    (from_fields more e (and_right holds (matched more e) t))

to_fields : (fs : List Assignment) (m w : ℕ) → shown fs m w ≡ true → (e : ℕ) → bit_and e m ≡ w → matched fs e ≡ true
to_fields [] m w t e q = refl
to_fields (a ∷ more) m w t e q =
    let f : Field = a.field in
    let x : Bool = eqb (get f m) (2 ^ f.width - 1) in
    let y : Bool = eqb (get f w) a.value in
    let r = and_right x (y && shown more m w) t in
    let k : get f e ≡ a.value =
    sym (get_all f e) ∙ ap (bit_and (get f e)) (sym (eqb-true _ _ (and_left x (y && shown more m w) t))) ∙ sym (get-and f e m) ∙ ap (get f) q
    ∙ eqb-true _ _ (and_left y (shown more m w) r) in
    both (eqb (get f e) a.value) (matched more e) (eq-eqb _ _ k) (to_fields more m w (and_right y (shown more m w) r) e q)

-- the law: for named fields the two conditions are refl
pub tested : (fs : List Assignment) → wanted fs ≡ 0 after fs → shown fs (mask fs) (0 after fs) ≡ true → (e : ℕ) → eqb (bit_and e (mask fs)) (0 after fs) ≡ matched fs e
tested fs q t e =
    both_ways (eqb (bit_and e (mask fs)) (0 after fs)) (matched fs e) (λ b. to_fields fs (mask fs) (0 after fs) t e (eqb-true _ _ b))
    (λ b. eq-eqb _ _ (from_fields fs e b ∙ q))

-- a bit that is clear
pub clear : (n e : ℕ) → eqb (get (bit n) e) 0 ≡ not (has n e)
clear n e = go (get (bit n) e) (get-lt (bit n) e)
  where
    go : (x : ℕ) → x < 2 ^ 1 → eqb x 0 ≡ not (eqb x 1)
    go zero h = refl
    go (suc zero) h = refl
    go (suc (suc x)) h = absurd (omega arith)
