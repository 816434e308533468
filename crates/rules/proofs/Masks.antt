-- The rules of one entry, from the code's tests under masks. Assumes nothing.
use mathlib.Core.Path.{◌≡◌, refl, sym, ap, ap₂, ◌∙◌}
use mathlib.Core.Bool.{Bool, true, false, ◌&&◌, ◌||◌, not}
use mathlib.Core.List.{List, [], ◌∷◌, map}
use Prim.Native.Nat.{ℕ, ◌+◌, ◌-◌, ◌*◌, ◌/◌, ◌%◌, ◌^◌, ◌<◌}
use native.Mathlib.Omega.{arith}
use native.Mathlib.Nat.{div-one, mul-mod_left}
use lib.Dec.{eqb}
use lib.Bits.{bit_and, bit_or, and_mask}
use lib.Pow.{mod-pow-add, mod-mod-pow, shl-shr}
use borrow.Author.Tests.{eq-eqb, ne_eqb}
use Rattle.bits.specs.Field.{get, put, has, bit, span, pick}
use Rattle.bits.specs.Assign.{Assignment, ◌:=◌}
use Rattle.bits.proofs.Bools.{same_test, and-false, and-true, or-true, or-false, clash}
use Rattle.bits.proofs.Shifts.{one_up}
use Rattle.bits.proofs.Tested.{field-mask, tested, clear}
use Rattle.rules.specs.declared.Right.{Right}
use Rattle.rules.specs.declared.Right.TheVariants.{Read, Write, Execute}
use Rattle.rules.specs.declared.Need.{Need}
use Rattle.rules.specs.declared.Test.{Test}
use Rattle.rules.specs.declared.Judgement.{Judgement}
use Rattle.rules.specs.declared.Judgement.TheVariants.{Pointer, Leaf, Bad}
use Rattle.rules.specs.Right.{by_right}
use Rattle.rules.specs.Entry.{«V», R, W, X, U, A, D, low_ppn, admitted, granted, malformed, bad_pointer, bad_leaf, faulty, target, offset, judged}
use Rattle.rules.specs.Test.{asked, rights, test_of}
use Rattle.rules.proofs.Indices.{offset-lt}

abbrev high : ℕ → Bool
high e = eqb (get (span 63 54) e) 0

not-not : (a : Bool) → not (not a) ≡ a
not-not true = refl
not-not false = refl

either : (a b : Bool) → not (not a && not b) ≡ (a || b)
either true b = refl
either false true = refl
either false false = refl

write_only : (r : Right) (d : Bool) → not (by_right r true d true) ≡ by_right r false (not d) false
write_only Read d = refl
write_only Write d = refl
write_only Execute d = refl

-- the need of data with these parts
abbrev needs : Right → (user sum mxr : Bool) → Need
needs r user sum mxr = record { right = r; fetch = false; user = user; sum = sum; mxr = mxr }

-- SUM as it helps a need: a fetch it does not help, so that any need's tests are those of data with this
abbrev pub helped : Need → Bool
helped n = not n.fetch && n.sum

-- ---- a pointer

pointer_fields : List Assignment
pointer_fields = bit «V» := 1 ∷ bit R := 0 ∷ bit W := 0 ∷ bit X := 0 ∷ span 63 54 := 0 ∷ bit A := 0 ∷ bit D := 0 ∷ bit U := 0 ∷ []

-- V alone
abbrev alone : (v r w x h a d u : Bool) → Bool
alone v r w x h a d u = v && (not r && (not w && (not x && (h && (not a && (not d && (not u && true)))))))

pointer-test : (e : ℕ) → eqb (bit_and e 0xFFC00000000000DF) 1 ≡ alone (has «V» e) (has R e) (has W e) (has X e) (high e) (has A e) (has D e) (has U e)
unfolding get put pointer_fields
pointer-test e = tested pointer_fields refl refl e ∙ rw (clear R e, clear W e, clear X e, clear U e, clear A e, clear D e)

-- ---- a leaf

-- what a leaf has under the mask
asked_of : (n : Need) (e : ℕ) → eqb (bit_and e (test_of n).mask) (test_of n).bits ≡ (has «V» e && (has A e && (high e && (by_right n.right true (has D e) true && admitted n e))))
unfolding get put test_of
asked_of n e = go n.right n.user (helped n)
  where
    go : (r : Right) (user sum : Bool)
        → let m = needs r user sum false in eqb (bit_and e (test_of m).mask) (test_of m).bits ≡ (has «V» e && (has A e && (high e && (by_right r true (has D e) true && admitted m e))))
    go Read true sum = tested (asked (needs Read true sum false)) refl refl e ∙ simp and-true
    go Read false true = tested (asked (needs Read false true false)) refl refl e ∙ simp (and-true, or-true)
    go Read false false = tested (asked (needs Read false false false)) refl refl e ∙ simp (and-true, or-false, clear U e)
    go Write true sum = tested (asked (needs Write true sum false)) refl refl e ∙ simp and-true
    go Write false true = tested (asked (needs Write false true false)) refl refl e ∙ simp (and-true, or-true)
    go Write false false = tested (asked (needs Write false false false)) refl refl e ∙ simp (and-true, or-false, clear U e)
    go Execute true sum = tested (asked (needs Execute true sum false)) refl refl e ∙ simp and-true
    go Execute false true = tested (asked (needs Execute false true false)) refl refl e ∙ simp (and-true, or-true)
    go Execute false false = tested (asked (needs Execute false false false)) refl refl e ∙ simp (and-true, or-false, clear U e)

-- the right: one of these bits
none_of : Need → List Assignment
none_of n = map (λ f. f := 0) (rights n)

some_of : (n : Need) (e : ℕ) → not (eqb (bit_and e (test_of n).some) 0) ≡ granted n e
unfolding get put test_of none_of
some_of n e = go n.right n.mxr
  where
    go : (r : Right) (mxr : Bool) → let m = needs r true false mxr in not (eqb (bit_and e (test_of m).some) 0) ≡ granted m e
    go Read true = ap not (tested (none_of (needs Read true false true)) refl refl e) ∙ simp (and-true, clear R e, clear X e) (either (has R e) (has X e))
    go Read false = ap not (tested (none_of (needs Read true false false)) refl refl e) ∙ simp (and-true, and-false, or-false, clear R e, not-not)
    go Write mxr = ap not (tested (none_of (needs Write true false mxr)) refl refl e) ∙ simp (and-true, clear W e, not-not)
    go Execute mxr = ap not (tested (none_of (needs Execute true false mxr)) refl refl e) ∙ simp (and-true, clear X e, not-not)

-- the test as the code makes it
abbrev pub coded : Right → (user sum mxr : Bool) → Test
coded r user sum mxr =
    record {
      mask = bit_or (bit_or 0xFFC0000000000041 (by_right r 0 0x80 0)) (pick user 0x10 (pick sum 0 0x10));
      bits = bit_or (bit_or 0x41 (by_right r 0 0x80 0)) (pick user 0x10 0);
      some = by_right r (pick mxr 0x0A 0x02) 0x04 0x08;
    }

pub test-code : (n : Need) → test_of n ≡ coded n.right n.user (helped n) n.mxr
unfolding put test_of
test-code n = go n.right n.user (helped n) n.mxr
  where
    go : (r : Right) (user sum mxr : Bool) → test_of (needs r user sum mxr) ≡ coded r user sum mxr
    go Read true sum true = refl
    go Read true sum false = refl
    go Read false true true = refl
    go Read false true false = refl
    go Read false false true = refl
    go Read false false false = refl
    go Write true sum mxr = refl
    go Write false true mxr = refl
    go Write false false mxr = refl
    go Execute true sum mxr = refl
    go Execute false true mxr = refl
    go Execute false false mxr = refl

-- W without R
w_alone : (e : ℕ) → eqb (bit_and e 6) 4 ≡ (has W e && not (has R e))
unfolding get put
w_alone e = tested (bit W := 1 ∷ bit R := 0 ∷ []) refl refl e ∙ simp (and-true, clear R e)

-- ---- where an entry leads

-- PPN times 4096, as the code has it
abbrev pub page : ℕ → ℕ
page e = bit_and (e * 4 % 2 ^ 64) 0xFFFFFFFFFFF000

pub page-target : (e : ℕ) → page e ≡ target e
unfolding get
page-target e = field-mask (span 55 12) (e * 4 % 2 ^ 64) ∙ omega arith

pub page_fits : (e : ℕ) → page e < 2 ^ 56
unfolding get
page_fits e = omega (arith, page-target e)

low_of : (level e : ℕ) → level < 5 → target e % 2 ^ (12 + 9 * level) ≡ get (low_ppn level) e * 2 ^ 12
unfolding get
low_of level e h =
    let g : ℕ = e / 2 ^ 10 % 2 ^ 44 in
    let k : 12 + 9 * level ≡ 9 * level + 12 = omega arith in
    let w : 44 ≡ 44 - 9 * level + 9 * level = omega arith in
    let m : g % 2 ^ (9 * level) ≡ e / 2 ^ 10 % 2 ^ (9 * level) = ap (λ (x : ℕ). e / 2 ^ 10 % 2 ^ x % 2 ^ (9 * level)) w ∙ mod-mod-pow (e / 2 ^ 10) (44 - 9 * level) (9 * level) in
    ap (λ (x : ℕ). g * 2 ^ 12 % 2 ^ x) k ∙ mod-pow-add (g * 2 ^ 12) (9 * level) 12
    ∙ ap₂ ◌+◌ (ap (λ (x : ℕ). x % 2 ^ (9 * level) * 2 ^ 12) (shl-shr g 12) ∙ ap (λ (x : ℕ). x * 2 ^ 12) m) (mul-mod_left g (2 ^ 12)) ∙ omega arith

scaled : (x : ℕ) → eqb (x * 2 ^ 12) 0 ≡ eqb x 0
scaled x = same_test (x * 2 ^ 12) 0 x 0 (λ e. omega arith) (λ e. omega arith)

low-test : (level e : ℕ) → level < 5 → eqb (bit_and (page e) (2 ^ (12 + 9 * level) - 1)) 0 ≡ eqb (get (low_ppn level) e) 0
low-test level e h =
    let q : bit_and (page e) (2 ^ (12 + 9 * level) - 1) ≡ get (low_ppn level) e * 2 ^ 12 = and_mask (page e) (12 + 9 * level) ∙ ap (λ (x : ℕ). x % 2 ^ (12 + 9 * level)) (page-target e) ∙ low_of level e h in
    ap (λ (x : ℕ). eqb x 0) q
    ∙ scaled (get (low_ppn level) e)

-- ---- the leaf test is the rules'

weigh : (v a h d adm gr wr z : Bool)
    → ((v && (a && (h && (d && adm)))) && gr && not wr && z) ≡ not ((not v || wr || not h) || (not z || not a || not d || not (adm && gr)))
weigh false a h d adm gr wr z = refl
weigh true a h d adm gr true z = simp (and-false)
weigh true a false d adm gr false z = simp (and-false)
weigh true a true d adm gr false false = simp (and-false)
weigh true false true d adm gr false true = refl
weigh true true true false adm gr false true = refl
weigh true true true true false gr false true = refl
weigh true true true true true false false true = refl
weigh true true true true true true false true = refl

-- what the code asks of a leaf
abbrev pub takes : Test → ℕ → ℕ → Bool
takes t e low = eqb (bit_and e t.mask) t.bits && not (eqb (bit_and e t.some) 0) && not (eqb (bit_and e 6) 4) && eqb (bit_and (page e) low) 0

takes_leaf : (n : Need) (level e : ℕ) → level < 5 → takes (test_of n) e (2 ^ (12 + 9 * level) - 1) ≡ not (malformed e || bad_leaf n level e)
unfolding malformed bad_leaf
takes_leaf n level e h =
    rw (asked_of n e, some_of n e, w_alone e, low-test level e h)
    (weigh (has «V» e) (has A e) (high e) (by_right n.right true (has D e) true) (admitted n e) (granted n e) (has W e && not (has R e)) (eqb (get (low_ppn level) e) 0)
    ∙ rw (write_only n.right (has D e)))

-- ---- the judgement, by the tests

-- the rules over the answers of their tests, and what is left of them
module _ (P L : Judgement) where
  abbrev ruled : (v r w x h a d u zero bad : Bool) → Judgement
  ruled v r w x h a d u zero bad =
      pick ((not v || (w && not r) || not h) || pick (not (r || x)) (a || d || u || zero) bad) Bad (pick (not (r || x)) P L)

  by_pointer : (v r w x h a d u zero bad : Bool) → alone v r w x h a d u ≡ true → ruled v r w x h a d u zero bad ≡ pick zero Bad P
  by_pointer false r w x h a d u zero bad t = clash t
  by_pointer true true w x h a d u zero bad t = clash t
  by_pointer true false true x h a d u zero bad t = clash t
  by_pointer true false false true h a d u zero bad t = clash t
  by_pointer true false false false false a d u zero bad t = clash t
  by_pointer true false false false true true d u zero bad t = clash t
  by_pointer true false false false true false true u zero bad t = clash t
  by_pointer true false false false true false false true zero bad t = clash t
  by_pointer true false false false true false false false zero bad t = refl

  turned : (b : Bool) → pick b Bad L ≡ pick (not b) L Bad
  turned true = refl
  turned false = refl

  by-leaf : (v r w x h a d u zero bad : Bool) → alone v r w x h a d u ≡ false → (r ≡ false → x ≡ false → w ≡ false → bad ≡ true)
      → ruled v r w x h a d u zero bad ≡ pick (not ((not v || (w && not r) || not h) || bad)) L Bad
  by-leaf false r w x h a d u zero bad t n = refl
  by-leaf true true w x h a d u zero bad t n = turned (((w && false) || not h) || bad)
  by-leaf true false true x h a d u zero bad t n = refl
  by-leaf true false false true h a d u zero bad t n = turned (not h || bad)
  by-leaf true false false false false a d u zero bad t n = refl
  by-leaf true false false false true true d u zero bad t n = rw (n refl refl refl)
  by-leaf true false false false true false true u zero bad t n = rw (n refl refl refl)
  by-leaf true false false false true false false true zero bad t n = rw (n refl refl refl)
  by-leaf true false false false true false false false zero bad t n = clash (sym t)

-- neither R, W nor X is a right missing
no_right : (n : Need) (level e : ℕ) → has R e ≡ false → has X e ≡ false → has W e ≡ false → bad_leaf n level e ≡ true
unfolding bad_leaf
no_right n level e r x w = go n.right n.mxr
  where
    go : (right : Right) (mxr : Bool)
        → (not (eqb (get (low_ppn level) e) 0) || not (has A e) || by_right right false (not (has D e)) false
        || not (admitted n e && by_right right (has R e || (has X e && mxr)) (has W e) (has X e))) ≡ true
    go Read mxr = simp (r, x, and-false, or-true)
    go Write mxr = simp (w, and-false, or-true)
    go Execute mxr = simp (x, and-false, or-true)

-- the mask of a page's offset, as the code has it
abbrev pub low : ℕ → ℕ
low level = (1 * 2 ^ (12 + 9 * level)) % 2 ^ 64 - 1

module _ (level address e : ℕ) (h : level < 5) where
  low_mask : low level ≡ 2 ^ (12 + 9 * level) - 1
  low_mask = ap (λ (x : ℕ). x - 1) (one_up (12 + 9 * level) (omega arith))

  leaf-at : page e + bit_and address (low level) ≡ target e + get (offset level) address
  unfolding get
  leaf-at = rw (page-target e, low_mask, and_mask address (12 + 9 * level), div-one)

  pub leaf_fits : page e + bit_and address (low level) < 2 ^ 64
  leaf_fits = omega (arith, leaf-at, page-target e, page_fits e, offset-lt level address h)

module _ (n : Need) (level address e : ℕ) where
  pub judged-pointer : bit_and e 0xFFC00000000000DF ≡ 1 → judged n level address e ≡ pick (eqb level 0) Bad (Pointer (page e))
  unfolding judged faulty malformed bad_pointer
  judged-pointer t =
      rw (page-target e)
      (by_pointer (Pointer (target e)) (Leaf (target e + get (offset level) address)) (has «V» e) (has R e) (has W e) (has X e) (high e) (has A e) (has D e) (has U e) (eqb level 0) (bad_leaf n level e)
      (sym (pointer-test e) ∙ eq-eqb (bit_and e 0xFFC00000000000DF) 1 t))

  pub judged-leaf : (bit_and e 0xFFC00000000000DF ≡ 1 → ⊥) → level < 5 → (t : Test) → t ≡ test_of n → (b : Bool) → takes t e (low level) ≡ b → judged n level address e ≡ pick b (Leaf (page e + bit_and address (low level))) Bad
  unfolding judged faulty malformed bad_pointer
  judged-leaf other h t p b q =
      rw (leaf-at level address e h)
      (by-leaf (Pointer (target e)) (Leaf (target e + get (offset level) address)) (has «V» e) (has R e) (has W e) (has X e) (high e) (has A e) (has D e) (has U e) (eqb level 0) (bad_leaf n level e)
      (sym (pointer-test e) ∙ ne_eqb (bit_and e 0xFFC00000000000DF) 1 other) (no_right n level e)
      ∙ rw (sym (takes_leaf n level e h) ∙ (rw (p, low_mask level address e h) at q)))
