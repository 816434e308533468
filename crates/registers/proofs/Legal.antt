-- What keeps a register legal; and a value is legal exactly if some write to the register, as it is after reset, stores it. Assumes nothing.
use mathlib.Core.Path.{◌≡◌, refl, sym, ap, ap₂, subst, ◌∙◌}
use mathlib.Core.Bool.{Bool, true, ◌&&◌, ◌||◌}
use mathlib.Core.List.{List, [], ◌∷◌}
use mathlib.Core.Logic.{⊎_elim}
use Prim.Native.Nat.{ℕ, ◌%◌, ◌^◌, ◌-◌, ◌<◌}
use native.Mathlib.Nat.{mod-eq_of_lt}
use lib.Bits.{bit_and, bit_or, and_zero_r, or_zero_r, and_comm, and_mask}
use lib.Dec.{eqb}
use borrow.Author.Tests.{eqb-true, eq-eqb}
use Rattle.bits.specs.declared.Field.{Field}
use Rattle.bits.specs.Field.{Fits, top, get, put, copy}
use Rattle.bits.specs.Assign.{Assignment, ◌after◌}
use Rattle.bits.proofs.Bools.{and_left, and_right, both, split, or_cases, pick_both}
use Rattle.bits.proofs.Masks.{and-or, and_assoc}
use Rattle.bits.proofs.Fields.{get-lt, get-put}
use Rattle.bits.proofs.Tests.{fits, fits_test, apart, outside, put-outside, other}
use Rattle.registers.specs.Rules.{Restriction, free, keeps, ignores, Rule, among, allowed, taken, legal}

-- ---- a rule that makes sense

-- a restricted field is stored: it has none of the other bits
abbrev pub restricts_stored : Restriction → (others : ℕ) → Bool
restricts_stored free k = true
restricts_stored (keeps f vs) k = outside f k
restricts_stored (ignores f vs) k = outside f k

-- the stored bits and the others make up the 64; a restricted field is stored; with all stored bits clear the register is legal
unfoldable pub sound : Rule → Bool
sound r =
    eqb (bit_or (top - r.mask) r.mask) top
    && (eqb (bit_and r.fixed (top - r.mask)) r.fixed && (allowed r.restriction r.fixed && restricts_stored r.restriction (top - r.mask)))

record Sound (r : Rule) : Type 0 where
  all : bit_or (top - r.mask) r.mask ≡ top
  rest : bit_and r.fixed (top - r.mask) ≡ r.fixed
  start : allowed r.restriction r.fixed ≡ true
  field : restricts_stored r.restriction (top - r.mask) ≡ true

sound_test : (r : Rule) → sound r ≡ true → Sound r
unfolding sound
sound_test r t =
    split (eqb (bit_or (top - r.mask) r.mask) top) _ t (λ a t₁. split (eqb (bit_and r.fixed (top - r.mask)) r.fixed) _ t₁
    (λ b t₂. split (allowed r.restriction r.fixed) _ t₂ (λ c d. record { all = eqb-true _ _ a; rest = eqb-true _ _ b; start = c; field = d })))

-- ---- what goes into a register

-- what holds of the old word, of the new one, and of the new one with a field kept holds of what is taken
pub taken-has : (P : ℕ → Type 0) (q : Restriction) (old x : ℕ) → P old → P x → ((f : Field) (vs : List ℕ) → q ≡ keeps f vs → P (put f (get f old) x)) → P (taken q old x)
taken-has P free old x o n k = n
taken-has P (keeps f vs) old x o n k = pick_both P (among (get f x) vs) x (put f (get f old) x) (λ e. n) (λ e. k f vs refl)
taken-has P (ignores f vs) old x o n k = pick_both P (among (get f x) vs) x old (λ e. n) (λ e. o)

outside_fits : (f : Field) (k : ℕ) → outside f k ≡ true → fits f ≡ true
unfolding outside
outside_fits f k = and_left (fits f) _

-- what goes into a register that holds an allowed value is allowed
taken-allowed : (q : Restriction) (k old x : ℕ) → restricts_stored q k ≡ true → allowed q old ≡ true → allowed q (taken q old x) ≡ true
taken-allowed free k old x s h = refl
taken-allowed (keeps f vs) k old x s h =
    pick_both (λ (y : ℕ). among (get f y) vs ≡ true) (among (get f x) vs) x (put f (get f old) x) (λ e. e)
    (λ e. ap (λ (n : ℕ). among n vs) (get-put f (fits_test f (outside_fits f k s)) (get f old) x ∙ mod-eq_of_lt (get-lt f old)) ∙ h)
taken-allowed (ignores f vs) k old x s h = pick_both (λ (y : ℕ). among (get f y) vs ≡ true) (among (get f x) vs) x old (λ e. e) (λ e. h)

allowed-taken : (q : Restriction) (old x : ℕ) → allowed q x ≡ true → taken q old x ≡ x
allowed-taken free old x h = refl
allowed-taken (keeps f vs) old x h = rw h
allowed-taken (ignores f vs) old x h = rw h

-- the mask m has none of the bits of k
unfoldable pub spares : (m k : ℕ) → Bool
spares m k = eqb (bit_and (top - m) k) k && eqb (bit_and m k) 0

copy_spares : (m k w old : ℕ) → spares m k ≡ true → bit_and (copy m w old) k ≡ bit_and old k
unfolding spares
copy_spares m k w old t =
    split (eqb (bit_and (top - m) k) k) (eqb (bit_and m k) 0) t (λ a b.
    and-or (bit_and old (top - m)) (bit_and w m) k
    ∙ ap₂ bit_or (and_assoc old (top - m) k ∙ ap (bit_and old) (eqb-true _ _ a)) (and_assoc w m k ∙ ap (bit_and w) (eqb-true _ _ b) ∙ and_zero_r w)
    ∙ or_zero_r (bit_and old k))

-- ---- exactly what writes store

module _ (r : Rule) (t : sound r ≡ true) where
  s : Sound r
  s = sound_test r t

  pub legal-allowed : (x : ℕ) → legal r x ≡ true → allowed r.restriction x ≡ true
  unfolding legal
  legal-allowed x h = and_left (allowed r.restriction x) _ h

  legal_rest : (x : ℕ) → legal r x ≡ true → bit_and x (top - r.mask) ≡ r.fixed
  unfolding legal
  legal_rest x h = eqb-true _ _ (and_right (allowed r.restriction x) (eqb (bit_and x (top - r.mask)) r.fixed) h)

  make_legal : (x : ℕ) → allowed r.restriction x ≡ true → bit_and x (top - r.mask) ≡ r.fixed → legal r x ≡ true
  unfolding legal
  make_legal x a e = both (allowed r.restriction x) (eqb (bit_and x (top - r.mask)) r.fixed) a (eq-eqb _ _ e)

  -- a field that keeps what it held lies within a word
  pub restricted_fits : (f : Field) (vs : List ℕ) → r.restriction ≡ keeps f vs → Fits f
  restricted_fits f vs e =
      fits_test f (outside_fits f (top - r.mask) (subst (λ (q : Restriction). restricts_stored q (top - r.mask) ≡ true) e s.field))

  -- some stored bits written to a register that holds what it can leave one that does
  pub taken-legal : (m old w : ℕ) → spares m (top - r.mask) ≡ true → legal r old ≡ true → legal r (taken r.restriction old (copy m w old)) ≡ true
  taken-legal m old w p h =
      let x = copy m w old in
      let o : bit_and old (top - r.mask) ≡ r.fixed = legal_rest old h in
      let n : bit_and x (top - r.mask) ≡ r.fixed = copy_spares m (top - r.mask) w old p ∙ o in
      make_legal (taken r.restriction old x) (taken-allowed r.restriction (top - r.mask) old x s.field (legal-allowed old h))
      (taken-has (λ (y : ℕ). bit_and y (top - r.mask) ≡ r.fixed) r.restriction old x o n
      (λ f vs e. put-outside f (top - r.mask) (subst (λ (q : Restriction). restricts_stored q (top - r.mask) ≡ true) e s.field) (get f old) x ∙ n))

  -- written over the register with all stored bits clear, what is legal is stored as it is
  pub legal-taken : (x : ℕ) → x < 2 ^ 64 → legal r x ≡ true → taken r.restriction r.fixed (copy r.mask x r.fixed) ≡ x
  legal-taken x b h =
      ap (taken r.restriction r.fixed)
      (ap (λ (y : ℕ). bit_or y (bit_and x r.mask)) (s.rest ∙ sym (legal_rest x h))
      ∙ ap₂ bit_or (and_comm x (top - r.mask)) (and_comm x r.mask) ∙ sym (and-or (top - r.mask) r.mask x)
      ∙ ap (λ (y : ℕ). bit_and y x) s.all ∙ and_comm top x ∙ and_mask x 64 ∙ mod-eq_of_lt b)
      ∙ allowed-taken r.restriction r.fixed x (legal-allowed x h)

  -- with all stored bits clear the register is legal
  pub fixed-legal : legal r r.fixed ≡ true
  fixed-legal = make_legal r.fixed s.start s.rest

-- ---- assignments to fields keep a register legal

-- the two are one field
unfoldable pub same : Field → Field → Bool
same f g = eqb f.low g.low && eqb f.width g.width

same_is : (f g : Field) → same f g ≡ true → f ≡ g
unfolding same
same_is f g t =
    split (eqb f.low g.low) _ t (λ a b. ap₂ (λ (l w : ℕ). record { low = l; width = w }) (eqb-true _ _ a) (eqb-true _ _ b))

-- the assignment is to another field than f, or of one of the values
abbrev pub suits : Field → List ℕ → Assignment → Bool
suits f vs a = apart a.field f || (same a.field f && among (a.value % 2 ^ f.width) vs)

unfoldable pub takes : Restriction → Assignment → Bool
unfolding same
takes free a = true
takes (keeps f vs) a = suits f vs a
takes (ignores f vs) a = suits f vs a

-- the assignments are to stored fields, of values that they take
unfoldable pub fine : Rule → List Assignment → Bool
unfolding takes same
fine r [] = true
fine r (a ∷ more) = (outside a.field (top - r.mask) && takes r.restriction a) && fine r more

put_suits : (f : Field) (vs : List ℕ) (k : ℕ) (a : Assignment) (x : ℕ) → outside f k ≡ true → suits f vs a ≡ true → among (get f x) vs ≡ true → among (get f (put a.field a.value x)) vs ≡ true
put_suits f vs k a x s t h =
    ⊎_elim (λ p. ap (λ (n : ℕ). among n vs) (other a.field f p a.value x) ∙ h)
    (λ p. split (same a.field f) (among (a.value % 2 ^ f.width) vs) p (λ e m.
    ap (λ (n : ℕ). among n vs)
    (ap (λ (g : Field). get f (put g a.value x)) (same_is a.field f e) ∙ get-put f (fits_test f (outside_fits f k s)) a.value x) ∙ m))
    (or_cases (apart a.field f) (same a.field f && among (a.value % 2 ^ f.width) vs) t)

put-allowed : (q : Restriction) (k : ℕ) (a : Assignment) (x : ℕ) → restricts_stored q k ≡ true → takes q a ≡ true → allowed q x ≡ true → allowed q (put a.field a.value x) ≡ true
unfolding takes
put-allowed free k a x s t h = refl
put-allowed (keeps f vs) k a x s t h = put_suits f vs k a x s t h
put-allowed (ignores f vs) k a x s t h = put_suits f vs k a x s t h

-- what is legal stays so
pub after-legal : (r : Rule) → sound r ≡ true → (changes : List Assignment) (x : ℕ) → fine r changes ≡ true → legal r x ≡ true → legal r (x after changes) ≡ true
unfolding fine
after-legal r t [] x f h = h
after-legal r t (a ∷ more) x f h =
    split (outside a.field (top - r.mask) && takes r.restriction a) (fine r more) f (λ g rest.
    split (outside a.field (top - r.mask)) (takes r.restriction a) g (λ o k.
    let y : legal r (x after more) ≡ true = after-legal r t more x rest h in
    make_legal r t (put a.field a.value (x after more))
    (put-allowed r.restriction (top - r.mask) a (x after more) (sound_test r t).field k (legal-allowed r t (x after more) y))
    (put-outside a.field (top - r.mask) o a.value (x after more) ∙ legal_rest r t (x after more) y)))
