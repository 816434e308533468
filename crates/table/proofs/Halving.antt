-- One turn of a search by halves, and what follows for the whole. Assumes nothing.
use mathlib.Core.Path.{◌≡◌, refl, sym, subst, ap, ◌∙◌}
use mathlib.Core.Bool.{Bool, true, false}
use mathlib.Core.List.{List, [], ◌∷◌}
use Prim.Native.Nat.{ℕ, zero, suc, ◌+◌, ◌-◌, ◌/◌, ◌<◌, ◌≤◌}
use native.Mathlib.Omega.{arith}
use native.Mathlib.Nat.{le_of_suc-le-suc}
use lib.Dec.{eqb, ltb}
use lib.ListN.{length, get_or}
use borrow.Author.Tests.{ltb-true, ltb-false, lt-ltb, le-ltb, eqb-true, eqb-false, eq-eqb, ne_eqb}
use Rattle.bits.specs.Field.{pick}
use Rattle.bits.proofs.Bools.{clash}
use Rattle.table.specs.declared.Row.{Row}
use Rattle.std.specs.Prelude.{Some, None}
use Rattle.table.specs.Search.{row_at, Looked, after, halving, Rising}

-- the place that is looked at among those from low to before high
abbrev pub middle : (low high : ℕ) → ℕ
middle low high = (low + high) / 2

-- ---- a turn

pub no_look : (t : List Row) (n low high : ℕ) → halving zero t n low high ≡ (None, [])
unfolding halving
no_look t n low high = refl

module _ (left : ℕ) (t : List Row) (n low high : ℕ) where
  abbrev number : ℕ
  number = (row_at t (middle low high)).number

  pub ended : high ≤ low → halving left t n low high ≡ (None, [])
  unfolding halving
  ended h = at left
    where
      at : (k : ℕ) → halving k t n low high ≡ (None, [])
      at zero = refl
      at (suc k) = simp (le-ltb low high h)

  pub here : low < high → number ≡ n → halving (suc left) t n low high ≡ (Some (middle low high, row_at t (middle low high)), middle low high ∷ [])
  unfolding halving
  here h e = simp (lt-ltb low high h, eq-eqb number n e)

  pub above : low < high → number < n → halving (suc left) t n low high ≡ after (middle low high) (halving left t n (suc (middle low high)) high)
  unfolding halving
  above h e = simp (lt-ltb low high h, ne_eqb number n (λ q. omega arith), lt-ltb number n e)

  pub below : low < high → n < number → halving (suc left) t n low high ≡ after (middle low high) (halving left t n low (middle low high))
  unfolding halving
  below h e = simp (lt-ltb low high h, ne_eqb number n (λ q. omega arith), le-ltb number n (omega arith))

  -- which of these it is, and what is shown of all of them holds
  pub by_turn : (P : Looked → Type 0) →
      (high ≤ low → P (None, [])) →
      (low < high → number ≡ n → P (Some (middle low high, row_at t (middle low high)), middle low high ∷ [])) →
      (low < high → number < n → P (after (middle low high) (halving left t n (suc (middle low high)) high))) →
      (low < high → n < number → P (after (middle low high) (halving left t n low (middle low high)))) →
      P (halving (suc left) t n low high)
  unfolding halving
  by_turn P e q a b = at (ltb low high) refl (eqb number n) refl (ltb number n) refl
    where
      at : (x : Bool) → ltb low high ≡ x → (y : Bool) → eqb number n ≡ y → (z : Bool) → ltb number n ≡ z →
          P (pick x (after (middle low high) (pick y (Some (middle low high, row_at t (middle low high)), []) (pick z (halving left t n (suc (middle low high)) high) (halving left t n low (middle low high))))) (None, []))
      at true h true p z r = q (ltb-true low high h) (eqb-true number n p)
      at true h false p true r = a (ltb-true low high h) (ltb-true number n r)
      at true h false p false r =
          let lt = ltb-true low high h in
          let ge = ltb-false number n r in
          let ne : number ≡ n → ⊥ = eqb-false number n p in
          b lt (more ge ne)
        where
          more : n ≤ number → (number ≡ n → ⊥) → n < number
          more ge ne = omega arith
      at false h y p z r = e (ltb-false low high h)

-- ---- how many looks

-- so many rows are settled by k looks
abbrev pub covers : (k : ℕ) → ℕ
covers zero = 0
covers (suc k) = suc (covers k + covers k)

-- what a look leaves, above and below
pub above_covered : (k low high : ℕ) → low < high → high - low ≤ covers (suc k) → high - suc (middle low high) ≤ covers k
above_covered k low high h w = omega arith

pub below_covered : (k low high : ℕ) → low < high → high - low ≤ covers (suc k) → middle low high - low ≤ covers k
below_covered k low high h w = omega arith

pub few : (k left : ℕ) (t : List Row) (n low high : ℕ) → high - low ≤ covers k → length (halving left t n low high).1 ≤ k
few k zero t n low high w = rw (no_look t n low high) (omega arith)
few zero (suc left) t n low high w = by_turn left t n low high (λ s. length s.1 ≤ 0) (λ h. omega arith) (λ h e. omega arith) (λ h e. omega arith) (λ h e. omega arith)
few (suc k) (suc left) t n low high w =
    by_turn left t n low high (λ s. length s.1 ≤ suc k)
    (λ h. omega arith) (λ h e. omega arith)
    (λ h e. omega (arith, few k left t n (suc (middle low high)) high (above_covered k low high h w)))
    (λ h e. omega (arith, few k left t n low (middle low high) (below_covered k low high h w)))

-- ---- which places

-- each is one of those from low to before high
abbrev Inside : (low high : ℕ) → List ℕ → Type 0
Inside low high ps = (j : ℕ) → j < length ps → (low ≤ get_or ps j 0) × (get_or ps j 0 < high)

one_more : (low high low' high' m : ℕ) (ps : List ℕ) → low ≤ m → m < high → low ≤ low' → high' ≤ high → Inside low' high' ps → Inside low high (m ∷ ps)
one_more low high low' high' m ps a b c d i zero h = (a, b)
one_more low high low' high' m ps a b c d i (suc j) h =
    let p = i j (le_of_suc-le-suc h) in
    (omega (arith, p.0), omega (arith, p.1))

pub inside : (left : ℕ) (t : List Row) (n low high : ℕ) → Inside low high (halving left t n low high).1
inside zero t n low high = rw (no_look t n low high) (λ j h. omega arith)
inside (suc left) t n low high =
    let m = middle low high in
    by_turn left t n low high (λ s. Inside low high s.1)
    (λ h j l. omega arith)
    (λ h e. one_more low high low low m [] (omega arith) (omega arith) (omega arith) (omega arith) (λ j l. omega arith))
    (λ h e. one_more low high (suc m) high m (halving left t n (suc m) high).1 (omega arith) (omega arith) (omega arith) (omega arith) (inside left t n (suc m) high))
    (λ h e. one_more low high low m m (halving left t n low m).1 (omega arith) (omega arith) (omega arith) (omega arith) (inside left t n low m))

-- ---- the rows there settle it

abbrev pub Agree : (t u : List Row) → List ℕ → Type 0
Agree t u ps = (j : ℕ) → j < length ps → row_at u (get_or ps j 0) ≡ row_at t (get_or ps j 0)

pub settles : (left : ℕ) (t u : List Row) (n low high : ℕ) → Agree t u (halving left t n low high).1 → halving left u n low high ≡ halving left t n low high
settles zero t u n low high = λ a. no_look u n low high ∙ sym (no_look t n low high)
settles (suc left) t u n low high =
    let m = middle low high in
    by_turn left t n low high (λ s. Agree t u s.1 → halving (suc left) u n low high ≡ s)
    (λ h a. ended (suc left) u n low high h)
    (λ h e a. here left u n low high h (ap (λ (r : Row). r.number) (a 0 (omega arith)) ∙ e) ∙ ap (λ (r : Row). (Some (m, r), m ∷ [])) (a 0 (omega arith)))
    (λ h e a. above left u n low high h (subst (λ (r : Row). r.number < n) (sym (a 0 (omega arith))) e) ∙ ap (after m) (settles left t u n (suc m) high (λ j l. a (suc j) (omega arith))))
    (λ h e a. below left u n low high h (subst (λ (r : Row). n < r.number) (sym (a 0 (omega arith))) e) ∙ ap (after m) (settles left t u n low m (λ j l. a (suc j) (omega arith))))

-- ---- what is found

pub record Stands (t : List Row) (n low high i : ℕ) (r : Row) : Type 0 where
  pub from : low ≤ i
  pub before : i < high
  pub row : row_at t i ≡ r
  pub bears : r.number ≡ n

wider : (t : List Row) (n low high low' high' i : ℕ) (r : Row) → low ≤ low' → high' ≤ high → Stands t n low' high' i r → Stands t n low high i r
wider t n low high low' high' i r a b s = record { from = omega (arith, s.from); before = omega (arith, s.before); row = s.row; bears = s.bears }

-- in any table
pub sound : (left : ℕ) (t : List Row) (n low high i : ℕ) (r : Row) → (halving left t n low high).0 ≡ Some (i, r) → Stands t n low high i r
sound zero t n low high i r = rw (no_look t n low high) (λ e. clash (cc))
sound (suc left) t n low high i r =
    let m = middle low high in
    by_turn left t n low high (λ s. s.0 ≡ Some (i, r) → Stands t n low high i r)
    (λ h e. clash (cc))
    (λ h q e. let p = same (m, row_at t m) (i, r) e in at h q (ap (λ (y : ℕ × Row). y.0) p) (ap (λ (y : ℕ × Row). y.1) p))
    (λ h q e. wider t n low high (suc m) high i r (omega arith) (omega arith) (sound left t n (suc m) high i r e))
    (λ h q e. wider t n low high low m i r (omega arith) (omega arith) (sound left t n low m i r e))
  where
    same : (p q : ℕ × Row) → Some p ≡ Some q → p ≡ q
    same p q e = cc

    at : low < high → (row_at t (middle low high)).number ≡ n → middle low high ≡ i → row_at t (middle low high) ≡ r → Stands t n low high i r
    at h q p x = record {
      from = omega arith;
      before = omega arith;
      row = ap (row_at t) (sym p) ∙ x;
      bears = ap (λ (y : Row). y.number) (sym x) ∙ q;
    }

-- in a table in rising order places are in the order of their numbers
module _ (t : List Row) (up : Rising t) (i j : ℕ) (within : i < length t) (within' : j < length t) where
  abbrev number_of : ℕ → ℕ
  number_of k = (row_at t k).number

  -- they stand in one of three ways
  ordered : (P : Type 0) → (i < j → number_of i < number_of j → P) → (i ≡ j → number_of i ≡ number_of j → P) → (j < i → number_of j < number_of i → P) → P
  ordered P f g h = at (ltb i j) refl (ltb j i) refl
    where
      at : (x : Bool) → ltb i j ≡ x → (y : Bool) → ltb j i ≡ y → P
      at true p y q = f (ltb-true i j p) (up i j (ltb-true i j p) within')
      at false p true q = h (ltb-true j i q) (up j i (ltb-true j i q) within)
      at false p false q =
          let a = ltb-false i j p in
          let b = ltb-false j i q in
          let e : i ≡ j = omega arith in
          g e (ap number_of e)

  pub lower : number_of i < number_of j → i < j
  lower e = ordered (i < j) (λ p q. p) (λ p q. omega arith) (λ p q. omega arith)

  pub alone : number_of i ≡ number_of j → i ≡ j
  alone e = ordered (i ≡ j) (λ p q. omega arith) (λ p q. p) (λ p q. omega arith)

-- in a table in rising order the row that bears n is found, among those that the looks left cover
pub complete : (left : ℕ) (t : List Row) → Rising t → (n low high i : ℕ) → high ≤ length t → high - low ≤ covers left → low ≤ i → i < high → (row_at t i).number ≡ n → (halving left t n low high).0 ≡ Some (i, row_at t i)
complete zero t up n low high i l w a b e = let no : ⊥ = omega arith in absurd no
complete (suc left) t up n low high i l w a b e =
    let m = middle low high in
    by_turn left t n low high (λ s. s.0 ≡ Some (i, row_at t i))
    (λ h. let no : ⊥ = omega arith in absurd no)
    (λ h q. ap (λ (k : ℕ). Some (k, row_at t k)) (alone t up m i (omega arith) (omega arith) (q ∙ sym e)))
    (λ h q. complete left t up n (suc m) high i l (above_covered left low high h w) (lower t up m i (omega arith) (omega arith) (omega arith)) b e)
    (λ h q. complete left t up n low m i (omega arith) (below_covered left low high h w) a (lower t up i m (omega arith) (omega arith) (omega arith)) e)
