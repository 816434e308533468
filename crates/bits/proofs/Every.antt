-- One computed test over a list gives the rule at each place; a store keeps the rule if what is stored has it. Assumes nothing.
use mathlib.Core.Path.{◌≡◌, refl, sym, ◌∙◌, ap, subst}
use mathlib.Core.Bool.{Bool, true, false, ◌&&◌}
use mathlib.Core.List.{List, [], ◌∷◌}
use Prim.Native.Nat.{ℕ, zero, suc, ◌+◌, ◌<◌, ◌≤◌}
use native.Mathlib.Nat.{add-zero, zero-add, add-suc, suc-add, le_of_suc-le-suc, not-suc-le-zero}
use native.Mathlib.Numerals.{add-one}
use native.Mathlib.Omega.{arith}
use lib.Dec.{ltb}
use lib.Seq.{drop-cons}
use borrow.Author.Tests.{ltb-true, ltb-false}
use lib.ListN.{length, replicate, length-replicate, get_or, set, drop, drop_of_length-le, get_or-eq_default}
use Rattle.bits.specs.Every.{every}
use Rattle.bits.proofs.Bools.{and_left, and_right, both}

from : {A : Type 0} (f : ℕ → A → Bool) (xs : List A) (i : ℕ) (d : A) → every f i xs ≡ true → (k : ℕ) → k < length xs → f (i + k) (get_or xs k d) ≡ true
unfolding every
from f [] i d t k h = absurd (not-suc-le-zero h)
from f (x ∷ xs) i d t zero h = subst (λ (m : ℕ). f m x ≡ true) (sym (add-zero i)) (and_left (f i x) (every f (suc i) xs) t)
from f (x ∷ xs) i d t (suc k) h =
    subst (λ (m : ℕ). f m (get_or xs k d) ≡ true) (suc-add i k ∙ sym (add-suc i k))
    (from f xs (suc i) d (and_right (f i x) (every f (suc i) xs) t) k (le_of_suc-le-suc h))

pub every-at : {A : Type 0} (f : ℕ → A → Bool) (xs : List A) (d : A) → every f 0 xs ≡ true → (k : ℕ) → k < length xs → f k (get_or xs k d) ≡ true
every-at f xs d t k h = subst (λ (m : ℕ). f m (get_or xs k d) ≡ true) (zero-add k) (from f xs 0 d t k h)

-- a test that holds of each number below n
pub every-below : (f : ℕ → Bool) (n : ℕ) → every (λ i (x : ℕ). f i) 0 (replicate n 0) ≡ true → (k : ℕ) → k < n → f k ≡ true
every-below f n t k h = every-at (λ i (x : ℕ). f i) (replicate n 0) 0 t k (rw length-replicate h)

-- and past the end too, if the default has it
pub every_any : {A : Type 0} (f : ℕ → A → Bool) (xs : List A) (d : A) → every f 0 xs ≡ true → ((k : ℕ) → f k d ≡ true) → (k : ℕ) → f k (get_or xs k d) ≡ true
every_any f xs d t e k = at (ltb k (length xs)) refl
  where
    at : (b : Bool) → ltb k (length xs) ≡ b → f k (get_or xs k d) ≡ true
    at true p = every-at f xs d t k (ltb-true k (length xs) p)
    at false p = rw (get_or-eq_default xs d (ltb-false k (length xs) p)) (e k)

set-from : {A : Type 0} (f : ℕ → A → Bool) (xs : List A) (i k : ℕ) (v : A) → every f i xs ≡ true → f (i + k) v ≡ true → every f i (set xs k v) ≡ true
unfolding every
set-from f [] i k v t h = refl
set-from f (x ∷ xs) i zero v t h = both (f i v) (every f (suc i) xs) (subst (λ (m : ℕ). f m v ≡ true) (add-zero i) h) (and_right (f i x) (every f (suc i) xs) t)
set-from f (x ∷ xs) i (suc k) v t h =
    both (f i x) (every f (suc i) (set xs k v)) (and_left (f i x) (every f (suc i) xs) t)
    (set-from f xs (suc i) k v (and_right (f i x) (every f (suc i) xs) t) (subst (λ (m : ℕ). f m v ≡ true) (add-suc i k ∙ sym (suc-add i k)) h))

-- a store keeps the rule where what is stored has it
pub every_set : {A : Type 0} (f : ℕ → A → Bool) (xs : List A) (k : ℕ) (v : A) → every f 0 xs ≡ true → f k v ≡ true → every f 0 (set xs k v) ≡ true
every_set f xs k v t h = set-from f xs 0 k v t (subst (λ (m : ℕ). f m v ≡ true) (sym (zero-add k)) h)

-- one place of a search that goes up the list by an index
pub every-step : {A : Type 0} (f : ℕ → A → Bool) (xs : List A) (i : ℕ) (d : A) → i < length xs → every f i (drop i xs) ≡ (f i (get_or xs i d) && every f (i + 1) (drop (i + 1) xs))
unfolding every
every-step f xs i d h = rw (drop-cons xs i d h, add-one i)

pub every-end : {A : Type 0} (f : ℕ → A → Bool) (xs : List A) (i : ℕ) → length xs ≤ i → every f i (drop i xs) ≡ true
unfolding every
every-end f xs i h = rw (drop_of_length-le xs h)

-- the same tests by index, n of them from place i: at a numeral n this unfolds to a straight line
unfoldable pub all : {A : Type 0} → (ℕ → A → Bool) → List A → A → ℕ → ℕ → Bool
all f xs d zero i = true
all f xs d (suc n) i = f i (get_or xs i d) && all f xs d n (suc i)

pub every_all : {A : Type 0} (f : ℕ → A → Bool) (xs : List A) (d : A) (n i : ℕ) → length xs ≡ i + n → every f i (drop i xs) ≡ all f xs d n i
unfolding all
every_all f xs d zero i e = every-end f xs i (omega arith)
every_all f xs d (suc n) i e =
    let h : i < length xs = omega arith in
    let e' : length xs ≡ suc i + n = omega arith in
    every-step f xs i d h ∙ rw (add-one i) (ap (λ (b : Bool). f i (get_or xs i d) && b) (every_all f xs d n (suc i) e'))
