-- The first row that bears a number (`first_at`): it stands there and bears it, and there is none exactly if no row does. Assumes nothing.
use mathlib.Core.Path.{◌≡◌, refl, sym, ap, ◌∙◌}
use mathlib.Core.List.{List, [], ◌∷◌}
use Prim.Native.Nat.{ℕ, zero, suc, ◌+◌, ◌<◌}
use native.Mathlib.Omega.{arith}
use native.Mathlib.Nat.{le_of_suc-le-suc}
use mathlib.Core.Logic.{◌↔◌}
use mathlib.Core.Bool.{Bool, true, false}
use lib.Dec.{eqb}
use lib.ListN.{length}
use borrow.Author.Tests.{ne_eqb, eqb-true, eqb-false}
use Rattle.bits.specs.Field.{pick}
use Rattle.bits.proofs.Bools.{clash}
use Rattle.table.specs.declared.Row.{Row}
use Rattle.std.specs.Prelude.{Some, None}
use Rattle.table.specs.Table.{first_at}
use Rattle.table.specs.Search.{row_at}

-- r is found at place i by a search that counts from k: it stands there, and bears n
pub record Bears (t : List Row) (n k i : ℕ) (r : Row) : Type 0 where
  pub offset : ℕ
  pub counted : i ≡ k + offset
  pub within : offset < length t
  pub here : row_at t offset ≡ r
  pub bears : r.number ≡ n

-- whatever is found bears the number
pub found : (t : List Row) (n k i : ℕ) (r : Row) → first_at t n k ≡ Some (i, r) → Bears t n k i r
unfolding first_at
found [] n k i r e = clash (cc)
found (x ∷ xs) n k i r e = at (eqb x.number n) refl e (found xs n (suc k) i r)
  where
    at : (b : Bool) → eqb x.number n ≡ b → pick b (Some (k, x)) (first_at xs n (suc k)) ≡ Some (i, r) → (first_at xs n (suc k) ≡ Some (i, r) → Bears xs n (suc k) i r) → Bears (x ∷ xs) n k i r
    at true p q ih =
        let e : ◌≡◌ {A = ℕ × Row} (k, x) (i, r) = cc in
        let a = ap (λ (y : ℕ × Row). y.0) e in
        let b = ap (λ (y : ℕ × Row). y.1) e in
        record { offset = 0; counted = omega arith; within = omega arith; here = b; bears = ap (λ (y : Row). y.number) (sym b) ∙ eqb-true _ _ p }
    at false p q ih =
        let h = ih q in
        record { offset = suc h.offset; counted = omega (arith, h.counted); within = omega (arith, h.within); here = h.here; bears = h.bears }

-- no row bears the number
abbrev pub Unlisted : List Row → ℕ → Type 0
Unlisted t n = (j : ℕ) → j < length t → (row_at t j).number ≡ n → ⊥

none_bears : (t : List Row) (n k : ℕ) → first_at t n k ≡ None → Unlisted t n
unfolding first_at
none_bears [] n k e = λ j h b. omega arith
none_bears (x ∷ xs) n k e = at (eqb x.number n) refl e (none_bears xs n (suc k))
  where
    at : (b : Bool) → eqb x.number n ≡ b → pick b (Some (k, x)) (first_at xs n (suc k)) ≡ None → (first_at xs n (suc k) ≡ None → Unlisted xs n) → Unlisted (x ∷ xs) n
    at true p q ih j h b = clash (cc)
    at false p q ih zero h b = eqb-false _ _ p b
    at false p q ih (suc j) h b = ih q j (le_of_suc-le-suc h) b

nothing_found : (t : List Row) (n k : ℕ) → Unlisted t n → first_at t n k ≡ None
unfolding first_at
nothing_found [] n k u = refl
nothing_found (x ∷ xs) n k u =
    rw (ne_eqb x.number n (u 0 (omega arith))) (nothing_found xs n (suc k) (λ j h b. u (suc j) (omega arith) b))

-- nothing is found exactly if no row bears the number
pub nothing_exactly : (t : List Row) (n k : ℕ) → (first_at t n k ≡ None) ↔ Unlisted t n
nothing_exactly t n k = (none_bears t n k, nothing_found t n k)
