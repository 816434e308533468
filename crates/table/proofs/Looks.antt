-- What the request asks of the search (2026-06), of any table as long as ours: how many rows it looks at, that these settle what it
-- answers, and what it finds where the numbers rise. Assumes nothing.
use mathlib.Core.Path.{◌≡◌, refl, sym, subst, ap, ◌∙◌}
use mathlib.Core.Logic.{◌↔◌}
use mathlib.Core.Bool.{Bool, true, false}
use mathlib.Core.List.{List, ◌++◌}
use Prim.Native.Nat.{ℕ, zero, suc, ◌+◌, ◌-◌, ◌<◌, ◌≤◌}
use native.Mathlib.Omega.{arith}
use lib.Dec.{ltb}
use lib.ListN.{length, get_or, drop, replicate, get_or-append, get_or-eq_default}
use lib.Seq.{sets, sets-eq, get_or-append-add}
use borrow.Author.Tests.{ltb-true, ltb-false}
use Rattle.bits.specs.Every.{every}
use Rattle.bits.proofs.Every.{every-below}
use Rattle.registers.specs.Registers.{count}
use Rattle.table.specs.declared.Row.{Row}
use Rattle.std.specs.Prelude.{Option, Some, None}
use Rattle.table.specs.Table.{table, first_at}
use Rattle.table.specs.Search.{looks, row_at, Looked, halving, told_from, searched, Rising}
use Rattle.table.proofs.First.{found, Unlisted, nothing_exactly}
use Rattle.table.proofs.Halving.{few, inside, settles, Stands, sound, complete}

-- ---- the array that tells the places

nothing_there : (j m k : ℕ) → ◌≡◌ {A = ℕ} (get_or (drop j (replicate m 0)) k 0) 0
nothing_there zero zero k = refl
nothing_there zero (suc m) zero = refl
nothing_there zero (suc m) (suc k) = nothing_there zero m k
nothing_there (suc j) zero k = refl
nothing_there (suc j) (suc m) k = nothing_there j m k

-- the places fill eight zeros from the first on
filled : (ps : List ℕ) (k : ℕ) → length ps ≤ looks → get_or (sets (replicate looks 0) 0 ps) k 0 ≡ get_or ps k 0
filled ps k h = rw (sets-eq ps (replicate looks 0) 0 (omega arith)) (at (ltb k (length ps)) refl)
  where
    at : (b : Bool) → ltb k (length ps) ≡ b → get_or (ps ++ drop (0 + length ps) (replicate looks 0)) k 0 ≡ get_or ps k 0
    at true p = get_or-append ps (drop (0 + length ps) (replicate looks 0)) 0 k (ltb-true k (length ps) p)
    at false p =
        let past = ltb-false k (length ps) p in
        let e : k ≡ length ps + (k - length ps) = omega arith in
        ap (λ (m : ℕ). get_or (ps ++ drop (0 + length ps) (replicate looks 0)) m 0) e
        ∙ get_or-append-add ps (drop (0 + length ps) (replicate looks 0)) (k - length ps) 0
        ∙ nothing_there (0 + length ps) looks (k - length ps)
        ∙ sym (get_or-eq_default ps 0 past)

-- ---- any table

module _ (t : List Row) (n : ℕ) where
  -- the place that is told as the k-th
  abbrev pub told : ℕ → ℕ
  told k = get_or (searched t n).places k 0

  abbrev looked : List ℕ
  looked = (halving looks t n 0 count).1

  -- six looks settle the rows of a table as long as ours
  six : length looked ≤ 6
  six = few 6 looks t n 0 count (omega arith)

  pub at_most_six : (searched t n).count ≤ 6
  unfolding searched
  at_most_six = omega (arith, six)

  -- "looks at no more than eight rows"
  pub at_most_eight : (searched t n).count ≤ 8
  at_most_eight = omega (arith, at_most_six)

  told_is : (k : ℕ) → told k ≡ get_or looked k 0
  unfolding searched
  told_is k = filled looked k (omega (arith, six))

  count_is : (searched t n).count ≡ length looked
  unfolding searched
  count_is = omega arith

  -- each is a place of the table
  pub places-below : (k : ℕ) → k < (searched t n).count → told k < count
  places-below k h = rw (told_is k) (inside looks t n 0 count k (omega (arith, count_is))).1

  -- the rest are zero
  pub rest_zero : (k : ℕ) → (searched t n).count ≤ k → told k ≡ 0
  rest_zero k h = told_is k ∙ get_or-eq_default looked 0 (omega (arith, count_is))

  -- "a table with the same rows there gives the same answer", and the same places
  pub same_rows : (u : List Row) → ((k : ℕ) → k < (searched t n).count → row_at u (told k) ≡ row_at t (told k)) → searched u n ≡ searched t n
  unfolding searched
  same_rows u a =
      ap (λ (s : Looked). told_from (replicate looks 0) 0 s)
      (settles looks t u n 0 count (λ k h. subst (λ (p : ℕ). row_at u p ≡ row_at t p) (told_is k) (a k (omega (arith, count_is)))))

  -- whatever is found stands there and bears the number
  pub found_stands : (i : ℕ) (r : Row) → (searched t n).found ≡ Some (i, r) → Stands t n 0 count i r
  unfolding searched
  found_stands i r e = sound looks t n 0 count i r e

-- ---- a table in rising order of number

module _ (t : List Row) (long : length t ≡ count) (up : Rising t) (n : ℕ) where
  -- "it finds the row that bears it", at its place
  pub finds : (i : ℕ) → i < count → (row_at t i).number ≡ n → (searched t n).found ≡ Some (i, row_at t i)
  unfolding searched
  finds i h e = complete looks t up n 0 count i (omega arith) (omega arith) (omega arith) h e

  -- that is the first that bears it
  pub finds_first : (searched t n).found ≡ first_at t n 0
  finds_first = at (first_at t n 0) refl
    where
      at : (f : Option (ℕ × Row)) → first_at t n 0 ≡ f → (searched t n).found ≡ f
      at (Some (i, r)) e =
          let b = found t n 0 i r e in
          let o : b.offset ≡ i = omega (arith, b.counted) in
          let row : row_at t i ≡ r = subst (λ (k : ℕ). row_at t k ≡ r) o b.here in
          finds i (omega (arith, b.within)) (ap (λ (x : Row). x.number) row ∙ b.bears) ∙ ap (λ (x : Row). Some (i, x)) row
      at None e = none (searched t n).found refl
        where
          none : (g : Option (ℕ × Row)) → (searched t n).found ≡ g → g ≡ None
          none (Some (i, r)) q =
              let s = found_stands t n i r q in
              absurd ((nothing_exactly t n 0).0 e i (omega (arith, s.before)) (ap (λ (x : Row). x.number) s.row ∙ s.bears))
          none None q = refl

  -- "and none exactly if no row does"
  pub none_exactly : ((searched t n).found ≡ None) ↔ Unlisted t n
  none_exactly =
      (λ e. (nothing_exactly t n 0).0 (sym finds_first ∙ e), λ u. finds_first ∙ (nothing_exactly t n 0).1 u)

-- ---- ours

-- neighbours in order are enough
neighbours : (t : List Row) → ((i : ℕ) → suc i < length t → (row_at t i).number < (row_at t (suc i)).number) → Rising t
neighbours t a i zero h l = let no : ⊥ = omega arith in absurd no
neighbours t a i (suc j) h l = at (ltb i j) refl (λ p. neighbours t a i j p (omega arith))
  where
    at : (b : Bool) → ltb i j ≡ b → (i < j → (row_at t i).number < (row_at t j).number) → (row_at t i).number < (row_at t (suc j)).number
    at true p ih = omega (arith, ih (ltb-true i j p), a j l)
    at false p ih =
        let ge = ltb-false i j p in
        let e : i ≡ j = omega arith in
        subst (λ (k : ℕ). (row_at t k).number < (row_at t (suc j)).number) (sym e) (a j l)

tested : every (λ i (x : ℕ). ltb (row_at table i).number (row_at table (suc i)).number) 0 (replicate 40 0) ≡ true
unfolding every
tested = refl

-- "ours is from here"
pub rising : Rising table
rising = neighbours table (λ i h. ltb-true _ _ (every-below (λ i. ltb (row_at table i).number (row_at table (suc i)).number) 40 tested i (omega arith)))
