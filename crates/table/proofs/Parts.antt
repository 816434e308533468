-- A part of a table is searched as the table is. Assumes nothing.
use mathlib.Core.Path.{◌≡◌, sym, ap, ◌∙◌}
use mathlib.Core.List.{List, ◌++◌}
use Prim.Native.Nat.{ℕ, zero, suc, ◌+◌, ◌-◌, ◌<◌, ◌≤◌}
use native.Mathlib.Omega.{arith}
use native.Mathlib.Nat.{le_of_suc-le-suc}
use lib.ListN.{get_or, length, replicate, length-replicate}
use lib.Seq.{get_or-append-add}
use Rattle.registers.specs.Registers.{count}
use Rattle.table.specs.declared.Row.{Row}
use Rattle.table.specs.Search.{looks, no_row, row_at, rows_from, Looked, after, halving, told_from, searched}
use Rattle.table.proofs.Halving.{inside, settles}

-- the rows of a part that begins at place first, each at its place
pub part_at : (rows : List Row) (first place : ℕ) → first ≤ place → row_at (replicate first no_row ++ rows) place ≡ get_or rows (place - first) no_row
part_at rows first place h =
    let e : place ≡ length (replicate first no_row) + (place - first) = rw length-replicate (omega arith) in
    ap (row_at (replicate first no_row ++ rows)) e ∙ get_or-append-add (replicate first no_row) rows (place - first) no_row

row_of : (t : List Row) (k first : ℕ) (rest : List Row) (i : ℕ) → i < k → get_or (rows_from t k first rest) i no_row ≡ row_at t (first + i)
row_of t zero first rest i h = let no : ⊥ = omega arith in absurd no
row_of t (suc k) first rest zero h = let e : first ≡ first + 0 = omega arith in ap (row_at t) e
row_of t (suc k) first rest (suc i) h =
    let e : suc first + i ≡ first + suc i = omega arith in
    row_of t k (suc first) rest i (le_of_suc-le-suc h) ∙ ap (row_at t) e

as_the_table : (t : List Row) (k first : ℕ) (rest : List Row) (left n : ℕ) → halving left (replicate first no_row ++ rows_from t k first rest) n first (first + k) ≡ halving left t n first (first + k)
as_the_table t k first rest left n =
    settles left t (replicate first no_row ++ rows_from t k first rest) n first (first + k) (λ j h.
    let p = get_or (halving left t n first (first + k)).1 j 0 in
    let b = inside left t n first (first + k) j h in
    let e : first + (p - first) ≡ p = omega (arith, b.0) in
    part_at (rows_from t k first rest) first p b.0 ∙ row_of t k first rest (p - first) (omega (arith, b.0, b.1)) ∙ ap (row_at t) e)

-- two looks, then the rest
pub two_down : (t : List Row) (n low high half : ℕ) (s : Looked) → halving looks t n 0 count ≡ after 20 (halving 7 t n low high) → halving 7 t n low high ≡ after half s → told_from (replicate looks 0) 0 (after 20 (after half s)) ≡ searched t n
unfolding searched
two_down t n low high half s p q = ap (told_from (replicate looks 0) 0) (ap (after 20) (sym q) ∙ sym p)

-- the rest is searched in its part
pub quartered : (t : List Row) (n low high half k first : ℕ) (rest : List Row) → halving looks t n 0 count ≡ after 20 (halving 7 t n low high) → halving 7 t n low high ≡ after half (halving 6 t n first (first + k)) → told_from (replicate looks 0) 0 (after 20 (after half (halving 6 (replicate first no_row ++ rows_from t k first rest) n first (first + k)))) ≡ searched t n
quartered t n low high half k first rest p q = rw (as_the_table t k first rest 6 n) (two_down t n low high half (halving 6 t n first (first + k)) p q)
