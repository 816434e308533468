-- The search of a table by number (2026-06): "find it by any means that looks at no more than eight rows".
use Rattle.std.specs.Prelude.{Option, Some, None, false, List, [], ◌∷◌, ℕ, zero, suc, ◌+◌, ◌/◌, ◌<◌, eqb, ltb, length, get_or, replicate}
use Rattle.std.proofs.lemmas.List.Edits.{sets}
use Rattle.bits.specs.Field.{pick}
use Rattle.registers.specs.Registers.{count}
use Rattle.table.specs.declared.Row.{Row}
use Rattle.table.specs.declared.Searched.{Searched}

-- "no more than eight"
abbrev pub looks : ℕ
looks = 8

-- what stands past a table's end
abbrev pub no_row : Row
no_row = record { number = 0; level = record { 0 = 0 }; read_only = false; mask = 0 }

-- the row at a place of any table
abbrev pub row_at : List Row → ℕ → Row
row_at t place = get_or t place no_row

-- k rows from place first on, and whatever follows them (for a contract of code)
abbrev pub rows_from : List Row → (k first : ℕ) → List Row → List Row
rows_from t zero first rest = rest
rows_from t (suc k) first rest = row_at t first ∷ rows_from t k (suc first) rest

-- what was found, and "which places it looked at", in their order
abbrev pub Looked : Type 0
Looked = Option (ℕ × Row) × List ℕ

-- a look at a place, and those that follow it
abbrev pub after : (place : ℕ) → Looked → Looked
after place s = (s.0, place ∷ s.1)

-- "by any means": by halves. Among the rows from place low to before place high, with so many looks left: the middle one; if it
-- does not bear n, those above it where its number is lower, and those below it where it is not
unfoldable pub halving : (left : ℕ) → List Row → (n low high : ℕ) → Looked
halving zero t n low high = (None, [])
halving (suc left) t n low high =
    let middle : ℕ = (low + high) / 2 in
    let row : Row = row_at t middle in
    pick (ltb low high)
    (after middle
    (pick (eqb row.number n) (Some (middle, row), [])
    (pick (ltb row.number n) (halving left t n (suc middle) high) (halving left t n low middle))))
    (None, [])

-- "and says which places it looked at": written in their order into an array from place from on, the rest of it as it is
abbrev pub told_from : (places : List ℕ) (from : ℕ) → Looked → Searched
told_from places from s = record { found = s.0; places = sets places from s.1; count = from + length s.1 }

-- "The search is handed any table as long as ours": all its rows, and an array of eight zeros for the places
unfoldable pub searched : List Row → (n : ℕ) → Searched
searched t n = told_from (replicate looks 0) 0 (halving looks t n 0 count)

-- "in rising order of number": strictly
abbrev pub Rising : List Row → Type 0
Rising t = (i j : ℕ) → i < j → j < length t → (row_at t i).number < (row_at t j).number
