-- The list of reads in an array, and as words.
use Rattle.std.specs.Prelude.{List, [], ◌∷◌, ◌++◌, ℕ, suc, ◌-◌, ◌*◌, length, replicate}
use Rattle.stages.specs.declared.Read.{Read}
use Rattle.stages.specs.Tree.{item}
use Rattle.stages.specs.Stages.{machine}

-- "the list of reads grows to thirty-five places" (2026-05)
abbrev pub places : ℕ
places = 35

-- "n levels over m levels read at most (n+1)(m+1)-1 entries" (2026-05)
abbrev pub most : ℕ → ℕ → ℕ
most n m = suc n * suc m - 1

-- "unused places are zero"
abbrev pub unused : ℕ → List Read
unused n = replicate n (item 0 0 (machine 0) 0)

-- reads in order, the rest of n places unused
abbrev pub padded : ℕ → List Read → List Read
padded n xs = xs ++ unused (n - length xs)

-- The list's places as words, 4 each: stage, level, machine address and value.
abbrev pub read_words : List Read → List ℕ
read_words [] = []
read_words (r ∷ rs) = r.stage ∷ r.level ∷ r.address.0 ∷ r.value ∷ read_words rs
