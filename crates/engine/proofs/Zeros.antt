-- The list's words and the zeros behind them. Assumes nothing.
use mathlib.Core.Path.{◌≡◌}
use mathlib.Core.List.{List, [], ◌∷◌, ◌++◌}
use Prim.Native.Nat.{ℕ, suc, ◌+◌, ◌-◌, ◌*◌}
use native.Mathlib.Nat.{add-zero, add-suc, suc-add}
use native.Mathlib.Omega.{arith}
use lib.ListN.{length, replicate}
use lib.Seq.{sets}
use Rattle.stages.specs.declared.Read.{Read}
use Rattle.stages.specs.Listed.{unused, padded, read_words}
use Rattle.stages.proofs.Words.{length-words, words_append, words-unused}

-- stores one after the other
sets_append : (l : List ℕ) (i : ℕ) (xs ys : List ℕ) → sets (sets l i xs) (i + length xs) ys ≡ sets l i (xs ++ ys)
sets_append l i [] ys = rw add-zero
sets_append l i (x ∷ xs) ys = rw (add-suc, ← suc-add) (sets_append _ (suc i) xs ys)

-- the reads, and zeros in what is left of n places
pub zeroed : (l : List ℕ) (from n end : ℕ) (rs : List Read) → end ≡ from + 4 * n
    → sets (sets l from (read_words rs)) (from + 4 * length rs) (replicate (end - (from + 4 * length rs)) 0) ≡ sets l from (read_words (padded n rs))
zeroed l from n end rs e =
    let d : end - (from + 4 * length rs) ≡ 4 * (n - length rs) = omega arith in
    rw (d, words_append rs (unused (n - length rs)), words-unused (n - length rs), ← length-words rs) (sets_append l from (read_words rs) (replicate (4 * (n - length rs)) 0))
