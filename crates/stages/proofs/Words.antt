-- The list of reads as words. Assumes nothing.
use mathlib.Core.Path.{◌≡◌, refl}
use mathlib.Core.List.{List, [], ◌∷◌, ◌++◌}
use Prim.Native.Nat.{ℕ, zero, suc, ◌*◌, ◌≤◌}
use native.Mathlib.Omega.{arith}
use lib.ListN.{length, replicate, length-append, length-replicate}
use Rattle.stages.specs.declared.Read.{Read}
use Rattle.stages.specs.Listed.{unused, padded, read_words}

pub length-padded : (n : ℕ) (rs : List Read) → length rs ≤ n → length (padded n rs) ≡ n
length-padded n rs h = simp (length-append, length-replicate) (omega arith)

pub length-words : (rs : List Read) → length (read_words rs) ≡ 4 * length rs
length-words [] = refl
length-words (r ∷ rs) = omega (arith, length-words rs)

pub words_append : (xs ys : List Read) → read_words (xs ++ ys) ≡ read_words xs ++ read_words ys
words_append [] ys = refl
words_append (x ∷ xs) ys = rw (words_append xs ys)

pub words-unused : (n : ℕ) → read_words (unused n) ≡ replicate (4 * n) 0
words-unused zero = refl
words-unused (suc n) = let e : 4 * suc n ≡ suc (suc (suc (suc (4 * n)))) = omega arith in rw (e, words-unused n)
