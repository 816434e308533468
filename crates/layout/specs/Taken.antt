-- Which slices a call takes; what it returns, and with it what the lent slice holds after the call.
use Rattle.std.specs.Prelude.{Bool, ◌||◌, not, List, ℕ, eqb, length}
use Rattle.bits.specs.Field.{pick}
use Rattle.layout.specs.Layout.{hart_size}

-- a hart of another size, or a result of other than n words
unfoldable pub misfit : (hart out n : ℕ) → Bool
misfit hart out n = not (eqb hart hart_size) || not (eqb out n)

-- a result over a slice of n words; one of another length stays as it is
abbrev pub over : (n : ℕ) (out result : List ℕ) → List ℕ
over n out result = pick (eqb (length out) n) result out

-- a result of n words: 1, and nothing is written, where a length is wrong; else 0, and the result is written
unfoldable pub put : (hart n : ℕ) (out result : List ℕ) → ℕ × List ℕ
put hart n out result = pick (misfit hart (length out) n) (1, out) (0, result)
