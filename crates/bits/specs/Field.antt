-- Fields of a 64-bit word.
use Rattle.std.specs.Prelude.{Bool, true, false, List, [], ◌∷◌, ℕ, ◌+◌, ◌*◌, ◌/◌, ◌%◌, ◌^◌, ◌-◌, ◌<◌, ◌≤◌, eqb}
use Rattle.std.specs.Int.Bits.{bit_and, bit_or}
use Rattle.bits.specs.declared.Field.{Field}

-- the first if the test holds, else the second
abbrev pub pick : {A : Type 0} → Bool → A → A → A
pick true a b = a
pick false a b = b

-- bits high:low
abbrev pub span : ℕ → ℕ → Field
span high low = record { low = low; width = high + 1 - low }

-- one bit
abbrev pub bit : ℕ → Field
bit n = record { low = n; width = 1 }

-- within a word, and not the whole of it
pub record Fits (f : Field) : Type 0 where
  pub low : f.low < 64
  pub width : f.width < 64
  pub sum : f.low + f.width ≤ 64

-- the word of all ones
abbrev pub top : ℕ
top = 2 ^ 64 - 1

-- the word that has all ones in the field and zeros elsewhere
abbrev pub ones : Field → ℕ
ones f = (2 ^ f.width - 1) * 2 ^ f.low

-- the word that holds v in the field and zeros elsewhere
abbrev pub place : Field → ℕ → ℕ
place f v = v % 2 ^ f.width * 2 ^ f.low

-- the word that has all ones in each of the fields
abbrev pub bits : List Field → ℕ
bits [] = 0
bits (f ∷ fs) = bit_or (ones f) (bits fs)

-- what the field holds in x
unfoldable pub get : Field → ℕ → ℕ
get f x = x / 2 ^ f.low % 2 ^ f.width

-- x with the field holding v
unfoldable pub put : Field → ℕ → ℕ → ℕ
put f v x = bit_or (bit_and x (top - ones f)) (place f v)

-- bit n of x is set
abbrev pub has : ℕ → ℕ → Bool
has n x = eqb (get (bit n) x) 1

-- old with the bits of the mask taken from w
abbrev pub copy : ℕ → ℕ → ℕ → ℕ
copy mask w old = bit_or (bit_and old (top - mask)) (bit_and w mask)
