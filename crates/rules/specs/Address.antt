-- The rules of an address: its high bits, and its index at a level.
use Rattle.std.specs.Prelude.{Bool, ℕ, suc, ◌+◌, ◌-◌, ◌*◌, eqb}
use Rattle.bits.specs.declared.Field.{Field}
use Rattle.bits.specs.Field.{span, get, has, pick, top}

-- the two stages
pub data Stage : Type 0 where
  first second : Stage

-- "stage (1 first, 2 second)"
abbrev pub number : Stage → ℕ
number first = 1
number second = 2

-- "bits 63:39 equal bit 38": the bits from low up all equal the bit below them.
unfoldable pub extended : ℕ → ℕ → Bool
extended low address = eqb (get (span 63 low) address) (pick (has (low - 1) address) (get (span 63 low) top) 0)

-- "bits 63:41 zero": no bit from low up is set.
unfoldable pub small : ℕ → ℕ → Bool
small low address = eqb (get (span 63 low) address) 0

-- The test of an address's high bits, at a number of levels: 39 and 41 bits at three (Sv39, Sv39x4), "48 or 57 bits first stage, 50 or 59 second" at four
-- and five (2026-05).
abbrev pub well_formed : Stage → ℕ → ℕ → Bool
well_formed first levels = extended (12 + 9 * levels)
well_formed second levels = small (14 + 9 * levels)

-- "the address's nine bits from bit 12 + 9 times the level up, eleven at the second stage's root"
abbrev pub index_width : Stage → ℕ → ℕ → ℕ
index_width first levels level = 9
index_width second levels level = pick (eqb (suc level) levels) 11 9

-- the bits of an address from 12 + 9 times the level up
abbrev pub index_bits : ℕ → ℕ → Field
index_bits width level = record { low = 12 + 9 * level; width = width }

unfoldable pub index : Stage → ℕ → ℕ → ℕ → ℕ
index s levels level = get (index_bits (index_width s levels level) level)
