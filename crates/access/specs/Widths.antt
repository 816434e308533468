-- How many bytes an access may have, and where they may start.
use Rattle.std.specs.Prelude.{Bool, false, ◌||◌, not, ℕ, ◌%◌, eqb}
use Rattle.rules.specs.declared.Kind.{Kind}
use Rattle.rules.specs.Kind.{by}

-- "width 1, 2, 4 or 8"
abbrev pub known : ℕ → Bool
known width = eqb width 1 || eqb width 2 || eqb width 4 || eqb width 8

-- "Misaligned load or store: 4 or 6, before all else."
abbrev pub misaligned : Kind → ℕ → ℕ → Bool
misaligned kind address width = by kind false (not (eqb (address % width) 0)) (not (eqb (address % width) 0))
