-- The registers that a hart keeps, each at its place.
use Rattle.std.specs.Prelude.{Bool, List, [], ◌∷◌, map, ℕ, set}
use Rattle.bits.specs.Every.{every}
use Rattle.registers.specs.Rules.{Rule, legal, rules, rule}

-- a place and what it comes to hold
pub record Write : Type 0 where
  pub place : ℕ
  pub value : ℕ

infix 70 ◌↢◌
infixl 5 ◌with◌
abbrev pub ◌↢◌ : ℕ → ℕ → Write
p ↢ x = record { place = p; value = x }

-- the registers with these written, the first first
abbrev pub ◌with◌ : List ℕ → List Write → List ℕ
rs with [] = rs
rs with (w ∷ ws) = set rs w.place w.value with ws

-- after reset: no stored bit is set
abbrev pub initial : List ℕ
initial = map (λ (r : Rule). r.fixed) rules

-- what a place can hold
abbrev pub holds : ℕ → ℕ → Bool
holds place x = legal (rule place) x

-- check 2 of the registers: no "register holding what no write could store"
unfoldable pub registers_pass : List ℕ → Bool
registers_pass rs = every holds 0 rs
