-- A word after assignments to its fields.
use Rattle.std.specs.Prelude.{List, [], ◌∷◌, ℕ}
use Rattle.bits.specs.declared.Field.{Field}
use Rattle.bits.specs.Field.{put}

-- a field and what it is to hold
pub record Assignment : Type 0 where
  pub field : Field
  pub value : ℕ

infix 70 ◌:=◌
infixl 5 ◌after◌
abbrev pub ◌:=◌ : Field → ℕ → Assignment
f := v = record { field = f; value = v }

-- x after the assignments, the last first (those of every trap and return are to fields that do not overlap: `no_two` of status)
abbrev pub ◌after◌ : ℕ → List Assignment → ℕ
x after [] = x
x after (a ∷ more) = put a.field a.value (x after more)
