-- The row that a number reaches with V=1 has the view of its twin. Assumes nothing.
use mathlib.Core.Path.{◌≡◌, refl}
use mathlib.Core.Bool.{Bool, true, ◌&&◌}
use mathlib.Core.List.{map}
use Prim.Native.Nat.{ℕ, ◌<◌}
use lib.Dec.{ltb}
use lib.ListN.{get_or}
use borrow.Author.Tests.{ltb-true}
use Rattle.bits.specs.Every.{every}
use Rattle.bits.proofs.Bools.{split}
use Rattle.bits.proofs.Every.{every-at}
use Rattle.registers.specs.Registers.{count, registers, at}
use Rattle.registers.proofs.Rows.{same_view, same_view_lem}
use Rattle.table.specs.Table.{twin_row}

abbrev pub twin_of : ℕ → ℕ
twin_of place = get_or (map twin_row registers) place 0

abbrev test : ℕ → ℕ → Bool
test place row = ltb row count && same_view (at row).view (at place).twin

tested : every test 0 (map twin_row registers) ≡ true
unfolding every
tested = refl

pub record Twin (place : ℕ) : Type 0 where
  pub below : twin_of place < count
  pub view : (at (twin_of place)).view ≡ (at place).twin

pub twin : (place : ℕ) → place < count → Twin place
twin place h =
    split (ltb (twin_of place) count) _ (every-at test (map twin_row registers) 0 tested place h)
    (λ a b. record { below = ltb-true _ _ a; view = same_view_lem _ _ b })
