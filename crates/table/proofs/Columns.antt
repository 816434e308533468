-- What code says of a row it says of each, by one computed test. Assumes nothing.
use mathlib.Core.Path.{◌≡◌}
use mathlib.Core.Bool.{true}
use Prim.Native.Nat.{ℕ, ◌<◌}
use lib.Dec.{eqb}
use lib.ListN.{replicate}
use borrow.Author.Tests.{eqb-true}
use Rattle.bits.specs.Every.{every}
use Rattle.bits.proofs.Every.{every-below}
use Rattle.registers.specs.Registers.{count}

pub column : (f g : ℕ → ℕ) → every (λ i (x : ℕ). eqb (f i) (g i)) 0 (replicate count 0) ≡ true → (row : ℕ) → row < count → f row ≡ g row
column f g tested row h = eqb-true _ _ (every-below (λ i. eqb (f i) (g i)) count tested row h)
