use mathlib.Core.Path.{◌≡◌, refl}
use mathlib.Core.List.{map}
use Prim.Native.Nat.{ℕ, ◌+◌, ◌<◌}
use lib.Dec.{ltb}
use lib.ListN.{get_or}
use Rattle.bits.specs.Every.{every}
use Rattle.bits.specs.Field.{pick}
use Rattle.registers.specs.Registers.{count, registers}
use Rattle.table.specs.Table.{twin_row}
use Rattle.table.proofs.Columns.{column}
use borrow.Author.Tests.{lt-ltb, le-ltb}
use Rattle.table.proofs.kept.twin.Goals as goal

twins : (row : ℕ) → row < count → pick (ltb row 9) (row + 9) row ≡ get_or (map twin_row registers) row 0
unfolding every
twins row h = column (λ i. pick (ltb i 9) (i + 9) i) (λ i. get_or (map twin_row registers) i 0) refl row h

pub returns-then-row-lt-S_ROWS : goal.returns-then-row-lt-S_ROWS
returns-then-row-lt-S_ROWS c = rw (lt-ltb _ _ c.if-row-lt-S_ROWS.true) at (twins c.args.row c.requires)

pub returns : goal.returns
returns c = rw (le-ltb _ _ c.if-row-lt-S_ROWS.false) at (twins c.args.row c.requires)
