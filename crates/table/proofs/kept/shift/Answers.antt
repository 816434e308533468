use mathlib.Core.Path.{refl}
use mathlib.Core.Bool.{◌||◌}
use lib.Dec.{eqb}
use Rattle.bits.specs.Every.{every}
use Rattle.bits.specs.Field.{pick}
use Rattle.registers.specs.Registers.{at}
use Rattle.table.proofs.Columns.{column}
use Rattle.table.proofs.kept.shift.Goals as goal

pub returns : goal.returns
unfolding every
returns c = rw c.select.ensures (column (λ i. pick (eqb i 10 || eqb i 16) 1 0) (λ i. (at i).view.shift) refl c.args.row c.requires)
