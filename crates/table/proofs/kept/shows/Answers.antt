use mathlib.Core.Path.{refl}
use mathlib.Core.Bool.{Bool, ◌||◌}
use Prim.Native.Nat.{ℕ}
use lib.Dec.{eqb}
use Rattle.bits.specs.Every.{every}
use Rattle.bits.specs.Field.{pick, put, top}
use Rattle.registers.specs.Registers.{at}
use Rattle.table.proofs.Columns.{column}
use Rattle.table.proofs.kept.shows.Goals as goal

-- as the code has it; sie's bits, hie's and sstatus's
abbrev bits_of : ℕ → ℕ
bits_of i =
    let s : Bool = eqb i 1 || eqb i 7 || eqb i 10 || eqb i 16 in
    let none : Bool = eqb i 34 || eqb i 40 in
    pick (eqb i 0 || none || s || (eqb i 33 || eqb i 36 || eqb i 37))
    (pick (eqb i 0) (at 0).view.shows (pick none 0 (pick s (at 1).view.shows (at 33).view.shows))) top

pub returns : goal.returns
unfolding every put
returns c =
    rw (c.select-2.ensures, c.select-some.ensures, c.select.ensures, c.select-interrupts.ensures)
    (column bits_of (λ i. (at i).view.shows) refl c.args.row c.requires)
