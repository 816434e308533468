use mathlib.Core.Path.{◌≡◌, refl}
use mathlib.Core.Bool.{◌||◌}
use Prim.Native.Nat.{ℕ}
use lib.Dec.{eqb}
use Rattle.std.specs.Prelude.{Option, Some, None}
use Rattle.bits.specs.Every.{every}
use Rattle.bits.specs.Field.{pick}
use Rattle.bits.proofs.Every.{every-below}
use Rattle.registers.specs.Places.{mideleg, hideleg}
use Rattle.registers.specs.Registers.{count, at}
use Rattle.registers.proofs.Rows.{same_gate, same_gate_lem}
use Rattle.table.proofs.kept.gate.Goals as goal

-- of any row
abbrev gated : ℕ → Option ℕ
gated row = pick (eqb row 1 || eqb row 7) (Some mideleg) (pick (eqb row 10 || eqb row 16) (Some hideleg) None)

pub returns : goal.returns
unfolding every
returns c =
    let row = c.args.row in
    let e : gated row ≡ (at row).view.gate = same_gate_lem (gated row) (at row).view.gate (every-below (λ i. same_gate (gated i) (at i).view.gate) count refl row c.requires) in
    rw (c.if-row.false, c.if-row-2.false) at e
