use mathlib.Core.Path.{◌≡◌}
use lib.ListN.{take, length}
use Rattle.registers.specs.Places.{kept}
use Rattle.layout.proofs.hart_of.Given as goal

abbrev pub invariant-loop-i : goal.invariant-loop-i
invariant-loop-i l = (length l.regs ≡ kept) × (take l.i l.regs ≡ take l.i l.words)
