use Rattle.std.proofs.Common.{◌≡◌, ◌+◌, take}
use Rattle.layout.specs.Layout.{words}
use Rattle.layout.proofs.write_hart.Given as goal

abbrev pub invariant-loop-i : goal.invariant-loop-i
invariant-loop-i l = take (3 + l.i) l.out ≡ take (3 + l.i) (words l.hart)
