use mathlib.Core.Path.{◌≡◌}
use Prim.Native.Nat.{◌*◌}
use lib.ListN.{length, drop}
use lib.Seq.{sets}
use Rattle.stages.specs.Listed.{places}
use Rattle.walk.specs.Walked.{unpack}
use Rattle.walk.proofs.pack.Given as goal

abbrev pub invariant-loop-i : goal.invariant-loop-i
invariant-loop-i l = (length l.read-items ≡ places) × (sets l.read-items l.i (unpack (drop (4 * l.i) l.words)) ≡ unpack l.words)
