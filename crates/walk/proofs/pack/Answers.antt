use mathlib.Core.Path.{◌≡◌, ap, ◌∙◌}
use Prim.Native.Nat.{◌+◌, ◌*◌}
use native.Mathlib.Omega.{arith}
use lib.ListN.{length, length-set}
use Rattle.stages.specs.Listed.{places}
use Rattle.walk.proofs.Packs.{packs, packs_all, filled}
use Rattle.walk.proofs.pack.Goals as goal

pub loop-i-init : goal.loop-i-init
loop-i-init c =
    let n : length c.none-reads.result ≡ places = ap length c.none-reads.ensures in
    (n, filled c.none-reads.result c.args.words.now places n c.requires)

pub loop-i-preserved : goal.loop-i-preserved
loop-i-preserved c =
    let l = c.loop-i in (
      length-set l.read-items l.i _ ∙ l.invariant.0,
      packs l.read-items c.args.words.now _ l.i (4 * l.i) (l.i + 1) (4 * (l.i + 1)) (omega arith) (omega arith) (omega arith) l.invariant.1,
    )

pub returns : goal.returns
returns c = let l = c.loop-i in packs_all l.read-items c.args.words.now _ l.i (4 * l.i) (omega arith) l.invariant.1
