use mathlib.Core.List.{[], ◌∷◌}
use Prim.Native.Nat.{◌+◌, ◌*◌, ◌-◌}
use native.Mathlib.Omega.{arith}
use lib.ListN.{take, get_or}
use Rattle.std.proofs.lemmas.List.{take_more}
use Rattle.std.proofs.lemmas.Slice.{take-put_mid}
use Rattle.stages.specs.Tree.{item}
use Rattle.stages.specs.Stages.{machine}
use Rattle.stages.proofs.Words.{words_append}
use Rattle.layout.proofs.guest.put_reads.Goals as goal

pub loop-i-preserved : goal.loop-i-preserved
loop-i-preserved c =
    let l = c.loop-i in
    let rs = c.args.reads.now in
    let none = item 0 0 (machine 0) 0 in
    let four = c.copy_from_slice.ensures.after in
    rw (
      take-put_mid (4 * l.i) (4 * l.i + 4 - 4 * l.i) l.out c.copy_from_slice.new.self (4 * (l.i + 1)) (rw four (omega arith)) (omega arith),
      four,
      l.invariant,
      take_more rs l.i none (omega arith),
      words_append (take l.i rs) (get_or rs l.i none ∷ []),
    )
