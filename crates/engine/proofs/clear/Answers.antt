use mathlib.Core.Path.{sym, ap, ◌∙◌}
use Prim.Native.Nat.{ℕ, ◌-◌}
use native.Mathlib.Omega.{arith}
use lib.ListN.{replicate, drop, length-replicate, length-drop}
use lib.Seq.{length-take-le}
use Rattle.image.proofs.Bytes.{put-sets}
use Rattle.engine.proofs.clear.Goals as goal

pub returns : goal.returns
returns c =
    let a = c.args in
    let n : ℕ = a.end - a.from in
    let size = length-take-le n (drop a.from a.out.now) (rw length-drop (omega arith)) in
    put-sets a.out.now (replicate n 0) c.fill.new.self a.from n (c.fill.ensures.after (λ y e. e) ∙ ap (λ (k : ℕ). replicate k 0) size) (sym (length-replicate n 0)) (rw length-replicate (omega arith))
