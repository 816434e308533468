use Rattle.std.proofs.Common.{◌≡◌, ◌+◌, ◌-◌, ◌%◌, drop, ◌∙◌, sym, arith, length-set, length-drop, length-take-le}
use native.Mathlib.Nat.{sub-zero}
use Rattle.image.specs.Data.{low_bytes}
use Rattle.image.proofs.Bytes.{length-low, anew, put-sets, splits}
use Rattle.image.proofs.data.split.Goals as goal

pub loop-byte-init : goal.loop-byte-init
loop-byte-init c =
    let a = c.args in
    let same : a.at + a.width - a.at ≡ a.width = omega arith in
    let size = length-take-le a.width (drop a.at a.s.now) (rw length-drop (omega arith)) in
    rw (same, sub-zero) (size, anew _ _ (size ∙ sym (length-low a.width a.value)))

pub loop-byte-preserved : goal.loop-byte-preserved
loop-byte-preserved c =
    let l = c.loop-byte in
    let a = c.args in
    (length-set l.byte-items l.byte-index (l.rest % 256) ∙ l.invariant.0, splits l.byte-items a.width l.byte-index l.rest (omega arith) ∙ l.invariant.1)

pub returns : goal.returns
returns c =
    let l = c.loop-byte in
    let a = c.args in
    let none : a.width - l.byte-index ≡ 0 = omega (arith, l.auto.byte-items, l.invariant.0) in
    let low = length-low a.width a.value in
    put-sets a.s.now (low_bytes a.width a.value) l.byte-items a.at _ (rw none at l.invariant.1) (omega (arith, low)) (omega (arith, low))
