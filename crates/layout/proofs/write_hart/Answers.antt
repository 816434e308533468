use Rattle.std.proofs.Common.{◌≡◌, [], ◌∷◌, sym, ◌∙◌, suc, ◌+◌, arith, length-set}
use Rattle.std.proofs.Math.Seq.{take-suc-set, take-suc}
use Rattle.std.proofs.lemmas.List.{get_or-drop}
use lib.Seq.{sets-eq}
use Rattle.layout.specs.Layout.{words}
use Rattle.layout.proofs.write_hart.Goals as goal

pub loop-i-init : goal.loop-i-init
loop-i-init c = let h = c.args.hart.now in rw (sets-eq (h.v ∷ h.privilege ∷ h.pc ∷ []) c.args.out.now 0 (omega arith))

pub loop-i-preserved : goal.loop-i-preserved
loop-i-preserved c =
    let l = c.loop-i in
    let all = words c.args.hart.now in
    let size = rw (length-set, length-set, length-set) at l.auto.out in
    let next : 3 + (l.i + 1) ≡ suc (3 + l.i) = omega arith in
    rw next
    (take-suc-set l.out (3 + l.i) _ (omega (arith, size)) ∙ rw (l.invariant, get_or-drop 3 all l.i 0) (sym (take-suc all (3 + l.i) 0 (omega (arith, c.loop-i-test.true)))))
