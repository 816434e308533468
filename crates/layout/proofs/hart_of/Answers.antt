use Rattle.std.proofs.Common.{◌≡◌, refl, sym, ◌∙◌, suc, ◌+◌, ◌-◌, length, take, drop, arith, length-set, length-drop}
use Rattle.std.proofs.Math.Seq.{take-suc-set, take-suc, length-take-le}
use Rattle.std.proofs.lemmas.List.{take_rest, take_all}
use borrow.Author.Tests.{ne_eqb}
use Rattle.layout.specs.Layout.{hart_size, hart_of}
use Rattle.layout.proofs.Written.{read}
use Rattle.layout.proofs.hart_of.Goals as goal

pub returns-then-ws-ne-HART : goal.returns-then-ws-ne-HART
unfolding hart_of
returns-then-ws-ne-HART c = simp (ne_eqb (length c.args.ws.now) hart_size c.if-ws-ne-HART.true)

pub loop-i-init : goal.loop-i-init
loop-i-init c = (refl, refl)

pub loop-i-preserved : goal.loop-i-preserved
loop-i-preserved c =
    let l = c.loop-i in
    let words = take (length c.args.ws.now - 3) (drop 3 c.args.ws.now) in
    let next : l.i + 1 ≡ suc l.i = omega arith in
    let whole : length words ≡ 31 = length-take-le _ _ (simp length-drop (omega arith)) ∙ omega (arith, c.if-ws-ne-HART.false) in (
      length-set l.regs l.i _ ∙ l.invariant.0,
      rw next
          (take-suc-set l.regs l.i _ (omega (arith, l.invariant.0, c.loop-i-test.true)) ∙ rw l.invariant.1 (sym (take-suc words l.i 0 (omega (arith, whole, c.loop-i-test.true))))),
    )

pub returns : goal.returns
returns c =
    let l = c.loop-i in
    let ws = c.args.ws.now in
    let all : take l.i l.regs ≡ l.regs = take_all l.i l.regs (omega (arith, l.invariant.0, c.loop-i-test.false)) in
    let words : take l.i (take (length ws - 3) (drop 3 ws)) ≡ drop 3 ws = rw take_rest (take_all l.i (drop 3 ws) (simp length-drop (omega (arith, c.if-ws-ne-HART.false, c.loop-i-test.false)))) in
    rw (read ws c.if-ws-ne-HART.false, sym all ∙ l.invariant.1 ∙ words)
