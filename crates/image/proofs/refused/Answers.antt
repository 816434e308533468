use Rattle.std.proofs.Common.{ℕ, ◌+◌, ◌-◌, ◌^◌, ltb, arith, ltb-false, ltb-true, le-ltb, lt-ltb}
use Rattle.image.specs.Image.{unfit}
use Rattle.image.proofs.Tests.{same}
use Rattle.image.proofs.refused.Goals as goal

pub returns-then-len-gt67108864 : goal.returns-then-len-gt67108864
unfolding unfit
returns-then-len-gt67108864 c = simp (lt-ltb _ _ c.if-len-gt67108864.true)

pub returns : goal.returns
unfolding unfit
returns c =
    let a = c.args in
    let e : ℕ = a.base + a.len in
    let over =
    same (ltb (2 ^ 56 - a.len) a.base) (ltb (2 ^ 56) e) (λ t. lt-ltb (2 ^ 56) e (omega (arith, ltb-true))) (λ t. le-ltb (2 ^ 56) e (omega (arith, ltb-false)))
    in
    simp (le-ltb _ _ c.if-len-gt67108864.false, over)
