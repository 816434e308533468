use Rattle.std.proofs.Common.{ℕ, ◌+◌, leb, arith, le-leb, leb-false, leb-true}
use borrow.Author.Tests.{lt-leb}
use Rattle.bits.proofs.Bools.{and-false}
use Rattle.image.specs.Image.{within}
use Rattle.image.proofs.Tests.{same}
use Rattle.image.proofs.inside.Goals as goal

pub returns-then-address-base : goal.returns-then-address-base
unfolding within
returns-then-address-base c = simp (lt-leb _ _ c.if-address-base.true)

pub returns-then-len-width : goal.returns-then-len-width
unfolding within
returns-then-len-width c =
    let a = c.args in
    simp (lt-leb (a.address + a.width) (a.base + a.len) (omega arith), and-false)

pub returns : goal.returns
unfolding within
returns c =
    let a = c.args in
    let e : ℕ = a.address + a.width in
    let f : ℕ = a.base + a.len in
    simp (le-leb a.base a.address c.if-address-base.false)
    (same _ (leb e f) (λ t. le-leb e f (omega (arith, leb-true))) (λ t. lt-leb e f (omega (arith, leb-false))))
