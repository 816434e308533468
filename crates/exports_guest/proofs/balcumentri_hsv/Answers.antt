use mathlib.Core.Path.{sym, ap, ◌∙◌}
use mathlib.Core.List.{List}
use Prim.Native.Nat.{ℕ}
use Rattle.hart.specs.declared.guest.Performed.{Performed}
use Rattle.layout.specs.Layout.{performed_words}
use Rattle.layout.specs.Taken.{put}
use Rattle.exports_guest.proofs.balcumentri_hsv.Goals as goal

pub returns-then-misfit : goal.returns-then-misfit
returns-then-misfit c = rw (← c.misfit.ensures.test, c.if-misfit.true)

pub returns : goal.returns
unfolding put
returns c =
    let fit = sym c.if-misfit.ensures.test in
    let stored = rw c.hart_of.ensures at c.hsv-p.ensures in
    rw fit
    (ap (λ (x : ℕ × List ℕ). (x.0, x.1, c.hsv-p.new.bytes)) (rw fit at c.put.ensures)
    ∙ ap (λ (y : Performed × List ℕ). (0, performed_words y.0, y.1)) stored)
