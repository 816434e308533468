use mathlib.Core.Path.{sym, ap, ◌∙◌}
use mathlib.Core.List.{List, ◌++◌}
use Prim.Native.Nat.{ℕ}
use native.Mathlib.Omega.{arith}
use lib.ListN.{drop}
use lib.Seq.{length-take-le, length_front}
use Rattle.hart.specs.Hart.{passes}
use Rattle.layout.specs.Layout.{hart_size, access_words}
use Rattle.layout.specs.Taken.{put}
use Rattle.layout.proofs.Lent.{lent_length, lent_hart, answer-words}
use Rattle.layout.proofs.access_into.Goals as goal

pub returns-then-misfit : goal.returns-then-misfit
unfolding put
returns-then-misfit c = rw (← c.misfit.ensures.test, c.if-misfit.true)

pub slice_bounds-copy-end-2 : goal.slice_bounds-copy-end-2
slice_bounds-copy-end-2 c = sym (length-take-le hart_size c.args.out.now (omega (arith, c.if-misfit.ensures.fits.1)))

pub copy-requires-clause-to : goal.copy-requires-clause-to
copy-requires-clause-to c = length-take-le hart_size c.args.out.now (omega (arith, c.if-misfit.ensures.fits.1))

pub access-answer-requires : goal.access-answer-requires
access-answer-requires c =
    let a = c.args in
    let rest = drop hart_size a.out.now in
    let size = c.if-misfit.ensures.fits.0 in
    rw (c.copy.ensures, c.passes-passed.ensures, c.control-from.ensures, c.hart_of.ensures, c.hart_of-2.ensures)
    (record { whole = lent_length a.h.now rest size; checked = ap passes (sym (lent_hart a.h.now rest size)) })

pub returns : goal.returns
unfolding put
returns c =
    let a = c.args in
    let rest = drop hart_size a.out.now in
    let size = c.if-misfit.ensures.fits.0 in
    let came = rw (c.copy.ensures, c.control-from.ensures, c.hart_of-2.ensures, lent_hart a.h.now rest size) at c.access-answer.ensures in
    let whole = length_front a.out.now c.copy.new.out hart_size c.copy.auto.out ∙ c.if-misfit.ensures.fits.1 in
    rw (← c.misfit.ensures.test, c.if-misfit.false, c.put_around.ensures)
    (ap (λ (ws : List ℕ). (0, ws)) (answer-words (c.copy.new.out ++ rest) c.access-answer.new.regs c.access-answer.result whole c.access-answer.auto.regs ∙ ap access_words came))
