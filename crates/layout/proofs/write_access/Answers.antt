use mathlib.Core.Path.{sym, ◌∙◌}
use mathlib.Core.List.{[], ◌∷◌}
use native.Mathlib.Omega.{arith}
use lib.ListN.{drop, length-drop}
use lib.Seq.{length-take-le}
use Rattle.layout.specs.Layout.{step_size}
use Rattle.layout.proofs.Written.{over_rest}
use Rattle.layout.proofs.write_access.Goals as goal

pub slice_bounds-write_step-end-2 : goal.slice_bounds-write_step-end-2
slice_bounds-write_step-end-2 c = sym (length-take-le step_size c.args.out.now (omega arith))

pub returns : goal.returns
returns c =
    let out = c.args.out.now in
    let n = c.write_step.auto.out ∙ length-take-le step_size out (omega arith) in
    rw (over_rest c.write_step.new.out (drop step_size out) (c.args.value ∷ []) step_size n (rw length-drop (omega arith)), c.write_step.ensures)
