use mathlib.Core.Path.{sym, ◌∙◌}
use native.Mathlib.Omega.{arith}
use lib.Seq.{length-take-le, take_at}
use Rattle.layout.specs.Layout.{hart_size, step_words}
use Rattle.layout.proofs.Written.{behind}
use Rattle.layout.proofs.write_step.Goals as goal

pub slice_bounds-write_hart-end-2 : goal.slice_bounds-write_hart-end-2
slice_bounds-write_hart-end-2 c = sym (length-take-le hart_size c.args.out.now (omega arith))

pub returns : goal.returns
unfolding step_words
returns c =
    let n = c.write_hart.auto.out ∙ length-take-le hart_size c.args.out.now (omega arith) in
    rw (behind, take_at c.write_hart.new.out _ hart_size n, c.write_hart.ensures, c.copy_from_slice.ensures.after, c.outcome_words.ensures)
