use native.Mathlib.Omega.{arith}
use Rattle.layout.specs.Layout.{outcome_words, step_words}
use Rattle.layout.proofs.Lent.{around}
use Rattle.layout.proofs.put_around.Goals as goal

pub returns : goal.returns
unfolding step_words
returns c =
    let a = c.args in
    rw (c.copy_from_slice.ensures.after, c.outcome_words.ensures)
    (around a.out.now (outcome_words a.outcome) a.to.v a.to.privilege a.to.pc (omega arith))
