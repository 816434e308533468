use Rattle.std.proofs.Common.{sym, ◌∙◌}
use Rattle.access.proofs.Widths.{at_most_eight}
use Rattle.hart.specs.Guest.{load}
use Rattle.hart.proofs.Reached.{done-inside}
use Rattle.hart.proofs.state.Hart.load.Goals as goal

pub returns-then-not-is_done : goal.returns-then-not-is_done
unfolding load
returns-then-not-is_done c =
    let r = c.reach-r.ensures in
    let test = sym c.is_done.ensures ∙ c.if-not-is_done.true in
    rw (c.answer.ensures, r, rw r at test)

pub load-value-requires : goal.load-value-requires
load-value-requires c =
    let r = c.reach-r.ensures in
    let test = sym c.is_done.ensures ∙ c.if-not-is_done.false in
    let d = done-inside _ _ _ _ _ _ _ (rw r at test) in
    let k = at_most_eight _ d.0 in
    record { some = k.0; few = k.1; inside = rw r d.1 }

pub returns : goal.returns
unfolding load
returns c =
    let r = c.reach-r.ensures in
    let test = sym c.is_done.ensures ∙ c.if-not-is_done.false in
    rw (c.answer-2.ensures, c.load-value.ensures, r, rw r at test)
