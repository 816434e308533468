use Rattle.std.proofs.Common.{sym, ◌∙◌}
use Rattle.hart.specs.Guest.{hsv}
use Rattle.hart.proofs.Reached.{done-inside}
use Rattle.hart.proofs.state.Hart.hsv.Goals as goal

pub returns-then-not-is_done : goal.returns-then-not-is_done
unfolding hsv
returns-then-not-is_done c =
    let r = c.reach-reached.ensures in
    let test = sym c.is_done.ensures ∙ c.if-not-is_done.true in
    rw (c.answer.ensures, r, rw r at test)

pub store-requires : goal.store-requires
store-requires c =
    let r = c.reach-reached.ensures in
    rw r (done-inside _ _ _ _ _ _ _ (rw r at (sym c.is_done.ensures ∙ c.if-not-is_done.false))).1

pub returns : goal.returns
unfolding hsv
returns c =
    let r = c.reach-reached.ensures in
    let test = sym c.is_done.ensures ∙ c.if-not-is_done.false in
    rw (c.answer-2.ensures, c.store.ensures, r, rw r at test)
