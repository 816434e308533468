use Rattle.std.proofs.Common.{◌∙◌}
use Rattle.hart.specs.Lent.{on}
use Rattle.hart.proofs.Stopped.{goes, halts}
use Rattle.hart.proofs.control.Control.unlisted.Goals as goal

pub returns-in-Ok : goal.returns-in-Ok
returns-in-Ok c =
    let a = c.args in
    goes _ _ _ _ _ _ (c.in-Ok.ensures (on a.self a.regs.now) c.requires)

pub returns-in-Err : goal.returns-in-Err
returns-in-Err c =
    let a = c.args in
    c.answer_halt.ensures ∙ halts _ _ _ _ _ _ (c.in-Err.ensures (on a.self a.regs.now) c.requires)
