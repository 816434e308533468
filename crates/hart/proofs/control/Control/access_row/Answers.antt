use Rattle.std.proofs.Common.{◌≡◌, eqb, sym, ap, ◌∙◌}
use Rattle.registers.specs.Registers.{at}
use Rattle.registers.proofs.Rows.{reaches-home, reaches-shift, reaches-writes}
use Rattle.table.specs.declared.Row.{Row}
use Rattle.table.specs.Table.{reached}
use Rattle.hart.specs.Access.{access_row}
use Rattle.hart.specs.Lent.{on}
use Rattle.hart.proofs.Stopped.{goes, halts}
use Rattle.hart.proofs.control.Control.access_row.Goals as goal

pub goes-requires : goal.goes-requires
goes-requires c =
    let a = c.args in
    rw c.reach-to.ensures (record { home = reaches-home a.place (eqb a.self.v 1); shift = reaches-shift a.place (eqb a.self.v 1) })

pub returns-in-Ok : goal.returns-in-Ok
unfolding access_row
returns-in-Ok c =
    let a = c.args in
    let m : a.row.mask ≡ (reached (eqb a.self.v 1) (at a.place)).writes = ap (λ (r : Row). r.mask) c.requires.stands ∙ sym (reaches-writes a.place (eqb a.self.v 1)) in
    rw (c.reach-to.ensures, m) at c.goes.ensures
    ∙ goes _ _ _ _ _ _ (rw (c.verdict-verdict.ensures, c.context.ensures) at c.in-Ok.ensures (on a.self a.regs.now) c.requires.checked)

pub returns-in-Err : goal.returns-in-Err
unfolding access_row
returns-in-Err c =
    let a = c.args in
    c.answer_halt.ensures
    ∙ halts _ _ _ _ _ _ (rw (c.verdict-verdict.ensures, c.context.ensures) at c.in-Err.ensures (on a.self a.regs.now) c.requires.checked)
