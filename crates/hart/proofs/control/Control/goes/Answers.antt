use Rattle.std.proofs.Common.{ℕ, List, ap}
use Rattle.table.specs.Table.{view_of}
use Rattle.hart.specs.Event.{done, next}
use Rattle.hart.specs.Access.{answer, seen, written}
use Rattle.hart.specs.Lent.{on}
use Rattle.hart.proofs.Picked.{set_picked}
use Rattle.hart.proofs.control.Control.goes.Goals as goal

pub returns : goal.returns
unfolding written
returns c =
    let a = c.args in
    let rs = a.regs.now in
    rw (c.next.ensures, c.store.ensures, c.combine-x.ensures, c.show-old.ensures, c.gate-gate.ensures)
    (ap (λ (l : List ℕ). answer (done (record { v = a.self.v; privilege = a.self.privilege; pc = next a.self.pc; regs = l })) (seen (on a.self rs) (view_of a.at a.mask)))
    (set_picked a.writes rs a.at.home _))
