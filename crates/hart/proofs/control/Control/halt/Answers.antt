use Rattle.hart.proofs.control.Control.halt.Goals as goal

pub returns-in-Refuses : goal.returns-in-Refuses
returns-in-Refuses c = rw c.in-Refuses.is

pub returns-in-Raises : goal.returns-in-Raises
returns-in-Raises c = rw c.in-Raises.is (rw (c.plain.ensures, c.from.ensures) at c.take_trap.ensures)
