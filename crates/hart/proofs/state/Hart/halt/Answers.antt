use Rattle.hart.proofs.state.Hart.halt.Goals as goal

pub returns-in-Refuses : goal.returns-in-Refuses
returns-in-Refuses c = rw c.in-Refuses.is

pub returns-in-Raises : goal.returns-in-Raises
returns-in-Raises c = rw (c.take_trap.ensures, c.plain.ensures, c.from.ensures, c.in-Raises.is)
