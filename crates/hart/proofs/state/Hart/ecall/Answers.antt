use Rattle.hart.specs.Trap.{ecall}
use Rattle.hart.proofs.state.Hart.ecall.Goals as goal

pub returns : goal.returns
unfolding ecall
returns c = rw (c.trapping.ensures, c.plain.ensures, c.call_cause-cause.ensures, c.context.ensures)
