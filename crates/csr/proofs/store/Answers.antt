use Rattle.registers.specs.Rules.{stored}
use Rattle.csr.proofs.store.Goals as goal

pub returns : goal.returns
unfolding stored
returns c = rw (c.select.ensures, c.take.ensures)
