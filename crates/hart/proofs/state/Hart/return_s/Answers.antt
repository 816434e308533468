use Rattle.std.proofs.Common.{eq-eqb, ne_eqb}
use Rattle.hart.proofs.state.Hart.return_s.Goals as goal

pub returns-then-self-eq1 : goal.returns-then-self-eq1
returns-then-self-eq1 c = rw (c.return_vs.ensures, eq-eqb _ _ c.if-self-eq1.true)

pub returns : goal.returns
returns c = rw (c.return_hs.ensures, ne_eqb _ _ c.if-self-eq1.false)
