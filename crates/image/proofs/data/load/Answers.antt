use Rattle.std.proofs.Common.{◌∙◌, arith}
use Rattle.image.specs.Data.{loaded}
use Rattle.image.proofs.Tests.{within_facts}
use Rattle.image.proofs.data.load.Goals as goal

pub overflow_sub-address : goal.overflow_sub-address
overflow_sub-address c = (within_facts _ _ _ _ c.requires.inside).0

pub join-x-requires-clause-fits : goal.join-x-requires-clause-fits
join-x-requires-clause-fits c = let f = within_facts _ _ _ _ c.requires.inside in omega (arith, f.0, f.1)

pub returns : goal.returns
unfolding loaded
returns c = c.extend.ensures ∙ rw c.join-x.ensures.value
