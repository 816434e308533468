use Rattle.std.proofs.Common.{arith}
use Rattle.image.specs.Data.{stored}
use Rattle.image.proofs.Tests.{within_facts}
use Rattle.image.proofs.data.store.Goals as goal

pub overflow_sub-address : goal.overflow_sub-address
overflow_sub-address c = (within_facts _ _ _ _ c.requires).0

pub split-requires : goal.split-requires
split-requires c = let f = within_facts _ _ _ _ c.requires in omega (arith, f.0, f.1)

pub returns : goal.returns
unfolding stored
returns c = c.split.ensures
