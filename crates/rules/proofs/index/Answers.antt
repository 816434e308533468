use native.Mathlib.Omega.{arith}
use Rattle.bits.proofs.Fields.{get-lt}
use Rattle.rules.specs.Address.{index_bits}
use Rattle.rules.proofs.index.Goals as goal

pub returns-clause-small : goal.returns-clause-small
returns-clause-small c = omega (arith, c.get.ensures, get-lt (index_bits 9 c.args.level) c.args.address)
