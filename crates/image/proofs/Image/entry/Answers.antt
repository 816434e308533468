use Rattle.std.proofs.Common.{length, ap, arith, rules, Some}
use Rattle.image.specs.Image.{entry}
use Rattle.image.proofs.Tests.{below-limit, past_limit}
use Rattle.image.proofs.Image.entry.Goals as goal

pub returns-then-offset-self : goal.returns-then-offset-self
unfolding entry
returns-then-offset-self c =
    let a = c.args in
    let k = below-limit a.self.base (length a.self.bytes.now) a.address a.self.ends (search rules) (omega arith) in
    rw (k.0, k.1) (ap Some c.load.ensures)

pub returns : goal.returns
unfolding entry
returns c = let a = c.args in rw (past_limit a.self.base (length a.self.bytes.now) a.address a.self.ends (search rules) (omega arith))
