use Rattle.rules.proofs.Indices.{small-code}
use borrow.Author.Rules.{rules}
use Rattle.rules.proofs.is_small.Goals as goal

pub returns : goal.returns
returns c = small-code c.args.levels c.args.address c.requires.some c.requires.few (search rules)
