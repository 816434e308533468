use mathlib.Core.Path.{◌∙◌}
use borrow.Author.Tests.{ltb-true}
use Rattle.rules.proofs.Indices.{small-code, root-code}
use borrow.Author.Rules.{rules}
use Rattle.rules.proofs.root_index.Goals as goal

pub returns : goal.returns
returns c =
    let p = c.requires in
    let h = ltb-true _ _ (small-code c.args.levels c.args.address p.some p.few (search rules) ∙ p.small) in
    record { value = root-code c.args.levels c.args.address p.some p.few (search rules) h; small = h }
