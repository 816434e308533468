use Rattle.std.proofs.Common.{sym, ap, ◌∙◌, arith, Some}
use Rattle.image.specs.Image.{entry}
use Rattle.image.proofs.Tests.{within_facts}
use Rattle.image.proofs.fetch.Goals as goal

pub overflow_sub-address : goal.overflow_sub-address
overflow_sub-address c = (within_facts _ _ _ _ (sym c.inside.ensures ∙ c.if-inside.true)).0

pub load-requires : goal.load-requires
load-requires c = omega (arith, within_facts _ _ _ _ (sym c.inside.ensures ∙ c.if-inside.true))

pub returns-then-inside : goal.returns-then-inside
unfolding entry
returns-then-inside c = simp (sym c.inside.ensures ∙ c.if-inside.true) (ap Some c.load.ensures)

pub returns : goal.returns
unfolding entry
returns c = simp (sym c.inside.ensures ∙ c.if-inside.false)
