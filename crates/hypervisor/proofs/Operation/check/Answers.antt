use mathlib.Core.Path.{sym, ap, ◌∙◌}
use mathlib.Core.Bool.{not}
use Rattle.hypervisor.specs.Hypervisor.{refusal_of}
use Rattle.hypervisor.proofs.Operation.check.Goals as goal

pub returns-then-refused : goal.returns-then-refused
unfolding refusal_of
returns-then-refused c = rw (sym c.refused.ensures ∙ c.if-refused.true)

pub returns-then-not-offers : goal.returns-then-not-offers
unfolding refusal_of
returns-then-not-offers c = rw (sym c.refused.ensures ∙ c.if-refused.false, ap not (sym c.offers.ensures ∙ c.if-not-offers.true))

pub returns : goal.returns
unfolding refusal_of
returns c = rw (sym c.refused.ensures ∙ c.if-refused.false, ap not (sym c.offers.ensures ∙ c.if-not-offers.false))
