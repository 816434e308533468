use borrow.Author.Tests.{not-true, not-false}
use Rattle.stepper.specs.Position.{passed}
use Rattle.stepper.proofs.position.Position.pass.Goals as goal

pub returns-then-not-self : goal.returns-then-not-self
unfolding passed
returns-then-not-self c = rw (c.from.ensures, c.conclude.ensures, not-true c.args.self.entry c.if-not-self.true)

pub returns : goal.returns
unfolding passed
returns c = rw (c.before-2.ensures, not-false c.args.self.entry c.if-not-self.false)
