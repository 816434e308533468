use borrow.Author.Tests.{eq-eqb}
use Rattle.layout.specs.Layout.{access_words}
use Rattle.layout.proofs.AccessedWords.write_to.Goals as goal

pub returns-then-out-eq-ACCESS : goal.returns-then-out-eq-ACCESS
unfolding access_words
returns-then-out-eq-ACCESS c = rw (eq-eqb _ _ c.if-out-eq-ACCESS.true) c.write_access.ensures
