use mathlib.Core.Path.{refl}
use borrow.Author.Rules.{rules}
use Rattle.bits.specs.Field.{bit, get}
use Rattle.bits.proofs.Fields.{get_past}
use Rattle.bits.proofs.has.Goals as goal

pub returns-then-n-lt64 : goal.returns-then-n-lt64
unfolding get
returns-then-n-lt64 c = refl

pub returns : goal.returns
returns c = rw (get_past (bit c.args.n) c.args.x (search rules) (search rules))
