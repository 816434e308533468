use Rattle.rules.proofs.Masks.{test-code}
use Rattle.rules.proofs.Need.test.Goals as goal

pub returns : goal.returns
returns c =
    rw (
      c.select-2.ensures,
      c.select-u.ensures,
      c.select.ensures,
      c.by-d.ensures,
      c.by-some.ensures,
      c.select-read.ensures,
      test-code c.args.self,
    )
