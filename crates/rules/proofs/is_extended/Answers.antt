use mathlib.Core.Path.{◌≡◌}
use Prim.Native.Nat.{◌+◌, ◌*◌}
use native.Mathlib.Omega.{arith}
use Rattle.rules.proofs.Indices.{extended-code}
use borrow.Author.Rules.{rules}
use Rattle.rules.proofs.is_extended.Goals as goal

pub returns : goal.returns
returns c =
    let e : 11 + 9 * c.args.levels + 1 ≡ 12 + 9 * c.args.levels = omega arith in
    rw e at (extended-code (11 + 9 * c.args.levels) (omega arith) c.args.address (search rules))
