use mathlib.Core.Path.{refl}
use Rattle.table.specs.Table.{table}
use Rattle.table.proofs.Looks.{finds_first, rising}
use Rattle.table.proofs.lookup.Goals as goal

pub returns : goal.returns
returns c = rw (c.search.ensures, c.rows.ensures) (finds_first table refl rising c.args.n)
