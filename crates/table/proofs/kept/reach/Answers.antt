use mathlib.Core.Path.{ap}
use Rattle.table.specs.Table.{kept_of}
use Rattle.table.proofs.Twins.{twin}
use Rattle.table.proofs.kept.reach.Goals as goal

pub kept_at-requires : goal.kept_at-requires
kept_at-requires c = rw c.twin.ensures (twin c.args.place c.requires).below

pub returns-then-guest : goal.returns-then-guest
returns-then-guest c = rw (c.kept_at.ensures, c.twin.ensures, c.if-guest.true) (ap kept_of (twin c.args.place c.requires).view)

pub returns : goal.returns
returns c = rw (c.kept_at-2.ensures, c.if-guest.false)
