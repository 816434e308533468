use Rattle.std.proofs.Common.{sym}
use Rattle.std.proofs.lemmas.Option.{slice_get_past, slice_get-get_or}
use Rattle.registers.specs.Registers.{registers}
use Rattle.table.specs.Table.{numbers}
use Rattle.table.proofs.kept.number.Goals as goal

pub returns-then-place-ge-KEPT : goal.returns-then-place-ge-KEPT
returns-then-place-ge-KEPT c = sym (slice_get_past (numbers registers) c.args.place c.if-place-ge-KEPT.true)

pub returns : goal.returns
returns c = rw c.all_numbers.ensures (sym (slice_get-get_or (numbers registers) c.args.place 0 c.if-place-ge-KEPT.false))
