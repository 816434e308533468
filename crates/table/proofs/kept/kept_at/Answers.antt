use mathlib.Core.Path.{◌∙◌}
use mathlib.Core.List.{map}
use lib.ListN.{get_or-map}
use Rattle.bits.proofs.Lists.{any_default}
use Rattle.registers.specs.Views.{no_bits}
use Rattle.registers.specs.Registers.{Register, register, registers}
use Rattle.table.proofs.kept.kept_at.Goals as goal

pub returns : goal.returns
returns c =
    let row = c.args.row in
    let h = c.requires in
    rw (
      c.gate.ensures,
      c.shows.ensures,
      c.shift.ensures,
      c.homes-homes.ensures,
      any_default (map (λ (x : Register). x.view.home) registers) row 0 (register 0 0 no_bits).view.home h ∙ get_or-map (λ (x : Register). x.view.home) registers row (register 0 0 no_bits),
    )
