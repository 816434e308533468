use mathlib.Core.Path.{sym, ◌∙◌}
use Rattle.translate.proofs.Accesses.{walks_tables}
use Rattle.stepper.proofs.first.Goals as goal

pub begin-requires : goal.begin-requires
begin-requires c =
    let a = c.args in
    walks_tables a.h a.base a.len a.kind a.address a.width _ (sym c.starts-s.ensures ∙ c.in-Ok.is)
