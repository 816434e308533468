use Rattle.std.proofs.Common.{ℕ, List, sym, ap, ◌∙◌}
use Rattle.hart.specs.Hart.{passes}
use Rattle.hart.specs.Access.{access}
use Rattle.hart.specs.Lent.{on}
use Rattle.table.proofs.Listed.{lookup-found}
use Rattle.hart.proofs.control.Control.access.Goals as goal

pub returns-in_default : goal.returns-in_default
unfolding access
returns-in_default c =
    let same = (rw c.unwrap-regs.ensures at c.as_mut_array.ensures.cases).same in
    rw (← c.in_default.ensures, ← same) (rw c.check-own.ensures at c.unlisted.ensures)

pub access_row-requires : goal.access_row-requires
access_row-requires c =
    let same = (rw c.unwrap-regs.ensures at c.as_mut_array.ensures.cases).same in
    let l = lookup-found _ _ _ (sym c.in-Some.ensures) in
    record { listed = l.below; stands = l.row; checked = c.requires.checked ∙ ap (λ (rs : List ℕ). passes (on c.args.self rs)) (sym same) }

pub returns : goal.returns
unfolding access
returns c =
    let same = (rw c.unwrap-regs.ensures at c.as_mut_array.ensures.cases).same in
    rw (← c.in-Some.ensures, ← same) (rw c.check-own.ensures at c.access_row.ensures)
