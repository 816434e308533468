use mathlib.Core.Path.{◌≡◌, sym, ◌∙◌}
use Rattle.hypervisor.specs.Hypervisor.{access_for, walk_for}
use Rattle.hypervisor.proofs.Taken.{taken, tables_for}
use Rattle.hypervisor.proofs.Operation.walk.Goals as goal

pub is_misaligned-requires : goal.is_misaligned-requires
is_misaligned-requires c = (taken _ _ _ _ c.requires).form

pub returns-then-is_misaligned : goal.returns-then-is_misaligned
unfolding walk_for
returns-then-is_misaligned c =
    let made = c.guest_access-a in
    let kind = c.kind-kind.ensures in
    let test = sym c.is_misaligned.ensures ∙ c.if-is_misaligned.true in
    rw (c.misalignment.ensures, c.none.ensures, made.ensures, rw kind at test, kind)

pub walk-requires : goal.walk-requires
walk-requires c =
    let a = c.args in
    let same : c.guest_access-a.result ≡ access_for a.self a.c a.p a.address a.width = rw (c.guest_access-a.ensures, c.right.ensures, c.kind-kind.ensures) in
    rw same (record { ends = (taken _ _ _ _ c.requires).ends; tables = tables_for a.self a.c a.p a.address a.width })

pub returns : goal.returns
unfolding walk_for
returns c =
    let kind = c.kind-kind.ensures in
    let test = sym c.is_misaligned.ensures ∙ c.if-is_misaligned.false in
    rw (rw kind at test) (c.walk.ensures ∙ rw (c.guest_access-a.ensures, c.right.ensures, kind))
