use mathlib.Core.Path.{sym, ◌∙◌}
use Rattle.std.proofs.lemmas.Result.{err_from_is_err_and}
use Rattle.translate.specs.Translated.{access_of, start_of}
use Rattle.translate.proofs.Accesses.{known-width, accepted}
use Rattle.translate.proofs.starts.Goals as goal

pub returns-in_err-refusal : goal.returns-in_err-refusal
unfolding start_of
returns-in_err-refusal c = let p = err_from_is_err_and c.from_residual.result c.from_residual.ensures.1 in rw (p.1, p.2, sym c.refusal.ensures ∙ c.in_err-refusal.was)

pub is_misaligned-requires : goal.is_misaligned-requires
is_misaligned-requires c = let a = c.args in known-width _ _ _ (accepted a.h a.base a.len a.kind a.address a.width (sym c.refusal.ensures ∙ c.in_ok-refusal.was))

pub returns-then-is_misaligned : goal.returns-then-is_misaligned
unfolding start_of access_of
returns-then-is_misaligned c = rw (sym c.refusal.ensures ∙ c.in_ok-refusal.was, sym c.is_misaligned.ensures ∙ c.if-is_misaligned.true, c.misalignment.ensures, c.access-a.ensures, c.context.ensures)

pub returns : goal.returns
unfolding start_of access_of
returns c = rw (sym c.refusal.ensures ∙ c.in_ok-refusal.was, sym c.is_misaligned.ensures ∙ c.if-is_misaligned.false, c.access-a.ensures, c.paging.ensures, c.context.ensures)
