use borrow.Author.Tests.{ne_eqb}
use Rattle.registers.proofs.Restrictions.{unrestricted, ignored_mode}
use Rattle.registers.proofs.rules.take.Goals as goal

pub returns-then-place-eq-MSTATUS : goal.returns-then-place-eq-MSTATUS
returns-then-place-eq-MSTATUS c =
    rw (
      c.select.ensures,
      c.put.ensures,
      c.get.ensures,
      c.mpp_fits.ensures,
      c.if-place-eq-MSTATUS.true,
    )

pub returns-then-place-eq-HGATP : goal.returns-then-place-eq-HGATP
returns-then-place-eq-HGATP c =
    rw (
      c.select-then-place-eq-HGATP.ensures,
      c.put-then-place-eq-HGATP.ensures,
      c.get-then-place-eq-HGATP.ensures,
      c.mode_fits.ensures,
      c.if-place-eq-HGATP.true,
    )

pub returns-then-place : goal.returns-then-place
returns-then-place c =
    rw (
      c.select-then-place.ensures,
      c.mode_fits-then-place.ensures,
      ignored_mode c.args.place c.if-place.true,
    )

pub returns : goal.returns
returns c =
    rw (unrestricted c.args.place (ne_eqb _ _ c.if-place-eq-MSTATUS.false) (ne_eqb _ _ c.if-place-eq-HGATP.false) c.if-place.false)
