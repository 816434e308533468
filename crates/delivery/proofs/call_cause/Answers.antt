use Rattle.delivery.proofs.call_cause.Goals as goal

pub returns : goal.returns
returns c =
    rw (
      c.select-2.ensures,
      c.select.ensures,
      c.is-3.ensures,
      c.is-2.ensures,
      c.select-other.ensures,
      c.is.ensures,
    )
