use Rattle.traps.proofs.wrong_mode.Goals as goal

pub returns : goal.returns
returns c =
    rw (
      c.is-5.ensures,
      c.is-4.ensures,
      c.is-3.ensures,
      c.is-2.ensures,
      c.is.ensures,
    )
