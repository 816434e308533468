use Rattle.interrupts.proofs.admits.Goals as goal

pub returns-in-M : goal.returns-in-M
returns-in-M c = rw (c.get.ensures, c.is.ensures, c.in-M.is)

pub returns-in-HS : goal.returns-in-HS
returns-in-HS c =
    rw (
      c.get-in-HS.ensures,
      c.is-in-HS-4.ensures,
      c.is-in-HS-3.ensures,
      c.is-in-HS-2.ensures,
      c.is-in-HS.ensures,
      c.in-HS.is,
    )

pub returns-in-VS : goal.returns-in-VS
returns-in-VS c = rw (c.get-in-VS.ensures, c.is-in-VS-2.ensures, c.is-in-VS.ensures, c.in-VS.is)
