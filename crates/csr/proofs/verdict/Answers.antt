use Rattle.csr.proofs.verdict.Goals as goal

pub returns : goal.returns
returns c = rw (
  c.eq.ensures,
  c.eq-2.ensures,
  c.eq-3.ensures,
  c.is-4.ensures,
  c.is-3.ensures,
  c.is-2.ensures,
  c.is.ensures,
  c.get-2.ensures,
  c.get.ensures,
)
