use Rattle.translate.proofs.Accesses.{unsupported-code}
use Rattle.translate.proofs.refused.Goals as goal

pub returns : goal.returns
returns c = let a = c.args in rw (c.by.ensures, c.is_known-known.ensures) (unsupported-code a.kind a.address a.width)
