use Rattle.window.proofs.translate_at.Goals as goal

pub returns : goal.returns
returns c = c.translate.ensures
