use Rattle.traps.proofs.impossible.Goals as goal

pub returns : goal.returns
returns c = rw (c.wrong_flag.ensures, c.wrong_value.ensures, c.wrong_mode.ensures, c.unknown.ensures)
