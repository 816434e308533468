use Rattle.traps.proofs.wrong_flag.Goals as goal

pub returns : goal.returns
returns c = rw (c.is_guest_page.ensures, c.never_flagged-never.ensures)
