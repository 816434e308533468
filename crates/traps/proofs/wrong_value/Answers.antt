use Rattle.traps.proofs.wrong_value.Goals as goal

pub returns : goal.returns
returns c = rw (c.is_guest_page.ensures, c.is_call.ensures)
