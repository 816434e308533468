use native.Mathlib.Omega.{arith}
use Rattle.translate.specs.declared.Answer.{Answer}
use Rattle.listing.proofs.Words.{answer-written}
use Rattle.listing.proofs.put_answer.Goals as goal

pub returns-in-Address : goal.returns-in-Address
returns-in-Address c = let a = c.args in rw (c.put_seven.ensures, c.in-Address.is) (answer-written (Answer.Address _) a.count a.out.now (omega arith))

pub returns-in-Refused : goal.returns-in-Refused
returns-in-Refused c = let a = c.args in rw (c.put_seven-in-Refused.ensures, c.from.ensures, c.in-Refused.is) (answer-written (Answer.Refused _) a.count a.out.now (omega arith))

pub returns-in-Fault : goal.returns-in-Fault
returns-in-Fault c =
    let a = c.args in
    rw (c.put_seven-in-Fault.ensures, c.select-flag.ensures, c.in-Fault.is) (answer-written (Answer.Fault c.in-Fault.f) a.count a.out.now (omega arith))
