-- A hart in two parts: its registers, which are lent, and the rest. All of this is for contracts of code.
use Rattle.std.specs.Prelude.{ℕ, List}
use Rattle.hart.specs.declared.state.Hart.{Hart}
use Rattle.hart.specs.declared.control.Control.{Control}
use Rattle.hart.specs.declared.event.Step.{Step}
use Rattle.hart.specs.declared.event.Ended.{Ended}
use Rattle.hart.specs.declared.accesses.Accessed.{Accessed}
use Rattle.hart.specs.declared.accesses.Answer.{Answer}

-- the rest
abbrev pub control : Hart → Control
control h = record { v = h.v; privilege = h.privilege; pc = h.pc }

-- the hart of the two
abbrev pub on : Control → List ℕ → Hart
on c rs = record { v = c.v; privilege = c.privilege; pc = c.pc; regs = rs }

-- a step
abbrev pub step_on : Ended → List ℕ → Step
step_on e rs = record { hart = on e.control rs; outcome = e.outcome }

-- a register access
abbrev pub accessed_on : Answer → List ℕ → Accessed
accessed_on a rs = record { hart = on a.control rs; outcome = a.outcome; value = a.value }
