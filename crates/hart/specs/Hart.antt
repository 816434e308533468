-- The hart, and check 2 (document 01, "When the model says no").
use Rattle.std.specs.Prelude.{ℕ, Bool, slice_index}
use Rattle.registers.specs.Places.{satp, vsstatus, vsatp, mstatus, mideleg, mie, mip, hstatus, hideleg, hgatp}
use Rattle.registers.specs.File.{initial, registers_pass}
use Rattle.privilege.specs.declared.Context.{Context}
use Rattle.privilege.specs.Mode.{checked}
use Rattle.interrupts.specs.declared.Lines.{Lines}
use Rattle.effective.specs.declared.Paging.{Paging}
use Rattle.hart.specs.declared.state.Hart.{Hart}

-- what a place holds
abbrev pub reg : Hart → ℕ → ℕ
reg h place = slice_index h.regs place

-- a hart to start from: no stored bit of a register is set
abbrev pub reset : (v privilege pc : ℕ) → Hart
reset v privilege pc = record { v = v; privilege = privilege; pc = pc; regs = initial }

-- what an instruction's permission depends on
abbrev pub context : Hart → Context
context h = record { v = h.v; privilege = h.privilege; mstatus = reg h mstatus; hstatus = reg h hstatus }

-- what an interrupt's being due depends on beside
abbrev pub lines : Hart → Lines
lines h = record { mip = reg h mip; mie = reg h mie; mideleg = reg h mideleg; hideleg = reg h hideleg; vsstatus = reg h vsstatus }

-- what an access goes by beside
abbrev pub paging : Hart → Paging
paging h = record { vsstatus = reg h vsstatus; satp = reg h satp; vsatp = reg h vsatp; hgatp = reg h hgatp }

-- check 2
unfoldable pub passes : Hart → Bool
passes h = checked (context h) (registers_pass h.regs) h.pc
