-- Every event of the hart but translation, so that a theorem can speak of any of them.
use Rattle.std.specs.Prelude.{Bool, false, List, ℕ, eqb}
use Rattle.bits.specs.Field.{pick}
use Rattle.registers.specs.Fields.{GVA, HGVA}
use Rattle.registers.specs.Places.{scause, stval, vscause, vstval, mstatus, mcause, mtval, mtinst, mtval2, hstatus, htval, htinst}
use Rattle.privilege.specs.Mode.{is_set}
use Rattle.exceptions.specs.declared.Exception.{Exception}
use Rattle.hart.specs.declared.state.Hart.{Hart}
use Rattle.hart.specs.declared.event.Step.{Step}
use Rattle.csr.specs.declared.Form.{Form}
use Rattle.hart.specs.declared.accesses.Accessed.{Accessed}
use Rattle.hart.specs.declared.guest.Reach.{Reach}
use Rattle.hypervisor.specs.declared.Operation.{Operation}
use Rattle.hart.specs.Hart.{reg}
use Rattle.hart.specs.Event.{step}
use Rattle.hart.specs.Trap as traps
use Rattle.hart.specs.Interrupt as interrupts
use Rattle.hart.specs.Return as returns
use Rattle.hart.specs.Wait as waits
use Rattle.hart.specs.Access as accesses
use Rattle.hart.specs.Guest as guests

-- "a register access, return, WFI or fence" (2026-02)
pub data Instruction : Type 0 where
  mret sret wfi sfence_vma hfence_vvma hfence_gvma : Instruction
  access : Form → (number value : ℕ) → (writes : Bool) → Instruction

-- "Each such event gains the word"; HLV, HLVX and HSV over an image (2026-03): the bytes loaded or stored have no part in what the hart comes to
pub data Event : Type 0 where
  executes : Instruction → (word : ℕ) → Event
  reaches : Operation → (base : ℕ) → (bytes : List ℕ) → (width address word : ℕ) → Event
  trap : Exception → Event
  ecall ebreak interrupt : Event

-- an access, but for the value answered
abbrev pub step_of : Accessed → Step
step_of a = step a.hart a.outcome

-- a hypervisor load or store, but for its bytes and its list
abbrev pub step_at : Reach → Step
step_at r = step r.hart r.outcome

-- what an instruction with a word comes to
abbrev pub executed : Instruction → Hart → (word : ℕ) → Step
executed mret h word = returns.mret h word
executed sret h word = returns.sret h word
executed wfi h word = waits.wfi h word
executed sfence_vma h word = waits.sfence_vma h word
executed hfence_vvma h word = waits.hfence_vvma h word
executed hfence_gvma h word = waits.hfence_gvma h word
executed (access form number value writes) h word = step_of (accesses.access h form number value writes word)

-- what an event comes to
unfoldable pub run : Event → Hart → Step
run (executes i word) h = executed i h word
run (reaches o base bytes width address word) h = step_at (guests.reach h o base bytes width address word)
run (trap t) h = traps.trap h t
run ecall h = traps.ecall h
run ebreak h = traps.ebreak h
run interrupt h = interrupts.interrupt h

-- What the level that a hart is at was told of a trap: "vscause, vstval" in VS; "GVA, .. mcause, mtval, mtval2, mtinst" in M;
-- "hstatus.GVA, .. scause, stval, htval, htinst" in HS.
abbrev pub told : Hart → Exception
told h =
    pick (eqb h.v 1) (record { cause = reg h vscause; value = reg h vstval; value2 = 0; word = 0; flag = false })
    (pick (eqb h.privilege 3) (record { cause = reg h mcause; value = reg h mtval; value2 = reg h mtval2; word = reg h mtinst; flag = is_set GVA (reg h mstatus) })
    (record { cause = reg h scause; value = reg h stval; value2 = reg h htval; word = reg h htinst; flag = is_set HGVA (reg h hstatus) }))

-- where it keeps the trap's value: "(mtval, stval, vstval)"
abbrev pub value_place : Hart → ℕ
value_place h = pick (eqb h.v 1) vstval (pick (eqb h.privilege 3) mtval stval)
