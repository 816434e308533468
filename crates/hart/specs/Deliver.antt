-- Delivery of a trap (document 01, "Delivery"), by an exception or an interrupt.
use Rattle.std.specs.Prelude.{List, [], ◌∷◌}
use Rattle.bits.specs.Assign.{◌after◌}
use Rattle.registers.specs.Places.{stvec, sepc, scause, stval, vsstatus, vstvec, vsepc, vscause, vstval, mstatus, medeleg, mtvec, mepc, mcause, mtval, mtinst, mtval2, hstatus, hedeleg, htval, htinst}
use Rattle.status.specs.Trap.{into_m, into_s, into_h}
use Rattle.exceptions.specs.declared.Exception.{Exception}
use Rattle.delivery.specs.declared.Target.{Target}
use Rattle.delivery.specs.declared.Target.TheVariants.{M, HS, VS}
use Rattle.delivery.specs.Delivery.{target, handler}
use Rattle.hart.specs.declared.state.Hart.{Hart}
use Rattle.registers.specs.File.{Write, ◌↢◌, ◌with◌}
use Rattle.hart.specs.Hart.{reg, context}

-- M: mstatus; mepc, mcause, mtval, mtval2, mtinst written; V is 0 after
abbrev pub writes_m : Hart → Exception → List Write
writes_m h t =
    mstatus ↢ (reg h mstatus after into_m h.v h.privilege t.flag (reg h mstatus))
    ∷ mepc ↢ h.pc ∷ mcause ↢ t.cause ∷ mtval ↢ t.value ∷ mtval2 ↢ t.value2 ∷ mtinst ↢ t.word ∷ []

unfoldable pub delivered_m : Hart → Exception → Hart
delivered_m h t = record { v = 0; privilege = 3; pc = handler (reg h mtvec) t.cause; regs = h.regs with writes_m h t }

-- HS: mstatus and hstatus; sepc, scause, stval, htval, htinst written; V is 0 after
abbrev pub writes_hs : Hart → Exception → List Write
writes_hs h t =
    mstatus ↢ (reg h mstatus after into_s h.privilege (reg h mstatus))
    ∷ hstatus ↢ (reg h hstatus after into_h h.v h.privilege t.flag (reg h hstatus))
    ∷ sepc ↢ h.pc ∷ scause ↢ t.cause ∷ stval ↢ t.value ∷ htval ↢ t.value2 ∷ htinst ↢ t.word ∷ []

unfoldable pub delivered_hs : Hart → Exception → Hart
delivered_hs h t = record { v = 0; privilege = 1; pc = handler (reg h stvec) t.cause; regs = h.regs with writes_hs h t }

-- VS: vsstatus; vsepc, vscause, vstval; V stays 1
abbrev pub writes_vs : Hart → Exception → List Write
writes_vs h t =
    vsstatus ↢ (reg h vsstatus after into_s h.privilege (reg h vsstatus))
    ∷ vsepc ↢ h.pc ∷ vscause ↢ t.cause ∷ vstval ↢ t.value ∷ []

unfoldable pub delivered_vs : Hart → Exception → Hart
delivered_vs h t = record { v = 1; privilege = 1; pc = handler (reg h vstvec) t.cause; regs = h.regs with writes_vs h t }

abbrev pub delivered_to : Target → Hart → Exception → Hart
delivered_to M h t = delivered_m h t
delivered_to HS h t = delivered_hs h t
delivered_to VS h t = delivered_vs h t

unfoldable pub delivered : Hart → Exception → Hart
delivered h t = delivered_to (target (context h) (reg h medeleg) (reg h hedeleg) t.cause) h t
