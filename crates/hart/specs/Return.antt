-- MRET and SRET (document 01, "Traps and returns"), each with its instruction word (2026-02).
use Rattle.std.specs.Prelude.{ℕ, List, [], ◌∷◌, ◌==◌, Ok}
use Rattle.bits.specs.Field.{pick, get}
use Rattle.bits.specs.Assign.{◌after◌}
use Rattle.registers.specs.Fields.{MPP, SPP, SPV}
use Rattle.registers.specs.Places.{sepc, vsstatus, vsepc, mstatus, mepc, hstatus}
use Rattle.status.specs.Return.{v_after_mret, from_m, from_s, from_hs, from_h}
use Rattle.instructions.specs.Instructions as instructions
use Rattle.hart.specs.declared.state.Hart.{Hart}
use Rattle.hart.specs.declared.event.Step.{Step}
use Rattle.registers.specs.File.{Write, ◌↢◌, ◌with◌}
use Rattle.hart.specs.Hart.{reg, context}
use Rattle.hart.specs.Event.{done, settled}

-- MRET: pc = mepc, privilege = MPP, V = MPV unless MPP=3 (then 0); mstatus
abbrev pub writes_mret : Hart → List Write
writes_mret h = mstatus ↢ (reg h mstatus after from_m (reg h mstatus)) ∷ []

unfoldable pub returned_m : Hart → Hart
returned_m h = record {
  v = v_after_mret (reg h mstatus);
  privilege = get MPP (reg h mstatus);
  pc = reg h mepc;
  regs = h.regs with writes_mret h;
}

-- SRET with V=0: pc=sepc, V=SPV, privilege=SPP; mstatus and hstatus
abbrev pub writes_hsret : Hart → List Write
writes_hsret h = mstatus ↢ (reg h mstatus after from_hs (reg h mstatus)) ∷ hstatus ↢ (reg h hstatus after from_h) ∷ []

unfoldable pub returned_hs : Hart → Hart
returned_hs h = record { v = get SPV (reg h hstatus); privilege = get SPP (reg h mstatus); pc = reg h sepc; regs = h.regs with writes_hsret h }

-- SRET in VS: as above within vsstatus and vsepc, V=1, MPRV untouched
abbrev pub writes_vsret : Hart → List Write
writes_vsret h = vsstatus ↢ (reg h vsstatus after from_s (reg h vsstatus)) ∷ []

unfoldable pub returned_vs : Hart → Hart
returned_vs h = record { v = 1; privilege = get SPP (reg h vsstatus); pc = reg h vsepc; regs = h.regs with writes_vsret h }

abbrev pub returned_s : Hart → Hart
returned_s h = pick (h.v == 1) (returned_vs h) (returned_hs h)

unfoldable pub mret : Hart → (word : ℕ) → Step
mret h word = settled h (Ok tt) (instructions.mret (context h)) word (done (returned_m h))

unfoldable pub sret : Hart → (word : ℕ) → Step
sret h word = settled h (Ok tt) (instructions.sret (context h)) word (done (returned_s h))
