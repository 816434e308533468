-- Worked cases of interrupts (2026-01) and of the instruction word (2026-02), as one computed table. Assumes nothing.
use mathlib.Core.Path.{◌≡◌, refl}
use mathlib.Core.Bool.{true}
use mathlib.Core.List.{List, [], ◌∷◌}
use Prim.Native.Nat.{ℕ, ◌+◌, ◌^◌}
use lib.Dec.{eqb}
use Rattle.bits.specs.Field.{top, get, put}
use Rattle.bits.specs.Assign.{◌after◌, ◌:=◌}
use Rattle.bits.specs.Every.{every}
use Rattle.exceptions.specs.Refusal.{number}
use Rattle.registers.specs.Fields.{SIE, MIE, GVA}
use Rattle.registers.specs.Places.{scause, stval, vsstatus, vstvec, vsepc, vscause, vstval, mstatus, medeleg, mideleg, mie, mtvec, mepc, mcause, mtval, mip, mtinst, mtval2, hedeleg, hideleg}
use Rattle.registers.specs.Rules.{legal, stored}
use Rattle.registers.specs.File.{Write, ◌↢◌, ◌with◌, registers_pass}
use Rattle.table.specs.Table.{first_at}
use Rattle.interrupts.specs.Interrupts.{chosen}
use Rattle.hart.specs.declared.state.Hart.{Hart}
use Rattle.hart.specs.declared.event.Outcome.{Outcome}
use Rattle.hart.specs.declared.event.Outcome.TheVariants.{Done, Trapped, Refused, Interrupted}
use Rattle.hart.specs.Hart.{reg, reset, passes}
use Rattle.hart.specs.Deliver.{delivered_m, delivered_hs, delivered_vs, delivered}
use Rattle.hart.specs.Event.{settled}
use Rattle.hart.specs.Trap.{ecall}
use Rattle.hart.specs.Return.{mret}
use Rattle.hart.specs.Wait.{wfi}
use Rattle.hart.specs.Interrupt.{interrupt}
use Rattle.hart.specs.Access.{written, access_row, access, read, write}
use Rattle.invariants.proofs.Known.{Replay, ◌gives◌, any_word, all_ones}

-- a reset hart in a mode, at 1000, with some registers as they come in
abbrev pub hart_in_mode : (v privilege : ℕ) → List Write → Hart
hart_in_mode v p ws = record { v = v; privilege = p; pc = 0x1000; regs = (reset v p 0).regs with ws }

-- all ones written to one register and then to another, in M; and what the first holds or the second shows
abbrev after-writes : (first second : ℕ) → Hart
after-writes first second = (write (write (reset 0 3 0) first top any_word).hart second top any_word).hart

abbrev shows : (first second : ℕ) → ℕ
shows first second = (read (after-writes first second) second any_word).value

-- interrupts that are pending and enabled, some of them delegated, with mstatus.MIE and SIE and vsstatus.SIE
abbrev waiting : (v privilege bits mideleg hideleg mie sie vs : ℕ) → Hart
waiting v p bits d h m s vs =
    hart_in_mode v p (mip ↢ bits ∷ mie ↢ bits ∷ mideleg ↢ d ∷ hideleg ↢ h ∷ mstatus ↢ (0xA00000000 after (MIE := m ∷ SIE := s ∷ [])) ∷ vsstatus ↢ (0x200000000 after (SIE := vs ∷ [])) ∷ [])

-- after an interrupt into M of a hart whose registers held something before
abbrev telltale : Hart
telltale =
    (interrupt (record { v = 0; privilege = 1; pc = 0; regs = (waiting 0 1 0x80 0x444 0 0 0 0).regs with (mtval ↢ 5 ∷ mtval2 ↢ 5 ∷ mtinst ↢ 5 ∷ mstatus ↢ (0xA00000000 after (GVA := 1 ∷ [])) ∷ []) })).hart

-- the interrupt that is taken; 0: none; 100 and more: refused
abbrev taken : Hart → ℕ
taken h = of (interrupt h).outcome
  where
    of : Outcome → ℕ
    of Done = 0
    of (Trapped cause) = 100
    of (Refused r) = 100 + number r
    of (Interrupted n) = n

abbrev cases : List Replay
cases =
    -- all ones written to each new register of a reset hart
    all_ones 0x303 gives 0x666 ∷  -- mideleg
    all_ones 0x304 gives 0xEEE ∷  -- mie
    all_ones 0x344 gives 0x226 ∷  -- mip
    all_ones 0x603 gives 0x444 ∷  -- hideleg
    all_ones 0x604 gives 0x444 ∷  -- hie
    all_ones 0x644 gives 0x4 ∷  -- hip
    all_ones 0x645 gives 0x444 ∷  -- hvip
    all_ones 0x607 gives 0 ∷  -- hgeie
    -- sie, sip, vsie and vsip before and after delegation, and what the home holds then
    all_ones 0x104 gives 0 ∷
    all_ones 0x144 gives 0 ∷
    all_ones 0x204 gives 0 ∷
    all_ones 0x244 gives 0 ∷
    shows 0x303 0x104 gives 0x222 ∷
    shows 0x303 0x144 gives 0x2 ∷
    shows 0x603 0x204 gives 0x222 ∷
    shows 0x603 0x244 gives 0x2 ∷
    reg (after-writes 0x303 0x104) mie gives 0x222 ∷
    reg (after-writes 0x603 0x204) mie gives 0x444 ∷
    reg (after-writes 0x603 0x244) mip gives 0x4 ∷
    -- in VS the numbers of sie and sip reach vsie and vsip
    (read (hart_in_mode 1 1 (mie ↢ 0xEEE ∷ hideleg ↢ 0x440 ∷ [])) 0x104 any_word).value gives 0x220 ∷
    reg (write (hart_in_mode 1 1 (hideleg ↢ 0x444 ∷ [])) 0x144 top any_word).hart mip gives 0x4 ∷
    -- one of each level: the machine timer's to M from HS, the supervisor's external to HS from U, VS's external to VS from VU as 9
    taken (waiting 0 1 0x80 0x444 0 0 0 0) gives 7 ∷
    (interrupt (waiting 0 1 0x80 0x444 0 0 0 0)).hart.privilege gives 3 ∷
    reg (interrupt (waiting 0 1 0x80 0x444 0 0 0 0)).hart mcause gives (2 ^ 63 + 7) ∷
    reg (interrupt (waiting 0 1 0x80 0x444 0 0 0 0)).hart mepc gives 0x1000 ∷
    taken (waiting 0 0 0x200 0x666 0 0 0 0) gives 9 ∷
    reg (interrupt (waiting 0 0 0x200 0x666 0 0 0 0)).hart scause gives (2 ^ 63 + 9) ∷
    taken (waiting 1 0 0x400 0x444 0x444 0 0 0) gives 10 ∷
    (interrupt (waiting 1 0 0x400 0x444 0x444 0 0 0)).hart.v gives 1 ∷
    reg (interrupt (waiting 1 0 0x400 0x444 0x444 0 0 0)).hart vscause gives (2 ^ 63 + 9) ∷
    reg (interrupt (waiting 1 0 0x400 0x444 0x444 0 0 0)).hart vsepc gives 0x1000 ∷
    reg (interrupt (waiting 1 0 0x400 0x444 0x444 0 0 0)).hart mip gives 0x400 ∷
    -- pending alone and enabled alone are not enough
    taken (hart_in_mode 0 1 (mip ↢ 0x80 ∷ [])) gives 0 ∷
    taken (hart_in_mode 0 1 (mie ↢ 0x80 ∷ [])) gives 0 ∷
    -- value, second value, word and flag are 0, whatever they were
    reg telltale mtval gives 0 ∷
    reg telltale mtval2 gives 0 ∷
    reg telltale mtinst gives 0 ∷
    get GVA (reg telltale mstatus) gives 0 ∷
    -- two at once: by order, and by level first
    taken (waiting 0 1 0x808 0x444 0 0 0 0) gives 11 ∷
    taken (waiting 0 0 0x202 0x666 0 0 0 0) gives 9 ∷
    taken (waiting 0 0 0x220 0x644 0 0 0 0) gives 5 ∷
    taken (waiting 1 0 0x404 0x444 0x440 0 0 0) gives 2 ∷
    -- each level's own enable bit, both ways
    taken (waiting 0 3 0x80 0x444 0 0 1 1) gives 0 ∷
    taken (waiting 0 3 0x80 0x444 0 1 0 0) gives 7 ∷
    taken (waiting 0 3 0x202 0x666 0 1 1 1) gives 0 ∷
    taken (waiting 0 1 0x2 0x666 0 1 0 1) gives 0 ∷
    taken (waiting 0 1 0x2 0x666 0 0 1 0) gives 1 ∷
    taken (waiting 1 1 0x40 0x444 0x444 1 1 0) gives 0 ∷
    taken (waiting 1 1 0x40 0x444 0x444 0 0 1) gives 6 ∷
    taken (waiting 0 0 0x40 0x444 0x444 1 1 1) gives 0 ∷
    -- a vectored target that wraps; an exception that is not vectored
    (interrupt (record { v = 0; privilege = 1; pc = 0; regs = (waiting 0 1 0x80 0x444 0 0 0 0).regs with (mtvec ↢ 0xFFFFFFFFFFFFFFFD ∷ []) })).hart.pc gives 0x18 ∷
    (interrupt (record { v = 1; privilege = 0; pc = 0; regs = (waiting 1 0 0x400 0x444 0x444 0 0 0).regs with (vstvec ↢ 0x4001 ∷ []) })).hart.pc gives 0x4024 ∷
    (ecall (hart_in_mode 0 1 (mtvec ↢ 0x4001 ∷ []))).hart.pc gives 0x4000 ∷
    -- check 2: mideleg without 2, mie with 12
    taken (waiting 0 1 0x80 0x440 0 0 0 0) gives 102 ∷
    taken (waiting 0 1 0x1000 0x444 0 0 0 0) gives 102 ∷
    -- the word with 22 in M, all 32 bits of it with 22 in HS, and with 2 in VS
    reg (wfi (hart_in_mode 1 0 []) 0x10500073).hart mtval gives 0x10500073 ∷
    reg (read (hart_in_mode 1 1 (medeleg ↢ 0x400000 ∷ [])) 0x600 0xFFFFFFFF).hart stval gives 0xFFFFFFFF ∷
    reg (mret (hart_in_mode 1 1 (medeleg ↢ 4 ∷ hedeleg ↢ 4 ∷ [])) 0x30200073).hart vstval gives 0x30200073 ∷ []

pub worked : every (λ i (r : Replay). eqb r.answer r.expected) 0 cases ≡ true
unfolding every get put legal stored first_at registers_pass passes delivered_m delivered_hs delivered_vs delivered settled chosen interrupt ecall mret wfi written access_row access
worked = refl
