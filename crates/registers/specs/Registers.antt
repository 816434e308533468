-- The registers, each with its number, level and view (document 01, "Twenty-nine registers", and the twelve of 2026-01).
use Rattle.std.specs.Prelude.{Bool, true, false, List, [], ◌∷◌, ℕ, get_or}
use Rattle.registers.specs.Places.{stvec, sscratch, sepc, scause, stval, satp, vsstatus, vstvec, vsscratch, vsepc, vscause, vstval, vsatp, mstatus, medeleg, mideleg, mie, mtvec, mscratch, mepc, mcause, mtval, mtinst, mtval2, hstatus, hedeleg, hideleg, htval, htinst, hgatp}
use Rattle.registers.specs.Views.{View, whole, status_view, no_bits, mip_view, hie_view, hip_view, hvip_view, sie_view, sip_view, vsie_view, vsip_view}

-- how many they are
abbrev pub count : ℕ
count = 41

-- the level that a number belongs to: S; VS and H; M
abbrev pub supervisor : ℕ
supervisor = 1

abbrev pub hypervisor : ℕ
hypervisor = 2

abbrev pub machine : ℕ
machine = 3

-- A register: its own view, and what its number reaches in VS (twin).
pub record Register : Type 0 where
  pub number : ℕ
  pub level : ℕ
  pub read_only : Bool
  pub view : View
  pub twin : View

-- "In VS an S number reaches its VS register"
abbrev pub twinned : ℕ → View → View → Register
twinned n v t = record { number = n; level = supervisor; read_only = false; view = v; twin = t }

abbrev pub register : ℕ → ℕ → View → Register
register n l v = record { number = n; level = l; read_only = false; view = v; twin = v }

abbrev pub read_only_register : ℕ → ℕ → View → Register
read_only_register n l v = record { number = n; level = l; read_only = true; view = v; twin = v }

-- S, VS, M and H, in rising order of number
abbrev pub registers : List Register
registers =
    twinned 0x100 status_view (whole vsstatus) ∷  -- sstatus
    twinned 0x104 sie_view vsie_view ∷  -- sie
    twinned 0x105 (whole stvec) (whole vstvec) ∷
    twinned 0x140 (whole sscratch) (whole vsscratch) ∷
    twinned 0x141 (whole sepc) (whole vsepc) ∷
    twinned 0x142 (whole scause) (whole vscause) ∷
    twinned 0x143 (whole stval) (whole vstval) ∷
    twinned 0x144 sip_view vsip_view ∷  -- sip
    twinned 0x180 (whole satp) (whole vsatp) ∷
    register 0x200 hypervisor (whole vsstatus) ∷
    register 0x204 hypervisor vsie_view ∷  -- vsie
    register 0x205 hypervisor (whole vstvec) ∷
    register 0x240 hypervisor (whole vsscratch) ∷
    register 0x241 hypervisor (whole vsepc) ∷
    register 0x242 hypervisor (whole vscause) ∷
    register 0x243 hypervisor (whole vstval) ∷
    register 0x244 hypervisor vsip_view ∷  -- vsip
    register 0x280 hypervisor (whole vsatp) ∷
    register 0x300 machine (whole mstatus) ∷
    register 0x302 machine (whole medeleg) ∷
    register 0x303 machine (whole mideleg) ∷
    register 0x304 machine (whole mie) ∷
    register 0x305 machine (whole mtvec) ∷
    register 0x340 machine (whole mscratch) ∷
    register 0x341 machine (whole mepc) ∷
    register 0x342 machine (whole mcause) ∷
    register 0x343 machine (whole mtval) ∷
    register 0x344 machine mip_view ∷  -- mip
    register 0x34a machine (whole mtinst) ∷
    register 0x34b machine (whole mtval2) ∷
    register 0x600 hypervisor (whole hstatus) ∷
    register 0x602 hypervisor (whole hedeleg) ∷
    register 0x603 hypervisor (whole hideleg) ∷
    register 0x604 hypervisor hie_view ∷  -- hie
    register 0x607 hypervisor no_bits ∷  -- hgeie
    register 0x643 hypervisor (whole htval) ∷
    register 0x644 hypervisor hip_view ∷  -- hip
    register 0x645 hypervisor hvip_view ∷  -- hvip
    register 0x64a hypervisor (whole htinst) ∷
    register 0x680 hypervisor (whole hgatp) ∷
    read_only_register 0xe12 hypervisor no_bits ∷  -- hgeip
    []

-- the register of a row; past the table, one without bits
abbrev pub at : ℕ → Register
at i = get_or registers i (register 0 0 no_bits)
