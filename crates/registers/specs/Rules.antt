-- What each register that a hart keeps stores of a write, and so what it can hold (document 01, "Stored bits"; 2026-01).
use Rattle.std.specs.Prelude.{Bool, true, false, ◌&&◌, ◌||◌, List, [], ◌∷◌, ◌++◌, ℕ, ◌-◌, eqb, get_or}
use Rattle.std.specs.Int.Bits.{bit_and}
use Rattle.bits.specs.declared.Field.{Field}
use Rattle.bits.specs.Field.{pick, span, bit, top, bits, get, put, copy}
use Rattle.bits.specs.Assign.{◌:=◌, ◌after◌}
use Rattle.registers.specs.Fields.{SIE, MIE, SPIE, MPIE, SPP, MPP, MPRV, SUM, MXR, TVM, TW, TSR, GVA, MPV, UXL, SXL, HGVA, SPV, SPVP, HU, VTVM, VTW, VTSR, VSXL, MODE, VMID, SSI, VSSI, MSI, STI, VSTI, MTI, SEI, VSEI, MEI}

-- a field that takes only some values: where a write has another, the field keeps what it held, or the whole write is ignored
pub data Restriction : Type 0 where
  free : Restriction
  keeps : Field → List ℕ → Restriction
  ignores : Field → List ℕ → Restriction

-- what a register stores
pub record Rule : Type 0 where
  pub mask : ℕ  -- the stored bits: those that a write stores, to it or to a view of it, or that come in with the hart
  pub fixed : ℕ  -- what the other bits read
  pub restriction : Restriction

abbrev pub among : ℕ → List ℕ → Bool
among n [] = false
among n (x ∷ xs) = among n xs || eqb n x

-- the restricted field of x, if there is one, holds a value that it takes
abbrev pub allowed : Restriction → ℕ → Bool
allowed free x = true
allowed (keeps f vs) x = among (get f x) vs
allowed (ignores f vs) x = among (get f x) vs

-- what a register that held old comes to hold where x is to go into it
abbrev pub taken : Restriction → ℕ → ℕ → ℕ
taken free old x = x
taken (keeps f vs) old x = pick (among (get f x) vs) x (put f (get f old) x)
taken (ignores f vs) old x = pick (among (get f x) vs) x old

-- what a register can hold
unfoldable pub legal : Rule → ℕ → Bool
legal r x = allowed r.restriction x && eqb (bit_and x (top - r.mask)) r.fixed

-- a register without a restriction
abbrev pub stores : ℕ → ℕ → Rule
stores m f = record { mask = m; fixed = f; restriction = free }

-- mstatus: its fields; writing 2 keeps the old MPP; UXL and SXL read 2
abbrev pub stores_mstatus : Rule
stores_mstatus = record {
  mask = bits (SIE ∷ MIE ∷ SPIE ∷ MPIE ∷ SPP ∷ MPP ∷ MPRV ∷ SUM ∷ MXR ∷ TVM ∷ TW ∷ TSR ∷ GVA ∷ MPV ∷ []);
  fixed = 0 after (UXL := 2 ∷ SXL := 2 ∷ []);
  restriction = keeps MPP (0 ∷ 1 ∷ 3 ∷ []);
}

-- "sstatus is mstatus's SIE, SPIE, SPP, SUM, MXR and UXL; vsstatus holds its own of these"; UXL reads 2
abbrev pub stores_status : Rule
stores_status = stores (bits (SIE ∷ SPIE ∷ SPP ∷ SUM ∷ MXR ∷ [])) (0 after (UXL := 2 ∷ []))

-- hstatus: its fields; VSXL reads 2
abbrev pub stores_hstatus : Rule
stores_hstatus = stores (bits (HGVA ∷ SPV ∷ SPVP ∷ HU ∷ VTVM ∷ VTW ∷ VTSR ∷ [])) (0 after (VSXL := 2 ∷ []))

-- hedeleg mask B1FF, medeleg mask F0B7FF
abbrev pub stores_hedeleg : Rule
stores_hedeleg = stores 0xB1FF 0

abbrev pub stores_medeleg : Rule
stores_medeleg = stores 0xF0B7FF 0

-- tvec: bit 1 cleared
abbrev pub stores_tvec : Rule
stores_tvec = stores (bits (span 63 2 ∷ bit 0 ∷ [])) 0

-- epc: bits 1:0 cleared
abbrev pub stores_epc : Rule
stores_epc = stores (bits (span 63 2 ∷ [])) 0

-- MODE: Bare, Sv39, and "Sv48 and Sv57, with Sv48x4 and Sv57x4 (MODE 9 and 10)" (2026-05): "stored bits and check 2 accept the new modes"
abbrev pub modes : List ℕ
modes = 0 ∷ 8 ∷ 9 ∷ 10 ∷ []

-- satp, vsatp: one of these, else the whole write does nothing
abbrev pub stores_satp : Rule
stores_satp = record { mask = top; fixed = 0; restriction = ignores MODE modes }

-- hgatp: MODE is one of these, another MODE keeps the old one while VMID and PPN are written; bits 59:58 and 1:0 are zero
abbrev pub stores_hgatp : Rule
stores_hgatp = record { mask = bits (MODE ∷ VMID ∷ span 43 2 ∷ []); fixed = 0; restriction = keeps MODE modes }

-- the interrupts of S, of VS and of M: software, timer and external
abbrev pub of_s : List Field
of_s = SSI ∷ STI ∷ SEI ∷ []

abbrev pub of_vs : List Field
of_vs = VSSI ∷ VSTI ∷ VSEI ∷ []

abbrev pub of_m : List Field
of_m = MSI ∷ MTI ∷ MEI ∷ []

-- "Bits 2, 6 and 10 of mideleg read one; 1, 5 and 9 can be written."
abbrev pub stores_mideleg : Rule
stores_mideleg = stores (bits of_s) (bits of_vs)

-- hideleg: 2, 6 and 10
abbrev pub stores_hideleg : Rule
stores_hideleg = stores (bits of_vs) 0

-- mie, and mip: "mip's bits 3, 7 and 11 come in with the hart, pass check 2 and can't be written" (what can: `registers`)
abbrev pub stores_interrupts : Rule
stores_interrupts = stores (bits (of_s ++ (of_vs ++ of_m))) 0

-- all others: 64 bits
abbrev pub stores_word : Rule
stores_word = stores top 0

-- the rule of each place
abbrev pub rules : List Rule
rules =
    stores_tvec ∷  -- stvec
    stores_word ∷  -- sscratch
    stores_epc ∷  -- sepc
    stores_word ∷  -- scause
    stores_word ∷  -- stval
    stores_satp ∷  -- satp
    stores_status ∷  -- vsstatus
    stores_tvec ∷  -- vstvec
    stores_word ∷  -- vsscratch
    stores_epc ∷  -- vsepc
    stores_word ∷  -- vscause
    stores_word ∷  -- vstval
    stores_satp ∷  -- vsatp
    stores_mstatus ∷  -- mstatus
    stores_medeleg ∷  -- medeleg
    stores_mideleg ∷  -- mideleg
    stores_interrupts ∷  -- mie
    stores_tvec ∷  -- mtvec
    stores_word ∷  -- mscratch
    stores_epc ∷  -- mepc
    stores_word ∷  -- mcause
    stores_word ∷  -- mtval
    stores_interrupts ∷  -- mip
    stores_word ∷  -- mtinst
    stores_word ∷  -- mtval2
    stores_hstatus ∷  -- hstatus
    stores_hedeleg ∷  -- hedeleg
    stores_hideleg ∷  -- hideleg
    stores_word ∷  -- htval
    stores_word ∷  -- htinst
    stores_hgatp ∷  -- hgatp
    []

abbrev pub rule : ℕ → Rule
rule place = get_or rules place stores_word

-- what the register at a place comes to hold where it held old and w is written to some of its bits
unfoldable pub stored : (place mask old w : ℕ) → ℕ
stored place mask old w = taken (rule place).restriction old (copy mask w old)
