-- What MRET, SRET, WFI, the fences (document 01, "Traps and returns") and the hypervisor loads and stores (2026-03) give.
use Rattle.std.specs.Prelude.{Bool, false, ◌&&◌, ◌||◌, not, eqb}
use Rattle.bits.specs.declared.Field.{Field}
use Rattle.registers.specs.Fields.{TVM, TW, TSR, HU, VTVM, VTW, VTSR}
use Rattle.privilege.specs.declared.Context.{Context}
use Rattle.privilege.specs.declared.Verdict.{Verdict}
use Rattle.privilege.specs.Mode.{is_u, is_hs, is_m, is_vu, is_vs, is_set, gives}

-- "U 2; HS with TVM=1 2", and with TSR=1: a control of mstatus
abbrev pub illegal_with : Field → Context → Bool
illegal_with control c = is_u c || is_hs c && is_set control c.mstatus

-- "VU 22; VS with VTVM=1 22", and with VTSR=1 or VTW=1: a control of hstatus
abbrev pub virtual_with : Field → Context → Bool
virtual_with control c = is_vu c || is_vs c && is_set control c.hstatus

-- MRET, M only, else 2
abbrev pub mret : Context → Verdict
mret c = gives (not (is_m c)) false

-- SRET with V=0: U gives 2, HS with TSR=1 gives 2; SRET in VU, or in VS with VTSR=1: 22
abbrev pub sret : Context → Verdict
sret c = gives (illegal_with TSR c) (virtual_with VTSR c)

-- WFI: M goes on; TW=1 elsewhere gives 2; then U gives 2, VU gives 22, VS gives 22 if VTW=1
abbrev pub wfi : Context → Verdict
wfi c = gives (not (is_m c) && (is_set TW c.mstatus || is_u c)) (virtual_with VTW c)

-- SFENCE.VMA: U 2; HS with TVM=1 2; VU 22; VS with VTVM=1 22
abbrev pub sfence_vma : Context → Verdict
sfence_vma c = gives (illegal_with TVM c) (virtual_with VTVM c)

-- HFENCE.VVMA: U 2; V=1 always 22
abbrev pub hfence_vvma : Context → Verdict
hfence_vvma c = gives (is_u c) (eqb c.v 1)

-- HFENCE.GVMA: U 2; in HS with TVM=1 2; V=1 always 22
abbrev pub hfence_gvma : Context → Verdict
hfence_gvma c = gives (illegal_with TVM c) (eqb c.v 1)

-- HLV, HLVX and HSV: "V=1 gives 22; U with HU=0 gives 2"
abbrev pub hypervisor_access : Context → Verdict
hypervisor_access c = gives (is_u c && not (is_set HU c.hstatus)) (eqb c.v 1)
