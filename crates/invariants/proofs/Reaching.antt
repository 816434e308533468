-- Worked cases of the hypervisor loads and stores (2026-03), as one computed table. Assumes nothing.
use Rattle.std.specs.Prelude.{Option, Some, None, Ok, Err}
use mathlib.Core.Path.{◌≡◌, refl}
use mathlib.Core.Bool.{Bool, true, false}
use mathlib.Core.List.{List, [], ◌∷◌, ◌++◌}
use Prim.Native.Nat.{ℕ, ◌+◌}
use lib.Dec.{eqb}
use lib.ListN.{length, replicate}
use lib.Seq.{sets}
use Rattle.exceptions.specs.Refusal.{number}
use Rattle.bits.specs.declared.Field.{Field}
use Rattle.bits.specs.Field.{pick, get, put}
use Rattle.bits.specs.Assign.{Assignment, ◌after◌, ◌:=◌}
use Rattle.bits.specs.Every.{every}
use Rattle.registers.specs.Fields.{SPP, MPP, MPRV, SUM, MXR, GVA, MPV, HGVA, SPV, SPVP, HU}
use Rattle.registers.specs.Places.{scause, stval, satp, vsstatus, vsatp, mstatus, medeleg, mcause, mtval, mtinst, mtval2, hstatus, hedeleg, htval, hgatp}
use Rattle.registers.specs.Rules.{legal}
use Rattle.registers.specs.File.{Write, ◌↢◌, registers_pass}
use Rattle.image.specs.Image.{unfit, within}
use Rattle.image.specs.Data.{little, bytes_at, extended, loaded, stored}
use Rattle.rules.specs.Address as addresses
use Rattle.rules.specs.Entry.{malformed, bad_pointer, bad_leaf, faulty, judged}
use Rattle.access.specs.declared.Machine.{Machine}
use Rattle.effective.specs.Effective.{depth, first_root, second_root}
use Rattle.stages.specs.Tree.{Ran, bind, run}
use Rattle.stages.specs.Stages.{follow, inspect, down, begin, last, final, walk_of}
use Rattle.hypervisor.specs.declared.Operation.{Operation}
use Rattle.hypervisor.specs.declared.Operation.TheVariants.{Hlv, Hlvx, Hsv}
use Rattle.hypervisor.specs.Hypervisor.{End, refusal_of, access_for, walk_for}
use Rattle.hart.specs.declared.state.Hart.{Hart}
use Rattle.hart.specs.declared.event.Outcome.{Outcome}
use Rattle.hart.specs.declared.event.Outcome.TheVariants.{Done, Trapped, Refused, Interrupted}
use Rattle.hart.specs.declared.guest.Performed.{Performed}
use Rattle.hart.specs.Hart.{reg, context, paging, passes}
use Rattle.hart.specs.Deliver.{delivered_m, delivered_hs, delivered}
use Rattle.hart.specs.Guest.{reach, load, hlv, hlvx, hsv}
use Rattle.invariants.proofs.Known.{Replay, ◌gives◌, any_word, second-value}
use Rattle.invariants.proofs.Worked.{hart_in_mode}

-- modes with some registers as they come in; where these are not named, both stages are Bare
abbrev u : List Write → Hart
u = hart_in_mode 0 0

abbrev hs : List Write → Hart
hs = hart_in_mode 0 1

abbrev m : List Write → Hart
m = hart_in_mode 0 3

abbrev vu : List Write → Hart
vu = hart_in_mode 1 0

abbrev vs : List Write → Hart
vs = hart_in_mode 1 1

-- one field set; hstatus with some fields, vsstatus and mstatus likewise
abbrev on : Field → List Assignment
on field = field := 1 ∷ []

abbrev hstatus_with : List Assignment → Write
hstatus_with fields = hstatus ↢ (0x200000000 after fields)

abbrev vsstatus_with : List Assignment → Write
vsstatus_with fields = vsstatus ↢ (0x200000000 after fields)

abbrev mstatus_with : List Assignment → Write
mstatus_with fields = mstatus ↢ (0xA00000000 after fields)

-- ---- whole events

-- an image of one page at 80000000: sixteen bytes from its fifth on, all others 0; and those sixteen as one number
abbrev page : List ℕ
page = sets (replicate 4096 0) 4 (0xA4 ∷ 0xA5 ∷ 0xA6 ∷ 0xA7 ∷ 0x01 ∷ 0x82 ∷ 0x03 ∷ 0x84 ∷ 0x05 ∷ 0x06 ∷ 0x07 ∷ 0x88 ∷ 0xB0 ∷ 0xB1 ∷ 0xB2 ∷ 0xB3 ∷ [])

abbrev sixteen : List ℕ → ℕ
sixteen s = little (bytes_at 0x80000000 s 0x80000004 16)

-- one of the three over an image: HLV unsigned, HSV of 0
abbrev over : (base : ℕ) → List ℕ → Operation → Hart → (width address : ℕ) → Performed
over base bytes Hlv h width address = hlv h base bytes width false address any_word
over base bytes Hlvx h width address = hlvx h base bytes width address any_word
over base bytes Hsv h width address = (hsv h base bytes width address 0 any_word).0

-- what it came to: 0 where it was done, else the cause; 100 and more: refused
abbrev outcome : Performed → ℕ
outcome p = of p.outcome
  where
    of : Outcome → ℕ
    of Done = 0
    of (Trapped cause) = cause
    of (Refused r) = 100 + number r
    of (Interrupted n) = 200

-- over an empty image, where an access that goes through has an access fault: what it came to, and the hart after it
abbrev comes : Operation → Hart → (width address : ℕ) → ℕ
comes o h width address = outcome (over 0 [] o h width address)

abbrev leaves : Operation → Hart → (width address : ℕ) → Hart
leaves o h width address = (over 0 [] o h width address).hart

-- HLV and HSV over the page, from HS: what is loaded, and the bytes after 1122334455667788 is stored
abbrev hlv-page : (width : ℕ) → (signed : Bool) → (address : ℕ) → ℕ
hlv-page width signed address = (hlv (hs []) 0x80000000 page width signed address any_word).value

abbrev hsv-page : Hart → (width address : ℕ) → List ℕ
hsv-page h width address = (hsv h 0x80000000 page width address 0x1122334455667788 any_word).1

-- ---- walks, over entries alone

-- these have values at their machine addresses, the first first; every other lies outside
abbrev entries : List Write → Machine → Option ℕ
entries [] a = None
entries (e ∷ es) a = pick (eqb a.0 e.place) (Some e.value) (entries es a)

-- Guest pages 6 to 9 are the machine's 80006 to 80009, by the second stage's tables at 80000000, 80004000 and 80005000; guest pages 6, 7 and 8 are the first
-- stage's tables. Of page 9, which is at 1000 by these, the leaves of both stages are left out.
abbrev tables : List Write
tables =
    0x80000000 ↢ 0x20001001 ∷ 0x80004000 ↢ 0x20001401 ∷ 0x80005030 ↢ 0x200018D7 ∷ 0x80005038 ↢ 0x20001CD7 ∷ 0x80005040 ↢ 0x200020D7
    ∷ 0x80006000 ↢ 0x1C01 ∷ 0x80007000 ↢ 0x2001 ∷ []

-- four bytes at an address, with some entries before those of the tables
abbrev walks : List Write → Operation → Hart → (address : ℕ) → Ran End
walks es o h address = run (entries (es ++ tables)) (walk_of 0x80000000 0xA000 (access_for o (context h) (paging h) address 4))

-- the flags of a leaf with V and A: the rights that it has, and D where W is among them; the same with D=0; of a U page
abbrev r : ℕ
r = 0x43

abbrev rw : ℕ
rw = 0xC7

abbrev rx : ℕ
rx = 0x4B

abbrev x : ℕ
x = 0x49

abbrev clean : ℕ
clean = 0x47

abbrev user : ℕ → ℕ
user flags = flags + 0x10

-- page 9's leaves, of the first and of the second stage, by their flags
abbrev leaf : (first second : ℕ) → List Write
leaf first second = 0x80008008 ↢ (0x2400 + first) ∷ 0x80005048 ↢ (0x20002400 + second) ∷ []

-- where a walk ends: a machine address, or the cause
abbrev ends : Ran End → ℕ
ends w = of w.end
  where
    of : End → ℕ
    of (Ok a) = a.0
    of (Err f) = f.cause

abbrev through : Operation → Hart → (first second : ℕ) → ℕ
through o h first second = ends (walks (leaf first second) o h 0x1008)

-- a hypervisor whose guest has both stages on, with fields of hstatus, vsstatus and mstatus set; satp, which has no part, is on too
abbrev hypervisor : (privilege : ℕ) → (h vs m : List Assignment) → Hart
hypervisor privilege h vs m =
    hart_in_mode 0 privilege (satp ↢ 0x8000000000080009 ∷ vsatp ↢ 0x8000000000000006 ∷ hgatp ↢ 0x8000000000080000 ∷ hstatus_with h ∷ vsstatus_with vs ∷ mstatus_with m ∷ [])

-- in HS, for its guest's VS and for its VU
abbrev for_vs : (vs m : List Assignment) → Hart
for_vs = hypervisor 1 (on SPVP)

abbrev for_vu : (vs m : List Assignment) → Hart
for_vu = hypervisor 1 []

-- ---- faults delivered, over an empty image

-- HLV at an address that the first stage's high bits refuse: 13
abbrev page-fault : (privilege : ℕ) → List Write → Hart
page-fault privilege ws = leaves Hlv (hart_in_mode 0 privilege (vsatp ↢ 0x8000000000000006 ∷ ws)) 4 0x4000000000

-- one of the three for a guest whose root is at one that the second stage's refuse
abbrev entry-fault : Operation → Hart
entry-fault o = leaves o (hs (vsatp ↢ 0x8000000020000000 ∷ hgatp ↢ 0x8000000000080000 ∷ [])) 4 0x40000000

abbrev cases : List Replay
cases =
    -- refusal 3: "width not 1, 2, 4 or 8", "HLVX of width 1 or 8"
    comes Hlv (hs []) 3 0 gives 103 ∷
    comes Hsv (hs []) 3 0 gives 103 ∷
    comes Hlvx (hs []) 1 0 gives 103 ∷
    comes Hlvx (hs []) 8 0 gives 103 ∷
    -- "Order: 2, then 1, then the call's own": MPRV=1 outside M, a base of 1
    outcome (over 1 [] Hlv (hs []) 3 0) gives 101 ∷
    outcome (over 1 [] Hsv (hs (mstatus_with (on MPRV) ∷ [])) 3 0) gives 102 ∷
    -- a refusal before 22 and 2; the hart as given
    comes Hlv (vs []) 3 0 gives 103 ∷
    (leaves Hsv (u []) 3 0).pc gives 0x1000 ∷
    -- "V=1 gives 22; U with HU=0 gives 2", before misalignment
    comes Hlv (vs []) 4 0 gives 22 ∷
    comes Hlvx (vu []) 4 2 gives 22 ∷
    comes Hsv (vu (hstatus_with (on HU) ∷ [])) 4 0 gives 22 ∷
    comes Hsv (u []) 4 2 gives 2 ∷
    -- U with HU=1, HS and M go on
    comes Hlv (u (hstatus_with (on HU) ∷ [])) 4 0 gives 5 ∷
    comes Hlv (m []) 4 0 gives 5 ∷
    -- "both carry the word": HLV.W, HSV.W, HLVX.WU
    reg (hlv (vs []) 0 [] 4 true 0 0x6805C573).hart mtval gives 0x6805C573 ∷
    reg (hsv (u []) 0 [] 4 0 0 0x6AC5C073).0.hart mtval gives 0x6AC5C073 ∷
    reg (hlvx (vs (medeleg ↢ 0x400000 ∷ [])) 0 [] 4 0 0x6835C573).hart stval gives 0x6835C573 ∷
    -- misaligned: 4, 4 and 6, also where the high bits are wrong; the value is the address, the flag 1, the list empty, the answer 0
    comes Hlv (hs []) 2 1 gives 4 ∷
    comes Hlvx (for_vs [] []) 4 0x4000000002 gives 4 ∷
    comes Hsv (for_vs [] []) 8 0x4000000004 gives 6 ∷
    reg (leaves Hsv (hs []) 8 0x80000004) mtval gives 0x80000004 ∷
    get GVA (reg (leaves Hsv (hs []) 8 0x80000004) mstatus) gives 1 ∷
    get HGVA (reg (leaves Hlvx (hs (medeleg ↢ 0x10 ∷ [])) 4 2) hstatus) gives 1 ∷
    (over 0x80000000 page Hlv (hs []) 2 0x80000005).count gives 0 ∷
    (over 0x80000000 page Hlv (hs []) 2 0x80000005).value gives 0 ∷
    -- both stages Bare: the page's last four bytes, those after it and those before it
    outcome (over 0x80000000 page Hlv (hs []) 4 0x80000FFC) gives 0 ∷
    outcome (over 0x80000000 page Hlv (hs []) 4 0x80001000) gives 5 ∷
    outcome (over 0x80000000 page Hlvx (hs []) 4 0x80001000) gives 5 ∷
    outcome (over 0x80000000 page Hsv (hs []) 4 0x7FFFFFFC) gives 7 ∷
    -- signed, at the sign's edge
    extended true 1 0x7F gives 0x7F ∷
    extended true 1 0x80 gives 0xFFFFFFFFFFFFFF80 ∷
    extended true 2 0x7FFF gives 0x7FFF ∷
    extended true 2 0x8000 gives 0xFFFFFFFFFFFF8000 ∷
    extended true 4 0x7FFFFFFF gives 0x7FFFFFFF ∷
    extended true 4 0x80000000 gives 0xFFFFFFFF80000000 ∷
    -- loads of each width, signed and unsigned, "at 8 the two are one"
    hlv-page 1 true 0x80000009 gives 0xFFFFFFFFFFFFFF82 ∷
    hlv-page 1 false 0x80000009 gives 0x82 ∷
    hlv-page 2 true 0x80000008 gives 0xFFFFFFFFFFFF8201 ∷
    hlv-page 2 false 0x80000008 gives 0x8201 ∷
    hlv-page 4 true 0x80000008 gives 0xFFFFFFFF84038201 ∷
    hlv-page 4 false 0x80000008 gives 0x84038201 ∷
    hlv-page 8 true 0x80000008 gives 0x8807060584038201 ∷
    hlv-page 8 false 0x80000008 gives 0x8807060584038201 ∷
    (over 0x80000000 page Hlvx (hs []) 4 0x80000008).value gives 0x84038201 ∷
    -- stores of each width among their neighbours; none where it is misaligned or gives 22
    sixteen (hsv-page (hs []) 1 0x80000009) gives 0xB3B2B1B08807060584038801A7A6A5A4 ∷
    sixteen (hsv-page (hs []) 2 0x8000000A) gives 0xB3B2B1B08807060577888201A7A6A5A4 ∷
    sixteen (hsv-page (hs []) 4 0x8000000C) gives 0xB3B2B1B05566778884038201A7A6A5A4 ∷
    sixteen (hsv-page (hs []) 8 0x80000008) gives 0xB3B2B1B01122334455667788A7A6A5A4 ∷
    sixteen (hsv-page (hs []) 8 0x8000000C) gives 0xB3B2B1B08807060584038201A7A6A5A4 ∷
    sixteen (hsv-page (vs []) 8 0x80000008) gives 0xB3B2B1B08807060584038201A7A6A5A4 ∷
    -- "A done one moves pc on by 4", wrapping
    (over 0x80000000 page Hsv (hs []) 8 0x80000008).hart.pc gives 0x1004 ∷
    (over 0x80000000 page Hlv (record { v = 0; privilege = 1; pc = 0xFFFFFFFFFFFFFFFC; regs = (hs []).regs }) 1 0x80000008).hart.pc gives 0 ∷
    -- through both stages, fifteen reads; through either
    through Hlv (for_vs [] []) rw (user rw) gives 0x80009008 ∷
    through Hsv (for_vs [] []) rw (user rw) gives 0x80009008 ∷
    through Hlvx (for_vs [] []) x (user x) gives 0x80009008 ∷
    length (walks (leaf x (user x)) Hlvx (for_vs [] []) 0x1008).reads gives 15 ∷
    ends (walks (leaf rw (user rw)) Hlv (hs (hgatp ↢ 0x8000000000080000 ∷ [])) 0x9008) gives 0x80009008 ∷
    ends (walks (0x80006000 ↢ 0x20001C01 ∷ 0x80007000 ↢ 0x20002001 ∷ 0x80008008 ↢ 0x20002453 ∷ []) Hlv (hs (vsatp ↢ 0x8000000000080006 ∷ [])) 0x1008) gives 0x80009008 ∷
    -- an execute-only page: mstatus.MXR opens both stages to HLV, vsstatus.MXR the first alone
    through Hlv (for_vs [] []) x (user rw) gives 13 ∷
    through Hlv (for_vs [] (on MXR)) x (user x) gives 0x80009008 ∷
    through Hlv (for_vs (on MXR) []) x (user r) gives 0x80009008 ∷
    through Hlv (for_vs (on MXR) []) rw (user x) gives 21 ∷
    -- a page without X refuses HLVX, whatever MXR says
    through Hlvx (for_vs (on MXR) (on MXR)) r (user rx) gives 13 ∷
    through Hlvx (for_vs (on MXR) (on MXR)) rx (user r) gives 21 ∷
    -- a U page with SPVP=1 needs vsstatus.SUM
    through Hlv (for_vs [] (on SUM)) (user rw) (user rw) gives 13 ∷
    through Hlv (for_vs (on SUM) []) (user rw) (user rw) gives 0x80009008 ∷
    through Hlvx (for_vs [] (on SUM)) (user x) (user x) gives 13 ∷
    through Hlvx (for_vs (on SUM) []) (user x) (user x) gives 0x80009008 ∷
    -- with SPVP=0 a page needs U
    through Hlv (for_vu [] []) (user rw) (user rw) gives 0x80009008 ∷
    through Hlv (for_vu (on SUM) []) rw (user rw) gives 13 ∷
    -- "Second stage: always U=1"; D=0 refuses a store at either
    through Hlv (for_vs [] []) rw rw gives 21 ∷
    through Hsv (for_vs [] []) clean (user rw) gives 15 ∷
    through Hsv (for_vs [] []) rw (user clean) gives 23 ∷
    through Hlv (for_vs [] []) clean (user clean) gives 0x80009008 ∷
    -- guest entries need R at the second stage, and no more: page 8, with the first stage's leaf, execute-only and read-only
    ends (walks (0x80005040 ↢ 0x20002059 ∷ leaf x (user x)) Hlvx (for_vs (on MXR) (on MXR)) 0x1008) gives 21 ∷
    ends (walks (0x80005040 ↢ 0x20002053 ∷ leaf rw (user rw)) Hsv (for_vs [] []) 0x1008) gives 0x80009008 ∷
    -- "whatever MPRV says": in M, where a load would be made in M, in HS and in VU; the hart's own privilege is none of it
    through Hlv (hypervisor 3 (on SPVP) [] (MPRV := 1 ∷ MPP := 3 ∷ MPV := 1 ∷ [])) rw (user rw) gives 0x80009008 ∷
    through Hsv (hypervisor 3 (on SPVP) [] (MPRV := 1 ∷ MPP := 1 ∷ [])) rw (user rw) gives 0x80009008 ∷
    through Hlv (hypervisor 3 (on SPVP) [] (MPRV := 1 ∷ MPV := 1 ∷ [])) rw (user rw) gives 0x80009008 ∷
    through Hlv (hypervisor 0 (HU := 1 ∷ SPVP := 1 ∷ []) [] []) rw (user rw) gives 0x80009008 ∷
    -- a fault goes from HS to M
    reg (page-fault 1 []) mcause gives 13 ∷
    -- to HS by medeleg, and not on to VS by hedeleg: "SPV = former V", SPP the privilege, SPVP kept
    reg (page-fault 1 (medeleg ↢ 0x2000 ∷ hedeleg ↢ 0x2000 ∷ [])) scause gives 13 ∷
    get SPV (reg (page-fault 1 (medeleg ↢ 0x2000 ∷ hstatus_with (on SPV) ∷ [])) hstatus) gives 0 ∷
    get SPVP (reg (page-fault 1 (medeleg ↢ 0x2000 ∷ [])) hstatus) gives 0 ∷
    get SPVP (reg (page-fault 0 (medeleg ↢ 0x2000 ∷ hstatus_with (HU := 1 ∷ SPVP := 1 ∷ []) ∷ [])) hstatus) gives 1 ∷
    get SPP (reg (page-fault 1 (medeleg ↢ 0x2000 ∷ [])) mstatus) gives 1 ∷
    get SPP (reg (page-fault 0 (medeleg ↢ 0x2000 ∷ hstatus_with (on HU) ∷ [])) mstatus) gives 0 ∷
    -- a guest-page fault tells the guest physical address shifted right by 2, and on the way to a guest entry the word 3000
    second-value (walks (leaf rw (user x)) Hlv (for_vs [] []) 0x1008).end gives 0x2402 ∷
    reg (leaves Hsv (hs (hgatp ↢ 0x8000000000080000 ∷ medeleg ↢ 0x800000 ∷ [])) 4 0x20000000000) htval gives 0x8000000000 ∷
    reg (entry-fault Hlvx) mtval2 gives 0x8000000002 ∷
    reg (entry-fault Hlvx) mtinst gives 0x3000 ∷
    -- there too it is "the fault of the original access" (2026-04)
    reg (entry-fault Hlv) mcause gives 21 ∷
    reg (entry-fault Hlvx) mcause gives 21 ∷
    reg (entry-fault Hsv) mcause gives 23 ∷
    reg (entry-fault Hsv) mtval gives 0x40000000 ∷
    reg (entry-fault Hsv) mtval2 gives 0x8000000002 ∷
    reg (entry-fault Hsv) mtinst gives 0x3000 ∷ []

pub reaching : every (λ i (r : Replay). eqb r.answer r.expected) 0 cases ≡ true
unfolding every get put legal registers_pass passes delivered_m delivered_hs delivered reach load hsv refusal_of walk_for unfit within loaded stored depth first_root second_root run bind walk_of final last begin down inspect follow addresses.index addresses.extended addresses.small judged malformed bad_pointer bad_leaf faulty
reaching = refl
