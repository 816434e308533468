-- What a guest can learn: what must agree of two harts for an event to come to the same for it.
use Rattle.std.specs.Prelude.{◌≡◌, Bool, true, ◌&&◌, ◌||◌, List, [], ◌∷◌, ℕ, eqb, leb, length, get_or, Some}
use Rattle.std.specs.Int.Bits.{bit_and}
use Rattle.bits.specs.Field.{pick, get}
use Rattle.registers.specs.Fields.{MXR, TW, VTVM, VTW, VTSR}
use Rattle.registers.specs.Places.{kept, vsstatus, vsatp, mstatus, medeleg, mie, mip, hstatus, hedeleg, hideleg, hgatp}
use Rattle.delivery.specs.declared.Target.{Target}
use Rattle.delivery.specs.declared.Target.TheVariants.{VS}
use Rattle.interrupts.specs.Interrupts.{chosen}
use Rattle.hart.specs.declared.state.Hart.{Hart}
use Rattle.hart.specs.declared.event.Step.{Step}
use Rattle.hart.specs.Hart.{reg, context, lines, passes}
use Rattle.translate.specs.declared.Translated.{Translated}

-- the places of the VS registers
abbrev pub guest : ℕ → Bool
guest p = leb vsstatus p && leb p vsatp

-- the places that keep interrupts; of these bits, where hideleg has them, a guest may change by its sie (vsie) and sip (vsip)
abbrev pub shared : ℕ → Bool
shared p = eqb p mie || eqb p mip

abbrev pub handed : ℕ → List ℕ
handed p = pick (eqb p mie) (2 ∷ 6 ∷ 10 ∷ []) (pick (eqb p mip) (2 ∷ []) [])

-- two harts hold the same in the VS registers
abbrev pub SameGuest : Hart → Hart → Type 0
SameGuest h h' = (p : ℕ) → guest p ≡ true → reg h p ≡ reg h' p

-- "TW=1 elsewhere gives 2"; "satp with VTVM=1", "VS with VTVM=1", "VS gives 22 if VTW=1", "in VS with VTSR=1"; "medeleg's bit for the
-- cause", "hedeleg's bit": two harts hold the same in the controls that document 01 names with V=1
pub record SameControls (h h' : Hart) : Type 0 where
  pub tw : get TW (reg h mstatus) ≡ get TW (reg h' mstatus)
  pub vtvm : get VTVM (reg h hstatus) ≡ get VTVM (reg h' hstatus)
  pub vtw : get VTW (reg h hstatus) ≡ get VTW (reg h' hstatus)
  pub vtsr : get VTSR (reg h hstatus) ≡ get VTSR (reg h' hstatus)
  pub medeleg : reg h medeleg ≡ reg h' medeleg
  pub hedeleg : reg h hedeleg ≡ reg h' hedeleg

-- two harts' registers hand the same interrupts down, and hold the same of them in mie and mip
pub record SameHanded (rs rs' : List ℕ) : Type 0 where
  pub which : get_or rs hideleg 0 ≡ get_or rs' hideleg 0
  pub bits : (p : ℕ) → shared p ≡ true → bit_and (get_or rs p 0) (get_or rs hideleg 0) ≡ bit_and (get_or rs' p 0) (get_or rs' hideleg 0)

-- a hart that runs a guest, and passes check 2
pub record Runs (h : Hart) : Type 0 where
  pub v : h.v ≡ 1
  pub passing : passes h ≡ true
  pub size : length h.regs ≡ kept

-- two harts that run one guest: they may differ in every other register of the host
pub record Alike (h h' : Hart) : Type 0 where
  pub left : Runs h
  pub right : Runs h'
  pub privilege : h.privilege ≡ h'.privilege
  pub pc : h.pc ≡ h'.pc
  pub guest : SameGuest h h'
  pub handed : SameHanded h.regs h'.regs
  pub controls : SameControls h h'

-- no interrupt that is due goes to the host
abbrev pub Undisturbed : Hart → Type 0
Undisturbed h = (to : Target) (n : ℕ) → chosen (context h) (lines h) ≡ Some (to, n) → to ≡ VS

-- An event comes to the same for the guest: outcome, mode, VS registers and the interrupts handed down, and pc unless it left the guest (then pc is the
-- host's tvec).
pub record Same (s s' : Step) : Type 0 where
  pub outcome : s.outcome ≡ s'.outcome
  pub v : s.hart.v ≡ s'.hart.v
  pub privilege : s.hart.privilege ≡ s'.hart.privilege
  pub guest : SameGuest s.hart s'.hart
  pub handed : SameHanded s.hart.regs s'.hart.regs
  pub pc : s.hart.v ≡ 1 → s.hart.pc ≡ s'.hart.pc

-- Two harts hold the same in what else a translation with V=1 takes from the host: "V=1 walks vsatp, then hgatp"; "mstatus.MXR counts too".
pub record SameTables (h h' : Hart) : Type 0 where
  pub hgatp : reg h hgatp ≡ reg h' hgatp
  pub mxr : get MXR (reg h mstatus) ≡ get MXR (reg h' mstatus)

-- two translations answer alike, with one list
pub record SameTranslated (t t' : Translated) : Type 0 where
  pub answer : t.answer ≡ t'.answer
  pub reads : t.reads ≡ t'.reads
  pub count : t.count ≡ t'.count
