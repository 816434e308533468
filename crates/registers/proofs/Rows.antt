-- The rule of every place and the view of every register: computed tests, and what they say of each. Assumes nothing.
use mathlib.Core.Path.{◌≡◌, refl, ap, ap₂, subst, ◌∙◌}
use mathlib.Core.Bool.{Bool, true, false, ◌&&◌}
use mathlib.Core.List.{List, [], ◌∷◌}
use mathlib.Core.Logic.{◌↔◌}
use Prim.Native.Nat.{ℕ, ◌+◌, ◌-◌, ◌^◌, ◌<◌}
use lib.Bits.{bit_or}
use lib.Dec.{eqb, ltb}
use lib.ListN.{get_or, length, get_or-map}
use borrow.Author.Tests.{eqb-true, ltb-true}
use Rattle.std.specs.Prelude.{Option, Some, None}
use Rattle.bits.specs.Field.{pick, top, bits, get, put}
use Rattle.bits.specs.Every.{every}
use Rattle.bits.proofs.Bools.{and_left, and_right, pick_both, split, clash}
use Rattle.bits.proofs.Every.{every-at, every_any}
use Rattle.bits.proofs.Tests.{fits, outside}
use Rattle.registers.specs.Places.{kept, stvec, sscratch, sepc, scause, stval, satp, vsstatus, vstvec, vsscratch, vsepc, vscause, vstval, vsatp, mstatus, medeleg, mideleg, mie, mtvec, mscratch, mepc, mcause, mtval, mip, mtinst, mtval2, hstatus, hedeleg, hideleg, htval, htinst, hgatp}
use Rattle.registers.specs.Rules.{Rule, legal, stores_word, rules, rule, stored, of_m}
use Rattle.registers.specs.Views.{View, up, no_bits}
use Rattle.registers.specs.Registers.{count, supervisor, Register, register, registers, at}
use Rattle.registers.specs.File.{initial, holds, registers_pass}
use Rattle.registers.proofs.Legal.{sound, spares, taken-legal, legal-taken, fixed-legal}

-- ---- the rule of a place

abbrev sane : ℕ → Rule → Bool
sane i r = sound r && spares r.mask (top - r.mask)

all_sane : every sane 0 rules ≡ true
unfolding every sound outside fits spares get put
all_sane = refl

other_sane : (i : ℕ) → sane i stores_word ≡ true
unfolding sound spares
other_sane i = refl

rule_sane : (p : ℕ) → sane p (rule p) ≡ true
rule_sane = every_any sane rules stores_word all_sane other_sane

pub rule_sound : (p : ℕ) → sound (rule p) ≡ true
rule_sound p = and_left (sound (rule p)) _ (rule_sane p)

-- some stored bits written to a register that holds what it can leave one that does
pub stored-legal : (p mask old w : ℕ) → spares mask (top - (rule p).mask) ≡ true → legal (rule p) old ≡ true → legal (rule p) (stored p mask old w) ≡ true
unfolding stored
stored-legal p = taken-legal (rule p) (rule_sound p)

after-reset : (p : ℕ) → get_or initial p 0 ≡ (rule p).fixed
after-reset p = get_or-map (λ (r : Rule). r.fixed) rules p stores_word

-- "mip's bits 3, 7 and 11 come in with the hart": the bits of a place that do
abbrev pub comes_in : ℕ → ℕ
comes_in p = pick (eqb p mip) (bits of_m) 0

-- the bits of a place that a write stores, to the register kept there or to a view of it
abbrev pub written_at : ℕ → List Register → ℕ
written_at p [] = 0
written_at p (r ∷ rs) = bit_or (pick (eqb r.view.home p) (up r.view.shift r.view.writes) 0) (written_at p rs)

abbrev pub changes : ℕ → ℕ
changes p = bit_or (comes_in p) (written_at p registers)

all_changed : every (λ p (r : Rule). eqb (changes p) r.mask) 0 rules ≡ true
unfolding every
all_changed = refl

changed : (p : ℕ) → p < kept → changes p ≡ (rule p).mask
changed p k = eqb-true (changes p) _ (every-at (λ q (r : Rule). eqb (changes q) r.mask) rules stores_word all_changed p k)

-- Of each place: a value passes check 2 exactly if the bits that come in, and those that writes store, make it of the register as it is after reset.
pub holds_exactly : (p x : ℕ) → p < kept → x < 2 ^ 64 → (holds p x ≡ true) ↔ ((w : ℕ) × (stored p (changes p) (get_or initial p 0) w ≡ x))
unfolding stored
holds_exactly p x k b =
    rw (after-reset p, changed p k) (
      (λ h. (x, legal-taken (rule p) (rule_sound p) x b h)),
      (λ e. subst (λ (y : ℕ). legal (rule p) y ≡ true) e.1
          (taken-legal (rule p) (rule_sound p) (rule p).mask (rule p).fixed e.0 (and_right (sound (rule p)) _ (rule_sane p)) (fixed-legal (rule p) (rule_sound p)))),
    )

-- ---- the view of a register, and its twin's

-- its home is one of the places, its bits move up within a word, and it writes only bits that are stored there
abbrev pub sound_view : View → Bool
sound_view v = ltb v.home kept && (ltb v.shift 64 && spares (up v.shift v.writes) (top - (rule v.home).mask))

abbrev tidy : ℕ → Register → Bool
tidy i r = (sound_view r.view && sound_view r.twin) && eqb r.twin.writes r.view.writes

tested : every tidy 0 registers ≡ true
unfolding every spares
tested = refl

row_tidy : (i : ℕ) → tidy i (at i) ≡ true
unfolding spares
row_tidy = every_any tidy registers (register 0 0 no_bits) tested (λ k. refl)

-- an access reaches a sound view
pub reaches_sound : (i : ℕ) (guest : Bool) → sound_view (pick guest (at i).twin (at i).view) ≡ true
reaches_sound i guest =
    let t = and_left (sound_view (at i).view && sound_view (at i).twin) _ (row_tidy i) in
    pick_both (λ (v : View). sound_view v ≡ true) guest (at i).twin (at i).view (λ e. and_right (sound_view (at i).view) _ t) (λ e. and_left (sound_view (at i).view) _ t)

pub reaches-home : (i : ℕ) (guest : Bool) → (pick guest (at i).twin (at i).view).home < kept
reaches-home i guest = ltb-true _ _ (and_left (ltb (pick guest (at i).twin (at i).view).home kept) _ (reaches_sound i guest))

pub reaches-shift : (i : ℕ) (guest : Bool) → (pick guest (at i).twin (at i).view).shift < 64
reaches-shift i guest =
    let v = pick guest (at i).twin (at i).view in
    ltb-true _ _ (and_left (ltb v.shift 64) _ (and_right (ltb v.home kept) _ (reaches_sound i guest)))

-- and writes the bits that its row names
pub reaches-writes : (i : ℕ) (guest : Bool) → (pick guest (at i).twin (at i).view).writes ≡ (at i).view.writes
reaches-writes i guest =
    pick_both (λ (v : View). v.writes ≡ (at i).view.writes) guest (at i).twin (at i).view
    (λ e. eqb-true _ _ (and_right (sound_view (at i).view && sound_view (at i).twin) _ (row_tidy i))) (λ e. refl)

-- ---- the table against document 01

pub counted : (length registers ≡ count) × (length rules ≡ kept)
counted = (refl, refl)

-- the two are one gate
abbrev pub same_gate : Option ℕ → Option ℕ → Bool
same_gate None None = true
same_gate None (Some q) = false
same_gate (Some p) None = false
same_gate (Some p) (Some q) = eqb p q

pub same_gate_lem : (g k : Option ℕ) → same_gate g k ≡ true → g ≡ k
same_gate_lem None None t = refl
same_gate_lem None (Some q) t = clash t
same_gate_lem (Some p) None t = clash t
same_gate_lem (Some p) (Some q) t = ap (λ (n : ℕ). Some n) (eqb-true p q t)

-- the two are one view
abbrev pub same_view : View → View → Bool
same_view v w = eqb v.home w.home && (eqb v.shift w.shift && (eqb v.shows w.shows && (eqb v.writes w.writes && same_gate v.gate w.gate)))

pub same_view_lem : (v w : View) → same_view v w ≡ true → v ≡ w
same_view_lem v w t =
    split (eqb v.home w.home) _ t (λ a t₁. split (eqb v.shift w.shift) _ t₁ (λ b t₂. split (eqb v.shows w.shows) _ t₂ (λ c t₃.
    split (eqb v.writes w.writes) (same_gate v.gate w.gate) t₃ (λ d e.
    ap₂ (λ (h s : ℕ). record { home = h; shift = s; shows = v.shows; writes = v.writes; gate = v.gate }) (eqb-true _ _ a) (eqb-true _ _ b)
    ∙ ap₂ (λ (s x : ℕ). record { home = w.home; shift = w.shift; shows = s; writes = x; gate = v.gate }) (eqb-true _ _ c) (eqb-true _ _ d)
    ∙ ap (λ (g : Option ℕ). record { home = w.home; shift = w.shift; shows = w.shows; writes = w.writes; gate = g }) (same_gate_lem _ _ e)))))

-- the view of the register with a number passes a test
abbrev bears : ℕ → List Register → (View → Bool) → Bool
bears n [] test = false
bears n (r ∷ rs) test = pick (eqb r.number n) (test r.view) (bears n rs test)

-- an S number's twin is the VS register that is 100 hex up; every other number reaches its own register
pub twins : every (λ i (r : Register). bears (pick (eqb r.level supervisor) (r.number + 0x100) r.number) registers (same_view r.twin)) 0 registers ≡ true
unfolding every
twins = refl

-- every bit of a place is shown as it is there
abbrev shows_all : ℕ → View → Bool
shows_all p v = eqb v.home p && (eqb v.shift 0 && (eqb v.shows top && same_gate v.gate None))

-- each place's name has the number that document 01 and 2026-01 give the register: S, VS, H, M
pub numbered : every (λ i (r : ℕ × ℕ). bears r.1 registers (shows_all r.0)) 0 (
    (stvec, 0x105) ∷ (sscratch, 0x140) ∷ (sepc, 0x141) ∷ (scause, 0x142) ∷ (stval, 0x143) ∷ (satp, 0x180) ∷
    (vsstatus, 0x200) ∷ (vstvec, 0x205) ∷ (vsscratch, 0x240) ∷ (vsepc, 0x241) ∷ (vscause, 0x242) ∷ (vstval, 0x243) ∷ (vsatp, 0x280) ∷
    (hstatus, 0x600) ∷ (hedeleg, 0x602) ∷ (hideleg, 0x603) ∷ (htval, 0x643) ∷ (htinst, 0x64A) ∷ (hgatp, 0x680) ∷
    (mstatus, 0x300) ∷ (medeleg, 0x302) ∷ (mideleg, 0x303) ∷ (mie, 0x304) ∷ (mtvec, 0x305) ∷ (mscratch, 0x340) ∷ (mepc, 0x341) ∷ (mcause, 0x342) ∷
    (mtval, 0x343) ∷ (mip, 0x344) ∷ (mtinst, 0x34A) ∷ (mtval2, 0x34B) ∷ []
    ) ≡ true
unfolding every
numbered = refl

-- ---- a reset hart's registers

-- each holds what a write of 0 leaves
pub initial-stored : every (λ p x. eqb x (stored p (rule p).mask x 0)) 0 initial ≡ true
unfolding every stored get put
initial-stored = refl

-- they pass check 2
pub initial-passes : registers_pass initial ≡ true
unfolding registers_pass every legal get put
initial-passes = refl
