-- A hypervisor load or store makes the guest's access, and takes its faults outside the guest. Assumes nothing.
use Rattle.std.specs.Prelude.{Ok, Err}
use mathlib.Core.Path.{◌≡◌, refl, sym}
use mathlib.Core.Bool.{Bool, true, false, ◌&&◌, ◌||◌, not}
use mathlib.Core.List.{List}
use mathlib.Core.Logic.{◌⊎◌, inl, inr}
use Prim.Native.Nat.{ℕ, zero, suc, ◌%◌, ◌<◌}
use native.Mathlib.Omega.{arith}
use lib.Dec.{eqb}
use lib.ListN.{length}
use Rattle.std.specs.Prelude.{Result, Ok}
use Rattle.bits.specs.Field.{pick, get, has}
use Rattle.bits.proofs.Bools.{and_left, and_right, or-false}
use Rattle.bits.proofs.Fields.{get-lt}
use Rattle.registers.specs.Fields.{MXR, MPRV, SPVP}
use Rattle.registers.specs.Places.{mstatus, hstatus}
use Rattle.instructions.specs.Instructions.{hypervisor_access}
use Rattle.privilege.specs.declared.Context.{Context}
use Rattle.registers.specs.File.{registers_pass}
use Rattle.privilege.specs.Mode.{among_five, is_set}
use Rattle.rules.specs.Entry.{X, admitted, granted}
use Rattle.access.specs.declared.Access.{Access}
use Rattle.access.specs.Widths.{known, misaligned}
use Rattle.access.specs.Needs.{first_need, second_need}
use Rattle.access.specs.Faults.{misalignment}
use Rattle.stages.specs.Tree.{Ran, run}
use Rattle.stages.specs.Stages.{look, walk_of}
use Rattle.effective.specs.declared.Paging.{Paging}
use Rattle.effective.specs.Effective.{first_root, second_root}
use Rattle.hypervisor.specs.declared.Operation.{Operation}
use Rattle.hypervisor.specs.declared.Operation.TheVariants.{Hlv, Hlvx, Hsv}
use Rattle.hypervisor.specs.Hypervisor.{End, kind_of, refusal_of, access_for, walk_for}
use Rattle.hypervisor.proofs.Taken.{taken}
use Rattle.hart.specs.declared.state.Hart.{Hart}
use Rattle.hart.specs.declared.event.Step.{Step}
use Rattle.hart.specs.declared.guest.Reach.{Reach}
use Rattle.hart.specs.Hart.{reg, context, paging, passes}
use Rattle.hart.specs.declared.event.Halt.{Halt}
use Rattle.hart.specs.Event.{done, refused, trapped, stop_of, moved}
use Rattle.hart.specs.Guest.{arrived, reach}
use Rattle.hart.proofs.Reached.{goes_own}
use Rattle.translate.specs.declared.Answer.{Answer}
use Rattle.translate.specs.declared.Translated.{Translated}
use Rattle.translate.specs.Translated.{unsupported, access_of, start_of, walked_to, concluded, translated}
use Rattle.invariants.proofs.Reached.{misaligned_one}

-- ---- what its access goes by

-- "They translate as V=1 with privilege SPVP, whatever MPRV says": SPVP, mstatus's MXR, vsstatus, vsatp and hgatp, and nothing else of the hart
pub by_these_alone : (o : Operation) (c c' : Context) (p p' : Paging) (address width : ℕ) → get SPVP c.hstatus ≡ get SPVP c'.hstatus → get MXR c.mstatus ≡ get MXR c'.mstatus
    → p.vsstatus ≡ p'.vsstatus → p.vsatp ≡ p'.vsatp → p.hgatp ≡ p'.hgatp → access_for o c p address width ≡ access_for o c' p' address width
unfolding first_root second_root
by_these_alone o c c' p p' address width spvp mxr vsstatus vsatp hgatp = rw (spvp, mxr, vsstatus, vsatp, hgatp)

-- the hart as its guest: V=1, the privilege SPVP
abbrev pub as_guest : Hart → Hart
as_guest h = record { v = 1; privilege = get SPVP (reg h hstatus); pc = h.pc; regs = h.regs }

-- "HLVX needs X in place of R at both stages", MXR having no part in it; "it is data for U and SUM", as HLV is
pub hlvx_needs_X : (c : Context) (p : Paging) (address width e : ℕ) → let a = access_for Hlvx c p address width in
    (granted (first_need a) e ≡ has X e) × (granted (second_need a) e ≡ has X e) × (admitted (first_need a) e ≡ admitted (first_need (access_for Hlv c p address width)) e)
hlvx_needs_X c p address width e = (refl, refl, refl)

-- what a translation answers, "a fault .. delivered as a trap"
abbrev answered : Hart → Answer → Step
answered h (Answer.Address m) = done (moved h)
answered h (Answer.Refused r) = refused h r
answered h (Answer.Fault f) = trapped h f

abbrev there : Answer → ℕ
there (Answer.Address m) = m.0
there (Answer.Refused r) = 0
there (Answer.Fault f) = 0

abbrev pub delivering : Hart → Translated → Reach
delivering h t = record { hart = (answered h t.answer).hart; outcome = (answered h t.answer).outcome; at = there t.answer; reads = t.reads; count = t.count }

-- a bit is 0 or 1
two : (x : ℕ) → x < 2 → (eqb x 0 || eqb x 1) ≡ true
two zero l = refl
two (suc zero) l = refl
two (suc (suc x)) l = absurd (omega arith)

guest-passes : (h : Hart) → passes h ≡ true → is_set MPRV (reg h mstatus) ≡ false → passes (as_guest h) ≡ true
unfolding passes
guest-passes h p m =
    let rest = and_right (among_five (context h)) _ p in
    let regs = and_left (registers_pass h.regs) _ rest in
    let pc = and_left (eqb (h.pc % 4) 0) _ (and_right (registers_pass h.regs) _ rest) in
    rw (regs, pc, m) (go (eqb (get SPVP (reg h hstatus)) 0) (eqb (get SPVP (reg h hstatus)) 1) (two _ (get-lt SPVP (reg h hstatus))))
  where
    go : (b c : Bool) → (b || c) ≡ true → ((b || c) && true) ≡ true
    go b c e = rw e

module _ (h : Hart) (o : Operation) (base : ℕ) (bytes : List ℕ) (width address word : ℕ) where
  abbrev accessed : Access
  accessed = access_for o (context h) (paging h) address width

  abbrev stop : Result Unit Halt
  stop = stop_of h (refusal_of o base (length bytes) width) (hypervisor_access (context h))

  -- one that goes on, of a hart with MPRV=0, comes to what the translation in its guest answers, a fault delivered as a trap
  translates_as : accessed ≡ access_of (as_guest h) (kind_of o) address width → unsupported (kind_of o) address width ≡ not (known width) → passes h ≡ true → is_set MPRV (reg h mstatus) ≡ false → stop ≡ Ok tt
      → reach h o base bytes width address word ≡ delivering h (translated (as_guest h) base bytes (kind_of o) address width)
  unfolding reach walk_for translated start_of
  translates_as same widths p m g =
      let k = taken o base (length bytes) width (goes_own h (refusal_of o base (length bytes) width) (hypervisor_access (context h)) (sym g)) in
      rw (g, guest-passes h p m, k.image, widths, k.form, ← same) (by_whole (misaligned (kind_of o) address width))
    where
      ran : Ran End
      ran = run (look base bytes) (walk_of base (length bytes) accessed)

      by_end : (e : End) → arrived h (record { end = e; reads = ran.reads }) ≡ delivering h (walked_to (as_guest h) (record { end = e; reads = ran.reads }))
      by_end (Ok x) = refl
      by_end (Err f) = refl

      by_whole : (b : Bool) → arrived h (pick b (misaligned_one accessed) ran) ≡ delivering h (concluded (as_guest h) base bytes (pick b (Err (Answer.Fault (misalignment accessed))) (Ok accessed)))
      by_whole true = refl
      by_whole false = by_end ran.end

  -- HLV comes to what a load in the guest answers, HSV to what a store does
  pub as_translated : (o ≡ Hlv) ⊎ (o ≡ Hsv) → passes h ≡ true → is_set MPRV (reg h mstatus) ≡ false → stop ≡ Ok tt → reach h o base bytes width address word ≡ delivering h (translated (as_guest h) base bytes (kind_of o) address width)
  unfolding unsupported access_of first_root second_root
  as_translated (inl e) = translates_as (rw e) (rw e (or-false (not (known width))))
  as_translated (inr e) = translates_as (rw e) (rw e (or-false (not (known width))))
