-- What a trap tells the level that it goes to, all of it, and so an environment call. Assumes nothing.
use mathlib.Core.Path.{◌≡◌, refl}
use mathlib.Core.Bool.{Bool, true, false}
use mathlib.Core.List.{List, [], ◌∷◌}
use Prim.Native.Nat.{ℕ, ◌<◌, ◌^◌}
use native.Mathlib.Omega.{arith}
use lib.Dec.{eqb}
use lib.ListN.{length}
use Rattle.std.specs.Prelude.{Ok}
use Rattle.bits.specs.declared.Field.{Field}
use Rattle.bits.specs.Field.{pick, get, put}
use Rattle.bits.specs.Assign.{Assignment, ◌after◌, ◌:=◌}
use Rattle.bits.proofs.Bools.{clash}
use Rattle.bits.proofs.Tests.{fits, apart, got}
use Rattle.bits.proofs.Assign.{untouched, untouched_kept}
use Rattle.registers.specs.Fields.{MIE, MPIE, MPP, MPV, GVA, SPV, SPVP, HGVA}
use Rattle.registers.specs.Places.{kept, scause, stval, vscause, vstval, mstatus, medeleg, mcause, mtval, mtinst, mtval2, hstatus, hedeleg, htval, htinst}
use Rattle.registers.specs.File.{Write}
use Rattle.privilege.specs.Mode.{is_set, gives}
use Rattle.exceptions.specs.declared.Exception.{Exception}
use Rattle.delivery.specs.declared.Target.{Target}
use Rattle.delivery.specs.declared.Target.TheVariants.{M, HS, VS}
use Rattle.delivery.specs.Delivery.{target, call_cause}
use Rattle.hart.specs.declared.state.Hart.{Hart}
use Rattle.hart.specs.declared.event.Outcome.TheVariants.{Trapped}
use Rattle.hart.specs.declared.event.Step.{Step}
use Rattle.hart.specs.Hart.{reg, context}
use Rattle.hart.specs.Deliver.{writes_m, writes_hs, writes_vs, delivered_m, delivered_hs, delivered_vs, delivered_to, delivered}
use Rattle.hart.specs.Event.{plain, no_value, trapped}
use Rattle.hart.specs.Trap.{ecall}
use Rattle.invariants.specs.Events.{run, told}
use Rattle.invariants.specs.Events as events
use Rattle.invariants.proofs.Writes.{lands, with_lands}
use Rattle.invariants.proofs.Settled.{settled_cases}

abbrev pub writes_to : Target → Hart → Exception → List Write
writes_to M h t = writes_m h t
writes_to HS h t = writes_hs h t
writes_to VS h t = writes_vs h t

-- what a place holds after a trap
pub after-trap : (to : Target) (h : Hart) (t : Exception) → length h.regs ≡ kept → (p : ℕ) → reg (delivered_to to h t) p ≡ lands (writes_to to h t) p (reg h p)
unfolding delivered_m delivered_hs delivered_vs
after-trap M h t l p = with_lands (writes_m h t) h.regs p l refl
after-trap HS h t l p = with_lands (writes_hs h t) h.regs p l refl
after-trap VS h t l p = with_lands (writes_vs h t) h.regs p l refl

-- the flag of a word that was given it among other fields
flagged : (f : Field) (changes : List Assignment) (s : ℕ) (b : Bool) → fits f ≡ true → f.width ≡ 1 → untouched f changes ≡ true → is_set f (put f (pick b 1 0) s after changes) ≡ b
flagged f changes s b t w u = rw (untouched_kept f changes (put f (pick b 1 0) s) u, got f t (pick b 1 0) s (bound b)) (same b)
  where
    bound : (b : Bool) → pick b 1 0 < 2 ^ f.width
    bound true = rw w (omega arith)
    bound false = rw w (omega arith)

    same : (b : Bool) → eqb (pick b 1 0) 1 ≡ b
    same true = refl
    same false = refl

-- what a level is told: VS the cause and the value alone
abbrev pub heard : Target → Exception → Exception
heard M t = t
heard HS t = t
heard VS t = record { cause = t.cause; value = t.value; value2 = 0; word = 0; flag = false }

pub tells : (to : Target) (h : Hart) (t : Exception) → length h.regs ≡ kept → told (delivered_to to h t) ≡ heard to t
unfolding delivered_m delivered_hs delivered_vs apart fits
tells M h t l =
    let at = after-trap M h t l in
    let flag = flagged GVA (MPV := h.v ∷ MPP := h.privilege ∷ MPIE := get MIE (reg h mstatus) ∷ MIE := 0 ∷ []) (reg h mstatus) t.flag refl refl refl in
    rw (at mcause, at mtval, at mtval2, at mtinst, at mstatus, flag)
tells HS h t l =
    let at = after-trap HS h t l in
    let flag = flagged HGVA (SPV := h.v ∷ SPVP := pick (eqb h.v 1) h.privilege (get SPVP (reg h hstatus)) ∷ []) (reg h hstatus) t.flag refl refl refl in
    rw (at scause, at stval, at htval, at htinst, at hstatus, flag)
tells VS h t l = let at = after-trap VS h t l in rw (at vscause, at vstval)

-- of a trap without second value, instruction word and flag every level is told the same
pub tells-plain : (h : Hart) (c value : ℕ) → length h.regs ≡ kept → told (delivered h (plain c value)) ≡ record { cause = c; value = value; value2 = 0; word = 0; flag = false }
unfolding delivered
tells-plain h c value l = go (target (context h) (reg h medeleg) (reg h hedeleg) c)
  where
    go : (to : Target) → told (delivered_to to h (plain c value)) ≡ plain c value
    go M = tells M h (plain c value) l
    go HS = tells HS h (plain c value) l
    go VS = tells VS h (plain c value) l

-- "Environment calls give 8 (U, VU), 9, 10, 11 with value 0"; "the flag is clear; second value and word are 0"
pub call_tells : (h : Hart) (cause : ℕ) → length h.regs ≡ kept → (run events.ecall h).outcome ≡ Trapped cause → told (run events.ecall h).hart ≡ record { cause = cause; value = 0; value2 = 0; word = 0; flag = false }
unfolding run ecall
call_tells h cause l =
    settled_cases (λ (s : Step). s.outcome ≡ Trapped cause → told s.hart ≡ record { cause = cause; value = 0; value2 = 0; word = 0; flag = false }) h (Ok tt) (gives false false) no_value (trapped h (plain (call_cause (context h)) 0))
    (λ r e. clash (cc)) (λ p c which e. let k : c ≡ cause = cc in rw (← k) (tells-plain h c 0 l)) (λ p o a b e. let k : call_cause (context h) ≡ cause = cc in rw (← k) (tells-plain h (call_cause (context h)) 0 l))
