-- The instruction word, of every event that has one (2026-02): with cause 2 or 22 it is the value delivered, and that alone; else
-- it is not looked at. Assumes nothing.
use mathlib.Core.Path.{◌≡◌, refl, sym, ap, ◌∙◌}
use mathlib.Core.Bool.{Bool, false}
use mathlib.Core.Logic.{◌⊎◌, ⊎_elim, ◌≢◌}
use Prim.Native.Nat.{ℕ}
use lib.Dec.{eqb}
use lib.ListN.{length}
use Rattle.std.specs.Prelude.{Result, Option, Some, None}
use Rattle.exceptions.specs.declared.Refusal.{Refusal}
use Rattle.bits.proofs.Bools.{clash}
use Rattle.registers.specs.Places.{kept, medeleg, hedeleg}
use Rattle.table.specs.declared.Row.{Row}
use Rattle.table.specs.Table.{table, first_at}
use Rattle.delivery.specs.declared.Target.{Target}
use Rattle.delivery.specs.declared.Target.TheVariants.{M, HS, VS}
use Rattle.delivery.specs.Delivery.{target}
use Rattle.csr.specs.declared.Form.{Form}
use Rattle.hart.specs.declared.state.Hart.{Hart}
use Rattle.hart.specs.declared.event.Outcome.{Outcome}
use Rattle.hart.specs.declared.event.Outcome.TheVariants.{Trapped}
use Rattle.hart.specs.declared.event.Step.{Step}
use Rattle.hart.specs.declared.event.Halt.{Halt}
use Rattle.hart.specs.Hart.{reg, context}
use Rattle.hart.specs.Deliver.{delivered_m, delivered_hs, delivered_vs, delivered_to, delivered}
use Rattle.hart.specs.Event.{plain, done, refused, raised, settled_by, settled}
use Rattle.hart.specs.Access.{seen, value_of, access_row, access_found, access}
use Rattle.invariants.specs.Events.{Instruction, executes, run, told, value_place}
use Rattle.invariants.specs.Events as events
use Rattle.invariants.proofs.Writes.{lands}
use Rattle.invariants.proofs.Settled.{stop_cases}
use Rattle.invariants.proofs.Comes.{reaches, settles_as}
use Rattle.invariants.proofs.Told.{writes_to, after-trap, tells-plain}

-- the level that a hart is at was told a cause, 2 or 22, with the word as its value; second value and instruction word are 0, the flag is clear
pub record Carries (cause word : ℕ) (h : Hart) : Type 0 where
  pub which : (cause ≡ 2) ⊎ (cause ≡ 22)
  pub tells : told h ≡ record { cause = cause; value = word; value2 = 0; word = 0; flag = false }

-- nothing of two harts differs but the value that their level was told
pub record SameButValue (h h' : Hart) : Type 0 where
  pub v : h.v ≡ h'.v
  pub privilege : h.privilege ≡ h'.privilege
  pub pc : h.pc ≡ h'.pc
  pub regs : (p : ℕ) → eqb p (value_place h) ≡ false → reg h p ≡ reg h' p

module _ (h : Hart) (c w w' : ℕ) (l : length h.regs ≡ kept) where
  same_at : (to : Target) (p : ℕ) → lands (writes_to to h (plain c w)) p (reg h p) ≡ lands (writes_to to h (plain c w')) p (reg h p)
      → reg (delivered_to to h (plain c w)) p ≡ reg (delivered_to to h (plain c w')) p
  same_at to p e = after-trap to h (plain c w) l p ∙ e ∙ sym (after-trap to h (plain c w') l p)

  delivered-same : (to : Target) → SameButValue (delivered_to to h (plain c w)) (delivered_to to h (plain c w'))
  unfolding delivered_m delivered_hs delivered_vs
  delivered-same M = record { v = refl; privilege = refl; pc = refl; regs = λ p f. same_at M p (rw f) }
  delivered-same HS = record { v = refl; privilege = refl; pc = refl; regs = λ p f. same_at HS p (rw f) }
  delivered-same VS = record { v = refl; privilege = refl; pc = refl; regs = λ p f. same_at VS p (rw f) }

-- an instruction under two words: both times it is refused, raises a cause, or is done
by_stop : (P : Step → Step → Type 0) (i : Instruction) (h : Hart) (w w' : ℕ)
    → ((x : Refusal) → P (refused h x) (refused h x))
    → ((c : ℕ) → (c ≡ 2) ⊎ (c ≡ 22) → P (raised h c w) (raised h c w'))
    → ((h' : Hart) → P (done h') (done h'))
    → P (run (executes i w) h) (run (executes i w') h)
unfolding run settled
by_stop P i h w w' r c d =
    let s = settles_as i h in
    rw (s.settles w, s.settles w')
    (stop_cases (λ (x : Result Unit Halt). P (settled_by x h w (done s.finished)) (settled_by x h w' (done s.finished))) h s.own s.verdict r (λ p k q. c k q) (λ p o a b. d s.finished))

-- an instruction that traps does so with 2 or 22, and the level that takes the trap is told the word
pub carries : (i : Instruction) (word : ℕ) (h : Hart) (cause : ℕ) → length h.regs ≡ kept → (run (executes i word) h).outcome ≡ Trapped cause → Carries cause word (run (executes i word) h).hart
carries i word h cause l =
    by_stop (λ (s s' : Step). s.outcome ≡ Trapped cause → Carries cause word s.hart) i h word word
    (λ n e. clash (cc)) (λ c which e. let k : c ≡ cause = cc in rw (← k) (record { which = which; tells = tells-plain h c word l })) (λ h' e. clash (cc))

-- two words give one and the same hart and outcome wherever the instruction does not raise 2 or 22
pub not_looked_at : (i : Instruction) (w w' : ℕ) (h : Hart) → (run (executes i w) h).outcome ≢ Trapped 2 → (run (executes i w) h).outcome ≢ Trapped 22 → run (executes i w) h ≡ run (executes i w') h
not_looked_at i w w' h =
    by_stop (λ (s s' : Step). s.outcome ≢ Trapped 2 → s.outcome ≢ Trapped 22 → s ≡ s') i h w w'
    (λ n a b. refl) (λ c which a b. absurd (⊎_elim (λ e. a (ap Trapped e)) (λ e. b (ap Trapped e)) which)) (λ h' a b. refl)

-- whatever they are, the outcome is the same
pub same_outcome : (i : Instruction) (w w' : ℕ) (h : Hart) → (run (executes i w) h).outcome ≡ (run (executes i w') h).outcome
same_outcome i w w' h = by_stop (λ (s s' : Step). s.outcome ≡ s'.outcome) i h w w' (λ n. refl) (λ c which. refl) (λ h'. refl)

-- and the harts differ in the value that is told, if in anything
pub nowhere_else : (i : Instruction) (w w' : ℕ) (h : Hart) → length h.regs ≡ kept → SameButValue (run (executes i w) h).hart (run (executes i w') h).hart
unfolding delivered
nowhere_else i w w' h l =
    by_stop (λ (s s' : Step). SameButValue s.hart s'.hart) i h w w'
    (λ n. as_it_is h) (λ c which. delivered-same h c w w' l (target (context h) (reg h medeleg) (reg h hedeleg) c)) (λ h'. as_it_is h')
  where
    as_it_is : (h : Hart) → SameButValue h h
    as_it_is h = record { v = refl; privilege = refl; pc = refl; regs = λ p f. refl }

-- a register access answers the same value
found_answers : (found : Option (ℕ × Row)) (h : Hart) (own : Result Unit Refusal) (form : Form) (x : ℕ) (b : Bool) (w w' : ℕ) → (access_found found h own form x b w).outcome ≡ (access_found found h own form x b w').outcome
    → (access_found found h own form x b w).value ≡ (access_found found h own form x b w').value
unfolding access_row
found_answers None h own form x b w w' e = ap (λ (o : Outcome). value_of o 0) e
found_answers (Some (place, row)) h own form x b w w' e = ap (λ (o : Outcome). value_of o (seen h (reaches h place))) e

pub same-value : (form : Form) (number x : ℕ) (b : Bool) (w w' : ℕ) (h : Hart) → (access h form number x b w).value ≡ (access h form number x b w').value
unfolding run access
same-value form number x b w w' h = found_answers (first_at table number 0) h _ form x b w w' (same_outcome (events.access form number x b) w w' h)
