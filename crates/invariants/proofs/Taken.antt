-- An interrupt that is taken: exactly which, and never to a less privileged level. Assumes nothing.
use mathlib.Core.Path.{◌≡◌, refl, sym, ap, ◌∙◌}
use mathlib.Core.Bool.{true, false, ◌&&◌}
use mathlib.Core.Logic.{◌↔◌}
use Prim.Native.Nat.{ℕ, ◌≤◌}
use native.Mathlib.Omega.{arith}
use lib.Dec.{eqb}
use Rattle.std.specs.Prelude.{Option, Some, None}
use Rattle.bits.proofs.Bools.{and_left, clash}
use Rattle.registers.specs.Places.{vsstatus}
use Rattle.delivery.specs.declared.Target.{Target}
use Rattle.delivery.specs.declared.Target.TheVariants.{M, HS, VS}
use Rattle.interrupts.specs.Interrupts.{admits, due, order, chosen, interruption}
use Rattle.interrupts.specs.First.{In, First}
use Rattle.interrupts.proofs.Chosen.{rests_exactly, takes_exactly}
use Rattle.hart.specs.declared.state.Hart.{Hart}
use Rattle.hart.specs.declared.event.Outcome.TheVariants.{Done, Interrupted}
use Rattle.hart.specs.declared.event.Step.{Step}
use Rattle.hart.specs.Hart.{reg, context, lines, passes}
use Rattle.hart.specs.Deliver.{delivered_m, delivered_hs, delivered_vs, delivered_to}
use Rattle.hart.specs.Event.{settled}
use Rattle.hart.specs.Interrupt.{taking, interrupt}
use Rattle.invariants.proofs.Mode.{Mode, passing}
use Rattle.invariants.proofs.Mode as mode

-- ---- the event takes exactly the first that is due

module _ (h : Hart) (p : passes h ≡ true) where
  settles : interrupt h ≡ taking h (chosen (context h) (lines h))
  unfolding interrupt settled
  settles = rw p

  pub interrupts_exactly : (n : ℕ) → ((interrupt h).outcome ≡ Interrupted n) ↔ ((to : Target) × First (context h) (lines h) to n)
  interrupts_exactly n = (forth (chosen (context h) (lines h)) refl, λ f. ap (λ (s : Step). s.outcome) (settles ∙ ap (taking h) ((takes_exactly (context h) (lines h) f.0 n).1 f.1)))
    where
      forth : (d : Option (Target × ℕ)) → chosen (context h) (lines h) ≡ d → (interrupt h).outcome ≡ Interrupted n → (to : Target) × First (context h) (lines h) to n
      forth (Some (to, m)) e o =
          let q : Interrupted m ≡ Interrupted n = sym (ap (λ (s : Step). s.outcome) (settles ∙ ap (taking h) e)) ∙ o in
          let k : m ≡ n = cc in
          (to, (takes_exactly (context h) (lines h) to n).0 (e ∙ ap (λ (i : ℕ). Some (to, i)) k))
      forth None e o = let q : Done ≡ Interrupted n = sym (ap (λ (s : Step). s.outcome) (settles ∙ ap (taking h) e)) ∙ o in clash (cc)

  pub rests_as_it_was : ((to : Target) (n : ℕ) → In n order → due (context h) (lines h) to n ≡ false) → ((interrupt h).hart ≡ h) × ((interrupt h).outcome ≡ Done)
  rests_as_it_was none =
      let e = settles ∙ ap (taking h) ((rests_exactly (context h) (lines h)).1 none) in
      (ap (λ (s : Step). s.hart) e, ap (λ (s : Step). s.outcome) e)

-- ---- never to a less privileged level

-- the level lets interrupts through
admitted : (h : Hart) (to : Target) (n : ℕ) → chosen (context h) (lines h) ≡ Some (to, n) → admits (context h) (reg h vsstatus) to ≡ true
admitted h to n e = and_left (admits (context h) (reg h vsstatus) to) _ ((takes_exactly (context h) (lines h) to n).0 e).is_due

-- to HS or VS only from a mode below M
below : (h : Hart) (to : Target) → Mode h.v h.privilege → admits (context h) (reg h vsstatus) to ≡ true → (to ≡ M → ⊥) → (eqb h.v 0 && eqb h.privilege 3) ≡ false
below h to m a other = go h.v h.privilege to m a other
  where
    go : (v q : ℕ) (t : Target) → Mode v q → admits (record { v = v; privilege = q; mstatus = (context h).mstatus; hstatus = (context h).hstatus }) (reg h vsstatus) t ≡ true → (t ≡ M → ⊥) → (eqb v 0 && eqb q 3) ≡ false
    go v q t mode.U k n = refl
    go v q t mode.HS k n = refl
    go v q t mode.VU k n = refl
    go v q t mode.VS k n = refl
    go v q M mode.M k n = absurd (n refl)
    go v q HS mode.M k n = clash k
    go v q VS mode.M k n = clash k

pub taken-below : (h : Hart) (to : Target) (n : ℕ) → Mode h.v h.privilege → chosen (context h) (lines h) ≡ Some (to, n) → (to ≡ M → ⊥) → (eqb h.v 0 && eqb h.privilege 3) ≡ false
taken-below h to n m e = below h to m (admitted h to n e)

-- the privilege does not fall, and a hart outside the guest does not enter it
pub record Upward (h h' : Hart) : Type 0 where
  pub privilege : h.privilege ≤ h'.privilege
  pub v : h.v ≡ 0 → h'.v ≡ 0

at_most_3 : (v q : ℕ) → Mode v q → q ≤ 3
at_most_3 v q mode.U = omega arith
at_most_3 v q mode.HS = omega arith
at_most_3 v q mode.M = omega arith
at_most_3 v q mode.VU = omega arith
at_most_3 v q mode.VS = omega arith

at_most_1 : (v q : ℕ) → Mode v q → (eqb v 0 && eqb q 3) ≡ false → q ≤ 1
at_most_1 v q mode.U e = omega arith
at_most_1 v q mode.HS e = omega arith
at_most_1 v q mode.M e = clash (sym e)
at_most_1 v q mode.VU e = omega arith
at_most_1 v q mode.VS e = omega arith

-- VS lets none through outside the guest
not-guest : (h : Hart) → Mode h.v h.privilege → admits (context h) (reg h vsstatus) VS ≡ true → h.v ≡ 0 → ⊥
not-guest h m a e = clash (rw e at a)

upward : (h : Hart) (to : Target) (n : ℕ) → Mode h.v h.privilege → chosen (context h) (lines h) ≡ Some (to, n) → Upward h (delivered_to to h (interruption to n))
unfolding delivered_m delivered_hs delivered_vs
upward h M n m e = record { privilege = at_most_3 h.v h.privilege m; v = λ z. refl }
upward h HS n m e = record { privilege = at_most_1 h.v h.privilege m (taken-below h HS n m e (λ x. clash (cc))); v = λ z. refl }
upward h VS n m e =
    record { privilege = at_most_1 h.v h.privilege m (taken-below h VS n m e (λ x. clash (cc))); v = λ z. absurd (not-guest h m (admitted h VS n e) z) }

-- none goes to a less privileged level than the mode that it is taken from
pub takes_upward : (h : Hart) (n : ℕ) → passes h ≡ true → (interrupt h).outcome ≡ Interrupted n → Upward h (interrupt h).hart
takes_upward h n p o = go (chosen (context h) (lines h)) refl
  where
    go : (d : Option (Target × ℕ)) → chosen (context h) (lines h) ≡ d → Upward h (interrupt h).hart
    go (Some (to, m)) e = rw (settles h p, e) (upward h to m (passing h p).mode e)
    go None e = let q : Done ≡ Interrupted n = sym (ap (λ (s : Step). s.outcome) (settles h p ∙ ap (taking h) e)) ∙ o in clash (cc)
