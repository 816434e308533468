-- A hart that passes check 2 is in one of the five modes; check 2 taken apart and put together. Assumes nothing.
use mathlib.Core.Path.{◌≡◌, refl, sym, subst₂}
use mathlib.Core.Bool.{Bool, true, ◌&&◌, ◌||◌, not}
use mathlib.Core.Logic.{⊎_elim}
use Prim.Native.Nat.{ℕ, ◌%◌}
use lib.Dec.{eqb}
use borrow.Author.Tests.{eqb-true, eq-eqb}
use Rattle.bits.specs.Every.{every}
use Rattle.bits.proofs.Bools.{split, both, or_cases}
use Rattle.privilege.specs.Mode.{among_five, stray_mprv}
use Rattle.hart.specs.declared.state.Hart.{Hart}
use Rattle.registers.specs.File.{holds, registers_pass}
use Rattle.hart.specs.Hart.{context, passes}

-- V and privilege
pub data Mode : ℕ → ℕ → Type 0 where
  U : Mode 0 0
  HS : Mode 0 1
  M : Mode 0 3
  VU : Mode 1 0
  VS : Mode 1 1

is : (v p a b : ℕ) → Mode a b → (eqb v a && eqb p b) ≡ true → Mode v p
is v p a b m e = split (eqb v a) (eqb p b) e (λ x y. subst₂ Mode (sym (eqb-true v a x)) (sym (eqb-true p b y)) m)

abbrev five : ℕ → ℕ → Bool
five v p = eqb v 0 && eqb p 0 || (eqb v 0 && eqb p 1 || (eqb v 0 && eqb p 3 || (eqb v 1 && eqb p 0 || eqb v 1 && eqb p 1)))

mode_of : (v p : ℕ) → five v p ≡ true → Mode v p
mode_of v p e =
    ⊎_elim (is v p 0 0 U) (λ e₁. ⊎_elim (is v p 0 1 HS) (λ e₂. ⊎_elim (is v p 0 3 M) (λ e₃. ⊎_elim (is v p 1 0 VU) (is v p 1 1 VS)
    (or_cases (eqb v 1 && eqb p 0) _ e₃)) (or_cases (eqb v 0 && eqb p 3) _ e₂)) (or_cases (eqb v 0 && eqb p 1) _ e₁)) (or_cases (eqb v 0 && eqb p 0) _ e)

of_mode : (v p : ℕ) → Mode v p → five v p ≡ true
of_mode v p U = refl
of_mode v p HS = refl
of_mode v p M = refl
of_mode v p VU = refl
of_mode v p VS = refl

-- check 2, part by part
pub record Passing (h : Hart) : Type 0 where
  pub mode : Mode h.v h.privilege
  pub regs : every holds 0 h.regs ≡ true
  pub aligned : h.pc % 4 ≡ 0
  pub mprv : not (stray_mprv (context h)) ≡ true

pub passing : (h : Hart) → passes h ≡ true → Passing h
unfolding passes registers_pass
passing h p =
    split (among_five (context h)) _ p (λ m p₁. split (every holds 0 h.regs) _ p₁ (λ r p₂. split (eqb (h.pc % 4) 0) _ p₂ (λ a v.
    record { mode = mode_of h.v h.privilege m; regs = r; aligned = eqb-true _ _ a; mprv = v })))

pub passes_of : (h : Hart) → Passing h → passes h ≡ true
unfolding passes registers_pass
passes_of h p =
    both (among_five (context h)) _ (of_mode h.v h.privilege p.mode)
    (both _ _ p.regs (both (eqb (h.pc % 4) 0) _ (eq-eqb _ _ p.aligned) p.mprv))
