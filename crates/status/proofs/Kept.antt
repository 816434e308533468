-- A status word that is legal stays so at every trap and return. Assumes nothing.
use mathlib.Core.Path.{◌≡◌, refl}
use mathlib.Core.Bool.{Bool, true}
use mathlib.Core.List.{List, [], ◌∷◌}
use mathlib.Core.Logic.{◌⊎◌, ⊎_elim}
use Prim.Native.Nat.{ℕ}
use Rattle.bits.specs.Assign.{Assignment, ◌after◌}
use Rattle.bits.specs.Every.{every}
use Rattle.bits.proofs.Tests.{fits, apart, outside}
use Rattle.bits.proofs.Assign.{distinct}
use Rattle.registers.specs.Places.{mstatus}
use Rattle.registers.specs.Rules.{legal, rule}
use Rattle.registers.proofs.Legal.{fine, takes, same, after-legal}
use Rattle.registers.proofs.Rows.{rule_sound}
use Rattle.status.specs.Trap.{into_m, into_s, into_h}
use Rattle.status.specs.Return.{from_m, from_s, from_hs, from_h}

-- the register at place i stays legal where the assignments pass the test, which for every list but `into_m` is `refl`
pub stays : (i : ℕ) (changes : List Assignment) (s : ℕ) → fine (rule i) changes ≡ true → legal (rule i) s ≡ true → legal (rule i) (s after changes) ≡ true
stays i = after-legal (rule i) (rule_sound i)

-- a privilege: 0, 1 or 3
abbrev pub Privilege : ℕ → Type 0
Privilege p = (p ≡ 0) ⊎ ((p ≡ 1) ⊎ (p ≡ 3))

pub into_m_fine : (v p : ℕ) (flag : Bool) (s : ℕ) → Privilege p → fine (rule mstatus) (into_m v p flag s) ≡ true
unfolding fine takes same outside apart fits
into_m_fine v p flag s = ⊎_elim (λ e. rw e) (⊎_elim (λ e. rw e) (λ e. rw e))

-- at every trap and return, no two assignments are to overlapping fields
pub no_two : (v p : ℕ) (flag : Bool) (s : ℕ)
    → every (λ i (changes : List Assignment). distinct changes) 0 (into_m v p flag s ∷ into_s p s ∷ into_h v p flag s ∷ from_m s ∷ from_s s ∷ from_hs s ∷ from_h ∷ []) ≡ true
unfolding every apart fits
no_two v p flag s = refl
