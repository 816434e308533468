-- What "the interrupt that is due" means of the lists of levels and of the nine interrupts: the words of the theorems in proofs/Chosen.antt.
use Rattle.std.specs.Prelude.{◌≡◌, true, false, List, [], ◌∷◌, ◌++◌, ◌⊎◌, ℕ}
use Rattle.privilege.specs.declared.Context.{Context}
use Rattle.delivery.specs.declared.Target.{Target}
use Rattle.interrupts.specs.declared.Lines.{Lines}
use Rattle.interrupts.specs.Interrupts.{due, levels, order}

-- x stands in a list
abbrev pub In : {A : Type 0} → A → List A → Type 0
In x [] = ⊥
In x (y ∷ ys) = (x ≡ y) ⊎ In x ys

-- n is due at the level, none is at a level before it, and none before n in the order is at this level
pub record First (c : Context) (l : Lines) (to : Target) (n : ℕ) : Type 0 where
  pub above : List Target
  pub below : List Target
  pub before : List ℕ
  pub after : List ℕ
  pub by_level : levels ≡ above ++ (to ∷ below)
  pub by_order : order ≡ before ++ (n ∷ after)
  pub higher : (t : Target) → In t above → (m : ℕ) → In m order → due c l t m ≡ false
  pub earlier : (m : ℕ) → In m before → due c l to m ≡ false
  pub is_due : due c l to n ≡ true
