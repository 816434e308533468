-- The interrupts of a level as one set of bits. Assumes nothing.
use mathlib.Core.Path.{◌≡◌, refl, ◌∙◌}
use mathlib.Core.Bool.{Bool, true, false, ◌&&◌, not}
use mathlib.Core.List.{List, [], ◌∷◌}
use mathlib.Core.Logic.{inl, inr}
use Prim.Native.Nat.{ℕ, ◌^◌, ◌-◌, ◌<◌}
use lib.Bits.{bit_and, and_lt}
use Rattle.std.specs.Prelude.{None, find}
use Rattle.bits.specs.Field.{pick, top, has}
use Rattle.bits.proofs.Bools.{and_assoc}
use Rattle.bits.proofs.Single.{has-and, has_without}
use Rattle.privilege.specs.declared.Context.{Context}
use Rattle.delivery.specs.declared.Target.{Target}
use Rattle.delivery.specs.declared.Target.TheVariants.{M, HS, VS}
use Rattle.interrupts.specs.declared.Lines.{Lines}
use Rattle.interrupts.specs.Interrupts.{waits, goes, admits, due, order}
use Rattle.interrupts.specs.First.{In}

-- two tests that agree on a list find the same
pub first-same : (p q : ℕ → Bool) (ns : List ℕ) → ((n : ℕ) → In n ns → p n ≡ q n) → find p ns ≡ find q ns
first-same p q [] e = refl
first-same p q (n ∷ ns) e = rw (e n (inl refl), first-same p q ns (λ m i. e m (inr i)))

-- the set holds the interrupts that wait for a level
pub Holds : Lines → Target → ℕ → Type 0
Holds l to set = (n : ℕ) → has n set ≡ (waits l n && goes l to n)

pub level-first : (c : Context) (l : Lines) (to : Target) (set : ℕ) → Holds l to set
    → pick (admits c l.vsstatus to) (find (λ n. has n set) order) None ≡ find (due c l to) order
unfolding Holds
level-first c l to set e = rw (first-same (λ n. has n set) (λ n. waits l n && goes l to n) order (λ n i. e n)) (go (admits c l.vsstatus to))
  where
    go : (a : Bool) → pick a (find (λ n. waits l n && goes l to n) order) None ≡ find (λ n. a && (waits l n && goes l to n)) order
    go true = refl
    go false = refl

-- a hart's words
pub record Words (l : Lines) : Type 0 where
  pub mip : l.mip < 2 ^ 64
  pub mie : l.mie < 2 ^ 64
  pub mideleg : l.mideleg < 2 ^ 64
  pub hideleg : l.hideleg < 2 ^ 64

module _ (l : Lines) (w : Words l) where
  abbrev waiting : ℕ
  waiting = bit_and l.mip l.mie

  waiting_lt : waiting < 2 ^ 64
  waiting_lt = and_lt 64 l.mip l.mie w.mip w.mie

  pub of_M : Holds l M (bit_and waiting (top - l.mideleg))
  unfolding Holds
  of_M n = has_without n waiting l.mideleg waiting_lt w.mideleg ∙ rw (has-and n l.mip l.mie)

  pub of_HS : Holds l HS (bit_and (bit_and waiting l.mideleg) (top - l.hideleg))
  unfolding Holds
  of_HS n =
      has_without n (bit_and waiting l.mideleg) l.hideleg (and_lt 64 waiting l.mideleg waiting_lt w.mideleg) w.hideleg
      ∙ rw (has-and n waiting l.mideleg, has-and n l.mip l.mie) (and_assoc (waits l n) (has n l.mideleg) (not (has n l.hideleg)))

  pub of_VS : Holds l VS (bit_and (bit_and waiting l.mideleg) l.hideleg)
  unfolding Holds
  of_VS n =
      has-and n (bit_and waiting l.mideleg) l.hideleg
      ∙ rw (has-and n waiting l.mideleg, has-and n l.mip l.mie) (and_assoc (waits l n) (has n l.mideleg) (has n l.hideleg))
