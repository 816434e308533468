-- Which positions a press takes, in plain words and as the code tests them. Assumes nothing.
use mathlib.Core.Path.{◌≡◌, refl}
use mathlib.Core.Bool.{Bool, true, false, ◌&&◌, ◌||◌, not}
use mathlib.Core.Logic.{◌⊎◌, inl, inr, ⊎_elim}
use Prim.Native.Nat.{ℕ, ◌<◌}
use lib.Dec.{eqb, ltb}
use borrow.Author.Tests.{ltb-true, lt-ltb, eqb-true, eq-eqb, not-false}
use Rattle.bits.proofs.Bools.{or_cases, or_left, or_right, and_rest}
use Rattle.access.specs.declared.Access.{Access}
use Rattle.stepper.specs.declared.position.Position.{Position}
use Rattle.stepper.specs.Position.{misplaced}
use Rattle.stepper.specs.Placed.{Placed}

-- one of two
either : (b c : Bool) → (b ≡ true) ⊎ (c ≡ true) → (b || c) ≡ true
either true c h = refl
either false true h = refl
either false false h = ⊎_elim (λ e. e) (λ e. e) h

module _ (a : Access) (q : Position) where
  abbrev one : Bool
  one = eqb q.stage 1

  abbrev two : Bool
  two = eqb q.stage 2

  abbrev first_over : Bool
  first_over = (one || q.entry) && not (ltb q.first a.first.levels)

  abbrev second_over : Bool
  second_over = two && not (ltb q.second a.second.levels)

  under : (b : Bool) (l n : ℕ) → b ≡ true → (b && not (ltb l n)) ≡ false → l < n
  under b l n e h = ltb-true l n (not-false _ (and_rest b (not (ltb l n)) e h))

  -- what is not misplaced is placed
  pub placed : misplaced a q ≡ false → Placed a q
  unfolding misplaced
  placed h =
      let stray = not (one || two) in
      let k = or_left (stray || first_over) second_over h in
      record {
        stage = ⊎_elim (λ e. inl (eqb-true q.stage 1 e)) (λ e. inr (eqb-true q.stage 2 e)) (or_cases one two (not-false _ (or_left stray first_over k)));
        first = λ e. under (one || q.entry) q.first a.first.levels (either one q.entry (⊎_elim (λ s. inl (eq-eqb q.stage 1 s)) inr e)) (or_right stray first_over k);
        second = λ e. under two q.second a.second.levels (eq-eqb q.stage 2 e) (or_right (stray || first_over) second_over h);
      }

  -- and the other way round
  pub not-misplaced : Placed a q → misplaced a q ≡ false
  unfolding misplaced
  not-misplaced p = none (one || two) first_over second_over (either one two (⊎_elim (λ e. inl (eq-eqb q.stage 1 e)) (λ e. inr (eq-eqb q.stage 2 e)) p.stage))
      (beneath (one || q.entry) q.first a.first.levels (λ e. p.first (⊎_elim (λ s. inl (eqb-true q.stage 1 s)) inr (or_cases one q.entry e))))
      (beneath two q.second a.second.levels (λ e. p.second (eqb-true q.stage 2 e)))
    where
      none : (s f g : Bool) → s ≡ true → f ≡ false → g ≡ false → (not s || f || g) ≡ false
      none s f g p q r = rw (p, q, r)

      beneath : (b : Bool) (l n : ℕ) → (b ≡ true → l < n) → (b && not (ltb l n)) ≡ false
      beneath false l n h = refl
      beneath true l n h = rw (lt-ltb l n (h refl))
