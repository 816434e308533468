-- Which presses are taken, and what is known then. Assumes nothing.
use Rattle.std.specs.Prelude.{Ok}
use mathlib.Core.Path.{◌≡◌, refl}
use mathlib.Core.Bool.{Bool, true, false, ◌||◌, not}
use mathlib.Core.List.{[], ◌∷◌}
use Prim.Native.Nat.{ℕ, ◌≤◌, ◌<◌}
use native.Mathlib.Omega.{arith}
use lib.Dec.{eqb, ltb}
use borrow.Author.Tests.{eqb-true, eqb-false, ltb-false, not-false}
use Rattle.bits.proofs.Bools.{clash, or_left, or_right}
use Rattle.exceptions.specs.declared.Refusal.{Refusal}
use Rattle.image.specs.Image.{unfit}
use Rattle.stages.specs.Listed.{places}
use Rattle.second_stage.specs.Place.{Tables}
use Rattle.effective.specs.Effective.{effective}
use Rattle.effective.proofs.Roots.{first_five, second_five}
use Rattle.translate.specs.Translated.{first_refusal}
use Rattle.stepper.specs.declared.State.TheVariants.{Going}
use Rattle.stepper.specs.declared.Place.{Place}
use Rattle.stepper.specs.declared.position.Position.{Position}
use Rattle.stepper.specs.Position.{misplaced}
use Rattle.stepper.specs.Press.{access_at, unfinished_badly, unfit_place, press_refusals}

-- each stage's tables are of at most five levels, whatever the registers hold
pub tables-at : (p : Place) → Tables (access_at p)
tables-at p =
    let f = first_five p.paging (effective p.context p.kind) in
    let s = second_five p.paging (effective p.context p.kind) in
    record { first = f.levels; second = s.levels; first_root = f.ppn; second_root = s.ppn }

-- what is known of a press that is taken
pub record Taken (p : Place) (base len : ℕ) : Type 0 where
  pub fits : unfit base len ≡ false
  pub same_base : base ≡ p.base
  pub same_length : len ≡ p.length
  pub count : p.count ≤ places
  pub unfinished : (q : Position) → p.state ≡ Going q → (p.count < places) × (misplaced (access_at p) q ≡ false)

module _ (p : Place) (base len : ℕ) where
  goes : unfit_place p base len ≡ false → unfit base len ≡ false → Taken p base len
  unfolding unfit_place unfinished_badly
  goes h fits =
      let otherBase = not (eqb base p.base) in
      let otherLength = not (eqb len p.length) in
      let over = ltb places p.count in
      let bad = unfinished_badly (access_at p) p.count p.state in
      let three = or_left (otherBase || otherLength || over) bad h in
      let two = or_left (otherBase || otherLength) over three in
      let least = ltb-false places p.count (or_right (otherBase || otherLength) over three) in
      record {
        fits = fits;
        same_base = eqb-true _ _ (not-false (eqb base p.base) (or_left otherBase otherLength two));
        same_length = eqb-true _ _ (not-false (eqb len p.length) (or_right otherBase otherLength two));
        count = least;
        unfinished =
            λ q s.
            let b = rw s at (or_right (otherBase || otherLength || over) bad h) in
            let n = eqb-false p.count places (or_left (eqb p.count places) (misplaced (access_at p) q) b) in
            (omega (arith, least, n), or_right (eqb p.count places) (misplaced (access_at p) q) b);
      }

  pub taken : {x : Unit {0}} → first_refusal (press_refusals p base len) ≡ Ok x → Taken p base len
  taken = go (unfit base len) (unfit_place p base len) refl refl
    where
      go : (b c : Bool) → unfit base len ≡ b → unfit_place p base len ≡ c → {x : Unit {0}} → first_refusal ((b, Refusal.Image) ∷ (c, Refusal.Place) ∷ []) ≡ Ok x → Taken p base len
      go true c e f z = clash (cc)
      go false true e f z = clash (cc)
      go false false e f z = goes f e
