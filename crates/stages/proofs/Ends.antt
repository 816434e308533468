-- Where a walk that ends with an address ends. Assumes nothing.
use Rattle.std.specs.Prelude.{Option, Result, Ok, Err}
use mathlib.Core.Path.{◌≡◌, refl, sym, ap, ◌∙◌}
use mathlib.Core.Bool.{Bool, true, false}
use Prim.Native.Nat.{ℕ}
use Rattle.exceptions.specs.declared.Exception.{Exception}
use Rattle.bits.specs.Field.{pick}
use Rattle.bits.proofs.Bools.{clash}
use Rattle.image.specs.Image.{within}
use Rattle.access.specs.declared.Access.{Access}
use Rattle.access.specs.declared.Machine.{Machine}
use Rattle.access.specs.Needs.{second_need}
use Rattle.access.specs.Faults.{access_fault, guest_page_fault}
use Rattle.stages.specs.Tree.{Walk, done, Ran, run}
use Rattle.stages.specs.Stages.{onward, ◌then◌, translation, second_of, first_of, last, final, walk_of}
use Rattle.stages.proofs.Runs.{run_bind}

module _ (look : Machine → Option ℕ) where
  -- one walk and then another that ends with something: the first did, and the second from there
  after : {A B : Type 0} (w : Walk (Result A Exception)) (f : A → Walk (Result B Exception)) (b : B) (P : Type 0) → ((a : A) → (run look (f a)).end ≡ Ok b → P) → (run look (w then f)).end ≡ Ok b → P
  unfolding run
  after {A} {B} w f b P k e = go (run look w).end (sym (ap (λ (r : Ran (Result B Exception)). r.end) (run_bind look w (onward f))) ∙ e)
    where
      go : (x : Result A Exception) → (run look (onward f x)).end ≡ Ok b → P
      go (Ok a) q = k a q
      go (Err x) q = clash (cc)

  -- "The last address, if the whole access lies in the image, is the answer"
  pub lands_inside : (base len : ℕ) (a : Access) (m : Machine) → (run look (walk_of base len a)).end ≡ Ok m → within base len m.0 a.width ≡ true
  unfolding walk_of final last run
  lands_inside base len a m =
      after (translation (first_of a)) (final base len a) m _
      (λ g. after (translation (second_of a (second_need a) (guest_page_fault a g) g)) (λ x. done (last base len a x)) m _
      (λ x. ends x (within base len x.0 a.width) refl))
    where
      ends : (x : Machine) (b : Bool) → within base len x.0 a.width ≡ b → pick b (Ok x) (Err (access_fault a)) ≡ Ok m → within base len m.0 a.width ≡ true
      ends x true e q = let same : x ≡ m = cc in rw (← same) e
      ends x false e q = clash (cc)
