-- Every fault that a walk can end with satisfies what each stage's own faults do. Assumes nothing.
use Rattle.std.specs.Prelude.{Option, Some, None, Result, Ok, Err}
use mathlib.Core.Path.{◌≡◌, sym, subst}
use mathlib.Core.Bool.{Bool, true, false}
use Prim.Native.Nat.{ℕ, zero, suc, ◌*◌, ◌<◌}
use native.Mathlib.Omega.{arith}
use Rattle.bits.specs.Field.{pick}
use Rattle.exceptions.specs.declared.Exception.{Exception}
use Rattle.image.specs.Image.{within}
use Rattle.rules.specs.declared.Need.{Need}
use Rattle.rules.specs.declared.Judgement.{Judgement}
use Rattle.rules.specs.declared.Judgement.TheVariants.{Pointer, Leaf, Bad}
use Rattle.rules.specs.Address.{well_formed}
use Rattle.rules.specs.Entry.{judged}
use Rattle.access.specs.declared.Access.{Access}
use Rattle.access.specs.declared.Guest.{Guest}
use Rattle.access.specs.declared.Machine.{Machine}
use Rattle.access.specs.Needs.{second_need, entry_need}
use Rattle.access.specs.Faults.{access_fault, page_fault, guest_page_fault, entry_fault}
use Rattle.stages.specs.Tree.{Walk, done, ask, bind, item, listed, found, run}
use Rattle.stages.specs.Stages.{◌then◌, Translation, slot, follow, inspect, down, begin, translation, guest, second_of, first_of, last, final, walk_of}
use Rattle.stages.proofs.Offsets.{never}

module _ (P : Exception → Type 0) where
  -- P holds of every fault that a walk can end with
  abbrev Raises : {A : Type 0} → Walk (Result A Exception) → Type 0
  Raises (done (Ok a)) = Unit {0}
  Raises (done (Err f)) = P f
  Raises (ask s l m outside k) = Raises outside × ((v : ℕ) → Raises (k v))

  raises_then : {A B : Type 0} (w : Walk (Result A Exception)) (f : A → Walk (Result B Exception)) → Raises w → ((a : A) → Raises (f a)) → Raises (w then f)
  unfolding bind
  raises_then (done (Ok a)) f h k = k a
  raises_then (done (Err e)) f h k = h
  raises_then (ask s l m outside next) f h k = (raises_then outside f h.0 k, λ v. raises_then (next v) f (h.1 v) k)

  raises-run : {A : Type 0} (look : Machine → Option ℕ) (w : Walk (Result A Exception)) → Raises w → (f : Exception) → (run look w).end ≡ Err f → P f
  unfolding run
  raises-run look (done (Ok a)) h f e = never f a (sym e)
  raises-run look (done (Err x)) h f e = let q : x ≡ f = cc in subst P q h
  raises-run look (ask s l m outside next) h f e = go (look m) (raises-run look outside h.0 f) (λ v. raises-run look (next v) (h.1 v) f) e
    where
      go : (x : Option ℕ) → ((run look outside).end ≡ Err f → P f) → ((v : ℕ) → (run look (next v)).end ≡ Err f → P f)
          → (found x (run look outside) (λ v. listed (item s l m v) (run look (next v)))).end ≡ Err f → P f
      go None o k q = o q
      go (Some v) o k q = k v q

  module _ {A : Type 0} (t : Translation A) (outside : P t.outside) (through : (x : ℕ) → Raises (t.through x)) where
    raises_visit : P t.fault → (level : ℕ) (next : ℕ → Walk (Result A Exception)) → ((x : ℕ) → Raises (next x)) → (m : Machine) → Raises (inspect t level next m)
    unfolding inspect follow
    raises_visit fault level next h m = (outside, λ e. judge (judged t.need level t.address e))
      where
        judge : (d : Judgement) → Raises (follow t d next)
        judge Bad = fault
        judge (Pointer x) = h x
        judge (Leaf x) = tt

    raises-down : P t.fault → (level table : ℕ) → Raises (down t level table)
    unfolding down
    raises-down fault zero table = raises_then (t.through (slot t zero table)) _ (through _) (raises_visit fault zero _ (λ x. fault))
    raises-down fault (suc l) table = raises_then (t.through (slot t (suc l) table)) _ (through _) (raises_visit fault (suc l) _ (raises-down fault l))

    -- a stage's own fault arises only where it is on
    raises-begin : (levels : ℕ) → (0 < levels → P t.fault) → Raises (begin t levels)
    unfolding begin
    raises-begin zero fault = tt
    raises-begin (suc l) fault = go (well_formed t.stage (suc l) t.address) (fault (omega arith))
      where
        go : (b : Bool) → P t.fault → Raises (pick b (down t l (t.tables.ppn * 4096)) (done (Err t.fault)))
        go true f = raises-down f l (t.tables.ppn * 4096)
        go false f = f

  -- what holds of an access fault and of the second stage's own, where it is on, holds of every fault of the second stage
  module _ (a : Access) (access : P (access_fault a)) where
    raises-second : (n : Need) (f : Exception) (g : Guest) → (0 < a.second.levels → P f) → Raises (translation (second_of a n f g))
    raises-second n f g h = raises-begin (second_of a n f g) access (λ x. tt) a.second.levels h

    pub second-fault : (n : Need) (f : Exception) (g : Guest) → (0 < a.second.levels → P f) → (look : Machine → Option ℕ) (x : Exception)
        → (run look (translation (second_of a n f g))).end ≡ Err x → P x
    second-fault n f g h look = raises-run look (translation (second_of a n f g)) (raises-second n f g h)

  -- and of every fault of the access itself
  module _ (base len : ℕ) (a : Access) (access : P (access_fault a)) where
    raises-final : (g : Guest) → (0 < a.second.levels → P (guest_page_fault a g)) → Raises (final base len a g)
    unfolding final last
    raises-final g guest-page = raises_then (translation (second_of a (second_need a) (guest_page_fault a g) g)) _ (raises-second a access (second_need a) (guest_page_fault a g) g guest-page) (λ m. ends m (within base len m.0 a.width))
      where
        ends : (m : Machine) (b : Bool) → Raises (done (pick b (Ok m) (Err (access_fault a))))
        ends m true = tt
        ends m false = access

    pub final-fault : (g : Guest) → (0 < a.second.levels → P (guest_page_fault a g)) → (look : Machine → Option ℕ) (x : Exception) → (run look (final base len a g)).end ≡ Err x → P x
    final-fault g guest-page look = raises-run look (final base len a g) (raises-final g guest-page)

    -- what holds of the five faults holds of every fault of a walk
    module _ (page : P (page_fault a)) (guest-page : 0 < a.second.levels → (g : Guest) → P (guest_page_fault a g)) (entry : 0 < a.second.levels → (g : Guest) → P (entry_fault a g)) where
      pub every-fault : (look : Machine → Option ℕ) (f : Exception) → (run look (walk_of base len a)).end ≡ Err f → P f
      unfolding walk_of
      every-fault look =
          raises-run look (walk_of base len a)
          (raises_then (translation (first_of a)) (final base len a)
          (raises-begin (first_of a) access (λ x. raises-second a access entry_need (entry_fault a (guest x)) (guest x) (λ on. entry on (guest x))) a.first.levels (λ on. page)) (λ g. raises-final g (λ on. guest-page on g)))
