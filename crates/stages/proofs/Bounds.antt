-- How many entries a walk reads: bounds compose. Assumes nothing.
use Rattle.std.specs.Prelude.{Option, Some, None, Result, Ok, Err}
use mathlib.Core.Path.{◌≡◌}
use mathlib.Core.Bool.{Bool, true, false}
use Prim.Native.Nat.{ℕ, zero, suc, ◌+◌, ◌*◌, ◌≤◌, zero-le, suc-le-suc}
use native.Mathlib.Nat.{add_comm, suc-add, zero-mul, suc-mul, add-zero, mul-one, mul-le-mul}
use native.Mathlib.Omega.{arith}
use lib.ListN.{length}
use Rattle.bits.specs.Field.{pick}
use Rattle.exceptions.specs.declared.Exception.{Exception}
use Rattle.rules.specs.declared.Need.{Need}
use Rattle.rules.specs.declared.Judgement.{Judgement}
use Rattle.rules.specs.declared.Judgement.TheVariants.{Pointer, Leaf, Bad}
use Rattle.rules.specs.Address.{well_formed}
use Rattle.rules.specs.Entry.{judged}
use Rattle.access.specs.declared.Access.{Access}
use Rattle.access.specs.declared.Guest.{Guest}
use Rattle.access.specs.declared.Machine.{Machine}
use Rattle.access.specs.Needs.{second_need}
use Rattle.access.specs.Faults.{guest_page_fault}
use Rattle.stages.specs.Tree.{Walk, done, ask, bind, item, listed, found, run}
use Rattle.stages.specs.Stages.{Translation, ◌then◌, follow, inspect, down, begin, translation, second_of, first_of, last, final, walk_of}
use Rattle.stages.specs.Listed.{places, most}

-- a walk asks at most n times on any way
abbrev pub Within : {A : Type 0} → Walk A → ℕ → Type 0
Within (done a) n = Unit {0}
Within (ask s l m outside k) zero = ⊥
Within (ask s l m outside k) (suc n) = Within outside (suc n) × ((v : ℕ) → Within (k v) n)

pub within-run : {A : Type 0} (look : Machine → Option ℕ) (w : Walk A) (n : ℕ) → Within w n → length (run look w).reads ≤ n
unfolding run
within-run look (done a) n h = zero-le
within-run look (ask s l m outside k) zero h = absurd h
within-run {A} look (ask s l m outside k) (suc n) h = go (look m) (within-run look outside (suc n) h.0) (λ v. within-run look (k v) n (h.1 v))
  where
    go : (e : Option ℕ) → length (run look outside).reads ≤ suc n → ((v : ℕ) → length (run look (k v)).reads ≤ n)
        → length (found e (run look outside) (λ v. listed (item s l m v) (run look (k v)))).reads ≤ suc n
    go None io ik = io
    go (Some v) io ik = suc-le-suc (ik v)

pub within_more : {A : Type 0} (w : Walk A) (n j : ℕ) → Within w n → Within w (n + j)
within_more (done a) n j h = tt
within_more (ask s l m outside k) zero j h = absurd h
within_more (ask s l m outside k) (suc n) j h = rw suc-add (rw suc-add at (within_more outside (suc n) j h.0), λ v. within_more (k v) n j (h.1 v))

pub within_then : {A B : Type 0} (w : Walk (Result A Exception)) (f : A → Walk (Result B Exception)) (n j : ℕ) → Within w n → ((a : A) → Within (f a) j) → Within (w then f) (n + j)
unfolding bind
within_then (done (Ok a)) f n j h g = rw (add_comm n j) (within_more (f a) j n (g a))
within_then (done (Err x)) f n j h g = tt
within_then (ask s l m outside k) f zero j h g = absurd h
within_then (ask s l m outside k) f (suc n) j h g = rw suc-add (rw suc-add at (within_then outside f (suc n) j h.0 g), λ v. within_then (k v) f n j (h.1 v) g)

-- ---- a stage of either kind, whose entries' own addresses take at most k reads each

module _ {A : Type 0} (t : Translation A) (k : ℕ) (through : (x : ℕ) → Within (t.through x) k) where
  within-follow : (d : Judgement) (next : ℕ → Walk (Result A Exception)) (n : ℕ) → ((x : ℕ) → Within (next x) n) → Within (follow t d next) n
  unfolding follow
  within-follow Bad next n h = tt
  within-follow (Leaf x) next n h = tt
  within-follow (Pointer x) next n h = h x

  within_visit : (level x : ℕ) (next : ℕ → Walk (Result A Exception)) (n : ℕ) → ((x : ℕ) → Within (next x) n) → Within (t.through x then inspect t level next) (k + suc n)
  unfolding inspect
  within_visit level x next n h =
      within_then (t.through x) (inspect t level next) k (suc n) (through x)
      (λ m. (tt, λ e. within-follow (judged t.need level t.address e) next n h))

  pub within-down : (level table : ℕ) → Within (down t level table) (suc level * suc k)
  unfolding down
  within-down zero table = let e : suc 0 * suc k ≡ k + 1 = rw suc-mul (omega (arith, zero-mul (suc k))) in rw e (within_visit zero _ _ 0 (λ x. tt))
  within-down (suc l) table = let e : suc (suc l) * suc k ≡ k + suc (suc l * suc k) = rw suc-mul (omega arith) in rw e (within_visit (suc l) _ _ (suc l * suc k) (within-down l))

  pub within-begin : (levels : ℕ) → Within (begin t levels) (levels * suc k)
  unfolding begin
  within-begin zero = tt
  within-begin (suc l) = go (well_formed t.stage (suc l) t.address)
    where
      go : (b : Bool) → Within (pick b (down t l (t.tables.ppn * 4096)) (done (Err t.fault))) (suc l * suc k)
      go true = within-down l (t.tables.ppn * 4096)
      go false = tt

-- ---- both stages

-- a second stage for each of the first's entries and for what it yields
pub most-sum : (n m : ℕ) → most n m ≡ n * suc m + m
most-sum n m = rw suc-mul (omega arith)

-- the list has places for five levels over five
pub most-places : (n m : ℕ) → n ≤ 5 → m ≤ 5 → most n m ≤ places
most-places n m f s = let p : suc n * suc m ≤ 6 * 6 = mul-le-mul (suc-le-suc f) (suc-le-suc s) in omega (arith, p)

module _ (a : Access) where
  within-second : (n : Need) (f : Exception) (g : Guest) → Within (translation (second_of a n f g)) a.second.levels
  within-second n f g = rw mul-one at (within-begin (second_of a n f g) 0 (λ x. tt) a.second.levels)

  within-final : (base len : ℕ) (g : Guest) → Within (final base len a g) a.second.levels
  unfolding final
  within-final base len g =
      let w = translation (second_of a (second_need a) (guest_page_fault a g) g) in
      rw add-zero at (within_then w (λ m. done (last base len a m)) a.second.levels 0 (within-second _ _ g) (λ m. tt))

  -- n levels over m read at most (n + 1) (m + 1) - 1 entries
  pub within-walk : (base len : ℕ) → Within (walk_of base len a) (most a.first.levels a.second.levels)
  unfolding walk_of
  within-walk base len =
      rw (most-sum a.first.levels a.second.levels)
      (within_then (translation (first_of a)) (final base len a) (a.first.levels * suc a.second.levels) a.second.levels
      (within-begin (first_of a) a.second.levels (λ x. within-second _ _ _) a.first.levels) (within-final base len))

  pub at_most : (base len : ℕ) (look : Machine → Option ℕ) → length (run look (walk_of base len a)).reads ≤ most a.first.levels a.second.levels
  at_most base len look = within-run look (walk_of base len a) _ (within-walk base len)
