-- What an access that was not refused has, and what the code finds before the walk. Assumes nothing.
use Rattle.std.specs.Prelude.{Ok, Err}
use mathlib.Core.Path.{◌≡◌, refl, sym, subst}
use mathlib.Core.Bool.{Bool, true, false, ◌||◌, not}
use mathlib.Core.List.{List, [], ◌∷◌}
use Prim.Native.Nat.{ℕ, ◌+◌, ◌%◌, ◌^◌, ◌≤◌}
use native.Mathlib.Omega.{arith}
use lib.Dec.{eqb}
use lib.ListN.{length}
use borrow.Author.Tests.{eqb-true, not-false}
use Rattle.bits.specs.Field.{pick}
use Rattle.bits.proofs.Bools.{clash, or-true, or-false, or_left, or_right}
use Rattle.hart.specs.declared.state.Hart.{Hart}
use Rattle.hart.specs.Hart.{context, paging, passes}
use Rattle.image.specs.Image.{unfit}
use Rattle.image.proofs.Tests.{fit}
use Rattle.rules.specs.declared.Kind.{Kind}
use Rattle.rules.specs.declared.Kind.TheVariants.{Fetch, Load, Store}
use Rattle.rules.specs.Kind.{by}
use Rattle.access.specs.declared.Access.{Access}
use Rattle.access.specs.Widths.{known, misaligned}
use Rattle.access.specs.Faults.{misalignment}
use Rattle.access.proofs.Widths.{Aligned, a_power}
use Rattle.stages.specs.Tree.{run}
use Rattle.stages.specs.Stages.{look, walk_of}
use Rattle.second_stage.specs.Place.{Tables}
use Rattle.effective.specs.Effective.{effective}
use Rattle.effective.proofs.Roots.{first_five, second_five}
use Rattle.exceptions.specs.declared.Refusal.{Refusal}
use Rattle.translate.specs.declared.Answer.{Answer}
use Rattle.translate.specs.Translated.{unsupported, refusals, first_refusal, unless_refused, access_of, start_of, unwalked, walked_to, translated}

-- an access that is not refused has a known width
pub known-width : (kind : Kind) (address width : ℕ) → unsupported kind address width ≡ false → known width ≡ true
unfolding unsupported
known-width kind address width h = not-false (known width) (or_left (not (known width)) _ h)

-- a fetch of 4 bytes has a known width
four-known : (one two four eight x : Bool) → (not four || x) ≡ (not (one || two || four || eight) || (not four || x))
four-known true two four eight x = refl
four-known false true four eight x = refl
four-known false false true eight x = refl
four-known false false false eight x = sym (or-true (not eight))

pub unsupported-code : (kind : Kind) (address width : ℕ)
    → by kind (not (eqb width 4) || not (eqb (address % 4) 0)) (not (known width)) (not (known width)) ≡ unsupported kind address width
unfolding unsupported
unsupported-code Fetch address width = four-known (eqb width 1) (eqb width 2) (eqb width 4) (eqb width 8) (not (eqb (address % 4) 0))
unsupported-code Load address width = sym (or-false (not (known width)))
unsupported-code Store address width = sym (or-false (not (known width)))

equal : (n m : ℕ) → not (eqb n m) ≡ false → n ≡ m
equal n m h = eqb-true n m (not-false (eqb n m) h)

pub aligned : (kind : Kind) (address width : ℕ) → unsupported kind address width ≡ false → misaligned kind address width ≡ false → Aligned address width
unfolding unsupported
aligned Fetch address width h k =
    let f = or_right (not (known width)) (not (eqb width 4) || not (eqb (address % 4) 0)) h in
    record {
      k = 2;
      small = omega arith;
      size = equal width 4 (or_left (not (eqb width 4)) (not (eqb (address % 4) 0)) f);
      multiple = equal (address % 4) 0 (or_right (not (eqb width 4)) (not (eqb (address % 4) 0)) f);
    }
aligned Load address width h k = a_power address width (known-width Load address width h) (equal (address % width) 0 k)
aligned Store address width h k = a_power address width (known-width Store address width h) (equal (address % width) 0 k)

-- tables of at most five levels
pub tables-of : (h : Hart) (kind : Kind) (address width : ℕ) → Tables (access_of h kind address width)
unfolding access_of
tables-of h kind address width =
    let f = first_five (paging h) (effective (context h) kind) in
    let s = second_five (paging h) (effective (context h) kind) in
    record { first = f.levels; second = s.levels; first_root = f.ppn; second_root = s.ppn }

-- ---- what the code finds before the walk

module _ (h : Hart) (base len : ℕ) (kind : Kind) (address width : ℕ) where
  -- a walk is for the access itself, over an image that fits
  pub walks : (a : Access) → start_of h base len kind address width ≡ Ok a → (access_of h kind address width ≡ a) × (unfit base len ≡ false)
  unfolding start_of
  walks a = go (not (passes h)) (unfit base len) (unsupported kind address width) (misaligned kind address width)
    where
      accessed : Access
      accessed = access_of h kind address width

      go : (b₁ b₂ b₃ b₄ : Bool) → unless_refused (first_refusal ((b₁, Refusal.Hart) ∷ (b₂, Refusal.Image) ∷ (b₃, Refusal.Access) ∷ [])) (pick b₄ (Err (Answer.Fault (misalignment accessed))) (Ok accessed)) ≡ Ok a
          → (accessed ≡ a) × (b₂ ≡ false)
      go true b₂ b₃ b₄ e = clash (cc)
      go false true b₃ b₄ e = clash (cc)
      go false false true b₄ e = clash (cc)
      go false false false true e = clash (cc)
      go false false false false e = (cc, refl)

  -- what is taken has a form
  pub accepted : {x : Unit {0}} → first_refusal (refusals h base len kind address width) ≡ Ok x → unsupported kind address width ≡ false
  accepted = go (not (passes h)) (unfit base len) (unsupported kind address width)
    where
      go : (b₁ b₂ b₃ : Bool) → {x : Unit {0}} → first_refusal ((b₁, Refusal.Hart) ∷ (b₂, Refusal.Image) ∷ (b₃, Refusal.Access) ∷ []) ≡ Ok x → b₃ ≡ false
      go true b₂ b₃ e = clash (cc)
      go false true b₃ e = clash (cc)
      go false false true e = clash (cc)
      go false false false e = refl

  pub walks_tables : (a : Access) → start_of h base len kind address width ≡ Ok a → Tables a
  walks_tables a s = subst Tables (walks a s).0 (tables-of h kind address width)

module _ (h : Hart) (base : ℕ) (bytes : List ℕ) (kind : Kind) (address width : ℕ) where
  -- an answer, with an empty list
  pub at_once : (x : Answer) → start_of h base (length bytes) kind address width ≡ Err x → translated h base bytes kind address width ≡ unwalked h x
  unfolding translated
  at_once x e = rw e

  -- an access to walk for
  pub record Walking (a : Access) : Type 0 where
    pub translates : translated h base bytes kind address width ≡ walked_to h (run (look base bytes) (walk_of base (length bytes) a))
    pub ends : base + length bytes ≤ 2 ^ 56
    pub tables : Tables a

  pub walking : (a : Access) → start_of h base (length bytes) kind address width ≡ Ok a → Walking a
  unfolding translated
  walking a s =
      record {
        translates = rw s;
        ends = fit base (length bytes) (walks h base (length bytes) kind address width a s).1;
        tables = walks_tables h base (length bytes) kind address width a s;
      }
