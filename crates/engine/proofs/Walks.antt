-- The walk's loop: what is left, from a guest address on, is the whole. Assumes nothing.
use Rattle.std.specs.Prelude.{Option, None, Result, Ok, Err}
use mathlib.Core.Path.{◌≡◌, refl, sym, ap, ◌∙◌}
use mathlib.Core.Bool.{Bool, true, false, ◌&&◌, not}
use mathlib.Core.List.{List}
use Prim.Native.Nat.{ℕ, zero, suc, ◌+◌, ◌-◌, ◌*◌, ◌<◌, ◌≤◌}
use native.Mathlib.Nat.{mul-one, suc-mul, mul-le-mul, le_refl}
use native.Mathlib.Omega.{arith}
use lib.Dec.{eqb, eqb-suc-zero}
use lib.ListN.{length}
use borrow.Author.Tests.{eqb-true, eqb-false}
use Rattle.bits.specs.Field.{get, pick}
use Rattle.bits.proofs.Bools.{clash}
use Rattle.rules.specs.declared.Judgement.{Judgement}
use Rattle.rules.specs.declared.Judgement.TheVariants.{Pointer, Leaf, Bad}
use Rattle.rules.specs.Address.{well_formed, first, index_bits, index}
use Rattle.rules.specs.declared.Test.{Test}
use Rattle.rules.specs.Test.{test_of}
use Rattle.access.specs.declared.Access.{Access}
use Rattle.access.specs.declared.Guest.{Guest}
use Rattle.access.specs.declared.Machine.{Machine}
use Rattle.access.specs.Needs.{first_need, entry_need}
use Rattle.access.specs.Faults.{access_fault, page_fault, entry_fault}
use Rattle.exceptions.specs.declared.Exception.{Exception}
use Rattle.stages.specs.Tree.{Walk, done, bind}
use Rattle.stages.specs.Stages.{onward, ◌then◌, slot, follow, inspect, down, translation, guest, second_of, first_of, last, final, walk_of}
use Rattle.stages.proofs.Trees.{then_assoc, begin-off, begin-at}
use Rattle.stages.proofs.Bounds.{Within, within-begin}
use Rattle.second_stage.specs.Words.{Into, onto, into, Sees}
use Rattle.second_stage.specs.Place.{second_at, below}
use Rattle.engine.specs.Place.{arrived, entered, reach, start_guest, strays}
use Rattle.second_stage.proofs.Descents.{down-at, below_at, entry-outside, entry_read, kept, bounds}
use Rattle.second_stage.proofs.Runs.{into-bind, into_then, into_room}

positive : (n : ℕ) → eqb n 0 ≡ false → 0 < n
positive n p = omega (arith, eqb-false n 0 p)

-- ---- the first stage, from a level down, is a guest address at the second

module _ (base len : ℕ) (a : Access) where
  first-down : (left table : ℕ) → 0 < left → down (first_of a) (left - 1) table then final base len a ≡ entered base len a left (guest (slot (first_of a) (left - 1) table))
  unfolding entered arrived
  first-down zero table h = absurd (omega arith)
  first-down (suc l) table h =
      let g = guest (slot (first_of a) l table) in
      let e : suc l - 1 ≡ l = omega arith in
      rw (e, down-at (first_of a) l table, eqb-suc-zero l)
      (then_assoc (translation (second_of a entry_need (entry_fault a g) g)) (inspect (first_of a) l (below (first_of a) l)) (final base len a))

  entered-last : (g : Guest) → entered base len a 0 g ≡ final base len a g
  unfolding entered arrived final
  entered-last g = refl

  first-pointer : (level table i : ℕ) → 0 < level → i ≡ get (index_bits 9 (level - 1)) a.address
      → below (first_of a) level table then final base len a ≡ entered base len a level (guest (table + 8 * i))
  unfolding index
  first-pointer level table i h e = rw (e, below_at (first_of a) level table h) (first-down level table h)

  -- where the walk begins
  strayed : strays a ≡ true → done (Err (page_fault a)) ≡ walk_of base len a
  unfolding strays walk_of bind
  strayed t = go (eqb a.first.levels 0) (well_formed first a.first.levels a.address) refl refl t
    where
      go : (z w : Bool) → eqb a.first.levels 0 ≡ z → well_formed first a.first.levels a.address ≡ w → (not z && not w) ≡ true → done (Err (page_fault a)) ≡ walk_of base len a
      go true w p q t = clash t
      go false true p q t = clash t
      go false false p q t = rw (begin-at (first_of a) a.first.levels (positive a.first.levels p), q)

  begins : strays a ≡ false → entered base len a a.first.levels (start_guest a) ≡ walk_of base len a
  unfolding strays start_guest walk_of bind index
  begins t = go (eqb a.first.levels 0) (well_formed first a.first.levels a.address) refl refl t
    where
      go : (z w : Bool) → eqb a.first.levels 0 ≡ z → well_formed first a.first.levels a.address ≡ w → (not z && not w) ≡ false
          → entered base len a a.first.levels (pick z (guest a.address) (guest (a.first.ppn * 4096 + 8 * get (index_bits 9 (a.first.levels - 1)) a.address))) ≡ walk_of base len a
      go true w p q t = let e = eqb-true a.first.levels 0 p in ap (λ (n : ℕ). entered base len a n (guest a.address)) e ∙ entered-last (guest a.address) ∙ rw (begin-off (first_of a) a.first.levels e)
      go false true p q t =
          let h = positive a.first.levels p in
          rw (begin-at (first_of a) a.first.levels h, q) (sym (first-down a.first.levels (a.first.ppn * 4096) h))
      go false false p q t = clash (sym t)

-- ---- the loop

module _ (look : Machine → Option ℕ) (base len : ℕ) (a : Access) (out₀ : List ℕ) (from : ℕ) where
  abbrev all : Into (Result Machine Exception)
  all = into look (walk_of base len a) out₀ from

  -- where the loop stands, before the second stage and after it
  pub record Walks (out : List ℕ) (next left : ℕ) (g : Guest) : Type 0 where
    pub same : into look (entered base len a left g) out next ≡ all
    pub depth : left ≤ a.first.levels
    pub room : next + 4 * reach a left ≤ length out
    pub size : length out ≡ length out₀

  pub record Arrives (out : List ℕ) (next left : ℕ) (o : Result Machine Exception) : Type 0 where
    pub same : into look (onward (arrived base len a left) o) out next ≡ all
    pub depth : left ≤ a.first.levels
    pub room : next + 4 * (left * suc a.second.levels) ≤ length out
    pub size : length out ≡ length out₀

  pub astray : strays a ≡ true → onto out₀ from (Err (page_fault a)) ≡ all
  unfolding into
  astray t = rw (← strayed base len a t)

  pub start : strays a ≡ false → from + 4 * reach a a.first.levels ≤ length out₀ → Walks out₀ from a.first.levels (start_guest a)
  start t h = record { same = rw (begins base len a t); depth = le_refl a.first.levels; room = h; size = refl }

within-second : (a : Access) (left : ℕ) (g : Guest) → Within (translation (second_at a left g)) a.second.levels
within-second a left g = rw mul-one at (within-begin (second_at a left g) 0 (λ x. tt) a.second.levels)

module _ {look : Machine → Option ℕ} {base len : ℕ} {a : Access} {out₀ : List ℕ} {from : ℕ} where
  pub arrives : {out : List ℕ} {next left : ℕ} {g : Guest} → Walks look base len a out₀ from out next left g
      → {out' : List ℕ} {next' : ℕ} {o : Result Machine Exception} → onto out' next' o ≡ into look (translation (second_at a left g)) out next → Arrives look base len a out₀ from out' next' left o
  unfolding entered
  arrives {out} {next} {left} {g} w e =
      let r = rw (← e) at (into_room look (translation (second_at a left g)) a.second.levels (within-second a left g) out next) in
      let s = into-bind look (translation (second_at a left g)) (onward (arrived base len a left)) out next in
      record {
        same = sym (rw (← e) at s) ∙ w.same;
        depth = w.depth;
        room = omega (arith, r.0, r.1, w.room);
        size = r.1 ∙ w.size;
      }

  pub failed : {out : List ℕ} {next left : ℕ} {f : Exception} → Arrives look base len a out₀ from out next left (Err f) → onto out next (Err f) ≡ all look base len a out₀ from
  unfolding into
  failed h = h.same

  pub finished : {out : List ℕ} {next left : ℕ} {m : Machine} → Arrives look base len a out₀ from out next left (Ok m) → left ≡ 0 → onto out next (last base len a m) ≡ all look base len a out₀ from
  unfolding into arrived
  finished h z = rw z at h.same

  -- a first-stage entry
  module _ {out : List ℕ} {next left : ℕ} {m : Machine} (h : Arrives look base len a out₀ from out next left (Ok m)) (on : 0 < left) where
    -- its words fit
    pub has_room : next + 4 ≤ length out
    has_room =
        let p : 1 * suc a.second.levels ≤ left * suc a.second.levels = mul-le-mul on (le_refl (suc a.second.levels)) in
        omega (arith, h.room)

    arrived-entry : (left : ℕ) → 0 < left → arrived base len a left m ≡ inspect (first_of a) (left - 1) (below (first_of a) (left - 1)) m then final base len a
    unfolding arrived
    arrived-entry zero p = absurd (omega arith)
    arrived-entry (suc l) p = let e : suc l - 1 ≡ l = omega arith in rw e

    entry : into look (inspect (first_of a) (left - 1) (below (first_of a) (left - 1)) m then final base len a) out next ≡ all look base len a out₀ from
    entry = rw (arrived-entry left on) at h.same

    abbrev tables : ℕ → Walk (Result Guest Exception)
    tables = below (first_of a) (left - 1)

    pub outside : {out' : List ℕ} → (look m ≡ None) × (out' ≡ out) → onto out' next (Err (access_fault a)) ≡ all look base len a out₀ from
    unfolding into bind
    outside {out'} e =
        sym (into_then look (onward (final base len a)) (inspect (first_of a) (left - 1) tables m) (done (Err (access_fault a))) out out' next next
        (entry-outside look (first_of a) tables (left - 1) next m out out' e)) ∙ entry

    module _ {t : Test} {out' : List ℕ} {j : Judgement} (p : t ≡ test_of (first_need a)) (s : Sees look t 1 (left - 1) a.address m next out out' j) where
      read : into look (follow (first_of a) j tables then final base len a) out' (next + 4) ≡ all look base len a out₀ from
      read =
          sym (into_then look (onward (final base len a)) (inspect (first_of a) (left - 1) tables m) (follow (first_of a) j tables) out out' next (next + 4)
          (entry_read look (first_of a) tables (left - 1) next m out out' p s)) ∙ entry

      stays : (l : ℕ) (g : Guest) → suc l ≤ left → into look (entered base len a l g) out' (next + 4) ≡ all look base len a out₀ from → Walks look base len a out₀ from out' (next + 4) l g
      stays l g k w =
          let q : suc l * suc a.second.levels ≤ left * suc a.second.levels = mul-le-mul k (le_refl (suc a.second.levels)) in
          record {
            same = w;
            depth = omega (arith, h.depth);
            room = omega (arith, h.room, suc-mul l (suc a.second.levels), kept s);
            size = kept s ∙ h.size;
          }

      pub bad : j ≡ Bad → onto out' (next + 4) (Err (page_fault a)) ≡ all look base len a out₀ from
      unfolding into follow bind
      bad e = rw e at read

      pub leaf : {x : ℕ} → j ≡ Leaf x → Walks look base len a out₀ from out' (next + 4) 0 (guest x)
      unfolding follow bind
      leaf {x} e = stays 0 (guest x) on (rw (entered-last base len a) (rw e at read))

      pub further : {table i : ℕ} → j ≡ Pointer table → i ≡ get (index_bits 9 (left - 1 - 1)) a.address → Walks look base len a out₀ from out' (next + 4) (left - 1) (guest (table + 8 * i))
      unfolding follow
      further {table} {i} e q =
          stays (left - 1) (guest (table + 8 * i)) (omega arith) (rw (← first-pointer base len a (left - 1) table i (bounds s (first_need a) p e).0 q) (rw e at read))
