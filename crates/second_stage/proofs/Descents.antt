-- One entry's read, at either stage; the second stage's loop: what is left, from an entry on, is the whole. Assumes nothing.
use Rattle.std.specs.Prelude.{Option, None, Result, Ok, Err}
use mathlib.Core.Path.{◌≡◌, refl, sym, ap, ◌∙◌}
use mathlib.Core.Bool.{true, false}
use mathlib.Core.List.{List}
use Prim.Native.Nat.{ℕ, zero, suc, ◌+◌, ◌-◌, ◌*◌, ◌^◌, ◌<◌, ◌≤◌}
use native.Mathlib.Omega.{arith}
use lib.ListN.{length}
use lib.Seq.{length-sets}
use Rattle.exceptions.specs.declared.Exception.{Exception}
use Rattle.bits.specs.Field.{get}
use Rattle.rules.specs.declared.Judgement.{Judgement}
use Rattle.rules.specs.declared.Judgement.TheVariants.{Pointer, Leaf, Bad}
use Rattle.rules.specs.Address.{well_formed, second, number, index_bits, index}
use Rattle.rules.specs.declared.Need.{Need}
use Rattle.rules.specs.declared.Test.{Test}
use Rattle.rules.specs.Test.{test_of}
use Rattle.rules.proofs.Indices.{below_root}
use Rattle.rules.proofs.Judgements.{pointer_bounds}
use Rattle.access.specs.declared.Access.{Access}
use Rattle.access.specs.declared.Guest.{Guest}
use Rattle.access.specs.declared.Machine.{Machine}
use Rattle.access.specs.Faults.{access_fault}
use Rattle.stages.specs.Tree.{Walk, bind}
use Rattle.stages.specs.Stages.{Translation, ◌then◌, slot, follow, inspect, down, translation, machine}
use Rattle.stages.proofs.Trees.{begin-off, begin-at}
use Rattle.second_stage.specs.Words.{Into, onto, into, Sees}
use Rattle.second_stage.specs.Place.{need_at, fault_at, second_at, below}

-- ---- one entry, at either stage

-- from a level down, over what a pointer leads to
pub down-at : {A : Type 0} (t : Translation A) (level table : ℕ) → down t level table ≡ t.through (slot t level table) then inspect t level (below t level)
unfolding down below
down-at t zero table = refl
down-at t (suc l) table = refl

pub below_at : {A : Type 0} (t : Translation A) (level table : ℕ) → 0 < level → below t level table ≡ down t (level - 1) table
unfolding below
below_at t zero table h = absurd (omega arith)
below_at t (suc l) table h = let e : suc l - 1 ≡ l = omega arith in rw e

-- outside the image; read, listed and judged
module _ {A : Type 0} (look : Machine → Option ℕ) (tr : Translation A) (next : ℕ → Walk (Result A Exception)) (level n : ℕ) (m : Machine) (out out' : List ℕ) where
  pub entry-outside : (look m ≡ None) × (out' ≡ out) → into look (inspect tr level next m) out n ≡ onto out' n (Err tr.outside)
  unfolding into inspect
  entry-outside e = rw (e.0, e.1)

  pub entry_read : {t : Test} {j : Judgement} → t ≡ test_of tr.need → Sees look t (number tr.stage) level tr.address m n out out' j
      → into look (inspect tr level next m) out n ≡ into look (follow tr j next) out' (n + 4)
  unfolding into inspect
  entry_read p s = rw (s.found, s.listed, s.judgement tr.need p)

module _ {look : Machine → Option ℕ} {t : Test} {stage level address : ℕ} {m : Machine} {n : ℕ} {out out' : List ℕ} {j : Judgement}
    (s : Sees look t stage level address m n out out' j) where
  pub kept : length out' ≡ length out
  kept = ap length s.listed ∙ simp length-sets

  pub bounds : (need : Need) {table : ℕ} → t ≡ test_of need → j ≡ Pointer table → (0 < level) × (table < 2 ^ 56)
  bounds need {table} p e = pointer_bounds need level address s.value table (sym (s.judgement need p) ∙ e)

-- ---- the second stage

module _ (look : Machine → Option ℕ) (a : Access) (left : ℕ) (g : Guest) (out₀ : List ℕ) (from : ℕ) where
  abbrev levels : ℕ
  levels = a.second.levels

  abbrev stage : Translation Machine
  stage = second_at a left g

  abbrev whole : Into (Result Machine Exception)
  whole = into look (translation stage) out₀ from

  -- where the loop stands: what is left from an entry on is the whole stage
  pub record Descends (out : List ℕ) (next level at : ℕ) : Type 0 where
    pub same : into look (inspect stage level (below stage level) (machine at)) out next ≡ whole
    pub under : level < levels
    pub room : next + 4 * suc level ≤ length out
    pub size : length out ≡ length out₀

  pub off : levels ≡ 0 → onto out₀ from (Ok (machine g.0)) ≡ whole
  unfolding into
  off e = rw (begin-off stage levels e)

  module _ (on : 0 < levels) where
    pub too_large : well_formed second levels g.0 ≡ false → onto out₀ from (Err (fault_at a left g)) ≡ whole
    unfolding into
    too_large w = rw (begin-at stage levels on, w)

    pub from-root : well_formed second levels g.0 ≡ true → from + 4 * levels ≤ length out₀ → (i : ℕ) → i ≡ index second levels (levels - 1) g.0
        → Descends out₀ from (levels - 1) (a.second.ppn * 4096 + 8 * i)
    unfolding bind
    from-root w room i e =
        record {
          same = rw (e, begin-at stage levels on, w, down-at stage (levels - 1) (a.second.ppn * 4096));
          under = omega arith;
          room = omega arith;
          size = refl;
        }

-- one entry of it
module _ {look : Machine → Option ℕ} {a : Access} {left : ℕ} {g : Guest} {out₀ : List ℕ} {from : ℕ} {out : List ℕ} {next level at : ℕ}
    (d : Descends look a left g out₀ from out next level at) where
  abbrev all : Into (Result Machine Exception)
  all = whole look a left g out₀ from

  abbrev tables : ℕ → Walk (Result Machine Exception)
  tables = below (second_at a left g) level

  pub outside : {out' : List ℕ} → (look (machine at) ≡ None) × (out' ≡ out) → onto out' next (Err (access_fault a)) ≡ all
  outside {out'} e = sym (entry-outside look (second_at a left g) tables level next (machine at) out out' e) ∙ d.same

  module _ {t : Test} {out' : List ℕ} {j : Judgement} (p : t ≡ test_of (need_at a left)) (s : Sees look t 2 level g.0 (machine at) next out out' j) where
    read : into look (follow (second_at a left g) j tables) out' (next + 4) ≡ all
    read = sym (entry_read look (second_at a left g) tables level next (machine at) out out' p s) ∙ d.same

    pub bad : j ≡ Bad → onto out' (next + 4) (Err (fault_at a left g)) ≡ all
    unfolding into follow
    bad e = rw e at read

    pub leaf : {x : ℕ} → j ≡ Leaf x → onto out' (next + 4) (Ok (machine x)) ≡ all
    unfolding into follow
    leaf e = rw e at read

    pub further : {table i : ℕ} → j ≡ Pointer table → i ≡ get (index_bits 9 (level - 1)) g.0 → Descends look a left g out₀ from out' (next + 4) (level - 1) (table + 8 * i)
    unfolding follow bind
    further {table} e q =
        let high = (bounds s (need_at a left) p e).0 in
        let b = below_root second a.second.levels (level - 1) g.0 (omega (arith, d.under)) in
        record {
          same = rw (q, ← b) (rw (e, below_at (second_at a left g) level table high, down-at (second_at a left g) (level - 1) table) at read);
          under = omega (arith, d.under);
          room = omega (arith, d.room, kept s);
          size = kept s ∙ d.size;
        }
