-- What an entry has at which no fault rule held, in plain bits. Assumes nothing.
use mathlib.Core.Path.{◌≡◌, refl}
use mathlib.Core.Bool.{Bool, true, false, ◌&&◌, ◌||◌, not}
use Prim.Native.Nat.{ℕ}
use native.Mathlib.Omega.{arith}
use lib.Dec.{eqb}
use borrow.Author.Tests.{eqb-true, eqb-false, not-false}
use Rattle.bits.specs.Field.{span, get, has}
use Rattle.bits.proofs.Bools.{and_left, and_right, both, or_left, or_right}
use Rattle.rules.specs.declared.Right.{Right}
use Rattle.rules.specs.declared.Right.TheVariants.{Read, Write, Execute}
use Rattle.rules.specs.declared.Need.{Need}
use Rattle.rules.specs.Entry.{«V», R, W, X, U, A, D, low_ppn, pointer, admitted, granted, malformed, bad_pointer, bad_leaf, faulty}
use Rattle.rules.proofs.Judgements.{leaf-right}
use Rattle.access.specs.declared.Access.{Access}
use Rattle.access.specs.Needs.{second_need, entry_need}
use Rattle.stages.specs.Through.{Formed, Points, Passes, own_right, entry_right}

zero-by : (x : ℕ) → not (eqb x 0) ≡ false → x ≡ 0
zero-by x h = eqb-true x 0 (not-false (eqb x 0) h)

well_formed_lem : (e : ℕ) → malformed e ≡ false → Formed e
unfolding malformed
well_formed_lem e h =
    let low = or_left (not (has «V» e) || (has W e && not (has R e))) _ h in
    record {
      valid = not-false (has «V» e) (or_left (not (has «V» e)) _ low);
      readable = or_right (not (has «V» e)) _ low;
      high = zero-by (get (span 63 54) e) (or_right (not (has «V» e) || (has W e && not (has R e))) _ h);
    }

module _ (n : Need) (level e : ℕ) (good : faulty n level e ≡ false) where
  formed : Formed e
  unfolding faulty
  formed = well_formed_lem e (or_left (malformed e) _ good)

  pub points : pointer e ≡ true → Points level e
  unfolding faulty bad_pointer
  points p =
      let clear = rw p at (or_right (malformed e) _ good) in
      let bits = or_left (has A e || has D e || has U e) _ clear in
      let low = or_left (has A e || has D e) _ bits in
      record {
        pointer = p;
        formed = formed;
        accessed = or_left (has A e) _ low;
        dirty = or_right (has A e) _ low;
        user = or_right (has A e || has D e) _ bits;
        above = omega (arith, eqb-false level 0 (or_right (has A e || has D e || has U e) _ clear));
      }

  module _ (p : pointer e ≡ false) where
    good_leaf : bad_leaf n level e ≡ false
    unfolding faulty
    good_leaf = rw p at (or_right (malformed e) _ good)

    rights : (admitted n e && granted n e) ≡ true
    rights = leaf-right n level e good p

    pub passes : n.user ≡ true → (right : ℕ → Bool) → right e ≡ true → Passes right level e
    unfolding bad_leaf
    passes u right r =
        let low = or_left (not (eqb (get (low_ppn level) e) 0) || not (has A e)) _ (or_left _ _ good_leaf) in
        record {
          formed = formed;
          whole = zero-by (get (low_ppn level) e) (or_left _ (not (has A e)) low);
          accessed = not-false (has A e) (or_right (not (eqb (get (low_ppn level) e) 0)) _ low);
          user = rw u at (and_left (admitted n e) (granted n e) rights);
          granted = r;
        }

    grant : granted n e ≡ true
    grant = and_right (admitted n e) (granted n e) rights

-- an access's own right at the second stage
pub own_right_lem : (a : Access) (level e : ℕ) → faulty (second_need a) level e ≡ false → pointer e ≡ false → own_right a.right a.mmxr e ≡ true
unfolding bad_leaf
own_right_lem a level e good p = go a.right refl
  where
    go : (r : Right) → a.right ≡ r → own_right r a.mmxr e ≡ true
    go Execute q = rw q at (grant (second_need a) level e good p)
    go Read q = rw q at (grant (second_need a) level e good p)
    go Write q =
        let dirty = or_right (not (eqb (get (low_ppn level) e) 0) || not (has A e)) _ (or_left _ (not (admitted (second_need a) e && granted (second_need a) e)) (good_leaf (second_need a) level e good p)) in
        both (has W e) (has D e) (rw q at (grant (second_need a) level e good p)) (not-false (has D e) (rw q at dirty))

-- what the read of a guest entry needs is R
pub entry-right : (level e : ℕ) → faulty entry_need level e ≡ false → pointer e ≡ false → entry_right e ≡ true
entry-right level e good p = go (has R e) (has X e) (grant entry_need level e good p)
  where
    go : (r x : Bool) → (r || (x && false)) ≡ true → r ≡ true
    go true x h = refl
    go false true h = h
    go false false h = h
