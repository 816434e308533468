-- What an entry's judgement tells of it. Assumes nothing.
use mathlib.Core.Path.{◌≡◌, refl}
use mathlib.Core.Bool.{Bool, true, false, ◌&&◌, ◌||◌, not}
use Prim.Native.Nat.{ℕ, ◌+◌, ◌^◌, ◌<◌}
use native.Mathlib.Omega.{arith}
use lib.Dec.{eqb}
use borrow.Author.Tests.{eqb-false, not-false}
use Rattle.bits.specs.Field.{get, has, pick}
use Rattle.bits.proofs.Bools.{clash, or_right}
use Rattle.bits.proofs.Fields.{get-lt}
use Rattle.rules.specs.declared.Need.{Need}
use Rattle.rules.specs.declared.Judgement.{Judgement}
use Rattle.rules.specs.declared.Judgement.TheVariants.{Pointer, Leaf, Bad}
use Rattle.rules.specs.Right.{by_right}
use Rattle.rules.specs.Entry.{U, A, D, PPN, low_ppn, pointer, admitted, granted, malformed, bad_pointer, bad_leaf, faulty, target, offset, judged}

-- what an entry that is not faulty has, as a pointer and as a leaf
module _ (n : Need) (level e : ℕ) (good : faulty n level e ≡ false) where
  pub pointer-high : pointer e ≡ true → eqb level 0 ≡ false
  unfolding faulty bad_pointer
  pointer-high p = or_right (has A e || has D e || has U e) (eqb level 0) (rw p at (or_right (malformed e) _ good))

  pub leaf-right : pointer e ≡ false → (admitted n e && granted n e) ≡ true
  unfolding faulty bad_leaf
  leaf-right p =
      let rest = not (eqb (get (low_ppn level) e) 0) || not (has A e) || by_right n.right false (not (has D e)) false in
      not-false (admitted n e && granted n e) (or_right rest _ (rw p at (or_right (malformed e) _ good)))

pub record IsPointer (n : Need) (level e table : ℕ) : Type 0 where
  pub good : faulty n level e ≡ false
  pub pointer : pointer e ≡ true
  pub to : table ≡ target e

pub record IsLeaf (n : Need) (level address e x : ℕ) : Type 0 where
  pub good : faulty n level e ≡ false
  pub leaf : pointer e ≡ false
  pub to : x ≡ target e + get (offset level) address

module _ (n : Need) (level address e : ℕ) where
  chosen : Bool → Bool → Judgement
  chosen f p = pick f Bad (pick p (Pointer (target e)) (Leaf (target e + get (offset level) address)))

  pub is_pointer : (table : ℕ) → judged n level address e ≡ Pointer table → IsPointer n level e table
  unfolding judged chosen
  is_pointer table j = go (faulty n level e) (pointer e) refl refl j
    where
      go : (f p : Bool) → faulty n level e ≡ f → pointer e ≡ p → chosen f p ≡ Pointer table → IsPointer n level e table
      go true p f= p= q = clash (cc)
      go false true f= p= q = record { good = f=; pointer = p=; to = cc }
      go false false f= p= q = clash (cc)

  pub is_leaf : (x : ℕ) → judged n level address e ≡ Leaf x → IsLeaf n level address e x
  unfolding judged chosen
  is_leaf x j = go (faulty n level e) (pointer e) refl refl j
    where
      go : (f p : Bool) → faulty n level e ≡ f → pointer e ≡ p → chosen f p ≡ Leaf x → IsLeaf n level address e x
      go true p f= p= q = clash (cc)
      go false true f= p= q = clash (cc)
      go false false f= p= q = record { good = f=; leaf = p=; to = cc }

  -- a pointer stands above level 0, and its table is below 2 ^ 56
  pub pointer_bounds : (table : ℕ) → judged n level address e ≡ Pointer table → (0 < level) × (table < 2 ^ 56)
  pointer_bounds table j =
      let k = is_pointer table j in
      let z = eqb-false level 0 (pointer-high n level e k.good k.pointer) in
      (omega (arith, z), omega (arith, k.to, get-lt PPN e))
