-- What the stages that are on, and those that are off, make of an access. Assumes nothing.
use mathlib.Core.Path.{◌≡◌, refl}
use mathlib.Core.Bool.{Bool, true, false, ◌&&◌, not}
use Prim.Native.Nat.{ℕ, ◌<◌}
use lib.Dec.{eqb}
use borrow.Author.Tests.{not-true, not-false}
use Rattle.bits.specs.Field.{pick}
use Rattle.bits.proofs.Bools.{and_left, and_right}
use Rattle.registers.specs.Places.{satp, vsatp, hgatp}
use Rattle.hart.specs.declared.state.Hart.{Hart}
use Rattle.hart.specs.Hart.{reg, context}
use Rattle.rules.specs.declared.Kind.{Kind}
use Rattle.access.specs.declared.Access.{Access}
use Rattle.effective.specs.Effective.{effective, is_bare, root, off, first_root, second_root}
use Rattle.effective.proofs.Roots.{bare-depth, on-depth}
use Rattle.translate.specs.Translated.{access_of}
use Rattle.translate.specs.On.{first_on, second_on, first_depth, second_depth}

module _ (h : Hart) (kind : Kind) (address width : ℕ) where
  abbrev a : Access
  a = access_of h kind address width

  -- the access's tables are as deep as the registers that it walks say
  pub first-depth : a.first.levels ≡ first_depth h kind
  unfolding access_of first_root
  first-depth = go (effective (context h) kind).v (eqb (effective (context h) kind).privilege 3)
    where
      go : (v m : Bool) → (pick v (root (reg h vsatp)) (pick m off (root (reg h satp)))).levels ≡ pick v (root (reg h vsatp)).levels (pick m 0 (root (reg h satp)).levels)
      go true m = refl
      go false true = refl
      go false false = refl

  pub second-depth : a.second.levels ≡ second_depth h kind
  unfolding access_of second_root
  second-depth = go (effective (context h) kind).v
    where
      go : (v : Bool) → (pick v (root (reg h hgatp)) off).levels ≡ pick v (root (reg h hgatp)).levels 0
      go true = refl
      go false = refl

  pub first_off : first_on h kind ≡ false → first_depth h kind ≡ 0
  first_off = go (effective (context h) kind).v (eqb (effective (context h) kind).privilege 3)
    where
      go : (v m : Bool) → pick v (not (is_bare (reg h vsatp))) (not m && not (is_bare (reg h satp))) ≡ false → pick v (root (reg h vsatp)).levels (pick m 0 (root (reg h satp)).levels) ≡ 0
      go true m e = bare-depth (reg h vsatp) (not-false _ e)
      go false true e = refl
      go false false e = bare-depth (reg h satp) (not-false _ e)

  pub second-off : second_on h kind ≡ false → second_depth h kind ≡ 0
  second-off = go (effective (context h) kind).v
    where
      go : (v : Bool) → (v && not (is_bare (reg h hgatp))) ≡ false → pick v (root (reg h hgatp)).levels 0 ≡ 0
      go true e = bare-depth (reg h hgatp) (not-false _ e)
      go false e = refl

  module _ (on : second_on h kind ≡ true) where
    pub virtual : (effective (context h) kind).v ≡ true
    virtual = and_left (effective (context h) kind).v _ on

    -- "V=1 walks vsatp, then hgatp"
    pub first-tables : a.first ≡ root (reg h vsatp)
    unfolding access_of first_root
    first-tables = rw virtual

    pub second-tables : a.second ≡ root (reg h hgatp)
    unfolding access_of second_root
    second-tables = rw virtual

    pub second-levels : 0 < a.second.levels
    second-levels = rw second-tables (on-depth (reg h hgatp) (not-true (is_bare (reg h hgatp)) (and_right (effective (context h) kind).v _ on)))
