-- "a trap request delivers the fault": what a translation answers as a fault is a request that is taken. Assumes nothing.
use mathlib.Core.Path.{◌≡◌, refl}
use mathlib.Core.Bool.{Bool, true, false, ◌&&◌, ◌||◌, not}
use mathlib.Core.List.{List}
use Prim.Native.Nat.{ℕ, ◌/◌, ◌<◌}
use native.Mathlib.Omega.{arith}
use lib.Dec.{eqb}
use lib.ListN.{length}
use borrow.Author.Tests.{eqb-true}
use Rattle.bits.proofs.Bools.{clash}
use Rattle.exceptions.specs.declared.Exception.{Exception}
use Rattle.privilege.specs.declared.Context.{Context}
use Rattle.traps.specs.Request.{impossible}
use Rattle.hart.specs.declared.state.Hart.{Hart}
use Rattle.hart.specs.Hart.{context, paging, passes}
use Rattle.hart.specs.Event.{trapped, settled}
use Rattle.hart.specs.Trap.{trap}
use Rattle.rules.specs.declared.Kind.{Kind}
use Rattle.rules.specs.Kind.{by}
use Rattle.rules.proofs.Cases.{each_kind}
use Rattle.access.specs.declared.Access.{Access}
use Rattle.access.specs.declared.Guest.{Guest}
use Rattle.access.specs.Faults.{raised, misalignment, access_fault, page_fault, guest_page_fault, entry_fault}
use Rattle.stages.specs.Stages.{look}
use Rattle.stages.proofs.Raised.{every-fault}
use Rattle.translate.specs.declared.Answer.{Answer}
use Rattle.translate.specs.declared.Translated.{Translated}
use Rattle.effective.specs.Effective.{effective, second_root}
use Rattle.translate.specs.Translated.{access_of, translated}
use Rattle.translate.proofs.Cases.{fault-ended, AtOnce, refused, misaligned-by, each}

-- the flag of a fault that is no guest-page fault, and of one that is
plain-flag : (flag v : Bool) → (v ≡ true → flag ≡ true) → (flag && false || (not flag && false || not flag && (v && true))) ≡ false
plain-flag true v h = refl
plain-flag false true h = clash (h refl)
plain-flag false false h = refl

guest-flag : (flag v : Bool) → flag ≡ true → (flag && false || (not flag && true || not flag && (v && true))) ≡ false
guest-flag true v h = refl
guest-flag false v h = clash h

module _ (c : Context) (a : Access) where
  -- whether a fault of the access with one of three causes can arise goes by each
  by-cause : (x y z value2 word : ℕ) → impossible c (raised a x value2 word) ≡ false → impossible c (raised a y value2 word) ≡ false → impossible c (raised a z value2 word) ≡ false
      → (k : Kind) → impossible c (raised a (by k x y z) value2 word) ≡ false
  by-cause x y z value2 word = each_kind (λ k. impossible c (raised a (by k x y z) value2 word) ≡ false)

  module _ (guest-v : eqb c.v 1 ≡ true → a.v ≡ true) where
    fits : (a.v && false || (not a.v && false || not a.v && (eqb c.v 1 && true))) ≡ false
    fits = plain-flag a.v (eqb c.v 1) guest-v

    pub can_misalign : impossible c (misalignment a) ≡ false
    can_misalign = by-cause 0 4 6 0 0 fits fits fits a.kind

    pub can_access : impossible c (access_fault a) ≡ false
    can_access = by-cause 1 5 7 0 0 fits fits fits a.kind

    pub can_page : impossible c (page_fault a) ≡ false
    can_page = by-cause 12 13 15 0 0 fits fits fits a.kind

  module _ (on : a.v ≡ true) where
    guest_fits : (a.v && false || (not a.v && true || not a.v && (eqb c.v 1 && true))) ≡ false
    guest_fits = guest-flag a.v (eqb c.v 1) on

    pub can_guest_page : (g : Guest) → impossible c (guest_page_fault a g) ≡ false
    can_guest_page g = by-cause 20 21 23 (g.0 / 4) 0 guest_fits guest_fits guest_fits a.kind

    pub can_entry : (g : Guest) → impossible c (entry_fault a g) ≡ false
    can_entry g = by-cause 20 21 23 (g.0 / 4) 0x3000 guest_fits guest_fits guest_fits a.kind

module _ (h : Hart) (kind : Kind) (address width : ℕ) where
  abbrev a : Access
  a = access_of h kind address width

  -- a guest's access has V=1
  from-guest : eqb h.v 1 ≡ true → a.v ≡ true
  unfolding access_of
  from-guest e = let one : h.v ≡ 1 = eqb-true h.v 1 e in rw one

  -- only an access with V=1 walks the second stage
  second-on : 0 < a.second.levels → a.v ≡ true
  unfolding access_of second_root
  second-on = go (effective (context h) kind).v refl
    where
      go : (b : Bool) → (effective (context h) kind).v ≡ b → 0 < (second_root (paging h) (effective (context h) kind)).levels → b ≡ true
      go true e on = refl
      go false e on = let no : ⊥ = omega (arith, rw e at on) in absurd no

  module _ (base : ℕ) (bytes : List ℕ) where
    -- a fault, and so a request, of a hart that passes check 2
    record Arises (f : Exception) : Type 0 where
      passing : passes h ≡ true
      possible : impossible (context h) f ≡ false

    arises : (f : Exception) → (translated h base bytes kind address width).answer ≡ Answer.Fault f → Arises f
    arises f =
        each h base bytes kind address width (λ (t : Translated). t.answer ≡ Answer.Fault f → Arises f) at_once
        (λ p k e. record {
          passing = p;
          possible = every-fault (λ x. impossible (context h) x ≡ false) base (length bytes) a (can_access (context h) a from-guest) (can_page (context h) a from-guest)
              (λ on. can_guest_page (context h) a (second-on on)) (λ on. can_entry (context h) a (second-on on)) (look base bytes) f (fault-ended _ f e);
        })
      where
        at_once : (x : Answer) → AtOnce h base bytes kind address width x → x ≡ Answer.Fault f → Arises f
        at_once x (refused n) e = clash (cc)
        at_once x (misaligned-by p) e = let q : misalignment a ≡ f = cc in record { passing = p; possible = rw (← q) (can_misalign (context h) a from-guest) }

    -- a trap request with the fault that a translation answers is taken: it is delivered, not refused
    pub fault-taken : (f : Exception) → (translated h base bytes kind address width).answer ≡ Answer.Fault f → trap h f ≡ trapped h f
    unfolding trap settled
    fault-taken f e = let k = arises f e in rw (k.passing, k.possible)
