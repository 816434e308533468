-- What a translation's faults tell. Assumes nothing.
use Rattle.std.specs.Prelude.{Result, Ok, Err}
use mathlib.Core.Path.{◌≡◌, refl, subst}
use mathlib.Core.Bool.{Bool, true, false}
use mathlib.Core.List.{List}
use Prim.Native.Nat.{ℕ, ◌≤◌}
use lib.ListN.{length}
use Rattle.bits.specs.Field.{pick}
use Rattle.bits.proofs.Bools.{clash}
use Rattle.exceptions.specs.declared.Exception.{Exception}
use Rattle.registers.specs.Places.{vsatp}
use Rattle.registers.specs.Rules.{among}
use Rattle.exceptions.specs.declared.Refusal.{Refusal}
use Rattle.hart.specs.declared.state.Hart.{Hart}
use Rattle.hart.specs.Hart.{reg}
use Rattle.rules.specs.declared.Kind.{Kind}
use Rattle.rules.specs.declared.Kind.TheVariants.{Fetch, Load, Store}
use Rattle.rules.specs.Kind.{by}
use Rattle.rules.proofs.Cases.{each_kind}
use Rattle.access.specs.declared.Access.{Access}
use Rattle.access.specs.declared.Root.{Root}
use Rattle.access.specs.Widths.{misaligned}
use Rattle.access.specs.Faults.{misalignment}
use Rattle.access.proofs.Faults.{not-high, misalignment-low}
use Rattle.stages.specs.Stages.{look}
use Rattle.stages.specs.Denied.{GuestPageFault}
use Rattle.stages.proofs.Raised.{every-fault}
use Rattle.stages.proofs.Guarded.{guest-page-fault}
use Rattle.effective.specs.Effective.{root}
use Rattle.translate.specs.declared.Answer.{Answer}
use Rattle.translate.specs.declared.Translated.{Translated}
use Rattle.translate.specs.Translated.{refusals, first_refusal, unless_refused, access_of, start_of, unwalked, concluded, translated}
use Rattle.translate.specs.On.{second_on}
use Rattle.translate.specs.Causes.{causes_of}
use Rattle.translate.proofs.On.{virtual, first-tables, second-levels}
use Rattle.translate.proofs.Cases.{fault-ended, ran_of, AtOnce, refused, misaligned-by, each}
use Rattle.translate.proofs.Demand.{listed, listed-walk}

-- the access's own of three causes
own : (x y z : ℕ) → among x (causes_of Fetch) ≡ true → among y (causes_of Load) ≡ true → among z (causes_of Store) ≡ true → (k : Kind) → among (by k x y z) (causes_of k) ≡ true
own x y z = each_kind (λ k. among (by k x y z) (causes_of k) ≡ true)

module _ (h : Hart) (base : ℕ) (bytes : List ℕ) (kind : Kind) (address width : ℕ) where
  abbrev a : Access
  a = access_of h kind address width

  abbrev t : Translated
  t = translated h base bytes kind address width

  -- every fault's cause is one of the original access's own, a guest entry's too: a store never comes up as a load
  pub own_cause : (f : Exception) → t.answer ≡ Answer.Fault f → among f.cause (causes_of kind) ≡ true
  unfolding translated start_of access_of
  own_cause f = go (first_refusal (refusals h base (length bytes) kind address width)) (misaligned kind address width) refl
    where
      of-misaligned : (k : Kind) → misaligned k address width ≡ true → among (by k 0 4 6) (causes_of k) ≡ true
      of-misaligned = each_kind (λ k. misaligned k address width ≡ true → among (by k 0 4 6) (causes_of k) ≡ true) (λ e. clash e) (λ e. refl) (λ e. refl)

      go : (r : Result (Unit {0}) Refusal) (b : Bool) → misaligned kind address width ≡ b → (concluded h base bytes (unless_refused r (pick b (Err (Answer.Fault (misalignment a))) (Ok a)))).answer ≡ Answer.Fault f
          → among f.cause (causes_of kind) ≡ true
      go (Err r) b e q = clash (cc)
      go (Ok x) true e q = let k : misalignment a ≡ f = cc in rw (← k) (of-misaligned kind e)
      go (Ok x) false e q =
          every-fault (λ x. among x.cause (causes_of kind) ≡ true) base (length bytes) a (own 1 5 7 refl refl refl kind) (own 12 13 15 refl refl refl kind) (λ on g. own 20 21 23 refl refl refl kind)
          (λ on g. own 20 21 23 refl refl refl kind) (look base bytes) f (fault-ended _ f q)

  -- With the second stage on: a guest-page fault is of the guest entry that the first stage, by the items listed, had come to, with word 3000, or of the access itself, with
  -- word 0; its second value names the guest address, its cause is the original access's.
  pub guest-page-told : second_on h kind ≡ true → (f : Exception) → t.answer ≡ Answer.Fault f → 20 ≤ f.cause → GuestPageFault (root (reg h vsatp)) kind address true (listed t) f
  unfolding access_of
  guest-page-told on f e =
      subst (λ (v : Bool). 20 ≤ f.cause → GuestPageFault (root (reg h vsatp)) kind address v (listed t) f) (virtual h kind address width on)
      (subst (λ (r : Root). 20 ≤ f.cause → GuestPageFault r kind address a.v (listed t) f) (first-tables h kind address width on)
      (each h base bytes kind address width (λ (r : Translated). r.answer ≡ Answer.Fault f → 20 ≤ f.cause → GuestPageFault a.first kind address a.v (listed r) f) at_once
      (λ p k q. rw (listed-walk h (ran_of h base bytes kind address width))
      (guest-page-fault (look base bytes) base (length bytes) a (second-levels h kind address width on) f (fault-ended _ f q))) e))
    where
      at_once : (x : Answer) → AtOnce h base bytes kind address width x → x ≡ Answer.Fault f → 20 ≤ f.cause → GuestPageFault a.first kind address a.v (listed (unwalked h x)) f
      at_once x (refused n) q c = clash (cc)
      at_once x (misaligned-by p) q c = let k : f ≡ misalignment a = cc in not-high (misalignment a) f k (misalignment-low a) c
