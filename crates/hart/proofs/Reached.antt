-- A hypervisor load or store that is done lies in the image. Assumes nothing.
use Rattle.std.proofs.Common.{◌≡◌, ℕ, Bool, true, false, not, List, [], length, refl, ap, ◌∙◌}
use Rattle.std.specs.Prelude.{Result, Ok, Err}
use Rattle.exceptions.specs.declared.Refusal.{Refusal}
use Rattle.exceptions.specs.declared.Refusal.TheVariants as refusals
use Rattle.bits.specs.Field.{pick}
use Rattle.bits.proofs.Bools.{clash}
use Rattle.privilege.specs.declared.Verdict.{Verdict}
use Rattle.instructions.specs.Instructions.{hypervisor_access}
use Rattle.image.specs.Image.{within}
use Rattle.access.specs.declared.Access.{Access}
use Rattle.access.specs.Widths.{known, misaligned}
use Rattle.access.specs.Faults.{misalignment}
use Rattle.stages.specs.Tree.{Ran, run}
use Rattle.stages.specs.Stages.{look, walk_of}
use Rattle.stages.proofs.Ends.{lands_inside}
use Rattle.walk.specs.declared.Walked.{Walked}
use Rattle.walk.specs.Walked.{walked}
use Rattle.hypervisor.specs.declared.Operation.{Operation}
use Rattle.hypervisor.specs.Hypervisor.{End, refusal_of, access_for, walk_for}
use Rattle.hypervisor.proofs.Taken.{taken}
use Rattle.hart.specs.declared.state.Hart.{Hart}
use Rattle.hart.specs.declared.event.Halt.{Halt}
use Rattle.hart.specs.declared.event.Halt.TheVariants.{Refuses, Raises}
use Rattle.hart.specs.declared.guest.Reach.{Reach}
use Rattle.hart.specs.Hart.{context, paging, passes}
use Rattle.hart.specs.Event.{is_done, halted, unless_refused, stop_of}
use Rattle.hart.specs.Guest.{ended, landed, unwalked, arrives, reached_by, reach}

-- what goes on is not refused
pub goes_own : (h : Hart) (own : Result Unit Refusal) (v : Verdict) → Ok tt ≡ stop_of h own v → own ≡ Ok tt
goes_own h own v = go (not (passes h)) own
  where
    go : (b : Bool) (o : Result Unit Refusal) → Ok (tt {0}) ≡ pick b (Err (Refuses refusals.Hart)) (unless_refused o (pick v.gives2 (Err (Raises 2)) (pick v.gives22 (Err (Raises 22)) (Ok tt)))) → o ≡ Ok tt
    go true o e = clash (cc)
    go false (Err r) e = clash (cc)
    go false (Ok t) e = refl

-- a walk that ends with an address ends in the image
walk_inside : (h : Hart) (base : ℕ) (bytes : List ℕ) (a : Access) → is_done (ended h (walk_for base bytes a).end).outcome ≡ true → within base (length bytes) (landed (walk_for base bytes a).end) a.width ≡ true
unfolding walk_for
walk_inside h base bytes a = go (misaligned a.kind a.address a.width)
  where
    R : Ran End
    R = run (look base bytes) (walk_of base (length bytes) a)

    at : (e : End) → R.end ≡ e → is_done (ended h e).outcome ≡ true → within base (length bytes) (landed e) a.width ≡ true
    at (Ok m) q d = lands_inside (look base bytes) base (length bytes) a m q
    at (Err f) q d = clash d

    go : (b : Bool) → is_done (ended h (pick b (record { end = Err (misalignment a); reads = [] }) R).end).outcome ≡ true
        → within base (length bytes) (landed (pick b (record { end = Err (misalignment a); reads = [] }) R).end) a.width ≡ true
    go true d = clash d
    go false d = at R.end refl d

pub done-inside : (h : Hart) (o : Operation) (base : ℕ) (bytes : List ℕ) (width address word : ℕ) → let r = reach h o base bytes width address word in
    is_done r.outcome ≡ true → (known width ≡ true) × (within base (length bytes) r.at width ≡ true)
unfolding reach
done-inside h o base bytes width address word = go (stop_of h own (hypervisor_access (context h))) refl
  where
    own : Result Unit Refusal
    own = refusal_of o base (length bytes) width

    a : Access
    a = access_for o (context h) (paging h) address width

    go : (s : Result Unit Halt) → s ≡ stop_of h own (hypervisor_access (context h)) → is_done (reached_by s h word (walk_for base bytes a)).outcome ≡ true
        → (known width ≡ true) × (within base (length bytes) (reached_by s h word (walk_for base bytes a)).at width ≡ true)
    go (Ok t) q d = ((taken o base (length bytes) width (goes_own h own (hypervisor_access (context h)) q)).form, walk_inside h base bytes a d)
    go (Err (Refuses r)) q d = clash d
    go (Err (Raises n)) q d = clash d

-- ---- as the code has it

module _ (h : Hart) (o : Operation) (base : ℕ) (bytes : List ℕ) (width address word : ℕ) where
  abbrev r : Ran End
  r = walk_for base bytes (access_for o (context h) (paging h) address width)

  abbrev by_stop : Result Unit Halt → Reach
  by_stop s = reached_by s h word r

  abbrev stop : Result Unit Halt
  stop = stop_of h (refusal_of o base (length bytes) width) (hypervisor_access (context h))

  pub goes-reach : {w : Walked} {t : Unit {0}} → Ok t ≡ stop → w ≡ walked r → arrives h w.reached w.reads w.count ≡ reach h o base bytes width address word
  unfolding reach
  goes-reach {w} e p = ap (λ (x : Walked). arrives h x.reached x.reads x.count) p ∙ ap by_stop e

  pub halts_reach : {x : Halt} → Err x ≡ stop → unwalked (halted h x word) ≡ reach h o base bytes width address word
  unfolding reach
  halts_reach e = ap by_stop e
