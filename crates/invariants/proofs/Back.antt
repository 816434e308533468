-- Loading back what was stored gives it. Assumes nothing.
use Rattle.std.specs.Prelude.{Ok, Err}
use mathlib.Core.Path.{◌≡◌, refl, sym, ap, ◌∙◌}
use mathlib.Core.Bool.{Bool, true, false, not}
use mathlib.Core.List.{List, [], ◌∷◌}
use mathlib.Core.Logic.{◌⊎◌}
use Prim.Native.Nat.{ℕ, ◌+◌, ◌*◌, ◌%◌, ◌^◌, ◌≤◌}
use native.Mathlib.Omega.{arith}
use lib.ListN.{length}
use Rattle.std.specs.Prelude.{Result, Ok, Err}
use Rattle.exceptions.specs.declared.Refusal.{Refusal}
use Rattle.exceptions.specs.declared.Refusal.TheVariants as refusals
use Rattle.bits.specs.Field.{pick}
use Rattle.bits.proofs.Bools.{clash}
use Rattle.registers.specs.Places.{kept}
use Rattle.privilege.specs.declared.Verdict.{Verdict}
use Rattle.instructions.specs.Instructions.{hypervisor_access}
use Rattle.image.specs.Data.{extended, loaded, stored}
use Rattle.image.proofs.Tests.{within_facts}
use Rattle.image.proofs.Memory.{stored-length, stored_loads, entry_apart}
use Rattle.access.specs.declared.Access.{Access}
use Rattle.access.specs.declared.Machine.{Machine}
use Rattle.access.specs.Widths.{misaligned}
use Rattle.stages.specs.declared.Read.{Read}
use Rattle.stages.specs.Tree.{Ran, run}
use Rattle.stages.specs.Stages.{look, walk_of}
use Rattle.stages.specs.Through.{Each, Agree}
use Rattle.stages.proofs.Ends.{lands_inside}
use Rattle.stages.proofs.Images.{same-walk}
use Rattle.stages.proofs.Follows.{loads_where_stores}
use Rattle.hypervisor.specs.declared.Operation.TheVariants.{Hlv, Hsv}
use Rattle.hypervisor.specs.Hypervisor.{End, kind_of, refusal_of, access_for, walk_for}
use Rattle.hart.specs.declared.state.Hart.{Hart}
use Rattle.hart.specs.declared.event.Outcome.TheVariants.{Done}
use Rattle.hart.specs.declared.event.Halt.{Halt}
use Rattle.hart.specs.declared.event.Halt.TheVariants.{Refuses, Raises}
use Rattle.hart.specs.declared.guest.Reach.{Reach}
use Rattle.hart.specs.Hart.{context, paging, passes}
use Rattle.hart.specs.Event.{is_done, unless_refused, stop_of, moved}
use Rattle.hart.specs.Guest.{ended, arrived, reached_by, reach, load, hlv, hsv}
use Rattle.invariants.specs.Events as events
use Rattle.invariants.specs.Events.{run as run-event}
use Rattle.invariants.proofs.Passing.{accepted_passes}
use Rattle.invariants.proofs.Reached.{listed, listed-walk, misaligned_one}

-- an event that goes on does so in any hart that passes, with the same refusal and verdict
goes_too : (h h' : Hart) (own : Result Unit Refusal) (v : Verdict) → passes h' ≡ true → stop_of h own v ≡ Ok tt → stop_of h' own v ≡ Ok tt
goes_too h h' own v p = rw p (go (passes h))
  where
    rest : Result Unit Halt
    rest = unless_refused own (pick v.gives2 (Err (Raises 2)) (pick v.gives22 (Err (Raises 22)) (Ok tt)))

    go : (b : Bool) → pick (not b) (Err (Refuses refusals.Hart)) rest ≡ Ok (tt {0}) → rest ≡ Ok tt
    go true e = e
    go false e = clash (cc)

each_of : {P Q : Read → Type 0} → ((x : Read) → P x → Q x) → (xs : List Read) → Each P xs → Each Q xs
each_of f [] e = tt
each_of f (x ∷ xs) e = (f x e.0, each_of f xs e.1)

module _ (h : Hart) (base : ℕ) (bytes : List ℕ) (width address word : ℕ) where
  -- the store's access, its walk and whether it goes on; the load's access
  abbrev stores : Access
  stores = access_for Hsv (context h) (paging h) address width

  abbrev loads : Access
  loads = access_for Hlv (context h) (paging h) address width

  abbrev ran : Ran End
  ran = run (look base bytes) (walk_of base (length bytes) stores)

  abbrev stop : Result Unit Halt
  stop = stop_of h (refusal_of Hsv base (length bytes) width) (hypervisor_access (context h))

  abbrev r : Reach
  r = reach h Hsv base bytes width address word

  -- a store that was done went on, to an address
  record Went : Type 0 where
    m : Machine
    goes : stop ≡ Ok tt
    whole : misaligned (kind_of Hsv) address width ≡ false
    ends : ran.end ≡ Ok m

  went : is_done r.outcome ≡ true → Went
  unfolding reach walk_for
  went = by_stop stop refl
    where
      by_end : stop ≡ Ok (tt {0}) → misaligned (kind_of Hsv) address width ≡ false → (e : End) → ran.end ≡ e → is_done (ended h e).outcome ≡ true → Went
      by_end g w (Ok m) e d = record { m = m; goes = g; whole = w; ends = e }
      by_end g w (Err f) e d = clash d

      by_whole : stop ≡ Ok (tt {0}) → (b : Bool) → misaligned (kind_of Hsv) address width ≡ b → is_done (ended h (pick b (misaligned_one stores) ran).end).outcome ≡ true → Went
      by_whole g true w d = clash d
      by_whole g false w d = by_end g w ran.end refl d

      by_stop : (s : Result Unit Halt) → stop ≡ s → is_done (reached_by s h word (walk_for base bytes stores)).outcome ≡ true → Went
      by_stop (Ok t) g d = by_whole g (misaligned (kind_of Hsv) address width) refl d
      by_stop (Err (Refuses r)) g d = clash d
      by_stop (Err (Raises n)) g d = clash d

  module _ (size : length h.regs ≡ kept) (done : is_done r.outcome ≡ true) where
    w : Went
    w = went done

    arrives_at : r ≡ arrived h ran
    unfolding reach walk_for
    arrives_at = rw (w.goes, w.whole)

    at : r.at ≡ w.m.0
    at = ap (λ (x : Reach). x.at) arrives_at ∙ rw w.ends

    hart : r.hart ≡ moved h
    hart = ap (λ (x : Reach). x.hart) arrives_at ∙ rw w.ends

    outcome : r.outcome ≡ Done
    outcome = ap (λ (x : Reach). x.outcome) arrives_at ∙ rw w.ends

    -- the load's walk is the store's
    same_ran : run (look base bytes) (walk_of base (length bytes) loads) ≡ ran
    same_ran = loads_where_stores (look base bytes) base (length bytes) stores w.m w.ends

    inside : (base ≤ w.m.0) × (w.m.0 + width ≤ base + length bytes)
    inside = within_facts base (length bytes) w.m.0 width (lands_inside (look base bytes) base (length bytes) stores w.m w.ends)

    module _ (value : ℕ) (apart : Each (λ (x : Read). (x.address.0 + 8 ≤ r.at) ⊎ (r.at + width ≤ x.address.0)) (listed r)) where
      abbrev after : List ℕ
      after = stored base bytes w.m.0 width value

      grown : length bytes ≡ length after
      grown = sym (stored-length base bytes w.m.0 width value)

      agree : Agree (look base bytes) (look base after) (run (look base bytes) (walk_of base (length bytes) loads)).reads
      agree =
          rw same_ran
          (each_of (λ x e. entry_apart base bytes w.m.0 width value inside.0 x.address.0 (rw at at e)) ran.reads
          (rw (ap listed arrives_at ∙ listed-walk h ran) at apart))

      passes_too : passes (moved h) ≡ true
      unfolding run-event
      passes_too = rw hart at (accepted_passes (events.reaches Hsv base bytes width address word) h size (rw outcome))

      back : (word' : ℕ) → reach (moved h) Hlv base after width address word' ≡ arrived (moved h) ran
      unfolding reach walk_for refusal_of
      back word' = rw (← grown, goes_too h (moved h) (refusal_of Hsv base (length bytes) width) (hypervisor_access (context h)) passes_too w.goes, w.whole, same-walk base bytes after grown (walk_of base (length bytes) loads) agree, same_ran)

      -- the image after a store that was done, its tables not overwritten: a load of the same address and width gives the value's low bytes, extended
      pub loads_back : (signed : Bool) (word' : ℕ) → let p = hsv h base bytes width address value word in
          hlv p.0.hart base p.1 width signed address word' ≡ record { hart = moved p.0.hart; outcome = Done; value = extended signed width (value % 2 ^ (8 * width)); reads = p.0.reads; count = p.0.count }
      unfolding hsv load loaded
      loads_back signed word' = rw (outcome, at, hart, back word', w.ends, stored_loads base bytes w.m.0 width value (omega (arith, inside.0, inside.1)), arrives_at)
