-- Demand 3 of the hypervisor loads and stores: their list is that of a walk made for the guest. Assumes nothing.
use Rattle.std.specs.Prelude.{Ok, Err}
use mathlib.Core.Path.{◌≡◌, refl, sym, ap, subst, ◌∙◌}
use mathlib.Core.Bool.{Bool, true, false, ◌||◌, not}
use mathlib.Core.List.{List, [], ◌∷◌, ◌++◌}
use mathlib.Core.Logic.{◌⊎◌, inl, inr}
use Prim.Native.Nat.{ℕ, ◌-◌, ◌*◌, ◌%◌, ◌<◌, ◌≤◌, zero-le}
use native.Mathlib.Nat.{mul-one, one-mul}
use native.Mathlib.Omega.{arith}
use lib.Dec.{eqb}
use lib.ListN.{length, take, drop}
use lib.Seq.{take-append_seam, drop-append_seam}
use borrow.Author.Tests.{eqb-true, not-false}
use Rattle.std.specs.Prelude.{Result, Ok, Err}
use Rattle.exceptions.specs.declared.Refusal.{Refusal}
use Rattle.exceptions.specs.declared.Refusal.TheVariants as refusals
use Rattle.bits.specs.Field.{pick, get}
use Rattle.bits.proofs.Bools.{clash}
use Rattle.registers.specs.Fields.{MXR, HU, MODE}
use Rattle.registers.specs.Places.{vsatp, hgatp, mstatus, hstatus}
use Rattle.privilege.specs.Mode.{is_set}
use Rattle.privilege.specs.declared.Verdict.{Verdict}
use Rattle.instructions.specs.Instructions.{hypervisor_access}
use Rattle.image.specs.Image.{unfit}
use Rattle.rules.specs.declared.Right.{Right}
use Rattle.access.specs.declared.Access.{Access}
use Rattle.access.specs.declared.Root.{Root}
use Rattle.access.specs.Widths.{known, misaligned}
use Rattle.access.specs.Faults.{misalignment}
use Rattle.access.proofs.Widths.{Aligned, a_power}
use Rattle.stages.specs.declared.Read.{Read}
use Rattle.stages.specs.Tree.{Ran, run}
use Rattle.stages.specs.Stages.{look, machine, walk_of}
use Rattle.stages.specs.Listed.{places, most, unused}
use Rattle.stages.specs.Through.{Agree, Shown, own_right, GuestEntry, AnsweredThrough}
use Rattle.stages.proofs.Bounds.{most-places, at_most}
use Rattle.stages.proofs.Images.{same-walk, shown-run}
use Rattle.stages.proofs.Guarded.{guarded}
use Rattle.effective.specs.Effective.{is_bare, depth, root, second_root, first_root}
use Rattle.effective.proofs.Roots.{bare-depth, on-depth}
use Rattle.hypervisor.specs.declared.Operation.{Operation}
use Rattle.hypervisor.specs.declared.Operation.TheVariants.{Hlv, Hlvx, Hsv}
use Rattle.hypervisor.specs.Hypervisor.{End, by_operation, kind_of, refusal_of, access_for, walk_for}
use Rattle.hypervisor.proofs.Taken.{taken, tables_for}
use Rattle.hart.specs.declared.state.Hart.{Hart}
use Rattle.hart.specs.declared.event.Step.{Step}
use Rattle.hart.specs.declared.event.Halt.{Halt}
use Rattle.hart.specs.declared.event.Halt.TheVariants.{Refuses, Raises}
use Rattle.hart.specs.declared.guest.Reach.{Reach}
use Rattle.hart.specs.Hart.{reg, context, paging, passes}
use Rattle.hart.specs.Event.{refusal, is_done, refused, raised, trapped, unless_refused, stop_of}
use Rattle.hart.specs.Guest.{ended, unwalked, arrived, reached_by, reach}
use Rattle.translate.specs.Translated.{first_refusal, refusal_number}
use Rattle.translate.proofs.Demand.{not_empty}
use Rattle.invariants.proofs.Settled.{stop_cases}

-- the items listed: the places up to the count
abbrev pub listed : Reach → List Read
listed r = take r.count r.reads

pub listed-walk : (h : Hart) (r : Ran End) → listed (arrived h r) ≡ r.reads
listed-walk h r = take-append_seam r.reads (unused (places - length r.reads))

-- a misaligned access, and one that is none
abbrev pub misaligned_one : Access → Ran End
misaligned_one a = record { end = Err (misalignment a); reads = [] }

whole : (o : Operation) (address width : ℕ) → misaligned (kind_of o) address width ≡ false → address % width ≡ 0
whole Hlv address width e = eqb-true _ _ (not-false _ e)
whole Hlvx address width e = eqb-true _ _ (not-false _ e)
whole Hsv address width e = eqb-true _ _ (not-false _ e)

module _ (h : Hart) (o : Operation) (base : ℕ) (bytes : List ℕ) (width address word : ℕ) where
  -- the access made for the guest, and its walk over the image
  abbrev pub accessed : Access
  accessed = access_for o (context h) (paging h) address width

  abbrev pub ran : Ran End
  ran = run (look base bytes) (walk_of base (length bytes) accessed)

  abbrev r : Reach
  r = reach h o base bytes width address word

  -- what holds of those without a walk, none of which is done, and of the walk holds of every one
  pub each : (P : Reach → Type 0) → ((s : Step) → is_done s.outcome ≡ false → P (unwalked s)) → (passes h ≡ true → Aligned address width → P (arrived h ran)) → P r
  unfolding reach walk_for
  each P u w =
      stop_cases (λ (s : Result Unit Halt). P (reached_by s h word (walk_for base bytes accessed))) h (refusal_of o base (length bytes) width) (hypervisor_access (context h)) (λ r. u (refused h r) refl)
      (λ p cause which. u (raised h cause word) refl) (λ p own no2 no22. goes p own (misaligned (kind_of o) address width) refl)
    where
      goes : passes h ≡ true → refusal_of o base (length bytes) width ≡ Ok tt → (b : Bool) → misaligned (kind_of o) address width ≡ b → P (arrived h (pick b (misaligned_one accessed) ran))
      goes p own true e = u (trapped h (misalignment accessed)) refl
      goes p own false e = w p (a_power address width (taken o base (length bytes) width own).form (whole o address width e))

  -- what it comes to once nothing of its own stopped it is no refusal
  not-refused : (e : End) → refusal (ended h e).outcome ≡ 0
  not-refused (Ok m) = refl
  not-refused (Err f) = refl

  -- "refusal 2, 1, 3 (width not 1, 2, 4, 8; HLVX of 1 or 8)": it is refused exactly by the first of these
  pub refused-by : refusal r.outcome ≡ refusal_number (first_refusal ((not (passes h), Refusal.Hart) ∷ (unfit base (length bytes), Refusal.Image) ∷ (not (by_operation o (known width) (eqb width 2 || eqb width 4) (known width)), Refusal.Access) ∷ []))
  unfolding reach refusal_of
  refused-by = go (not (passes h)) (unfit base (length bytes)) (not (by_operation o (known width) (eqb width 2 || eqb width 4) (known width)))
    where
      v : Verdict
      v = hypervisor_access (context h)

      last : (a b : Bool) → refusal (reached_by (pick a (Err (Raises 2)) (pick b (Err (Raises 22)) (Ok (tt {0})))) h word (walk_for base bytes accessed)).outcome ≡ 0
      last true b = refl
      last false true = refl
      last false false = not-refused (walk_for base bytes accessed).end

      go : (a b c : Bool) → let own : Result Unit Refusal = pick b (Err refusals.Image) (pick c (Err refusals.Access) (Ok tt)) in
          refusal (reached_by (pick a (Err (Refuses refusals.Hart)) (unless_refused own (pick v.gives2 (Err (Raises 2)) (pick v.gives22 (Err (Raises 22)) (Ok tt))))) h word (walk_for base bytes accessed)).outcome ≡ refusal_number (first_refusal ((a, refusals.Hart) ∷ (b, refusals.Image) ∷ (c, refusals.Access) ∷ []))
      go true b c = refl
      go false true c = refl
      go false false true = refl
      go false false false = last v.gives2 v.gives22

  -- a refusal leaves the hart as given and the list empty
  pub refusal_empty : 0 < refusal r.outcome → (x : Refusal) × (r ≡ unwalked (refused h x))
  unfolding reach
  refusal_empty = go (stop_of h (refusal_of o base (length bytes) width) (hypervisor_access (context h)))
    where
      go : (s : Result Unit Halt) → let r = reached_by s h word (walk_for base bytes accessed) in 0 < refusal r.outcome → (x : Refusal) × (r ≡ unwalked (refused h x))
      go (Ok t) l = absurd (omega (arith, l, not-refused (walk_for base bytes accessed).end))
      go (Err (Refuses x)) l = (x, refl)
      go (Err (Raises n)) l = absurd (omega (arith, l))

  -- "V=1 gives 22; U with HU=0 gives 2", in order, with an empty list; else its walk, also with V=0 in U with HU=1, in HS and in M
  module _ (p : passes h ≡ true) (own : refusal_of o base (length bytes) width ≡ Ok tt) where
    pub gives_22 : h.v ≡ 1 → r ≡ unwalked (raised h 22 word)
    unfolding reach
    gives_22 v = rw (p, own, v)

    pub gives_2 : h.v ≡ 0 → h.privilege ≡ 0 → get HU (reg h hstatus) ≡ 0 → r ≡ unwalked (raised h 2 word)
    unfolding reach
    gives_2 v u hu = rw (p, own, v, u, hu)

    pub user-goes : h.v ≡ 0 → h.privilege ≡ 0 → get HU (reg h hstatus) ≡ 1 → r ≡ arrived h (walk_for base bytes accessed)
    unfolding reach
    user-goes v u hu = rw (p, own, v, u, hu)

    pub host_goes : h.v ≡ 0 → (h.privilege ≡ 1) ⊎ (h.privilege ≡ 3) → r ≡ arrived h (walk_for base bytes accessed)
    unfolding reach
    host_goes v (inl s) = rw (p, own, v, s)
    host_goes v (inr m) = rw (p, own, v, m)

  -- "n levels over m levels read at most (n+1)(m+1)-1 entries": vsatp's tables over hgatp's, Bare's 0 deep
  pub both_stages : r.count ≤ most (depth (get MODE (reg h vsatp))) (depth (get MODE (reg h hgatp)))
  unfolding first_root second_root
  both_stages = each (λ (x : Reach). x.count ≤ most (depth (get MODE (reg h vsatp))) (depth (get MODE (reg h hgatp)))) (λ s d. zero-le) (λ p k. at_most accessed base (length bytes) (look base bytes))

  pub first_alone : is_bare (reg h hgatp) ≡ true → r.count ≤ depth (get MODE (reg h vsatp))
  first_alone e = omega (arith, rw (bare-depth (reg h hgatp) e, mul-one) at both_stages)

  pub second_alone : is_bare (reg h vsatp) ≡ true → r.count ≤ depth (get MODE (reg h hgatp))
  second_alone e = omega (arith, rw (bare-depth (reg h vsatp) e, one-mul) at both_stages)

  pub no_stage : is_bare (reg h vsatp) ≡ true → is_bare (reg h hgatp) ≡ true → r.count ≡ 0
  no_stage e f = omega (arith, rw (bare-depth (reg h vsatp) e, bare-depth (reg h hgatp) f) at both_stages)

  -- the list has a place for each
  pub in_places : r.count ≤ places
  unfolding first_root second_root
  in_places = let k = tables_for o (context h) (paging h) address width in omega (arith, most-places _ _ k.first k.second, both_stages)

  -- the places beyond the count are zero
  pub beyond_count : drop r.count r.reads ≡ unused (places - r.count)
  beyond_count = each (λ (x : Reach). drop x.count x.reads ≡ unused (places - x.count)) (λ s d. refl) (λ p k. drop-append_seam ran.reads (unused (places - length ran.reads)))

  -- each item listed is what the image has at its address
  pub shown : Shown (look base bytes) (listed r)
  shown = each (λ (x : Reach). Shown (look base bytes) (listed x)) (λ s d. tt) (λ p k. rw (listed-walk h ran) (shown-run (look base bytes) (walk_of base (length bytes) accessed)))

  -- ---- with the second stage on

  module _ (on : is_bare (reg h hgatp) ≡ false) where
    -- vsatp's tables and hgatp's
    abbrev vs : Root
    vs = root (reg h vsatp)

    abbrev g : Root
    g = root (reg h hgatp)

    -- "R; X for HLVX; W": to read R, or X with mstatus's MXR
    abbrev own : ℕ → Bool
    own = own_right (by_operation o Right.Read Right.Execute Right.Write) (is_set MXR (reg h mstatus))

    second-on : 0 < accessed.second.levels
    unfolding second_root
    second-on = on-depth (reg h hgatp) on

    -- each guest entry listed is on a page that the second-stage walk directly before it let through with R and U, of HLVX too
    pub guest_entries : (earlier : List Read) (x : Read) (later : List Read) → listed r ≡ earlier ++ (x ∷ later) → x.stage ≡ 1 → GuestEntry vs g address (vs.levels - 1) (vs.ppn * 4096) earlier x
    unfolding first_root second_root
    guest_entries earlier x later e one =
        each (λ (y : Reach). listed y ≡ earlier ++ (x ∷ later) → GuestEntry vs g address (vs.levels - 1) (vs.ppn * 4096) earlier x) (λ s d q. not_empty earlier x later q)
        (λ p k q. (guarded (look base bytes) base (length bytes) accessed second-on k.k k.small k.multiple).entries earlier x later one (sym (listed-walk h ran) ∙ q)) e

    -- the bytes loaded or stored lie on a page that the second-stage walk ending the list let through, for the first stage's result, with the right needed and U
    pub bytes_let_through : is_done r.outcome ≡ true → AnsweredThrough vs g own address (listed r) (machine r.at) width
    unfolding first_root second_root
    bytes_let_through =
        each (λ (y : Reach). is_done y.outcome ≡ true → AnsweredThrough vs g own address (listed y) (machine y.at) width) (λ s d q. clash (sym d ∙ q)) (λ p k. by_end k ran.end refl)
      where
        by_end : Aligned address width → (e : End) → ran.end ≡ e → is_done (arrived h (record { end = e; reads = ran.reads })).outcome ≡ true
            → AnsweredThrough vs g own address (listed (arrived h (record { end = e; reads = ran.reads }))) (machine (arrived h (record { end = e; reads = ran.reads })).at) width
        by_end k (Err f) q d = clash d
        by_end k (Ok m) q d =
            rw (listed-walk h ran)
            (subst (λ (n : ℕ). AnsweredThrough vs g own address ran.reads m n) (sym k.size)
            ((guarded (look base bytes) base (length bytes) accessed second-on k.k k.small k.multiple).answer m q))

-- two images of one base and length that agree on the entries listed for one of them: the same hart, the same fault or address, and the same list
pub same-reach : (h : Hart) (o : Operation) (base : ℕ) (s s' : List ℕ) (width address word : ℕ) → length s ≡ length s' → Agree (look base s) (look base s') (listed (reach h o base s width address word))
    → reach h o base s' width address word ≡ reach h o base s width address word
unfolding reach walk_for
same-reach h o base s s' width address word e = rw (← e) (go (stop_of h (refusal_of o base (length s) width) (hypervisor_access (context h))))
  where
    a : Access
    a = access_for o (context h) (paging h) address width

    -- the walk, or the misalignment, over an image of that length
    over : Bool → List ℕ → Ran End
    over b t = pick b (misaligned_one a) (run (look base t) (walk_of base (length s) a))

    walks : (b : Bool) → Agree (look base s) (look base s') (listed (arrived h (over b s))) → over b s' ≡ over b s
    walks true k = refl
    walks false k = same-walk base s s' e (walk_of base (length s) a) (rw (listed-walk h (run (look base s) (walk_of base (length s) a))) at k)

    m : Bool
    m = misaligned (kind_of o) address width

    go : (x : Result Unit Halt) → Agree (look base s) (look base s') (listed (reached_by x h word (over m s))) → reached_by x h word (over m s') ≡ reached_by x h word (over m s)
    go (Err halt) k = refl
    go (Ok t) k = ap (arrived h) (walks m k)
