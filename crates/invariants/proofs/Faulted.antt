-- Where the traps of hypervisor loads and stores go, and what they tell. Assumes nothing.
use Rattle.std.specs.Prelude.{Ok, Err}
use mathlib.Core.Path.{◌≡◌, refl, sym, subst, ◌∙◌}
use mathlib.Core.Bool.{Bool, true, false}
use mathlib.Core.List.{List}
use mathlib.Core.Logic.{◌⊎◌, inl, inr}
use Prim.Native.Nat.{ℕ, ◌/◌, ◌≤◌}
use native.Mathlib.Omega.{arith}
use lib.Dec.{eqb}
use lib.ListN.{length}
use borrow.Author.Tests.{eq-eqb}
use Rattle.std.specs.Prelude.{Result}
use Rattle.bits.specs.Field.{pick, get}
use Rattle.bits.proofs.Bools.{clash}
use Rattle.bits.proofs.Fields.{get-lt}
use Rattle.bits.proofs.Tests.{fits, apart, got, other}
use Rattle.registers.specs.Fields.{SPV, SPVP}
use Rattle.registers.specs.Places.{kept, vsatp, hstatus, medeleg, hedeleg, hgatp}
use Rattle.registers.specs.Rules.{among}
use Rattle.exceptions.specs.declared.Exception.{Exception}
use Rattle.traps.specs.Request.{impossible}
use Rattle.instructions.specs.Instructions.{hypervisor_access}
use Rattle.delivery.specs.declared.Target.{Target}
use Rattle.delivery.specs.declared.Target.TheVariants.{M, HS, VS}
use Rattle.delivery.specs.Delivery.{target}
use Rattle.access.specs.declared.Access.{Access}
use Rattle.access.specs.Widths.{misaligned}
use Rattle.access.specs.Faults.{raised, misalignment}
use Rattle.access.proofs.Faults.{not-high, misalignment-low}
use Rattle.rules.specs.declared.Kind.TheVariants.{Load, Store}
use Rattle.rules.specs.Kind.{by}
use Rattle.stages.specs.Tree.{Ran, run}
use Rattle.stages.specs.Stages.{look, walk_of}
use Rattle.stages.specs.Denied.{GuestPageFault}
use Rattle.stages.proofs.Raised.{every-fault}
use Rattle.stages.proofs.Guarded.{guest-page-fault}
use Rattle.effective.specs.Effective.{is_bare, root, first_root, second_root}
use Rattle.effective.proofs.Roots.{on-depth}
use Rattle.hypervisor.specs.declared.Operation.{Operation}
use Rattle.hypervisor.specs.declared.Operation.TheVariants.{Hlv, Hlvx, Hsv}
use Rattle.hypervisor.specs.Hypervisor.{End, by_operation, kind_of, refusal_of, access_for, walk_for}
use Rattle.hart.specs.declared.state.Hart.{Hart}
use Rattle.hart.specs.declared.event.Step.{Step}
use Rattle.hart.specs.declared.event.Halt.{Halt}
use Rattle.hart.specs.declared.guest.Reach.{Reach}
use Rattle.hart.specs.declared.event.Outcome.TheVariants.{Trapped}
use Rattle.hart.specs.Hart.{reg, context, paging, passes}
use Rattle.hart.specs.Deliver.{delivered_m, delivered_hs, delivered_to, delivered}
use Rattle.hart.specs.Event.{plain, settled}
use Rattle.hart.specs.Trap.{trap}
use Rattle.hart.specs.Guest.{ended, arrived, reached_by, reach}
use Rattle.translate.specs.Causes.{causes_of}
use Rattle.translate.proofs.Delivered.{can_misalign, can_access, can_page, can_guest_page, can_entry}
use Rattle.invariants.specs.Events.{step_at, told}
use Rattle.invariants.proofs.Mode.{Mode, passing}
use Rattle.invariants.proofs.Mode as modes
use Rattle.invariants.proofs.Settled.{stop_cases, settled_cases}
use Rattle.invariants.proofs.Comes.{reach_settles}
use Rattle.invariants.proofs.Reached.{listed, listed-walk, misaligned_one}
use Rattle.invariants.proofs.Sides.{only_from_guest}
use Rattle.invariants.proofs.Told.{after-trap, tells, tells-plain}

-- HLVX "faults as a load", as HLV does, HSV as a store
abbrev pub causes : Operation → List ℕ
causes o = by_operation o (causes_of Load) (causes_of Load) (causes_of Store)

module _ (h : Hart) (o : Operation) (base : ℕ) (bytes : List ℕ) (width address word : ℕ) where
  abbrev a : Access
  a = access_for o (context h) (paging h) address width

  -- a fault of its access: "the value is the virtual address", "its flag the effective V, 1"; a trap request that can arise
  pub record Fault (f : Exception) : Type 0 where
    pub cause : among f.cause (causes o) ≡ true
    pub value : f.value ≡ address
    pub flag : f.flag ≡ true
    pub possible : impossible (context h) f ≡ false

  -- a fault with one of three causes, by the operation's kind
  fault-by : (z x y value2 w : ℕ) → among x (causes Hlv) ≡ true → among y (causes Hsv) ≡ true → impossible (context h) (raised a (by a.kind z x y) value2 w) ≡ false → Fault (raised a (by a.kind z x y) value2 w)
  fault-by z x y value2 w p q k = record { cause = go o; value = refl; flag = refl; possible = k }
    where
      go : (op : Operation) → among (by (kind_of op) z x y) (causes op) ≡ true
      go Hlv = p
      go Hlvx = p
      go Hsv = q

  fault-of : (f : Exception) → (walk_for base bytes a).end ≡ Err f → Fault f
  unfolding walk_for
  fault-of f = go (misaligned (kind_of o) address width)
    where
      go : (b : Bool) → (pick b (misaligned_one a) (run (look base bytes) (walk_of base (length bytes) a))).end ≡ Err f → Fault f
      go true e = let q : misalignment a ≡ f = cc in subst Fault q (fault-by 0 4 6 0 0 refl refl (can_misalign (context h) a (λ v. refl)))
      go false e =
          every-fault Fault base (length bytes) a (fault-by 1 5 7 0 0 refl refl (can_access (context h) a (λ v. refl))) (fault-by 12 13 15 0 0 refl refl (can_page (context h) a (λ v. refl)))
          (λ on g. fault-by 20 21 23 (g.0 / 4) 0 refl refl (can_guest_page (context h) a refl g))
          (λ on g. fault-by 20 21 23 (g.0 / 4) 0x3000 refl refl (can_entry (context h) a refl g)) (look base bytes) f e

  abbrev r : Reach
  r = reach h o base bytes width address word

  -- why it trapped: with 2 or 22, "both carry the word"; or with a fault, from V=0
  pub data Why : Exception → Type 0 where
    by_word : (cause : ℕ) → (cause ≡ 2) ⊎ (cause ≡ 22) → Why (plain cause word)
    by-fault : (f : Exception) → passes h ≡ true → eqb h.v 1 ≡ false → Fault f → Why f

  -- a step that trapped with a cause: what was delivered, and why
  pub record Trap (cause : ℕ) (s : Step) : Type 0 where
    pub t : Exception
    pub same : t.cause ≡ cause
    pub why : Why t
    pub taken : s.hart ≡ delivered h t

  pub every-trap : (cause : ℕ) → r.outcome ≡ Trapped cause → Trap cause (step_at r)
  every-trap cause =
      subst (λ (s : Step). s.outcome ≡ Trapped cause → Trap cause s) (sym (reach_settles o base bytes width address word h))
      (settled_cases (λ (s : Step). s.outcome ≡ Trapped cause → Trap cause s) h (refusal_of o base (length bytes) width) (hypervisor_access (context h)) word (ended h (walk_for base bytes a).end)
      (λ r e. clash (cc)) (λ p c which e. let k : c ≡ cause = cc in record { t = plain c word; same = k; why = by_word c which; taken = refl }) (λ p own no2 no22. by_end p no22 (walk_for base bytes a).end refl))
    where
      by_end : passes h ≡ true → eqb h.v 1 ≡ false → (e : End) → (walk_for base bytes a).end ≡ e → (ended h e).outcome ≡ Trapped cause → Trap cause (ended h e)
      by_end p v (Ok m) q e = clash (cc)
      by_end p v (Err f) q e = let k : f.cause ≡ cause = cc in record { t = f; same = k; why = by-fault f p v (fault-of f q); taken = refl }

  -- no fault has cause 2 or 22
  none : (op : Operation) → (among 2 (causes op) ≡ false) × (among 22 (causes op) ≡ false)
  none Hlv = (refl, refl)
  none Hlvx = (refl, refl)
  none Hsv = (refl, refl)

  excluded : (c : ℕ) → (c ≡ 2) ⊎ (c ≡ 22) → among c (causes o) ≡ false
  excluded c (inl p) = rw p (none o).0
  excluded c (inr p) = rw p (none o).1

  -- a fault's trap to a level other than VS
  module _ (f : Exception) (size : length h.regs ≡ kept) (k : Fault f) (p : passes h ≡ true) (not-guest : eqb h.v 1 ≡ false) where
    -- where it leaves the hart
    record Left (h' : Hart) : Type 0 where
      v : h'.v ≡ 0
      told_all : told h' ≡ f
      spvp : get SPVP (reg h' hstatus) ≡ get SPVP (reg h hstatus)
      spv : h'.privilege ≡ 1 → get SPV (reg h' hstatus) ≡ 0

    zero-v : {v q : ℕ} → Mode v q → eqb v 1 ≡ false → v ≡ 0
    zero-v modes.U n = refl
    zero-v modes.HS n = refl
    zero-v modes.M n = refl
    zero-v modes.VU n = clash (sym n)
    zero-v modes.VS n = clash (sym n)

    left-to : (to : Target) → (to ≡ VS → h.v ≡ 1) → Left (delivered_to to h f)
    unfolding delivered_m delivered_hs apart fits
    left-to M n = record { v = refl; told_all = tells M h f size; spvp = rw (after-trap M h f size hstatus); spv = λ q. absurd (omega arith) }
    left-to HS n =
        let at = after-trap HS h f size hstatus in
        let zero = zero-v (passing h p).mode not-guest in
        record {
          v = refl;
          told_all = tells HS h f size;
          spvp = rw (at, other SPV SPVP refl, not-guest) (got SPVP refl (get SPVP (reg h hstatus)) _ (get-lt SPVP (reg h hstatus)));
          spv = λ q. rw (at, zero) (got SPV refl 0 _ (omega arith));
        }
    left-to VS n = clash (sym not-guest ∙ eq-eqb h.v 1 (n refl))

    left : Left (delivered h f)
    unfolding delivered
    left = left-to (target (context h) (reg h medeleg) (reg h hedeleg) f.cause) (only_from_guest h f.cause)

  -- ---- what the level that takes it is told

  module _ (size : length h.regs ≡ kept) (cause : ℕ) (e : r.outcome ≡ Trapped cause) where
    -- "both carry the word"
    pub tells-word : (cause ≡ 2) ⊎ (cause ≡ 22) → told r.hart ≡ plain cause word
    tells-word which = go k.t k.same k.taken k.why
      where
        k : Trap cause (step_at r)
        k = every-trap cause e

        go : (t : Exception) → t.cause ≡ cause → r.hart ≡ delivered h t → Why t → told r.hart ≡ plain cause word
        go t p d (by_word c w) = rw (d, ← p) (tells-plain h c word size)
        go t p d (by-fault f pass v k) = clash (sym (rw p (excluded cause which)) ∙ k.cause)

    -- a fault's trap: "from the hart's own mode (V was 0: SPV=0, SPVP kept, never into VS), its flag the effective V, 1"; a trap request with what is told gives the same
    pub record Outside : Type 0 where
      pub v : r.hart.v ≡ 0
      pub cause-told : (told r.hart).cause ≡ cause
      pub value : (told r.hart).value ≡ address
      pub flag : (told r.hart).flag ≡ true
      pub spvp : get SPVP (reg r.hart hstatus) ≡ get SPVP (reg h hstatus)
      pub spv : r.hart.privilege ≡ 1 → get SPV (reg r.hart hstatus) ≡ 0
      pub request : (trap h (told r.hart)).hart ≡ r.hart

    pub taken-outside : among cause (causes o) ≡ true → Outside
    unfolding trap settled
    taken-outside which = go k.t k.same k.taken k.why
      where
        k : Trap cause (step_at r)
        k = every-trap cause e

        go : (t : Exception) → t.cause ≡ cause → r.hart ≡ delivered h t → Why t → Outside
        go t p d (by_word c w) = clash (sym (rw p at (excluded c w)) ∙ which)
        go t p d (by-fault f pass v x) =
            let l = left f size x pass v in
            record {
              v = rw d l.v;
              cause-told = rw (d, l.told_all) p;
              value = rw (d, l.told_all) x.value;
              flag = rw (d, l.told_all) x.flag;
              spvp = rw d l.spvp;
              spv = rw d l.spv;
              request = rw (d, l.told_all, pass, x.possible);
            }

    -- a guest-page fault's: it is "the fault of the original access" (2026-04), of the guest entry that the first stage had come to by the items listed, or of the access itself
    pub guest-page-told : among cause (causes o) ≡ true → 20 ≤ cause → is_bare (reg h hgatp) ≡ false
        → GuestPageFault (root (reg h vsatp)) (by_operation o Load Load Store) address true (listed r) (told r.hart)
    unfolding reach walk_for first_root second_root
    guest-page-told which high on =
        stop_cases (λ (s : Result Unit Halt). Told (reached_by s h word walked)) h (refusal_of o base (length bytes) width) (hypervisor_access (context h)) (λ r q. clash (cc))
        (λ p c w q. let k : c ≡ cause = cc in clash (sym (rw k at (excluded c w)) ∙ which)) (λ p own no2 no22. by_end p no22 walked.end refl) e
      where
        walked : Ran End
        walked = walk_for base bytes a

        Told : Reach → Type 0
        Told x = x.outcome ≡ Trapped cause → GuestPageFault (root (reg h vsatp)) (by_operation o Load Load Store) address true (listed x) (told x.hart)

        met : (f : Exception) → 20 ≤ f.cause → (b : Bool)
            → let w = pick b (misaligned_one a) (run (look base bytes) (walk_of base (length bytes) a)) in
            w.end ≡ Err f → GuestPageFault (root (reg h vsatp)) (kind_of o) address true w.reads f
        met f c true q = let k : f ≡ misalignment a = cc in not-high (misalignment a) f k (misalignment-low a) c
        met f c false q = guest-page-fault (look base bytes) base (length bytes) a (on-depth (reg h hgatp) on) f q c

        by_end : passes h ≡ true → eqb h.v 1 ≡ false → (x : End) → walked.end ≡ x → Told (arrived h (record { end = x; reads = walked.reads }))
        by_end p v (Ok m) q t = clash (cc)
        by_end p v (Err f) q t =
            let k : f.cause ≡ cause = cc in
            rw (listed-walk h walked, (left f size (fault-of f q) p v).told_all) (met f (rw k high) (misaligned (kind_of o) address width) q)
