-- Every accepted event leaves a hart that passes check 2. Assumes nothing.
use mathlib.Core.Path.{◌≡◌, refl, sym, ap, ap₂, subst, ◌∙◌}
use mathlib.Core.Bool.{Bool, true, false, ◌&&◌, ◌||◌, not}
use mathlib.Core.List.{List, [], ◌∷◌}
use mathlib.Core.Logic.{◌⊎◌, inl, inr, ⊎_elim}
use Prim.Native.Nat.{ℕ, zero, suc, ◌+◌, ◌*◌, ◌%◌, ◌^◌, ◌-◌, ◌<◌}
use native.Mathlib.Omega.{arith}
use lib.Bits.{bit_and, bit_or, and_zero_r, or_zero_r, and_mask}
use lib.Dec.{eqb, ltb}
use lib.ListN.{get_or, set, drop, length}
use lib.Seq.{get_or-set_same, get_or-set_other}
use borrow.Author.Tests.{eqb-true, eqb-false, eq-eqb, ltb-true}
use Rattle.std.specs.Prelude.{Some}
use Rattle.bits.specs.declared.Field.{Field}
use Rattle.bits.specs.Field.{pick, top, get, put, has, copy}
use Rattle.bits.specs.Assign.{◌after◌, ◌:=◌}
use Rattle.bits.specs.Every.{every}
use Rattle.bits.proofs.Bools.{and_left, and_right, or_cases, clash, and-false, or_left, or_right, and_rest, and_comm, split, pick_both}
use Rattle.bits.proofs.Fields.{get-lt, get-and, get-or, get_all}
use Rattle.bits.proofs.Tests.{fits, apart, outside, got, other}
use Rattle.bits.proofs.Assign.{untouched_kept}
use Rattle.bits.proofs.Every.{every-at, every_set}
use Rattle.registers.specs.Fields.{TVM, MIE, MPIE, MPRV, MPP, MPV, SPP, SPV}
use Rattle.registers.specs.Places.{kept, stvec, sepc, vsstatus, vstvec, vsepc, mstatus, mtvec, mepc, hstatus, medeleg, hedeleg}
use Rattle.registers.specs.Rules.{legal, among, stored, stores_epc, rule}
use Rattle.registers.specs.Views.{View, lets, up, stored_by, no_bits}
use Rattle.registers.specs.Registers.{count, Register, register, registers, at}
use Rattle.table.specs.Table.{is_machine, row_of}
use Rattle.registers.proofs.Legal.{taken-has, fine, takes, same, legal-allowed}
use Rattle.registers.proofs.Rows.{rule_sound, stored-legal, sound_view, reaches_sound}
use Rattle.status.specs.Trap.{into_m, into_s, into_h}
use Rattle.status.specs.Return.{from_m, from_s, from_hs, from_h}
use Rattle.status.proofs.Kept.{stays, Privilege, into_m_fine}
use Rattle.exceptions.specs.declared.Exception.{Exception}
use Rattle.delivery.specs.declared.Target.{Target}
use Rattle.delivery.specs.declared.Target.TheVariants.{M, HS, VS}
use Rattle.delivery.specs.Delivery.{target, base, is_interrupt, code, handler}
use Rattle.interrupts.specs.Interrupts.{chosen, interruption}
use Rattle.privilege.specs.Mode.{is_u, is_hs, is_m, is_set}
use Rattle.hart.specs.declared.state.Hart.{Hart}
use Rattle.hart.specs.declared.event.Step.{Step}
use Rattle.registers.specs.File.{Write, ◌↢◌, ◌with◌, holds}
use Rattle.hart.specs.Hart.{reg, context, lines, passes}
use Rattle.hart.specs.Deliver.{writes_m, writes_hs, writes_vs, delivered_m, delivered_hs, delivered_vs, delivered_to, delivered}
use Rattle.hart.specs.Event.{refusal, next, moved}
use Rattle.hart.specs.Return.{writes_mret, writes_hsret, writes_vsret, returned_m, returned_hs, returned_vs}
use Rattle.csr.specs.Access.{is_satp, is_hgatp, verdict}
use Rattle.hart.specs.Access.{written}
use Rattle.registers.proofs.Straight.{word-legal}
use Rattle.invariants.specs.Events.{Event, run}
use Rattle.invariants.specs.Learns.{guest}
use Rattle.invariants.proofs.Settled.{some_number}
use Rattle.invariants.proofs.Mode.{Mode, Passing, passing, passes_of}
use Rattle.invariants.proofs.Mode as mode
use Rattle.invariants.proofs.Writes.{all_in, outside_kept, with_holds}
use Rattle.invariants.proofs.Comes.{Allowed, reaches, Comes, refuses, traps, mrets, srets_VS, srets_HS, moves, writes, interrupts, rests, comes}
use Rattle.invariants.proofs.Taken.{taken-below}

-- ---- what single registers give and take

-- a place holds what is legal there
pub legal-at : (h : Hart) (place : ℕ) → Passing h → length h.regs ≡ kept → place < kept → legal (rule place) (reg h place) ≡ true
legal-at h place p l b = every-at holds h.regs 0 p.regs place (omega arith)

epc_legal : (x : ℕ) → x % 4 ≡ 0 → legal stores_epc x ≡ true
unfolding legal
epc_legal x e = rw (and_mask x 2) (eq-eqb _ _ e)

epc_aligned : (x : ℕ) → legal stores_epc x ≡ true → x % 4 ≡ 0
unfolding legal
epc_aligned x t = sym (and_mask x 2) ∙ eqb-true _ _ t

handler_aligned : (tvec cause : ℕ) → handler tvec cause % 4 ≡ 0
handler_aligned tvec cause = pick_both (λ (pc : ℕ). pc % 4 ≡ 0) (is_interrupt cause && has 0 tvec) ((base tvec + 4 * code cause) % 2 ^ 64) (base tvec) (λ e. omega arith) (λ e. omega arith)

next_aligned : (x : ℕ) → x % 4 ≡ 0 → next x % 4 ≡ 0
next_aligned x e = omega arith

-- what the first write put there, where no later one is to its place
first-written : (rs : List ℕ) (p x : ℕ) (ws : List Write) → p < length rs → all_in (λ q. not (eqb q p)) ws ≡ true → get_or (rs with (p ↢ x ∷ ws)) p 0 ≡ x
first-written rs p x ws l t = outside_kept (λ q. not (eqb q p)) ws (set rs p x) t p (ap not (eq-eqb p p refl)) ∙ get_or-set_same rs p x 0 l

-- ---- modes

privilege-of : (v p : ℕ) → Mode v p → Privilege p
privilege-of v p mode.U = inl refl
privilege-of v p mode.HS = inr (inl refl)
privilege-of v p mode.M = inr (inr refl)
privilege-of v p mode.VU = inl refl
privilege-of v p mode.VS = inr (inl refl)

bit_mode : (v p : ℕ) → v < 2 → p < 2 → Mode v p
bit_mode zero zero a b = mode.U
bit_mode zero (suc zero) a b = mode.HS
bit_mode (suc zero) zero a b = mode.VU
bit_mode (suc zero) (suc zero) a b = mode.VS
bit_mode zero (suc (suc p)) a b = let no : ⊥ = omega arith in absurd no
bit_mode (suc zero) (suc (suc p)) a b = let no : ⊥ = omega arith in absurd no
bit_mode (suc (suc v)) p a b = let no : ⊥ = omega arith in absurd no

mret_mode : (mpp mpv : ℕ) → among mpp (0 ∷ 1 ∷ 3 ∷ []) ≡ true → mpv < 2 → Mode (pick (eqb mpp 3) 0 mpv) mpp
mret_mode mpp mpv e b =
    ⊎_elim (λ t. ⊎_elim (λ x. it 3 x mode.M) (λ x. it 1 x (bit_mode mpv 1 b (omega arith))) (or_cases (eqb mpp 3) (eqb mpp 1) t))
    (λ x. it 0 x (bit_mode mpv 0 b (omega arith))) (or_cases (eqb mpp 3 || eqb mpp 1) (eqb mpp 0) e)
  where
    it : (p : ℕ) → eqb mpp p ≡ true → Mode (pick (eqb p 3) 0 mpv) p → Mode (pick (eqb mpp 3) 0 mpv) mpp
    it p x m = subst (λ (q : ℕ). Mode (pick (eqb q 3) 0 mpv) q) (sym (eqb-true mpp p x)) m

-- ---- MPRV

-- clear, or in M
mprv_rule : (a m : Bool) → a ≡ false → not (a && m) ≡ true
mprv_rule a m e = rw e

-- outside M it is clear
mprv_clear : (a m : Bool) → not (a && not m) ≡ true → m ≡ false → a ≡ false
mprv_clear true m t e = clash (sym (ap (λ (b : Bool). not (not b)) e) ∙ t)
mprv_clear false m t e = refl

clear-MPRV : (h : Hart) → Passing h → is_m (context h) ≡ false → is_set MPRV (reg h mstatus) ≡ false
clear-MPRV h p m = mprv_clear (is_set MPRV (reg h mstatus)) (is_m (context h)) p.mprv m

-- ---- delivery

not_M : (a b c : Bool) (to : Target) → pick (a || b) M (pick c VS HS) ≡ to → (to ≡ M → ⊥) → a ≡ false
not_M true b c to e n = absurd (n (sym e))
not_M false b c to e n = refl

module _ (h : Hart) (t : Exception) (p : Passing h) (l : length h.regs ≡ kept) where
  into_M : Passing (delivered_m h t)
  unfolding delivered_m
  into_M = record {
    mode = mode.M;
    aligned = handler_aligned (reg h mtvec) t.cause;
    mprv = ap not (and-false (is_set MPRV (get_or (h.regs with writes_m h t) mstatus 0)));
    regs = with_holds (writes_m h t) h.regs p.regs (
      stays mstatus (into_m h.v h.privilege t.flag (reg h mstatus)) (reg h mstatus) (into_m_fine h.v h.privilege t.flag (reg h mstatus) (privilege-of h.v h.privilege p.mode)) (legal-at h mstatus p l (omega arith)),
      (epc_legal h.pc p.aligned, (word-legal t.cause, (word-legal t.value, (word-legal t.value2, (word-legal t.word, tt))))),
    );
  }

  into_HS : is_m (context h) ≡ false → Passing (delivered_hs h t)
  unfolding delivered_hs fine takes same outside apart fits
  into_HS m =
      let s = reg h mstatus in
      let e : get_or (h.regs with writes_hs h t) mstatus 0 ≡ (s after into_s h.privilege s) = first-written h.regs mstatus (s after into_s h.privilege s) (drop 1 (writes_hs h t)) (omega arith) refl in
      let c : is_set MPRV (get_or (h.regs with writes_hs h t) mstatus 0) ≡ false = ap (λ (x : ℕ). eqb x 1) (ap (get MPRV) e ∙ untouched_kept MPRV (into_s h.privilege s) s refl) ∙ clear-MPRV h p m in
      record {
        mode = mode.HS;
        aligned = handler_aligned (reg h stvec) t.cause;
        mprv = mprv_rule _ _ c;
        regs = with_holds (writes_hs h t) h.regs p.regs (
          stays mstatus (into_s h.privilege s) s refl (legal-at h mstatus p l (omega arith)),
          (
            stays hstatus (into_h h.v h.privilege t.flag (reg h hstatus)) (reg h hstatus) refl (legal-at h hstatus p l (omega arith)),
            (epc_legal h.pc p.aligned, (word-legal t.cause, (word-legal t.value, (word-legal t.value2, (word-legal t.word, tt))))),
          ),
        );
      }

  into_VS : is_m (context h) ≡ false → Passing (delivered_vs h t)
  unfolding delivered_vs fine takes same outside apart fits
  into_VS m =
      let s = reg h vsstatus in
      let c : is_set MPRV (get_or (h.regs with writes_vs h t) mstatus 0) ≡ false = ap (λ (x : ℕ). eqb (get MPRV x) 1) (outside_kept guest (writes_vs h t) h.regs refl mstatus refl) ∙ clear-MPRV h p m in
      record {
        mode = mode.VS;
        aligned = handler_aligned (reg h vstvec) t.cause;
        mprv = mprv_rule _ _ c;
        regs = with_holds (writes_vs h t) h.regs p.regs (
          stays vsstatus (into_s h.privilege s) s refl (legal-at h vsstatus p l (omega arith)),
          (epc_legal h.pc p.aligned, (word-legal t.cause, (word-legal t.value, tt))),
        );
      }

  -- to M, or from a mode below it
  into : (to : Target) → ((to ≡ M → ⊥) → is_m (context h) ≡ false) → Passing (delivered_to to h t)
  into M below = into_M
  into HS below = into_HS (below (λ x. clash (cc)))
  into VS below = into_VS (below (λ x. clash (cc)))

  delivered-passes : Passing (delivered h t)
  unfolding delivered
  delivered-passes =
      into (target (context h) (reg h medeleg) (reg h hedeleg) t.cause) (not_M (is_m (context h)) _ (eqb h.v 1 && has t.cause (reg h hedeleg)) _ refl)

  taken-passes : (to : Target) (n : ℕ) → chosen (context h) (lines h) ≡ Some (to, n) → Passing (delivered_to to h t)
  taken-passes to n e = into to (λ other. taken-below h to n p.mode e other)

-- ---- returns

mret-MPRV : (mpp mpv m : ℕ) (b : Bool) → eqb mpp 3 ≡ b → not (eqb (pick b m 0) 1 && not (eqb (pick b 0 mpv) 0 && eqb mpp 3)) ≡ true
mret-MPRV mpp mpv m true e = rw e (ap not (and-false (eqb m 1)))
mret-MPRV mpp mpv m false e = refl

picked_bit : (b : Bool) (m : ℕ) → m < 2 → pick b m 0 < 2
picked_bit true m h = h
picked_bit false m h = omega arith

module _ (h : Hart) (p : Passing h) (l : length h.regs ≡ kept) where
  from_M : Passing (returned_m h)
  unfolding returned_m fine takes same outside apart fits
  from_M =
      let s = reg h mstatus in
      let mpp = get MPP s in
      let m = pick (eqb mpp 3) (get MPRV s) 0 in
      let g : legal (rule mstatus) s ≡ true = legal-at h mstatus p l (omega arith) in
      let e : get MPRV (get_or (h.regs with writes_mret h) mstatus 0) ≡ m =
      ap (get MPRV) (first-written h.regs mstatus (s after from_m s) [] (omega arith) refl)
      ∙ untouched_kept MPRV (MIE := get MPIE s ∷ MPIE := 1 ∷ MPP := 0 ∷ MPV := 0 ∷ []) (s after (MPRV := m ∷ [])) refl
      ∙ got MPRV refl m s (picked_bit (eqb mpp 3) (get MPRV s) (get-lt MPRV s)) in
      record {
        mode = mret_mode mpp (get MPV s) (legal-allowed (rule mstatus) (rule_sound mstatus) s g) (get-lt MPV s);
        aligned = epc_aligned (reg h mepc) (legal-at h mepc p l (omega arith));
        mprv = subst (λ (x : ℕ). not (eqb x 1 && not (eqb (pick (eqb mpp 3) 0 (get MPV s)) 0 && eqb mpp 3)) ≡ true) (sym e) (mret-MPRV mpp (get MPV s) (get MPRV s) (eqb mpp 3) refl);
        regs = with_holds (writes_mret h) h.regs p.regs (stays mstatus (from_m s) s refl g, tt);
      }

  from_HS : Passing (returned_hs h)
  unfolding returned_hs fine takes same outside apart fits
  from_HS =
      let s = reg h mstatus in
      let e : get MPRV (get_or (h.regs with writes_hsret h) mstatus 0) ≡ 0 =
      ap (get MPRV) (first-written h.regs mstatus (s after from_hs s) (drop 1 (writes_hsret h)) (omega arith) refl) ∙ got MPRV refl 0 (s after from_s s) (omega arith) in
      record {
        mode = bit_mode (get SPV (reg h hstatus)) (get SPP s) (get-lt SPV (reg h hstatus)) (get-lt SPP s);
        aligned = epc_aligned (reg h sepc) (legal-at h sepc p l (omega arith));
        mprv = mprv_rule _ _ (ap (λ (x : ℕ). eqb x 1) e);
        regs = with_holds (writes_hsret h) h.regs p.regs
            (stays mstatus (from_hs s) s refl (legal-at h mstatus p l (omega arith)), (stays hstatus from_h (reg h hstatus) refl (legal-at h hstatus p l (omega arith)), tt));
      }

  from_VS : h.v ≡ 1 → Passing (returned_vs h)
  unfolding returned_vs fine takes same outside apart fits
  from_VS v =
      let s = reg h vsstatus in
      let m : is_m (context h) ≡ false = rw v in
      record {
        mode = bit_mode 1 (get SPP s) (omega arith) (get-lt SPP s);
        aligned = epc_aligned (reg h vsepc) (legal-at h vsepc p l (omega arith));
        mprv = mprv_rule _ _ (ap (λ (x : ℕ). eqb (get MPRV x) 1) (outside_kept guest (writes_vsret h) h.regs refl mstatus refl) ∙ clear-MPRV h p m);
        regs = with_holds (writes_vsret h) h.regs p.regs (stays vsstatus (from_s s) s refl (legal-at h vsstatus p l (omega arith)), tt);
      }

-- ---- register access

-- M's numbers are reached in M alone
machine-allowed : (r u hs v m t : Bool) → (r || ((u || hs && (m || t)) || v && m)) ≡ false → m ≡ true → (u ≡ false) × (hs ≡ false) × (v ≡ false)
machine-allowed r u hs v m t e k =
    let e₁ = or_right r ((u || hs && (m || t)) || v && m) e in
    let e₂ = or_left (u || hs && (m || t)) (v && m) e₁ in (
      or_left u (hs && (m || t)) e₂,
      and_rest (m || t) hs (ap (λ (b : Bool). b || t) k) (and_comm (m || t) hs ∙ or_right u (hs && (m || t)) e₂),
      and_rest m v k (and_comm m v ∙ or_right (u || hs && (m || t)) (v && m) e₁),
    )

only_M : (v p : ℕ) → Mode v p → (eqb v 0 && eqb p 0) ≡ false → (eqb v 0 && eqb p 1) ≡ false → eqb v 1 ≡ false → (eqb v 0 && eqb p 3) ≡ true
only_M v p mode.U a b c = sym a
only_M v p mode.HS a b c = sym b
only_M v p mode.M a b c = refl
only_M v p mode.VU a b c = sym c
only_M v p mode.VS a b c = sym c

in_M : (h : Hart) (place : ℕ) (w : Bool) → Passing h → Allowed (verdict (context h) (row_of (at place)) w) → is_machine (row_of (at place)).level ≡ true → is_m (context h) ≡ true
in_M h place w p a m =
    let c = context h in
    let row = row_of (at place) in
    let k = machine-allowed (w && (at place).read_only) (is_u c) (is_hs c) (eqb h.v 1) (is_machine (row_of (at place)).level) (is_set TVM c.mstatus && (is_satp row || is_hgatp row)) a.not2 m in
    only_M h.v h.privilege p.mode k.0 k.1 k.2

-- a view of mstatus without MPRV
abbrev spares_mprv : View → Bool
spares_mprv v = not (eqb v.home mstatus) || (eqb (get MPRV (up v.shift v.writes)) 0 && eqb (get MPRV (top - up v.shift v.writes)) 1)

-- one computed test: MPRV is written by M's numbers alone
abbrev test : ℕ → Register → Bool
test i r = is_machine (row_of r).level || (spares_mprv r.view && spares_mprv r.twin)

tested : every test 0 registers ≡ true
unfolding every get
tested = refl

copy_other : (f : Field) (mask w old : ℕ) → get f mask ≡ 0 → get f (top - mask) ≡ 2 ^ f.width - 1 → get f (copy mask w old) ≡ get f old
copy_other f mask w old a b =
    get-or f (bit_and old (top - mask)) (bit_and w mask)
    ∙ ap₂ bit_or (get-and f old (top - mask) ∙ ap (bit_and (get f old)) b ∙ get_all f old) (get-and f w mask ∙ ap (bit_and (get f w)) a ∙ and_zero_r (get f w))
    ∙ or_zero_r (get f old)

-- a write to mstatus without MPRV keeps it
kept-MPRV : (mask old x : ℕ) → (eqb (get MPRV mask) 0 && eqb (get MPRV (top - mask)) 1) ≡ true → get MPRV (stored mstatus mask old x) ≡ get MPRV old
unfolding stored apart fits
kept-MPRV mask old x t =
    let n : get MPRV (copy mask x old) ≡ get MPRV old = split (eqb (get MPRV mask) 0) _ t (λ a b. copy_other MPRV mask x old (eqb-true _ _ a) (eqb-true _ _ b)) in
    taken-has (λ (y : ℕ). get MPRV y ≡ get MPRV old) (rule mstatus).restriction old (copy mask x old) refl n
    (λ f vs e. let q : MPP ≡ f = cc in subst (λ (g : Field). get MPRV (put g (get g old) (copy mask x old)) ≡ get MPRV old) q (other MPP MPRV refl (get MPP old) (copy mask x old) ∙ n))

module _ (h : Hart) (v : View) (x : ℕ) (p : Passing h) (l : length h.regs ≡ kept) (s : sound_view v ≡ true) where
  in_places : v.home < kept
  in_places = ltb-true _ _ (and_left (ltb v.home kept) _ s)

  new : ℕ
  new = stored_by v (lets h.regs v) (reg h v.home) x

  new_holds : holds v.home new ≡ true
  unfolding new
  new_holds =
      stored-legal v.home (up v.shift v.writes) (reg h v.home) _ (and_right (ltb v.shift 64) _ (and_right (ltb v.home kept) _ s)) (legal-at h v.home p l in_places)

  new_MPRV : spares_mprv v ≡ true → get MPRV (get_or (set h.regs v.home new) mstatus 0) ≡ get MPRV (reg h mstatus)
  unfolding new
  new_MPRV t = go (eqb v.home mstatus) refl t
    where
      go : (b : Bool) → eqb v.home mstatus ≡ b → (not b || (eqb (get MPRV (up v.shift v.writes)) 0 && eqb (get MPRV (top - up v.shift v.writes)) 1)) ≡ true
          → get MPRV (get_or (set h.regs v.home (stored_by v (lets h.regs v) (reg h v.home) x)) mstatus 0) ≡ get MPRV (reg h mstatus)
      go true e k = rw (eqb-true v.home mstatus e) (ap (get MPRV) (get_or-set_same h.regs mstatus _ 0 (omega arith)) ∙ kept-MPRV (up v.shift v.writes) (reg h mstatus) _ k)
      go false e k = ap (get MPRV) (get_or-set_other h.regs v.home mstatus _ 0 (λ q. eqb-false v.home mstatus e (sym q)))

  written-passes : (is_m (context h) ≡ true) ⊎ (spares_mprv v ≡ true) → (w : Bool) → Passing (written h v x w)
  unfolding written new
  written-passes m true =
      record {
        mode = p.mode;
        aligned = next_aligned h.pc p.aligned;
        mprv = ⊎_elim (λ i. rw i (ap not (and-false (is_set MPRV (get_or (set h.regs v.home new) mstatus 0)))))
            (λ t. subst (λ (n : ℕ). not (eqb n 1 && not (is_m (context h))) ≡ true) (sym (new_MPRV t)) p.mprv) m;
        regs = every_set holds h.regs v.home _ p.regs new_holds;
      }
  written-passes m false = record { mode = p.mode; aligned = next_aligned h.pc p.aligned; mprv = p.mprv; regs = p.regs }

-- what an access that is allowed reaches has no MPRV, but in M
reaches-MPRV : (h : Hart) (place : ℕ) (w : Bool) → Passing h → place < count → Allowed (verdict (context h) (row_of (at place)) w) → (is_m (context h) ≡ true) ⊎ (spares_mprv (reaches h place) ≡ true)
reaches-MPRV h place w p b a =
    ⊎_elim (λ m. inl (in_M h place w p a m))
    (λ t. split (spares_mprv (at place).view) (spares_mprv (at place).twin) t
    (λ o g. inr (pick_both (λ (v : View). spares_mprv v ≡ true) (eqb h.v 1) (at place).twin (at place).view (λ e. g) (λ e. o))))
    (or_cases (is_machine (row_of (at place)).level) _ (every-at test registers (register 0 0 no_bits) tested place b))

-- ---- every event

leaves : (h : Hart) (s : Step) → length h.regs ≡ kept → Comes h s → refusal s.outcome ≡ 0 → passes s.hart ≡ true
leaves h s l (refuses x) r = absurd (some_number x r)
leaves h s l (traps a t) r = passes_of (delivered h t) (delivered-passes h t (passing h a) l)
leaves h s l (mrets a m) r = passes_of (returned_m h) (from_M h (passing h a) l)
leaves h s l (srets_VS a v) r = passes_of (returned_vs h) (from_VS h (passing h a) l v)
leaves h s l (srets_HS a v) r = passes_of (returned_hs h) (from_HS h (passing h a) l)
leaves h s l (moves a) r = let p = passing h a in passes_of (moved h) (record { mode = p.mode; aligned = next_aligned h.pc p.aligned; mprv = p.mprv; regs = p.regs })
leaves h s l (writes a place b w v x) r =
    let p = passing h a in
    let to = reaches h place in
    passes_of (written h to x w) (written-passes h to x p l (reaches_sound place (eqb h.v 1)) (reaches-MPRV h place w p b v) w)
leaves h s l (interrupts a to n d) r = passes_of (delivered_to to h (interruption to n)) (taken-passes h (interruption to n) (passing h a) l to n d)
leaves h s l (rests a) r = a

-- every accepted event leaves a hart that passes check 2 (a hart keeps so many registers)
pub accepted_passes : (e : Event) (h : Hart) → length h.regs ≡ kept → refusal (run e h).outcome ≡ 0 → passes (run e h).hart ≡ true
accepted_passes e h l = leaves h (run e h) l (comes e h)
