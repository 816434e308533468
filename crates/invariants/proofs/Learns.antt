-- A guest learns nothing of the host's registers: with V=1 an event comes to the same on two harts that agree on the guest and the
-- controls. Assumes nothing.
use Rattle.std.specs.Prelude.{Result, Ok, Err, Option, Some, None, option_map, find}
use mathlib.Core.Path.{◌≡◌, refl, sym, ap, subst, ◌∙◌}
use mathlib.Core.Bool.{Bool, true, false, ◌&&◌, ◌||◌, not}
use mathlib.Core.Logic.{◌⊎◌, ⊎_elim}
use mathlib.Core.List.{List, [], ◌∷◌}
use Prim.Native.Nat.{ℕ, suc, ◌-◌, ◌<◌}
use native.Mathlib.Omega.{arith}
use lib.Bits.{bit_and}
use lib.Dec.{eqb, ltb}
use lib.ListN.{get_or, set, length}
use lib.Seq.{get_or-set_same, get_or-set_other}
use borrow.Author.Tests.{eqb-true, eqb-false, ltb-true, not-false}
use Rattle.std.specs.Prelude.{Result, Ok, Err}
use Rattle.exceptions.specs.declared.Refusal.{Refusal}
use Rattle.bits.specs.Field.{pick, top, get, has}
use Rattle.bits.specs.Every.{every}
use Rattle.bits.proofs.Bools.{clash, split, and-true, and-false, and_left, and_rest, or_cases}
use Rattle.bits.proofs.Every.{every-at}
use Rattle.bits.proofs.Single.{has-and, has-not, has-zero}
use Rattle.registers.specs.Fields.{SPP}
use Rattle.registers.specs.Places.{kept, vsstatus, vstvec, vsepc, vsatp, medeleg, mideleg, mie, mip, hedeleg, hideleg}
use Rattle.registers.specs.Rules.{free, legal, rule}
use Rattle.registers.specs.Views.{View, lets, stored_by}
use Rattle.registers.specs.Registers.{count, at}
use Rattle.registers.specs.File.{Write, ◌with◌, holds}
use Rattle.registers.proofs.Rows.{reaches-home}
use Rattle.registers.proofs.Through.{same-through}
use Rattle.table.specs.declared.Row.{Row}
use Rattle.table.specs.Table.{row_of, table, first_at}
use Rattle.table.proofs.Listed.{lookup-found}
use Rattle.exceptions.specs.declared.Exception.{Exception}
use Rattle.privilege.specs.declared.Verdict.{Verdict}
use Rattle.privilege.specs.Mode.{gives}
use Rattle.traps.specs.Request.{impossible}
use Rattle.delivery.specs.declared.Target.{Target}
use Rattle.delivery.specs.declared.Target.TheVariants.{M, HS, VS}
use Rattle.delivery.specs.Delivery.{target, handler, call_cause, breakpoint}
use Rattle.interrupts.specs.Interrupts.{admits, due, levels, order, of, first_level, chosen, interruption}
use Rattle.interrupts.specs.First.{In}
use Rattle.interrupts.proofs.Sets.{first-same}
use Rattle.csr.specs.declared.Form.{Form}
use Rattle.csr.specs.Access.{verdict, combined}
use Rattle.hart.specs.declared.state.Hart.{Hart}
use Rattle.hart.specs.declared.event.Outcome.{Outcome}
use Rattle.hart.specs.declared.event.Outcome.TheVariants.{Done, Trapped, Refused, Interrupted}
use Rattle.hart.specs.declared.event.Step.{Step}
use Rattle.hart.specs.declared.accesses.Accessed.{Accessed}
use Rattle.hart.specs.Hart.{reg, context, lines}
use Rattle.hart.specs.Deliver.{writes_m, writes_hs, writes_vs, delivered_m, delivered_hs, delivered_vs, delivered_to, delivered}
use Rattle.hart.specs.Event.{step, trapped, plain, done, unless_refused, settled_by, settled, moved, next}
use Rattle.hart.specs.declared.event.Halt.TheVariants.{Raises}
use Rattle.hart.specs.Trap.{trap, ecall, ebreak}
use Rattle.hart.specs.Interrupt.{taking, interrupt}
use Rattle.hart.specs.Return.{writes_vsret, returned_vs, returned_s, mret, sret}
use Rattle.hart.specs.Wait.{wfi, sfence_vma, hfence_vvma, hfence_gvma}
use Rattle.hart.specs.Access.{seen, written, value_of, answer, access_row, access_found, access}
use Rattle.rules.specs.declared.Kind.{Kind}
use Rattle.effective.specs.Effective.{first_root, second_root}
use Rattle.access.specs.declared.Access.{Access}
use Rattle.translate.specs.declared.Answer.{Answer}
use Rattle.translate.specs.Translated.{access_of, start_of, concluded, translated}
use Rattle.invariants.specs.Events.{Event, step_of, run}
use Rattle.invariants.specs.Events as events
use Rattle.invariants.specs.Learns.{guest, shared, SameHanded, Runs, Alike, Undisturbed, Same, SameTables, SameTranslated}
use Rattle.invariants.proofs.Mode.{passing}
use Rattle.invariants.proofs.Writes.{all_in, outside_kept, lands, with_lands}
use Rattle.invariants.proofs.Settled.{settled_cases}
use Rattle.invariants.proofs.Comes.{Allowed, reaches, reach_settles}
use Rattle.invariants.proofs.Guest.{Own, Lent, reached-guest, lent_gate}
use Rattle.invariants.proofs.Sides.{host}

-- ---- the registers of interrupts

abbrev aside : ℕ → Bool
aside p = not (shared p || eqb p hideleg)

not_aside : (p : ℕ) → shared p ≡ true → aside p ≡ false
not_aside p t = rw t

-- mie and mip are no VS registers, and have no restricted field
not-guest : (p : ℕ) → guest p ≡ true → shared p ≡ true → ⊥
not-guest p g t =
    ⊎_elim (λ u. clash (sym (ap guest (eqb-true p mie u)) ∙ g)) (λ u. clash (sym (ap guest (eqb-true p mip u)) ∙ g)) (or_cases (eqb p mie) (eqb p mip) t)

shared-free : (p : ℕ) → shared p ≡ true → (rule p).restriction ≡ free
shared-free p t = ⊎_elim (λ u. rw (eqb-true p mie u)) (λ u. rw (eqb-true p mip u)) (or_cases (eqb p mie) (eqb p mip) t)

-- hideleg's bits are mideleg's: "Bits 2, 6 and 10 of mideleg read one"
down_delegated : (x y n : ℕ) → legal (rule hideleg) x ≡ true → legal (rule mideleg) y ≡ true → n < 64 → has n x ≡ true → has n y ≡ true
unfolding legal
down_delegated x y n p q b t =
    let e : (has n x && has n (top - 0x444)) ≡ has n 0 = sym (has-and n x (top - 0x444)) ∙ ap (has n) (eqb-true _ _ p) in
    let z : has n 0 ≡ false = has-zero n in
    let k : has n (top - 0x444) ≡ false = and_rest (has n x) (has n (top - 0x444)) t (e ∙ z) in
    let m : has n 0x444 ≡ true = not-false (has n 0x444) (sym (has-not n 0x444 b (omega arith)) ∙ k) in
    and_left (has n y) (has n (top - 0x222)) (sym (has-and n y (top - 0x222)) ∙ ap (has n) (eqb-true _ _ q) ∙ m)

-- ---- what is due

in_test : (p : ℕ → Bool) (ns : List ℕ) (k n : ℕ) → every (λ i m. p m) k ns ≡ true → In n ns → p n ≡ true
unfolding every
in_test p [] k n t i = absurd i
in_test p (m ∷ ms) k n t i = split (p m) (every (λ i m. p m) (suc k) ms) t (λ x y. ⊎_elim (λ e. ap p e ∙ x) (in_test p ms (suc k) n y) i)

below_64 : (n : ℕ) → In n order → n < 64
unfolding every
below_64 n i = ltb-true n 64 (in_test (λ m. ltb m 64) order 0 n refl i)

-- the guest's own choice
abbrev guests : Option ℕ → Option (Target × ℕ)
guests = option_map (λ n. (VS, n))

same_all : (s p e d g p' e' d' g' : Bool) → g ≡ g' → (p && g) ≡ (p' && g') → (e && g) ≡ (e' && g') → (g ≡ true → d ≡ true) → (g' ≡ true → d' ≡ true)
    → (s && ((p && e) && (d && g))) ≡ (s && ((p' && e') && (d' && g')))
same_all s p e d true p' e' d' true q a b k k' = rw (sym (and-true p) ∙ a ∙ and-true p', sym (and-true e) ∙ b ∙ and-true e', k refl, k' refl)
same_all s p e d false p' e' d' false q a b k k' = rw (and-false d, and-false d', and-false (p && e), and-false (p' && e'))
same_all s p e d true p' e' d' false q a b k k' = clash (sym q)
same_all s p e d false p' e' d' true q a b k k' = clash q

holds_at : (k : Hart) → Runs k → (p : ℕ) → p < kept → legal (rule p) (reg k p) ≡ true
holds_at k r p b = every-at holds k.regs 0 (passing k r.passing).regs p (let l = r.size in omega (arith, l))

module _ (h h' : Hart) (a : Alike h h') where
  -- ---- a trap

  into_host : (ws ws' : List Write) → all_in host ws ≡ true → all_in host ws' ≡ true → (p : ℕ) → guest p ≡ true → get_or (h.regs with ws) p 0 ≡ get_or (h'.regs with ws') p 0
  into_host ws ws' t t' p g = outside_kept host ws h.regs t p (ap not g) ∙ a.guest p g ∙ sym (outside_kept host ws' h'.regs t' p (ap not g))

  into-guest : (ws ws' : List Write) → ws ≡ ws' → all_in (λ q. ltb q kept) ws ≡ true → (p : ℕ) → guest p ≡ true → get_or (h.regs with ws) p 0 ≡ get_or (h'.regs with ws') p 0
  into-guest ws ws' e t p g = rw (← e) (with_lands ws h.regs p a.left.size t ∙ ap (lands ws p) (a.guest p g) ∙ sym (with_lands ws h'.regs p a.right.size t))

  -- the registers of interrupts are not written
  stay_handed : (ws ws' : List Write) → all_in aside ws ≡ true → all_in aside ws' ≡ true → SameHanded (h.regs with ws) (h'.regs with ws')
  stay_handed ws ws' t t' =
      let e : get_or (h.regs with ws) hideleg 0 ≡ reg h hideleg = outside_kept aside ws h.regs t hideleg refl in
      let e' : get_or (h'.regs with ws') hideleg 0 ≡ reg h' hideleg = outside_kept aside ws' h'.regs t' hideleg refl in
      record {
        which = e ∙ a.handed.which ∙ sym e';
        bits = λ p s. rw (outside_kept aside ws h.regs t p (not_aside p s), e, outside_kept aside ws' h'.regs t' p (not_aside p s), e') (a.handed.bits p s);
      }

  -- a trap that leaves the guest
  leaves : (privilege pc pc' : ℕ) (ws ws' : List Write) (o : Outcome) → all_in host ws ≡ true → all_in host ws' ≡ true → all_in aside ws ≡ true → all_in aside ws' ≡ true
      → Same (step (record { v = 0; privilege = privilege; pc = pc; regs = h.regs with ws }) o) (step (record { v = 0; privilege = privilege; pc = pc'; regs = h'.regs with ws' }) o)
  leaves privilege pc pc' ws ws' o t t' u u' =
      record {
        outcome = refl;
        v = refl;
        privilege = refl;
        guest = into_host ws ws' t t';
        handed = stay_handed ws ws' u u';
        pc = λ e. let no : ⊥ = omega arith in absurd no;
      }

  delivered-same : (to : Target) (t : Exception) (o : Outcome) → Same (step (delivered_to to h t) o) (step (delivered_to to h' t) o)
  unfolding delivered_m delivered_hs delivered_vs
  delivered-same M t o = leaves 3 _ _ (writes_m h t) (writes_m h' t) o refl refl refl refl
  delivered-same HS t o = leaves 1 _ _ (writes_hs h t) (writes_hs h' t) o refl refl refl refl
  delivered-same VS t o =
      record {
        outcome = refl;
        v = refl;
        privilege = refl;
        guest = into-guest (writes_vs h t) (writes_vs h' t) (rw (a.guest vsstatus refl, a.privilege, a.pc)) refl;
        handed = stay_handed (writes_vs h t) (writes_vs h' t) refl refl;
        pc = λ e. ap (λ (tvec : ℕ). handler tvec t.cause) (a.guest vstvec refl);
      }

  same_target : (cause : ℕ) → target (context h) (reg h medeleg) (reg h hedeleg) cause ≡ target (context h') (reg h' medeleg) (reg h' hedeleg) cause
  same_target cause = rw (a.left.v, a.right.v, a.controls.medeleg, a.controls.hedeleg)

  same-trapped : (t : Exception) → Same (trapped h t) (trapped h' t)
  unfolding delivered
  same-trapped t =
      subst (λ (to : Target). Same (step (delivered_to (target (context h) (reg h medeleg) (reg h hedeleg) t.cause) h t) (Trapped t.cause)) (step (delivered_to to h' t) (Trapped t.cause)))
      (same_target t.cause) (delivered-same (target (context h) (reg h medeleg) (reg h hedeleg) t.cause) t (Trapped t.cause))

  -- ---- an event that is settled

  as_they_were : (o : Outcome) → Same (step h o) (step h' o)
  as_they_were o = record { outcome = refl; v = a.left.v ∙ sym a.right.v; privilege = a.privilege; guest = a.guest; handed = a.handed; pc = λ e. a.pc }

  same-settled : (own : Result Unit Refusal) (v v' : Verdict) (word : ℕ) (f f' : Step) → v ≡ v' → (Allowed v → Same f f') → Same (settled h own v word f) (settled h' own v' word f')
  unfolding settled
  same-settled own v v' word f f' e d = rw (← e, a.left.passing, a.right.passing) (go own v.gives2 refl v.gives22 refl)
    where
      go : (o : Result Unit Refusal) (b₂ : Bool) → v.gives2 ≡ b₂ → (b₃ : Bool) → v.gives22 ≡ b₃
          → Same (settled_by (unless_refused o (pick b₂ (Err (Raises 2)) (pick b₃ (Err (Raises 22)) (Ok tt)))) h word f) (settled_by (unless_refused o (pick b₂ (Err (Raises 2)) (pick b₃ (Err (Raises 22)) (Ok tt)))) h' word f')
      go (Err r) b₂ e₂ b₃ e₃ = as_they_were (Refused r)
      go (Ok t) true e₂ b₃ e₃ = same-trapped (plain 2 word)
      go (Ok t) false e₂ true e₃ = same-trapped (plain 22 word)
      go (Ok t) false e₂ false e₃ = d (record { not2 = e₂; not22 = e₃ })

  -- ---- what is done

  same-moved : Same (done (moved h)) (done (moved h'))
  same-moved = record { outcome = refl; v = a.left.v ∙ sym a.right.v; privilege = a.privilege; guest = a.guest; handed = a.handed; pc = λ e. ap next a.pc }

  same_returned : Same (done (returned_s h)) (done (returned_s h'))
  unfolding returned_vs
  same_returned =
      rw (a.left.v, a.right.v) (record {
        outcome = refl;
        v = refl;
        privilege = ap (get SPP) (a.guest vsstatus refl);
        guest = into-guest (writes_vsret h) (writes_vsret h') (rw (a.guest vsstatus refl)) refl;
        handed = stay_handed (writes_vsret h) (writes_vsret h') refl refl;
        pc = λ e. a.guest vsepc refl;
      })

  -- one register written in both: a VS register alike, mie or mip alike where hideleg hands bits down
  module _ (home y y' : ℕ) (inside : home < kept) (other : eqb home hideleg ≡ false) (own : guest home ≡ true → y ≡ y')
      (lent : shared home ≡ true → bit_and y (reg h hideleg) ≡ bit_and y' (reg h' hideleg)) where
    here : (k : Hart) → length k.regs ≡ kept → (z p : ℕ) → p ≡ home → get_or (set k.regs home z) p 0 ≡ z
    here k l z p e = rw e (get_or-set_same k.regs home z 0 (omega (arith, l)))

    there : (k : Hart) (z p : ℕ) → eqb p home ≡ false → get_or (set k.regs home z) p 0 ≡ reg k p
    there k z p e = get_or-set_other k.regs home p z 0 (eqb-false p home e)

    set-guest : (p : ℕ) → guest p ≡ true → get_or (set h.regs home y) p 0 ≡ get_or (set h'.regs home y') p 0
    set-guest p g = go (eqb p home) refl
      where
        go : (t : Bool) → eqb p home ≡ t → get_or (set h.regs home y) p 0 ≡ get_or (set h'.regs home y') p 0
        go true e =
            let q : p ≡ home = eqb-true p home e in
            here h a.left.size y p q ∙ own (ap guest (sym q) ∙ g) ∙ sym (here h' a.right.size y' p q)
        go false e = there h y p e ∙ a.guest p g ∙ sym (there h' y' p e)

    kept-which : (k : Hart) (z : ℕ) → get_or (set k.regs home z) hideleg 0 ≡ reg k hideleg
    kept-which k z = get_or-set_other k.regs home hideleg z 0 (λ q. eqb-false home hideleg other (sym q))

    set-bits : (p : ℕ) → shared p ≡ true → bit_and (get_or (set h.regs home y) p 0) (reg h hideleg) ≡ bit_and (get_or (set h'.regs home y') p 0) (reg h' hideleg)
    set-bits p t = go (eqb p home) refl
      where
        go : (b : Bool) → eqb p home ≡ b → bit_and (get_or (set h.regs home y) p 0) (reg h hideleg) ≡ bit_and (get_or (set h'.regs home y') p 0) (reg h' hideleg)
        go true e =
            let q : p ≡ home = eqb-true p home e in
            rw (here h a.left.size y p q, here h' a.right.size y' p q) (lent (ap shared (sym q) ∙ t))
        go false e = rw (there h y p e, there h' y' p e) (a.handed.bits p t)

    set-handed : SameHanded (set h.regs home y) (set h'.regs home y')
    set-handed =
        record {
          which = kept-which h y ∙ a.handed.which ∙ sym (kept-which h' y');
          bits = λ p t. rw (kept-which h y, kept-which h' y') (set-bits p t);
        }

  -- what a read shows, and a write leaves, through a view that the guest reaches
  pub record Reads (v : View) : Type 0 where
    pub sees : seen h v ≡ seen h' v
    pub own : guest v.home ≡ true → (x : ℕ) → stored_by v (lets h.regs v) (reg h v.home) x ≡ stored_by v (lets h'.regs v) (reg h' v.home) x
    pub lent : shared v.home ≡ true → (x : ℕ)
        → bit_and (stored_by v (lets h.regs v) (reg h v.home) x) (reg h hideleg) ≡ bit_and (stored_by v (lets h'.regs v) (reg h' v.home) x) (reg h' hideleg)
    pub other : eqb v.home hideleg ≡ false

  reads : (v : View) → Own v ⊎ Lent v → Reads v
  reads v = ⊎_elim of_own of_lent
    where
      not-hideleg : (p : ℕ) (f : ℕ → Bool) → f hideleg ≡ false → f p ≡ true → (b : Bool) → eqb p hideleg ≡ b → b ≡ false
      not-hideleg p f n t true e = clash (sym n ∙ ap f (sym (eqb-true p hideleg e)) ∙ t)
      not-hideleg p f n t false e = refl

      of_own : Own v → Reads v
      of_own o =
          let g : lets h.regs v ≡ top = rw o.gate in
          let g' : lets h'.regs v ≡ top = rw o.gate in
          let e = a.guest v.home o.home in
          record {
            sees = rw (g, g', e);
            own = λ t x. rw (g, g', e);
            lent = λ t x. absurd (not-guest v.home o.home t);
            other = not-hideleg v.home guest refl o.home (eqb v.home hideleg) refl;
          }

      of_lent : Lent v → Reads v
      of_lent k =
          let g = lent_gate h v a.left.size k.gate in
          let g' = lent_gate h' v a.right.size k.gate in
          let w = a.handed.which in
          let e : bit_and (reg h v.home) (reg h' hideleg) ≡ bit_and (reg h' v.home) (reg h' hideleg) = rw w at (a.handed.bits v.home k.home) in
          record {
            sees = rw (g, g', w, e);
            own = λ t x. absurd (not-guest v.home t k.home);
            lent = λ t x. rw (g, g', w) (same-through v (reg h' hideleg) (reg h v.home) (reg h' v.home) x (shared-free v.home k.home) e);
            other = not-hideleg v.home shared refl k.home (eqb v.home hideleg) refl;
          }

  same-written : (v : View) (x : ℕ) (w : Bool) → v.home < kept → Reads v → Same (done (written h v x w)) (done (written h' v x w))
  unfolding written
  same-written v x false b k = same-moved
  same-written v x true b k =
      record {
        outcome = refl;
        v = a.left.v ∙ sym a.right.v;
        privilege = a.privilege;
        guest = set-guest v.home _ _ b k.other (λ t. k.own t x) (λ t. k.lent t x);
        handed = set-handed v.home _ _ b k.other (λ t. k.own t x) (λ t. k.lent t x);
        pc = λ e. ap next a.pc;
      }

  -- ---- register access: the step, and the value answered

  record SameAccess (x x' : Accessed) : Type 0 where
    same : Same (step_of x) (step_of x')
    value : x.value ≡ x'.value

  same_answer : (own : Result Unit Refusal) (v v' : Verdict) (word : ℕ) (f f' : Step) (old old' : ℕ) → v ≡ v' → (Allowed v → Same f f' × (old ≡ old'))
      → SameAccess (answer (settled h own v word f) old) (answer (settled h' own v' word f') old')
  same_answer own v v' word f f' old old' e d =
      let s = same-settled own v v' word f f' e (λ k. (d k).0) in
      record {
        same = s;
        value =
            settled_cases (λ (x : Step). value_of x.outcome old ≡ value_of x.outcome old') h own v word f (λ r. refl) (λ p cause w. refl)
            (λ p o x y. ap (value_of f.outcome) (d (record { not2 = x; not22 = y })).1) ∙ ap (λ (o : Outcome). value_of o old') s.outcome;
      }

  same_row : (own : Result Unit Refusal) (place : ℕ) (form : Form) (w : ℕ) (b : Bool) (word : ℕ) → place < count
      → SameAccess (access_row h own place (row_of (at place)) form w b word) (access_row h' own place (row_of (at place)) form w b word)
  unfolding access_row
  same_row own place form w b word l =
      let to = reaches h place in
      let t : reaches h place ≡ reaches h' place = rw (a.left.v, a.right.v) in
      same_answer own (verdict (context h) (row_of (at place)) b) (verdict (context h') (row_of (at place)) b) word _ _ _ _
      (rw (a.left.v, a.right.v, a.privilege, a.controls.vtvm))
      (λ k.
      let g = reads to (reached-guest h place b a.left.passing a.left.v l k) in
      rw (← t, ← g.sees) (same-written to (combined form (seen h to) w) b (reaches-home place (eqb h.v 1)) g, refl))

  same-found : (number : ℕ) (own : Result Unit Refusal) (found : Option (ℕ × Row)) (form : Form) (w : ℕ) (b : Bool) (word : ℕ) → first_at table number 0 ≡ found → SameAccess (access_found found h own form w b word) (access_found found h' own form w b word)
  same-found number own None form w b word e = same_answer own (gives true false) (gives true false) word (done h) (done h') 0 0 refl (λ k. clash (sym k.not2))
  same-found number own (Some (place, row)) form w b word e =
      let l = lookup-found number place row e in
      subst (λ (r : Row). SameAccess (access_row h own place r form w b word) (access_row h' own place r form w b word)) (sym l.row) (same_row own place form w b word l.below)

  same-access : (form : Form) (number w : ℕ) (b : Bool) (word : ℕ) → SameAccess (access h form number w b word) (access h' form number w b word)
  unfolding access
  same-access form number w b word = same-found number _ (first_at table number 0) form w b word refl

  -- ---- the interrupt that is due

  -- where none goes to the host, it is the first of the guest's own
  guests_alone : (k : Hart) → Undisturbed k → chosen (context k) (lines k) ≡ guests (find (due (context k) (lines k) VS) order)
  unfolding chosen
  guests_alone k u =
      let at : Target → Option ℕ = λ to. find (due (context k) (lines k) to) order in
      go (at M) (at HS) (at VS) u
    where
      go : (m hs vs : Option ℕ) → ((to : Target) (n : ℕ) → first_level (of m hs vs) levels ≡ Some (to, n) → to ≡ VS) → first_level (of m hs vs) levels ≡ guests vs
      go (Some n) hs vs u = let e : M ≡ VS = u M n refl in clash (cc)
      go None (Some n) vs u = let e : HS ≡ VS = u HS n refl in clash (cc)
      go None None (Some n) u = refl
      go None None None u = refl

  handed-bits : (p n : ℕ) → shared p ≡ true → (has n (reg h p) && has n (reg h hideleg)) ≡ (has n (reg h' p) && has n (reg h' hideleg))
  handed-bits p n t = sym (has-and n (reg h p) (reg h hideleg)) ∙ ap (has n) (a.handed.bits p t) ∙ has-and n (reg h' p) (reg h' hideleg)

  delegated : (k : Hart) → Runs k → (n : ℕ) → n < 64 → has n (reg k hideleg) ≡ true → has n (reg k mideleg) ≡ true
  delegated k r n = down_delegated (reg k hideleg) (reg k mideleg) n (holds_at k r hideleg (omega arith)) (holds_at k r mideleg (omega arith))

  same-due : (n : ℕ) → In n order → due (context h) (lines h) VS n ≡ due (context h') (lines h') VS n
  same-due n i =
      let b = below_64 n i in
      let d : admits (context h) (reg h vsstatus) VS ≡ admits (context h') (reg h' vsstatus) VS = rw (a.left.v, a.right.v, a.privilege, a.guest vsstatus refl) in
      rw d (same_all (admits (context h') (reg h' vsstatus) VS) (has n (reg h mip)) (has n (reg h mie)) (has n (reg h mideleg)) (has n (reg h hideleg)) (has n (reg h' mip)) (has n (reg h' mie)) (has n (reg h' mideleg)) (has n (reg h' hideleg))
      (ap (has n) a.handed.which) (handed-bits mip n refl) (handed-bits mie n refl) (delegated h a.left n b) (delegated h' a.right n b))

  same_chosen : Undisturbed h → Undisturbed h' → chosen (context h) (lines h) ≡ chosen (context h') (lines h')
  same_chosen u u' = guests_alone h u ∙ ap guests (first-same (due (context h) (lines h) VS) (due (context h') (lines h') VS) order same-due) ∙ sym (guests_alone h' u')

  same-taking : (d : Option (Target × ℕ)) → Same (taking h d) (taking h' d)
  same-taking (Some (to, n)) = delivered-same to (interruption to n) (Interrupted n)
  same-taking None = as_they_were Done

  -- ---- every event

  -- an access answers the same value
  pub guest-reads : (form : Form) (number w : ℕ) (b : Bool) (word : ℕ) → (access h form number w b word).value ≡ (access h' form number w b word).value
  guest-reads form number w b word = (same-access form number w b word).value

  -- every event comes to the same for the guest; when a host's interrupt comes is the host's
  pub guest_learns_nothing : (e : Event) → (e ≡ events.interrupt → Undisturbed h × Undisturbed h') → Same (run e h) (run e h')
  unfolding run trap ecall ebreak mret sret wfi sfence_vma hfence_vvma hfence_gvma interrupt
  guest_learns_nothing (events.reaches o base bytes width address word) u =
      rw (reach_settles o base bytes width address word h, reach_settles o base bytes width address word h')
      (same-settled _ _ _ _ _ _ (rw (a.left.v, a.right.v)) (λ k. clash (sym (rw a.left.v at k.not22))))
  guest_learns_nothing (events.trap t) u =
      let i : impossible (context h) t ≡ impossible (context h') t = rw (a.left.v, a.right.v, a.privilege) in
      rw (← i) (same-settled _ _ _ _ _ _ refl (λ k. same-trapped t))
  guest_learns_nothing events.ecall u =
      let i : call_cause (context h) ≡ call_cause (context h') = rw (a.left.v, a.right.v, a.privilege) in
      rw (← i) (same-settled _ _ _ _ _ _ refl (λ k. same-trapped _))
  guest_learns_nothing events.ebreak u =
      let i : breakpoint h.v h.pc ≡ breakpoint h'.v h'.pc = rw (a.left.v, a.right.v, a.pc) in
      rw (← i) (same-settled _ _ _ _ _ _ refl (λ k. same-trapped _))
  guest_learns_nothing (events.executes events.mret word) u =
      same-settled _ _ _ _ _ _ (rw (a.left.v, a.right.v)) (λ k. clash (sym (rw a.left.v at k.not2)))
  guest_learns_nothing (events.executes events.sret word) u = same-settled _ _ _ _ _ _ (rw (a.left.v, a.right.v, a.privilege, a.controls.vtsr)) (λ k. same_returned)
  guest_learns_nothing (events.executes events.wfi word) u = same-settled _ _ _ _ _ _ (rw (a.left.v, a.right.v, a.privilege, a.controls.tw, a.controls.vtw)) (λ k. same-moved)
  guest_learns_nothing (events.executes events.sfence_vma word) u = same-settled _ _ _ _ _ _ (rw (a.left.v, a.right.v, a.privilege, a.controls.vtvm)) (λ k. same-moved)
  guest_learns_nothing (events.executes events.hfence_vvma word) u = same-settled _ _ _ _ _ _ (rw (a.left.v, a.right.v)) (λ k. same-moved)
  guest_learns_nothing (events.executes events.hfence_gvma word) u = same-settled _ _ _ _ _ _ (rw (a.left.v, a.right.v)) (λ k. same-moved)
  guest_learns_nothing events.interrupt u =
      let q = u refl in
      rw (← same_chosen q.0 q.1) (same-settled _ _ _ _ _ _ refl (λ k. same-taking (chosen (context h) (lines h))))
  guest_learns_nothing (events.executes (events.access form number w b) word) u = (same-access form number w b word).same

  -- ---- translation

  -- the access is the same, and so is the walk
  same-access-of : SameTables h h' → (kind : Kind) (address width : ℕ) → access_of h kind address width ≡ access_of h' kind address width
  unfolding access_of first_root second_root
  same-access-of t kind address width =
      rw (a.left.v, a.right.v, a.privilege, a.guest vsstatus refl, a.guest vsatp refl, t.hgatp, t.mxr)

  same_start : SameTables h h' → (base len : ℕ) (kind : Kind) (address width : ℕ) → start_of h base len kind address width ≡ start_of h' base len kind address width
  unfolding start_of
  same_start t base len kind address width = rw (same-access-of t kind address width, a.left.passing, a.right.passing)

  -- a translation answers the same, with one list
  pub guest_translates : SameTables h h' → (base : ℕ) (bytes : List ℕ) (kind : Kind) (address width : ℕ)
      → SameTranslated (translated h base bytes kind address width) (translated h' base bytes kind address width)
  unfolding translated
  guest_translates t base bytes kind address width = rw (← same_start t base (length bytes) kind address width) (go (start_of h base (length bytes) kind address width))
    where
      go : (s : Result Access Answer) → SameTranslated (concluded h base bytes s) (concluded h' base bytes s)
      go (Err x) = record { answer = refl; reads = refl; count = refl }
      go (Ok x) = record { answer = refl; reads = refl; count = refl }
