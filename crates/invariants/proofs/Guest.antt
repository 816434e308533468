-- With V=1 an event that is done changes only VS registers, pc and the privilege, and of interrupts what hideleg hands down; V stays 1.
-- Assumes nothing.
use mathlib.Core.Path.{◌≡◌, refl, sym, ap, ◌∙◌}
use mathlib.Core.Bool.{Bool, true, false, ◌&&◌, ◌||◌, not}
use mathlib.Core.Logic.{◌⊎◌, inl, inr, ⊎_elim}
use Prim.Native.Nat.{ℕ, ◌^◌, ◌<◌}
use native.Mathlib.Omega.{arith}
use lib.Dec.{eqb}
use lib.ListN.{get_or, set, length, replicate}
use borrow.Author.Tests.{eqb-true, eqb-false, eq-eqb}
use lib.Seq.{get_or-set_same, get_or-set_other}
use Rattle.std.specs.Prelude.{Result, Option, Some, None}
use Rattle.exceptions.specs.declared.Refusal.{Refusal}
use Rattle.bits.specs.Field.{get, has, top}
use Rattle.bits.specs.Every.{every}
use Rattle.bits.proofs.Bools.{and_left, clash, or_left, or_right, or_cases, and_rest, split}
use Rattle.bits.proofs.Every.{every-at}
use Rattle.bits.proofs.Lists.{any_default}
use Rattle.registers.specs.Fields.{VTVM}
use Rattle.registers.specs.Places.{kept, mie, mip, hideleg}
use Rattle.registers.specs.Rules.{among}
use Rattle.registers.proofs.Rows.{same_gate, same_gate_lem}
use Rattle.registers.specs.Views.{View, gate_bits, lets, up, stored_by, no_bits}
use Rattle.registers.proofs.Through.{through_alone}
use Rattle.registers.specs.Registers.{count, Register, register, registers, at}
use Rattle.table.specs.declared.Row.{Row}
use Rattle.table.specs.Table.{is_machine, is_hypervisor, row_of, table, first_at}
use Rattle.privilege.specs.Mode.{is_vu, is_vs, is_set}
use Rattle.privilege.specs.declared.Verdict.{Verdict}
use Rattle.csr.specs.declared.Form.{Form}
use Rattle.hart.specs.declared.state.Hart.{Hart}
use Rattle.hart.specs.declared.event.Outcome.TheVariants.{Done}
use Rattle.hart.specs.declared.event.Step.{Step}
use Rattle.hart.specs.Hart.{reg, context, passes}
use Rattle.hart.specs.Event.{done, settled}
use Rattle.hart.specs.Return.{writes_vsret, returned_vs}
use Rattle.csr.specs.Access.{is_satp, host_lacks, verdict, combined}
use Rattle.hart.specs.Access.{seen, written, access_row, access_found, access}
use Rattle.invariants.specs.Events.{Event, run}
use Rattle.invariants.specs.Learns.{guest, shared, handed}
use Rattle.invariants.proofs.Mode.{Mode, U, HS, M, VU, VS, passing}
use Rattle.invariants.proofs.Writes.{apart, outside_kept}
use Rattle.invariants.proofs.Settled.{settled_cases}
use Rattle.invariants.proofs.Comes.{Allowed, reaches, Comes, refuses, traps, mrets, srets_VS, srets_HS, moves, writes, interrupts, rests, comes}
use Rattle.invariants.proofs.Sides.{OnlyIn}

-- a view writes no bit of its home but those handed down
abbrev covered : View → Bool
covered v = every {A = ℕ} (λ n x. not (has n (up v.shift v.writes)) || among n (handed v.home)) 0 (replicate 64 0)

-- what a guest reaches: a VS register, or what hideleg hands down of mie or mip
abbrev own : View → Bool
own v = guest v.home && same_gate v.gate None

abbrev lent : View → Bool
lent v = same_gate v.gate (Some hideleg) && (shared v.home && covered v)

-- one computed test: a row that is neither M's nor VS's nor H's reaches no more with V=1
abbrev test : ℕ → Register → Bool
test i r = is_machine (row_of r).level || (is_hypervisor (row_of r).level || (own r.twin || lent r.twin))

tested : every test 0 registers ≡ true
unfolding every get
tested = refl

pub record Own (v : View) : Type 0 where
  pub home : guest v.home ≡ true
  pub gate : v.gate ≡ None

pub record Lent (v : View) : Type 0 where
  pub home : shared v.home ≡ true
  pub gate : v.gate ≡ Some hideleg
  pub bits : (n : ℕ) → n < 64 → (not (has n (up v.shift v.writes)) || among n (handed v.home)) ≡ true

reach : (v : View) → (own v || lent v) ≡ true → Own v ⊎ Lent v
reach v t =
    ⊎_elim (λ o. split (guest v.home) (same_gate v.gate None) o (λ a b. inl (record { home = a; gate = same_gate_lem _ _ b })))
    (λ k. split (same_gate v.gate (Some hideleg)) _ k (λ a r. split (shared v.home) (covered v) r (λ b c.
    inr (record { home = b; gate = same_gate_lem _ _ a; bits = every-at {A = ℕ} (λ n x. not (has n (up v.shift v.writes)) || among n (handed v.home)) (replicate 64 0) 0 c }))))
    (or_cases (own v) (lent v) t)

in_VS : (v p : ℕ) → Mode v p → v ≡ 1 → (eqb v 1 && eqb p 0) ≡ false → (eqb v 1 && eqb p 1) ≡ true
in_VS v p U e u = let no : ⊥ = omega arith in absurd no
in_VS v p HS e u = let no : ⊥ = omega arith in absurd no
in_VS v p M e u = let no : ⊥ = omega arith in absurd no
in_VS v p VU e u = sym u
in_VS v p VS e u = refl

-- with V=1, neither M's nor, in VS, VS's and H's
not-machine : (r host v m : Bool) → (r || (host || v && m)) ≡ false → v ≡ true → m ≡ false
not-machine r host v m e t = and_rest v m t (or_right host _ (or_right r _ e))

not-hypervisor : (vs t hyp vu : Bool) → (vs && (t || hyp) || vu) ≡ false → vs ≡ true → hyp ≡ false
not-hypervisor vs t hyp vu e s = or_right t hyp (and_rest vs (t || hyp) s (or_left (vs && (t || hyp)) vu e))

pub reached-guest : (h : Hart) (place : ℕ) (w : Bool) → passes h ≡ true → h.v ≡ 1 → place < count → Allowed (verdict (context h) (row_of (at place)) w)
    → Own (reaches h place) ⊎ Lent (reaches h place)
reached-guest h place w p v l a =
    let c = context h in
    let row = row_of (at place) in
    let t : Bool = is_set VTVM c.hstatus && is_satp row in
    let hyp : Bool = is_hypervisor row.level in
    let s : is_vs c ≡ true = in_VS h.v h.privilege (passing h p).mode v (or_right (is_vs c && (t || hyp)) (is_vu c) a.not22) in
    let e₁ : hyp ≡ false = not-hypervisor (is_vs c) t hyp (is_vu c) a.not22 s in
    let e₂ : is_machine row.level ≡ false = not-machine (w && (at place).read_only) (host_lacks c row) (eqb h.v 1) _ a.not2 (eq-eqb _ _ v) in
    rw v (reach (at place).twin (simp (e₁, e₂) at (every-at test registers (register 0 0 no_bits) tested place l)))

-- what a lent view's gate lets through, in a hart that keeps so many registers
pub lent_gate : (h : Hart) (v : View) → length h.regs ≡ kept → v.gate ≡ Some hideleg → lets h.regs v ≡ reg h hideleg
lent_gate h v l e = ap (λ (g : Option ℕ). gate_bits h.regs g) e ∙ any_default h.regs hideleg top 0 (omega (arith, l))

-- no place differs but those of VS registers and of interrupts; of a place of the host no bit differs but those that hideleg hands down
pub record Kept (h h' : Hart) : Type 0 where
  pub registers : OnlyIn (λ p. guest p || shared p) h h'
  pub bits : (p n : ℕ) → guest p ≡ false → n < 64 → (among n (handed p) && has n (reg h hideleg)) ≡ false → has n (reg h' p) ≡ has n (reg h p)

only_guest : (h h' : Hart) → OnlyIn guest h h' → Kept h h'
only_guest h h' o = record { registers = λ p f. o p (or_left (guest p) (shared p) f); bits = λ p n f b e. ap (has n) (o p f) }

covered_bits : (a b c : Bool) → (not a || b) ≡ true → (b && c) ≡ false → (a && c) ≡ false
covered_bits true b c t e = ap (λ (x : Bool). x && c) (sym t) ∙ e
covered_bits false b c t e = refl

pub shared_kept : (p : ℕ) → shared p ≡ true → p < kept
shared_kept p t = ⊎_elim (λ u. let s : p ≡ mie = eqb-true _ _ u in omega arith) (λ u. let s : p ≡ mip = eqb-true _ _ u in omega arith) (or_cases (eqb p mie) (eqb p mip) t)

module _ (h : Hart) (l : length h.regs ≡ kept) (b : reg h hideleg < 2 ^ 64) (v : View) (x : ℕ) where
  set_own : Own v → (w : Bool) → Kept h (written h v x w)
  unfolding written
  set_own o true = only_guest h _ (λ p f. get_or-set_other h.regs v.home p _ 0 (apart guest p v.home f o.home))
  set_own o false = only_guest h _ (λ p f. refl)

  lent_bits : Lent v → (p n : ℕ) → n < 64 → (among n (handed p) && has n (reg h hideleg)) ≡ false
      → has n (get_or (set h.regs v.home (stored_by v (lets h.regs v) (reg h v.home) x)) p 0) ≡ has n (reg h p)
  lent_bits k p n c e = go (eqb p v.home) refl
    where
      go : (t : Bool) → eqb p v.home ≡ t → has n (get_or (set h.regs v.home (stored_by v (lets h.regs v) (reg h v.home) x)) p 0) ≡ has n (reg h p)
      go true q =
          let r : p ≡ v.home = eqb-true _ _ q in
          let g = lent_gate h v l k.gate in
          rw (r, g) (ap (has n) (get_or-set_same h.regs v.home _ 0 (let n = shared_kept v.home k.home in omega (arith, l, n)))
          ∙ through_alone v (reg h hideleg) (reg h v.home) x n c b (covered_bits (has n (up v.shift v.writes)) _ _ (k.bits n c) (rw r at e)))
      go false q = ap (has n) (get_or-set_other h.regs v.home p _ 0 (eqb-false _ _ q))

  set_lent : Lent v → (w : Bool) → Kept h (written h v x w)
  unfolding written
  set_lent k true =
      record {
        registers = λ p f. get_or-set_other h.regs v.home p _ 0 (apart shared p v.home (or_right (guest p) (shared p) f) k.home);
        bits = λ p n f c e. lent_bits k p n c e;
      }
  set_lent k false = only_guest h _ (λ p f. refl)

-- V is 1 still
pub record Within (h h' : Hart) : Type 0 where
  pub kept : Kept h h'
  pub v : h'.v ≡ 1

module _ (h : Hart) (size : length h.regs ≡ kept) (word : reg h hideleg < 2 ^ 64) (v : h.v ≡ 1) where
  stays_within : (s : Step) → Comes h s → s.outcome ≡ Done → Within h s.hart
  unfolding returned_vs written
  stays_within s (refuses r) e = clash (cc)
  stays_within s (traps a t) e = clash (cc)
  stays_within s (mrets a m) e = clash (rw v at (and_left (eqb h.v 0) _ m))
  stays_within s (srets_VS a u) e = record { kept = only_guest h _ (outside_kept guest (writes_vsret h) h.regs refl); v = refl }
  stays_within s (srets_HS a u) e = clash (sym (rw v at u))
  stays_within s (moves a) e = record { kept = only_guest h _ (λ p f. refl); v = v }
  stays_within s (writes a place l w p x) e =
      let to = reaches h place in
      record { kept = ⊎_elim (λ o. set_own h size word to x o w) (λ k. set_lent h size word to x k w) (reached-guest h place w a v l p); v = v }
  stays_within s (interrupts a to n d) e = clash (cc)
  stays_within s (rests a) e = record { kept = only_guest h h (λ p f. refl); v = v }

  -- every event that starts with V=1 and is done (it neither traps nor is refused nor interrupted)
  pub guest-within : (e : Event) → (run e h).outcome ≡ Done → Within h (run e h).hart
  guest-within e = stays_within (run e h) (comes e h)

-- an access that is done keeps the privilege too
settled-keeps : (h : Hart) (own : Result Unit Refusal) (v : Verdict) (word : ℕ) (h' : Hart) → h'.privilege ≡ h.privilege
    → (settled h own v word (done h')).outcome ≡ Done → (settled h own v word (done h')).hart.privilege ≡ h.privilege
settled-keeps h own v word h' k =
    settled_cases (λ (s : Step). s.outcome ≡ Done → s.hart.privilege ≡ h.privilege) h own v word (done h') (λ r e. refl)
    (λ p cause c e. clash (cc)) (λ p o a b e. k)

found-keeps : (found : Option (ℕ × Row)) (h : Hart) (own : Result Unit Refusal) (form : Form) (w : ℕ) (b : Bool) (word : ℕ) → (access_found found h own form w b word).outcome ≡ Done → (access_found found h own form w b word).hart.privilege ≡ h.privilege
unfolding access_row written
found-keeps None h own form w b word = settled-keeps h own _ _ h refl
found-keeps (Some (place, row)) h own form w b word =
    let to = reaches h place in
    settled-keeps h own _ _ (written h to (combined form (seen h to) w) b) refl

pub access-keeps-privilege : (h : Hart) (form : Form) (number w : ℕ) (b : Bool) (word : ℕ) → (access h form number w b word).outcome ≡ Done → (access h form number w b word).hart.privilege ≡ h.privilege
unfolding access
access-keeps-privilege h form number w b word = found-keeps (first_at table number 0) h _ form w b word
