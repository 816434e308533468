-- What any event can come to, with what is known where it does: each theorem goes by these cases. Assumes nothing.
use Rattle.std.specs.Prelude.{Ok, Err, Option, Some, None}
use mathlib.Core.Path.{◌≡◌, refl, sym, subst}
use mathlib.Core.Bool.{Bool, true, false}
use mathlib.Core.List.{List}
use Prim.Native.Nat.{ℕ, ◌<◌}
use lib.Dec.{eqb}
use lib.ListN.{length}
use borrow.Author.Tests.{eqb-true, not-false}
use Rattle.bits.proofs.Bools.{clash}
use Rattle.std.specs.Prelude.{Result, Ok, Err}
use Rattle.exceptions.specs.declared.Refusal.{Refusal}
use Rattle.table.specs.declared.Row.{Row}
use Rattle.registers.specs.Views.{View}
use Rattle.registers.specs.Registers.{count, at}
use Rattle.table.specs.Table.{row_of, table, first_at, reached}
use Rattle.table.proofs.Listed.{lookup-found}
use Rattle.privilege.specs.declared.Verdict.{Verdict}
use Rattle.exceptions.specs.declared.Exception.{Exception}
use Rattle.privilege.specs.Mode.{is_m, gives}
use Rattle.instructions.specs.Instructions as instructions
use Rattle.csr.specs.Access.{verdict}
use Rattle.delivery.specs.Delivery.{call_cause, breakpoint}
use Rattle.hart.specs.declared.state.Hart.{Hart}
use Rattle.hart.specs.declared.event.Step.{Step}
use Rattle.csr.specs.declared.Form.{Form}
use Rattle.delivery.specs.declared.Target.{Target}
use Rattle.interrupts.specs.Interrupts.{chosen, interruption}
use Rattle.hart.specs.declared.event.Outcome.TheVariants.{Interrupted}
use Rattle.hart.specs.declared.event.Halt.{Halt}
use Rattle.hart.specs.Hart.{context, lines, paging, passes}
use Rattle.hart.specs.Deliver.{delivered_to}
use Rattle.hart.specs.Event.{step, done, refused, trapped, plain, moved, stop_of, settled_by, settled}
use Rattle.hart.specs.Interrupt.{taking, interrupt}
use Rattle.hart.specs.Trap.{trap, ecall, ebreak}
use Rattle.hart.specs.Return.{returned_m, returned_hs, returned_vs, returned_s, mret, sret}
use Rattle.hart.specs.Wait.{passing, wfi, sfence_vma, hfence_vvma, hfence_gvma}
use Rattle.hart.specs.Access.{written, access_row, access_found, access}
use Rattle.stages.specs.Tree.{Ran}
use Rattle.hypervisor.specs.declared.Operation.{Operation}
use Rattle.hypervisor.specs.Hypervisor.{End, refusal_of, access_for, walk_for}
use Rattle.hart.specs.Guest.{ended, reached_by, reach}
use Rattle.invariants.specs.Events.{Instruction, Event, step_of, step_at, executed, run}
use Rattle.invariants.specs.Events as events
use Rattle.invariants.proofs.Settled.{settled_cases}

-- the verdict gives neither 2 nor 22
pub record Allowed (v : Verdict) : Type 0 where
  pub not2 : v.gives2 ≡ false
  pub not22 : v.gives22 ≡ false

-- the view that an access to a row reaches
abbrev pub reaches : Hart → ℕ → View
reaches h place = reached (eqb h.v 1) (at place)

pub data Comes (h : Hart) : Step → Type 0 where
  refuses : (r : Refusal) → Comes h (refused h r)
  traps : passes h ≡ true → (t : Exception) → Comes h (trapped h t)
  mrets : passes h ≡ true → is_m (context h) ≡ true → Comes h (done (returned_m h))
  srets_VS : passes h ≡ true → h.v ≡ 1 → Comes h (done (returned_vs h))
  srets_HS : passes h ≡ true → eqb h.v 1 ≡ false → Comes h (done (returned_hs h))
  moves : passes h ≡ true → Comes h (done (moved h))
  writes : passes h ≡ true → (place : ℕ) → place < count → (w : Bool) → Allowed (verdict (context h) (row_of (at place)) w) → (x : ℕ)
      → Comes h (done (written h (reaches h place) x w))
  interrupts : passes h ≡ true → (to : Target) (n : ℕ) → chosen (context h) (lines h) ≡ Some (to, n) → Comes h (step (delivered_to to h (interruption to n)) (Interrupted n))
  rests : passes h ≡ true → Comes h (done h)

-- an event whose finished step is one of them
comes_settled : (h : Hart) (own : Result Unit Refusal) (v : Verdict) (word : ℕ) (finished : Step) → (passes h ≡ true → Allowed v → Comes h finished) → Comes h (settled h own v word finished)
comes_settled h own v word finished d =
    settled_cases (Comes h) h own v word finished refuses (λ p cause w. traps p (plain cause word)) (λ p o a b. d p (record { not2 = a; not22 = b }))

-- ---- instructions

-- an instruction's own refusal, its verdict and the hart where it is done: its word has no part in them
pub record Settles (h : Hart) (event : (word : ℕ) → Step) : Type 0 where
  pub own : Result Unit Refusal
  pub verdict : Verdict
  pub finished : Hart
  pub settles : (word : ℕ) → event word ≡ settled h own verdict word (done finished)
  pub comes : passes h ≡ true → Allowed verdict → Comes h (done finished)

comes_sret : (h : Hart) → passes h ≡ true → (b : Bool) → eqb h.v 1 ≡ b → Comes h (done (Rattle.bits.specs.Field.pick b (returned_vs h) (returned_hs h)))
comes_sret h p true e = srets_VS p (eqb-true _ _ e)
comes_sret h p false e = srets_HS p e

settles_passing : (h : Hart) (v : Verdict) → Settles h (passing h v)
settles_passing h v = record { own = Ok tt; verdict = v; finished = moved h; settles = λ word. refl; comes = λ p a. moves p }

settles_row : (h : Hart) (own : Result Unit Refusal) (place : ℕ) (row : Row) (form : Form) (w : ℕ) (b : Bool) → place < count → row ≡ row_of (at place) → Settles h (λ word. step_of (access_row h own place row form w b word))
unfolding access_row
settles_row h own place row form w b l e =
    record {
      own = own;
      verdict = verdict (context h) row b;
      finished = written h (reaches h place) _ b;
      settles = λ word. refl;
      comes = λ p a. writes p place l b (subst (λ (r : Row). Allowed (verdict (context h) r b)) e a) _;
    }

settles_found : (found : Option (ℕ × Row)) (h : Hart) (number : ℕ) (own : Result Unit Refusal) (form : Form) (w : ℕ) (b : Bool) → first_at table number 0 ≡ found → Settles h (λ word. step_of (access_found found h own form w b word))
settles_found None h number own form w b e = record { own = own; verdict = gives true false; finished = h; settles = λ word. refl; comes = λ p a. clash (sym a.not2) }
settles_found (Some (place, row)) h number own form w b e =
    let l = lookup-found number place row e in
    settles_row h own place row form w b l.below l.row

pub settles_as : (i : Instruction) (h : Hart) → Settles h (executed i h)
unfolding mret sret wfi sfence_vma hfence_vvma hfence_gvma access
settles_as events.mret h =
    record { own = Ok tt; verdict = instructions.mret (context h); finished = returned_m h; settles = λ word. refl; comes = λ p a. mrets p (not-false _ a.not2) }
settles_as events.sret h =
    record { own = Ok tt; verdict = instructions.sret (context h); finished = returned_s h; settles = λ word. refl; comes = λ p a. comes_sret h p (eqb h.v 1) refl }
settles_as events.wfi h = settles_passing h (instructions.wfi (context h))
settles_as events.sfence_vma h = settles_passing h (instructions.sfence_vma (context h))
settles_as events.hfence_vvma h = settles_passing h (instructions.hfence_vvma (context h))
settles_as events.hfence_gvma h = settles_passing h (instructions.hfence_gvma (context h))
settles_as (events.access form number w b) h = settles_found (first_at table number 0) h number _ form w b refl

-- ---- hypervisor loads and stores

-- one is settled as any event is: done at its walk's end, or trapped with the fault there
pub reach_settles : (o : Operation) (base : ℕ) (bytes : List ℕ) (width address word : ℕ) (h : Hart)
    → step_at (reach h o base bytes width address word) ≡ settled h (refusal_of o base (length bytes) width) (instructions.hypervisor_access (context h)) word (ended h (walk_for base bytes (access_for o (context h) (paging h) address width)).end)
unfolding reach settled
reach_settles o base bytes width address word h = go (stop_of h (refusal_of o base (length bytes) width) (instructions.hypervisor_access (context h)))
  where
    r : Ran End
    r = walk_for base bytes (access_for o (context h) (paging h) address width)

    go : (s : Result Unit Halt) → step_at (reached_by s h word r) ≡ settled_by s h word (ended h r.end)
    go (Ok t) = refl
    go (Err halt) = refl

comes_ended : (h : Hart) → passes h ≡ true → (e : End) → Comes h (ended h e)
comes_ended h p (Ok m) = moves p
comes_ended h p (Err f) = traps p f

-- ---- every event

comes_taking : (h : Hart) → passes h ≡ true → (d : Option (Target × ℕ)) → chosen (context h) (lines h) ≡ d → Comes h (taking h d)
comes_taking h p (Some (to, n)) e = interrupts p to n e
comes_taking h p None e = rests p

pub comes : (e : Event) (h : Hart) → Comes h (run e h)
unfolding run trap ecall ebreak interrupt
comes (events.executes i word) h =
    let s = settles_as i h in
    subst (Comes h) (sym (s.settles word)) (comes_settled h s.own s.verdict word (done s.finished) s.comes)
comes (events.reaches o base bytes width address word) h = subst (Comes h) (sym (reach_settles o base bytes width address word h)) (comes_settled h _ _ _ _ (λ p a. comes_ended h p (walk_for base bytes (access_for o (context h) (paging h) address width)).end))
comes (events.trap t) h = comes_settled h _ _ _ _ (λ p a. traps p t)
comes events.ecall h = comes_settled h (Ok tt) _ _ _ (λ p a. traps p (plain (call_cause (context h)) 0))
comes events.ebreak h = comes_settled h (Ok tt) _ _ _ (λ p a. traps p (breakpoint h.v h.pc))
comes events.interrupt h = comes_settled h (Ok tt) _ _ _ (λ p a. comes_taking h p (chosen (context h) (lines h)) refl)
