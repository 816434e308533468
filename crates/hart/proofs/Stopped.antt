-- An event is settled by whether it goes on or halts. Assumes nothing.
use Rattle.std.proofs.Common.{◌≡◌, ℕ, refl, ap, ◌∙◌}
use Rattle.std.specs.Prelude.{Result, Ok, Err}
use Rattle.exceptions.specs.declared.Refusal.{Refusal}
use Rattle.privilege.specs.declared.Verdict.{Verdict}
use Rattle.hart.specs.declared.state.Hart.{Hart}
use Rattle.hart.specs.declared.event.Outcome.{Outcome}
use Rattle.hart.specs.declared.event.Outcome.TheVariants.{Done, Trapped, Refused, Interrupted}
use Rattle.hart.specs.declared.event.Step.{Step}
use Rattle.hart.specs.declared.event.Halt.{Halt}
use Rattle.hart.specs.declared.event.Halt.TheVariants.{Refuses, Raises}
use Rattle.hart.specs.Event.{step, halted, stop_of, settled_by, settled}
use Rattle.hart.specs.Access.{answer}

-- what halts is answered with 0
pub answered : (h : Hart) (o : Outcome) {s : Step} → step h o ≡ s → record { hart = h; outcome = o; value = 0 } ≡ answer s 0
answered h Done e = ap (λ (s : Step). answer s 0) e
answered h (Trapped cause) e = ap (λ (s : Step). answer s 0) e
answered h (Refused number) e = ap (λ (s : Step). answer s 0) e
answered h (Interrupted number) e = ap (λ (s : Step). answer s 0) e

module _ (h : Hart) (own : Result Unit Refusal) (v : Verdict) (word : ℕ) (finished : Step) (old : ℕ) where
  pub goes : {t : Unit {0}} → Ok t ≡ stop_of h own v → answer finished old ≡ answer (settled h own v word finished) old
  unfolding settled
  goes e = ap (λ (s : Result Unit Halt). answer (settled_by s h word finished) old) e

  -- what halts answers 0, whatever was seen
  halts-0 : (x : Halt) → answer (halted h x word) 0 ≡ answer (halted h x word) old
  halts-0 (Refuses r) = refl
  halts-0 (Raises cause) = refl

  pub halts : {x : Halt} → Err x ≡ stop_of h own v → answer (halted h x word) 0 ≡ answer (settled h own v word finished) old
  unfolding settled
  halts {x} e = halts-0 x ∙ ap (λ (s : Result Unit Halt). answer (settled_by s h word finished) old) e
