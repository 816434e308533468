-- A refusal returns the hart as given; an access that traps or is refused answers 0. Assumes nothing.
use mathlib.Core.Path.{◌≡◌, refl}
use mathlib.Core.Bool.{Bool}
use Prim.Native.Nat.{ℕ, ◌<◌}
use native.Mathlib.Omega.{arith}
use Rattle.std.specs.Prelude.{Result, Option, Some, None}
use Rattle.exceptions.specs.declared.Refusal.{Refusal}
use Rattle.table.specs.declared.Row.{Row}
use Rattle.table.specs.Table.{table, first_at}
use Rattle.hart.specs.declared.state.Hart.{Hart}
use Rattle.hart.specs.declared.event.Outcome.{Outcome}
use Rattle.hart.specs.declared.event.Outcome.TheVariants.{Trapped, Refused}
use Rattle.hart.specs.declared.event.Step.{Step}
use Rattle.csr.specs.declared.Form.{Form}
use Rattle.hart.specs.Event.{refusal}
use Rattle.hart.specs.Access.{value_of, access_row, access_found, access}
use Rattle.invariants.specs.Events.{Event, run}
use Rattle.invariants.proofs.Comes.{Comes, refuses, traps, mrets, srets_VS, srets_HS, moves, writes, interrupts, rests, comes}

as_given : (h : Hart) (s : Step) → Comes h s → 0 < refusal s.outcome → s.hart ≡ h
as_given h s (refuses x) r = refl
as_given h s (traps a t) r = absurd (omega arith)
as_given h s (mrets a m) r = absurd (omega arith)
as_given h s (srets_VS a v) r = absurd (omega arith)
as_given h s (srets_HS a v) r = absurd (omega arith)
as_given h s (moves a) r = absurd (omega arith)
as_given h s (writes a place l w v x) r = absurd (omega arith)
as_given h s (interrupts a to n d) r = absurd (omega arith)
as_given h s (rests a) r = absurd (omega arith)

-- a refusal returns the hart as given: every event
pub refusal_as_given : (e : Event) (h : Hart) → 0 < refusal (run e h).outcome → (run e h).hart ≡ h
refusal_as_given e h = as_given h (run e h) (comes e h)

-- the value answered is the old one only where the access was done
pub record Answers (o : Outcome) (value : ℕ) : Type 0 where
  pub trapped : (cause : ℕ) → o ≡ Trapped cause → value ≡ 0
  pub refused : (r : Refusal) → o ≡ Refused r → value ≡ 0

answers : (o : Outcome) (old : ℕ) → Answers o (value_of o old)
answers o old = record { trapped = λ cause e. rw e; refused = λ r e. rw e }

found_answers : (found : Option (ℕ × Row)) (h : Hart) (own : Result Unit Refusal) (form : Form) (w : ℕ) (b : Bool) (word : ℕ) → Answers (access_found found h own form w b word).outcome (access_found found h own form w b word).value
unfolding access_row
found_answers None h own form w b word = answers _ 0
found_answers (Some (place, row)) h own form w b word = answers _ _

-- an access that traps or is refused answers 0
pub access_answers : (h : Hart) (form : Form) (number w : ℕ) (b : Bool) (word : ℕ) → Answers (access h form number w b word).outcome (access h form number w b word).value
unfolding access
access_answers h form number w b word = found_answers (first_at table number 0) h _ form w b word
