-- What an event comes to, and the order in which it is settled (document 01, "When the model says no").
use Rattle.std.specs.Prelude.{◌≡◌, ℕ, ◌+◌, ◌%◌, ◌^◌, Bool, true, false, not, Result, Ok, Err}
use Rattle.bits.specs.Field.{pick}
use Rattle.privilege.specs.declared.Verdict.{Verdict}
use Rattle.exceptions.specs.declared.Exception.{Exception}
use Rattle.exceptions.specs.declared.Refusal.{Refusal}
use Rattle.exceptions.specs.declared.Refusal.TheVariants as refusals
use Rattle.exceptions.specs.Refusal.{number}
use Rattle.hart.specs.declared.state.Hart.{Hart}
use Rattle.hart.specs.declared.event.Outcome.{Outcome}
use Rattle.hart.specs.declared.event.Outcome.TheVariants.{Done, Trapped, Refused, Interrupted}
use Rattle.hart.specs.declared.event.Step.{Step}
use Rattle.hart.specs.declared.event.Halt.{Halt}
use Rattle.hart.specs.declared.event.Halt.TheVariants.{Refuses, Raises}
use Rattle.hart.specs.Hart.{passes}
use Rattle.hart.specs.Deliver.{delivered}

-- document 01's number for each case: 0 where the event is accepted
abbrev pub refusal : Outcome → ℕ
refusal Done = 0
refusal (Trapped cause) = 0
refusal (Refused r) = number r
refusal (Interrupted number) = 0

-- neither trapped nor refused, nor an interrupt
abbrev pub is_done : Outcome → Bool
is_done Done = true
is_done (Trapped cause) = false
is_done (Refused r) = false
is_done (Interrupted number) = false

abbrev pub step : Hart → Outcome → Step
step h o = record { hart = h; outcome = o }

abbrev pub done : Hart → Step
done h = step h Done

-- a refusal leaves the hart as given
abbrev pub refused : Hart → Refusal → Step
refused h r = step h (Refused r)

-- any event that traps, but for a translation, delivers at once
abbrev pub trapped : Hart → Exception → Step
trapped h t = step (delivered h t) (Trapped t.cause)

-- "In all these but the breakpoint the flag is clear; second value and word are 0": causes 2 and 22 raised by the model, environment calls
abbrev pub plain : (cause value : ℕ) → Exception
plain cause value = record { cause = cause; value = value; value2 = 0; word = 0; flag = false }

-- "Causes 2 and 22 raised by a register access, return, WFI or fence carry the 32-bit instruction word as the value." (2026-02)
abbrev pub raised : Hart → (cause word : ℕ) → Step
raised h cause word = trapped h (plain cause word)

-- environment calls, breakpoints, trap requests and interrupts have no word, and give neither 2 nor 22
abbrev pub no_value : ℕ
no_value = 0

-- the call's own refusal, else what follows it
abbrev pub unless_refused : (own : Result Unit Refusal) → Result Unit Halt → Result Unit Halt
unless_refused (Err r) next = Err (Refuses r)
unless_refused (Ok t) next = next

-- order: 2, then the call's own; then the cause that the instruction gives
abbrev pub stop_of : Hart → (own : Result Unit Refusal) → Verdict → Result Unit Halt
stop_of h own verdict =
    pick (not (passes h)) (Err (Refuses refusals.Hart))
    (unless_refused own
    (pick verdict.gives2 (Err (Raises 2))
    (pick verdict.gives22 (Err (Raises 22)) (Ok tt))))

-- an event that does not go on: refused, or a cause is raised with the word
abbrev pub halted : Hart → Halt → (word : ℕ) → Step
halted h (Refuses r) word = refused h r
halted h (Raises cause) word = raised h cause word

-- a step that is done, unless it halts before
abbrev pub settled_by : Result Unit Halt → Hart → (word : ℕ) → Step → Step
settled_by (Ok t) h word finished = finished
settled_by (Err halt) h word finished = halted h halt word

unfoldable pub settled : Hart → (own : Result Unit Refusal) → Verdict → (word : ℕ) → Step → Step
settled h own verdict word finished = settled_by (stop_of h own verdict) h word finished

-- a step is the only one that a call can come to (for a contract of code)
abbrev pub Gives : (Step → Type 0) → Step → Type 0
Gives comes finished = (s : Step) → comes s → s ≡ finished

-- an instruction moves pc on by 4, wrapping
abbrev pub next : ℕ → ℕ
next pc = (pc + 4) % 2 ^ 64

abbrev pub moved : Hart → Hart
moved h = record { v = h.v; privilege = h.privilege; pc = next h.pc; regs = h.regs }
