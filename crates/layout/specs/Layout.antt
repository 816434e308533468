-- The word layout: how a hart, and what an event comes to, travel as words. (A translation's words: the crate listing.)
use Rattle.std.specs.Prelude.{List, [], ◌∷◌, ◌++◌, ℕ, ◌+◌, ◌*◌, eqb, length, get_or, drop, replicate}
use Rattle.bits.specs.Field.{pick}
use Rattle.exceptions.specs.Refusal.{number}
use Rattle.registers.specs.Places.{kept}
use Rattle.hart.specs.declared.state.Hart.{Hart}
use Rattle.hart.specs.declared.event.Outcome.{Outcome}
use Rattle.hart.specs.declared.event.Outcome.TheVariants.{Done, Trapped, Refused, Interrupted}
use Rattle.hart.specs.declared.event.Step.{Step}
use Rattle.hart.specs.declared.accesses.Accessed.{Accessed}
use Rattle.hart.specs.declared.guest.Performed.{Performed}
use Rattle.stages.specs.Listed.{places, read_words}

-- A hart: V, privilege, pc, then the registers that it keeps, each at its place.
abbrev pub hart_size : ℕ
hart_size = 3 + kept

abbrev pub words : Hart → List ℕ
words h = h.v ∷ h.privilege ∷ h.pc ∷ h.regs

abbrev pub said : List ℕ → Hart
said ws = record { v = get_or ws 0 0; privilege = get_or ws 1 0; pc = get_or ws 2 0; regs = drop 3 ws }

-- the hart that these words say; a blank one where there are more words or fewer: no call gives out what comes of it
unfoldable pub hart_of : List ℕ → Hart
hart_of ws = pick (eqb (length ws) hart_size) (said ws) (said (replicate hart_size 0))

-- What an event came to, 2 words: 0 done; 1 trapped, and the cause; 2 refused, and the number; 3 an interrupt was taken, and its number.
abbrev pub outcome_words : Outcome → List ℕ
outcome_words Done = 0 ∷ 0 ∷ []
outcome_words (Trapped cause) = 1 ∷ cause ∷ []
outcome_words (Refused r) = 2 ∷ number r ∷ []
outcome_words (Interrupted number) = 3 ∷ number ∷ []

-- An event's result: the next hart, and what the event came to.
abbrev pub step_size : ℕ
step_size = hart_size + 2

unfoldable pub step_words : Step → List ℕ
step_words s = words s.hart ++ outcome_words s.outcome

-- A register access's result: the same, and the value answered.
abbrev pub access_size : ℕ
access_size = step_size + 1

unfoldable pub access_words : Accessed → List ℕ
access_words a = step_words (record { hart = a.hart; outcome = a.outcome }) ++ (a.value ∷ [])

-- A hypervisor load's or store's result: as a register access's (the next hart, what it came to, the value answered), then the count and the list.
abbrev pub performed_size : ℕ
performed_size = access_size + (1 + 4 * places)

unfoldable pub performed_words : Performed → List ℕ
performed_words p = access_words (record { hart = p.hart; outcome = p.outcome; value = p.value }) ++ (p.count ∷ read_words p.reads)
