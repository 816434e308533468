-- WFI and fences that don't trap only move pc (document 01, "Traps and returns"); each with its instruction word (2026-02).
use Rattle.std.specs.Prelude.{ℕ, Ok}
use Rattle.privilege.specs.declared.Verdict.{Verdict}
use Rattle.instructions.specs.Instructions as instructions
use Rattle.hart.specs.declared.state.Hart.{Hart}
use Rattle.hart.specs.declared.event.Step.{Step}
use Rattle.hart.specs.Hart.{context}
use Rattle.hart.specs.Event.{done, settled, moved}

abbrev pub passing : Hart → Verdict → (word : ℕ) → Step
passing h verdict word = settled h (Ok tt) verdict word (done (moved h))

unfoldable pub wfi : Hart → (word : ℕ) → Step
wfi h word = passing h (instructions.wfi (context h)) word

unfoldable pub sfence_vma : Hart → (word : ℕ) → Step
sfence_vma h word = passing h (instructions.sfence_vma (context h)) word

unfoldable pub hfence_vvma : Hart → (word : ℕ) → Step
hfence_vvma h word = passing h (instructions.hfence_vvma (context h)) word

unfoldable pub hfence_gvma : Hart → (word : ℕ) → Step
hfence_gvma h word = passing h (instructions.hfence_gvma (context h)) word
