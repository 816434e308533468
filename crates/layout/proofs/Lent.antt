-- A result whose registers are lent where they stand. Assumes nothing.
use mathlib.Core.Path.{◌≡◌, ap, ◌∙◌}
use mathlib.Core.List.{List, [], ◌∷◌, ◌++◌, append_assoc}
use Prim.Native.Nat.{ℕ, ◌-◌, ◌≤◌}
use native.Mathlib.Omega.{arith}
use lib.ListN.{length, take, drop, set, length-drop}
use lib.Seq.{length-take-le, drop-append-le, take_at, drop_at, drop-drop, take-set-le, drop-set-add, sets, sets-eq}
use borrow.Rule.Slice.PartMut.{put_mid, same_len_mid}
use Rattle.registers.specs.Places.{kept}
use Rattle.hart.specs.declared.accesses.Answer.{Answer}
use Rattle.hart.specs.Event.{step}
use Rattle.hart.specs.Lent.{control, on, accessed_on}
use Rattle.layout.specs.Layout.{hart_size, hart_of, step_size, step_words, access_size, access_words}
use Rattle.layout.proofs.Written.{past, read}

-- the words before and behind the registers
pub around : (out o : List ℕ) (v p c : ℕ) → 3 ≤ length out
    → put_mid hart_size 2 (sets out 0 (v ∷ p ∷ c ∷ [])) o ≡ (v ∷ p ∷ c ∷ take kept (drop 3 out)) ++ o ++ drop step_size out
around out o v p c n = rw (sets-eq (v ∷ p ∷ c ∷ []) out 0 n, drop-drop kept 3 out, drop-drop 2 hart_size out, append_assoc (take kept (drop 3 out)) o (drop step_size out))

-- a hart's words put first, and its registers lent there
module _ (h rest : List ℕ) (size : length h ≡ hart_size) where
  lent : take kept (drop 3 (h ++ rest)) ≡ drop 3 h
  lent = rw (drop-append-le 3 h rest (omega arith)) (take_at (drop 3 h) rest kept (rw length-drop (omega arith)))

  pub lent_length : length (take kept (drop 3 (h ++ rest))) ≡ kept
  lent_length = rw (lent, length-drop) (omega arith)

  pub lent_hart : on (control (hart_of h)) (take kept (drop 3 (h ++ rest))) ≡ hart_of h
  lent_hart = rw (lent, read h size)

-- the registers back among the words o, and the value written behind
module _ (o regs : List ℕ) (a : Answer) (size : length o ≡ access_size) (same : length regs ≡ length (take kept (drop 3 o))) where
  abbrev back : List ℕ
  back = set (put_mid 3 kept o regs) step_size a.value

  held : take kept (drop 3 back) ≡ regs
  held =
      let rest = drop kept (drop 3 o) in
      let n : length regs ≡ kept = same ∙ length-take-le kept (drop 3 o) (simp length-drop (omega arith)) in
      ap (λ (l : List ℕ). take kept l) (drop-set-add 3 (put_mid 3 kept o regs) (step_size - 3) a.value)
      ∙ take-set-le kept (drop 3 (put_mid 3 kept o regs)) (step_size - 3) a.value (omega arith)
      ∙ ap (λ (l : List ℕ). take kept l) (drop_at (take 3 o) (regs ++ rest) 3 (length-take-le 3 o (omega arith)))
      ∙ take_at regs rest kept n

  pub answer-words : step_words (step (on a.control (take kept (drop 3 back))) a.outcome) ++ drop step_size back ≡ access_words (accessed_on a regs)
  unfolding access_words
  answer-words = rw (held, past (put_mid 3 kept o regs) (a.value ∷ []) step_size (same_len_mid 3 kept o regs same ∙ size))
