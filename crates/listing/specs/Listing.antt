-- The word layout of a translation.
use Rattle.std.specs.Prelude.{List, ◌∷◌, ◌++◌, ℕ, ◌+◌, ◌-◌, ◌*◌, length, replicate}
use Rattle.stages.specs.Listed.{places, read_words}
use Rattle.translate.specs.declared.Answer.{Answer}
use Rattle.translate.specs.declared.Translated.{Translated}
use Rattle.translate.specs.Translated.{values}

-- which case an answer is: 0 an address, 1 a fault, 2 a refusal
abbrev pub case_of : Answer → ℕ
case_of (Answer.Address m) = 0
case_of (Answer.Refused r) = 2
case_of (Answer.Fault f) = 1

-- A translation's answer, 6 words: its case, and its values in five, the rest zero.
abbrev pub answer_words : Answer → List ℕ
answer_words x = case_of x ∷ (values x ++ replicate (5 - length (values x)) 0)

-- where the list begins: behind the answer and the count
abbrev pub list_at : ℕ
list_at = 7

-- A translation's result: the answer, the count, and the places of the list, 4 words each.
abbrev pub translation_size : ℕ
translation_size = list_at + 4 * places

unfoldable pub translation_words : Translated → List ℕ
translation_words t = answer_words t.answer ++ (t.count ∷ read_words t.reads)
