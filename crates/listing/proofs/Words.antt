-- Words written one after the other are the definition's. Assumes nothing.
use mathlib.Core.Path.{◌≡◌, refl, sym, ap, ◌∙◌}
use mathlib.Core.List.{List, [], ◌∷◌, ◌++◌, append_assoc}
use Prim.Native.Nat.{ℕ, ◌+◌, ◌-◌, ◌*◌, ◌≤◌}
use native.Mathlib.Omega.{arith}
use lib.ListN.{length, replicate, length-append, length-replicate, length-drop, take, drop}
use lib.Seq.{sets, length-sets, sets-eq, drop_at, length-take-le}
use Rattle.stages.specs.declared.Read.{Read}
use Rattle.stages.specs.Listed.{places, unused, padded, read_words}
use Rattle.stages.proofs.Words.{length-words, words_append, words-unused}
use Rattle.layout.proofs.Written.{over_rest}
use Rattle.translate.specs.declared.Answer.{Answer}
use Rattle.listing.specs.Listing.{list_at, translation_size, answer_words}

-- a list's reads behind seven words, then zeros in the places that are left
closed_by : (p out : List ℕ) (rs : List Read) → length p ≡ list_at → length out ≡ translation_size → length rs ≤ places
    → sets (p ++ drop list_at (sets out list_at (read_words rs))) (list_at + 4 * length rs) (replicate (translation_size - (list_at + 4 * length rs)) 0) ≡ p ++ read_words (padded places rs)
closed_by p out rs e l few =
    let ws = read_words rs in
    let n = list_at + 4 * length rs in
    let zeros : List ℕ = replicate (translation_size - n) 0 in
    let rest = drop (7 + length ws) out in
    let left : translation_size - n ≡ 4 * (places - length rs) = omega arith in
    let list : drop list_at (sets out list_at ws) ≡ ws ++ rest = ap (drop 7) (sets-eq ws out 7 (omega (arith, length-words rs)) ∙ append_assoc (take 7 out) ws rest) ∙ drop_at (take 7 out) (ws ++ rest) 7 (length-take-le 7 out (omega arith)) in
    ap (λ (r : List ℕ). sets r n zeros) (ap (λ (r : List ℕ). p ++ r) list ∙ sym (append_assoc p ws rest))
    ∙ over_rest (p ++ ws) rest zeros n (simp length-append (omega (arith, e, length-words rs))) (simp (length-drop, length-replicate) (omega (arith, length-words rs)))
    ∙ append_assoc p ws zeros
    ∙ ap (λ (r : List ℕ). p ++ r) (rw left (sym (words_append rs (unused (places - length rs)) ∙ ap (λ (r : List ℕ). ws ++ r) (words-unused (places - length rs)))))

pub closed : (x : Answer) (out : List ℕ) (rs : List Read) → length out ≡ translation_size → length rs ≤ places
    → sets (answer_words x ++ (length rs ∷ drop list_at (sets out list_at (read_words rs)))) (list_at + 4 * length rs) (replicate (translation_size - (list_at + 4 * length rs)) 0)
    ≡ answer_words x ++ (length rs ∷ read_words (padded places rs))
closed (Answer.Address m) out rs = closed_by (answer_words (Answer.Address m) ++ (length rs ∷ [])) out rs refl
closed (Answer.Refused r) out rs = closed_by (answer_words (Answer.Refused r) ++ (length rs ∷ [])) out rs refl
closed (Answer.Fault f) out rs = closed_by (answer_words (Answer.Fault f) ++ (length rs ∷ [])) out rs refl

-- the answer's words and the count, written before what follows
pub answer-written : (x : Answer) (count : ℕ) (out : List ℕ) → 7 ≤ length out → sets out 0 (answer_words x ++ (count ∷ [])) ≡ answer_words x ++ (count ∷ drop 7 out)
answer-written (Answer.Address m) count out h = sets-eq (answer_words (Answer.Address m) ++ (count ∷ [])) out 0 h
answer-written (Answer.Refused r) count out h = sets-eq (answer_words (Answer.Refused r) ++ (count ∷ [])) out 0 h
answer-written (Answer.Fault f) count out h = sets-eq (answer_words (Answer.Fault f) ++ (count ∷ [])) out 0 h

pub answer-length : (x : Answer) (count : ℕ) (out : List ℕ) → 7 ≤ length out → length (answer_words x ++ (count ∷ drop 7 out)) ≡ length out
answer-length x count out h = ap length (sym (answer-written x count out h)) ∙ length-sets out 0 (answer_words x ++ (count ∷ []))
