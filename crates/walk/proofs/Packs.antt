-- Words packed one read at a time. Assumes nothing.
use mathlib.Core.Path.{◌≡◌, refl, ap, ◌∙◌}
use mathlib.Core.List.{List, [], ◌∷◌, ◌++◌, append-nil}
use Prim.Native.Nat.{ℕ, zero, suc, ◌+◌, ◌*◌, ◌<◌, ◌≤◌}
use native.Mathlib.Nat.{zero-add}
use native.Mathlib.Omega.{arith}
use lib.ListN.{length, get_or, drop, set, drop_of_length-le}
use lib.Seq.{drop-cons, sets, sets-eq}
use Rattle.stages.specs.declared.Read.{Read}
use Rattle.stages.specs.Tree.{item}
use Rattle.stages.specs.Stages.{machine}
use Rattle.stages.specs.Listed.{padded, read_words}
use Rattle.stages.proofs.Words.{length-padded, length-words}
use Rattle.walk.specs.Walked.{unpack}

pub unpack-words : (rs : List Read) → unpack (read_words rs) ≡ rs
unfolding unpack
unpack-words [] = refl
unpack-words (r ∷ rs) = ap (λ (xs : List Read). r ∷ xs) (unpack-words rs)

-- one read packed: what is left to pack
pub packs : (reads : List Read) (ws : List ℕ) (whole : List Read) (i at i' at' : ℕ) → at + 4 ≤ length ws → i' ≡ suc i → at' ≡ at + 4 → sets reads i (unpack (drop at ws)) ≡ whole
    → sets (set reads i (item (get_or ws at 0) (get_or ws (at + 1) 0) (machine (get_or ws (at + 2) 0)) (get_or ws (at + 3) 0))) i' (unpack (drop at' ws)) ≡ whole
unfolding unpack
packs reads ws whole i at i' at' h p q e =
    let one : at + 1 ≡ suc at = omega arith in
    let two : at + 2 ≡ suc (suc at) = omega arith in
    let three : at + 3 ≡ suc (suc (suc at)) = omega arith in
    let four : at' ≡ suc (suc (suc (suc at))) = omega arith in
    let h0 : at < length ws = omega arith in
    let h1 : suc at < length ws = omega arith in
    let h2 : suc (suc at) < length ws = omega arith in
    let h3 : suc (suc (suc at)) < length ws = omega arith in
    rw (one, two, three, four, p) (rw (drop-cons ws at 0 h0, drop-cons ws (suc at) 0 h1, drop-cons ws (suc (suc at)) 0 h2, drop-cons ws (suc (suc (suc at))) 0 h3) at e)

pub packs_all : (reads : List Read) (ws : List ℕ) (whole : List Read) (i at : ℕ) → length ws ≤ at → sets reads i (unpack (drop at ws)) ≡ whole → reads ≡ whole
unfolding unpack
packs_all reads ws whole i at h e = rw (drop_of_length-le ws h) at e

length-unpack : (n : ℕ) (ws : List ℕ) → length ws ≡ 4 * n → length (unpack ws) ≡ n
unfolding unpack
length-unpack zero [] e = refl
length-unpack (suc n) [] e = absurd (omega arith)
length-unpack n (s ∷ []) e = absurd (omega arith)
length-unpack n (s ∷ l ∷ []) e = absurd (omega arith)
length-unpack n (s ∷ l ∷ m ∷ []) e = absurd (omega arith)
length-unpack zero (s ∷ l ∷ m ∷ v ∷ ws) e = absurd (omega arith)
length-unpack (suc n) (s ∷ l ∷ m ∷ v ∷ ws) e = let q : length ws ≡ 4 * n = omega arith in ap suc (length-unpack n ws q)

-- into an array of as many places
pub filled : (reads : List Read) (ws : List ℕ) (n : ℕ) → length reads ≡ n → length ws ≡ 4 * n → sets reads 0 (unpack ws) ≡ unpack ws
filled reads ws n r w =
    let l = length-unpack n ws w in
    let past : length reads ≤ length (unpack ws) = omega arith in
    sets-eq (unpack ws) reads 0 (omega arith) ∙ rw zero-add (ap (λ (xs : List Read). unpack ws ++ xs) (drop_of_length-le reads past) ∙ append-nil (unpack ws))

-- the whole of a slice stored anew
anew : (l ws : List ℕ) → length l ≡ length ws → sets l 0 ws ≡ ws
anew l ws e =
    let past : length l ≤ length ws = omega arith in
    sets-eq ws l 0 (omega arith) ∙ rw zero-add (ap (λ (xs : List ℕ). ws ++ xs) (drop_of_length-le l past) ∙ append-nil ws)

-- the list as it is handed over
pub handed : (l : List ℕ) (n : ℕ) (rs : List Read) → length l ≡ 4 * n → length rs ≤ n → unpack (sets l 0 (read_words (padded n rs))) ≡ padded n rs
handed l n rs e h =
    ap unpack (anew l (read_words (padded n rs)) (omega (arith, length-words (padded n rs), length-padded n rs h))) ∙ unpack-words (padded n rs)
