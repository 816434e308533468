-- What is asked of a leaf, as tests of its bits under masks: how the code judges an entry. Serves contracts below the public face.
use Rattle.std.specs.Prelude.{◌≡◌, ◌&&◌, not, List, [], ◌∷◌, ◌++◌, map, ℕ}
use Rattle.bits.specs.declared.Field.{Field}
use Rattle.bits.specs.Field.{pick, span, bit, bits}
use Rattle.bits.specs.Assign.{Assignment, ◌:=◌, ◌after◌}
use Rattle.rules.specs.declared.Need.{Need}
use Rattle.rules.specs.declared.Test.{Test}
use Rattle.rules.specs.declared.Judgement.{Judgement}
use Rattle.rules.specs.Right.{by_right}
use Rattle.rules.specs.Entry.{«V», R, W, X, U, A, D, judged}

-- U of a user; no U of a supervisor who fetches or whom SUM does not help
abbrev pub asked_u : Need → List Assignment
asked_u n = pick n.user (bit U := 1 ∷ []) (pick (not n.fetch && n.sum) [] (bit U := 0 ∷ []))

-- V, A, no bit of 63:54, a store's D, and U
abbrev pub asked : Need → List Assignment
asked n = bit «V» := 1 ∷ bit A := 1 ∷ span 63 54 := 0 ∷ (by_right n.right [] (bit D := 1 ∷ []) [] ++ asked_u n)

-- a bit of these is the right
abbrev pub rights : Need → List Field
rights n = by_right n.right (bit R ∷ pick n.mxr (bit X ∷ []) []) (bit W ∷ []) (bit X ∷ [])

-- the three as masks: the fields asked for, what they hold, the rights
unfoldable pub test_of : Need → Test
test_of n = record { mask = bits (map (λ a. a.field) (asked n)); bits = 0 after asked n; some = bits (rights n) }

-- a judgement of an entry for whoever needs what is tested
abbrev pub Judges : Test → (level address e : ℕ) → Judgement → Type 0
Judges t level address e j = (n : Need) → t ≡ test_of n → j ≡ judged n level address e
