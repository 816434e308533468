-- The causes of an access's faults.
use Rattle.std.specs.Prelude.{List, [], ◌∷◌, ℕ}
use Rattle.rules.specs.declared.Kind.{Kind}
use Rattle.rules.specs.Kind.{by}

-- "Misaligned load or store: 4 or 6"; "access fault 1, 5, 7 by the original access"; "page fault 12, 13, 15 (fetch, load, store)"; guest-page fault "20, 21 or
-- 23" (2026-04). No two kinds have one in common.
abbrev pub causes_of : Kind → List ℕ
causes_of kind = by kind (1 ∷ 12 ∷ 20 ∷ []) (4 ∷ 5 ∷ 13 ∷ 21 ∷ []) (6 ∷ 7 ∷ 15 ∷ 23 ∷ [])
