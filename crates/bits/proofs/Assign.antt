-- Of every list of assignments at once: a field that is none of theirs keeps what it held. Assumes nothing.
use mathlib.Core.Path.{◌≡◌, refl, ◌∙◌}
use mathlib.Core.Bool.{Bool, true, ◌&&◌}
use mathlib.Core.List.{List, [], ◌∷◌}
use Prim.Native.Nat.{ℕ}
use Rattle.bits.specs.declared.Field.{Field}
use Rattle.bits.specs.Field.{get}
use Rattle.bits.specs.Assign.{Assignment, ◌after◌}
use Rattle.bits.proofs.Bools.{and_left, and_right}
use Rattle.bits.proofs.Tests.{apart, other}

-- the field is none of those assigned
abbrev pub untouched : Field → List Assignment → Bool
untouched g [] = true
untouched g (a ∷ more) = apart a.field g && untouched g more

pub untouched_kept : (g : Field) (more : List Assignment) (x : ℕ) → untouched g more ≡ true → get g (x after more) ≡ get g x
untouched_kept g [] x t = refl
untouched_kept g (a ∷ more) x t =
    other a.field g (and_left (apart a.field g) (untouched g more) t) a.value (x after more)
    ∙ untouched_kept g more x (and_right (apart a.field g) (untouched g more) t)

-- no two assignments are to overlapping fields, so that their order doesn't matter
abbrev pub distinct : List Assignment → Bool
distinct [] = true
distinct (a ∷ more) = untouched a.field more && distinct more
