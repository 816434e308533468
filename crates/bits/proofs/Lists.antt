-- Reading a list. Assumes nothing.
use mathlib.Core.Path.{◌≡◌, sym, ap, ◌∙◌}
use mathlib.Core.List.{List}
use Prim.Native.Nat.{ℕ, ◌<◌}
use lib.ListN.{get_or, length}
use lib.Seq.{drop-cons}

-- within a list it doesn't matter what would stand past its end
pub any_default : (l : List ℕ) (i d e : ℕ) → i < length l → get_or l i d ≡ get_or l i e
any_default l i d e h = sym (ap (λ (r : List ℕ). get_or r 0 d) (drop-cons l i d h)) ∙ ap (λ (r : List ℕ). get_or r 0 d) (drop-cons l i e h)
