-- A store of what was there already. Assumes nothing.
use Rattle.std.proofs.Common.{◌≡◌, ℕ, Bool, true, false, List, get_or, set, refl}
use lib.Seq.{set-get_or}
use Rattle.bits.specs.Field.{pick}

-- it changes nothing
pub set_picked : (b : Bool) (l : List ℕ) (i x : ℕ) → set l i (pick b x (get_or l i 0)) ≡ pick b (set l i x) l
set_picked true l i x = refl
set_picked false l i x = set-get_or l i 0
