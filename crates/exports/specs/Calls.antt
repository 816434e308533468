-- What a call of the C face returns, and what the lent slice holds after it.
use Rattle.std.specs.Prelude.{Option, Some, None, List, ℕ, eqb, length}
use Rattle.bits.specs.Field.{pick, top}
use Rattle.table.specs.declared.Row.{Row}
use Rattle.registers.specs.Places.{kept}
use Rattle.registers.specs.Registers.{at}
use Rattle.table.specs.Table.{table, first_at}
use Rattle.hart.specs.declared.state.Hart.{Hart}
use Rattle.hart.specs.declared.event.Step.{Step}
use Rattle.hart.specs.declared.accesses.Accessed.{Accessed}
use Rattle.translate.specs.Translated.{translated}
use Rattle.layout.specs.Layout.{hart_of, step_size, step_words, access_size, access_words}
use Rattle.layout.specs.Taken.{put}
use Rattle.listing.specs.Listing.{translation_size, translation_words}
use Rattle.listing.specs.Taken.{put_kind}

-- an event on a hart's words
abbrev pub on_step : (Hart → Step) → (h out : List ℕ) → ℕ × List ℕ
on_step event h out = put (length h) step_size out (step_words (event (hart_of h)))

-- a register access
abbrev pub on_access : (Hart → Accessed) → (h out : List ℕ) → ℕ × List ℕ
on_access access h out = put (length h) access_size out (access_words (access (hart_of h)))

-- a translation, its kind of access given by number
abbrev pub on_translation : List ℕ → ℕ → List ℕ → (kind address width : ℕ) → List ℕ → ℕ × List ℕ
on_translation h base bytes kind address width out = put_kind (length h) translation_size kind out (λ k. translation_words (translated (hart_of h) base bytes k address width))

-- the place where a hart keeps the register with a number; `kept`, which is no place, where it keeps none
abbrev pub place_of : Option (ℕ × Row) → ℕ
place_of (Some (row, r)) = pick (eqb (at row).view.shows top) (at row).view.home kept
place_of None = kept

unfoldable pub place : ℕ → ℕ
place number = place_of (first_at table number 0)
