-- What a hypervisor load or store of the C face returns, and what the lent slices hold after it.
use Rattle.std.specs.Prelude.{List, ℕ, length}
use Rattle.bits.specs.Field.{pick}
use Rattle.hart.specs.declared.state.Hart.{Hart}
use Rattle.hart.specs.declared.guest.Performed.{Performed}
use Rattle.layout.specs.Layout.{hart_of, performed_size, performed_words}
use Rattle.layout.specs.Taken.{misfit, put}

-- a hypervisor load
abbrev pub on_load : (Hart → Performed) → (h out : List ℕ) → ℕ × List ℕ
on_load load h out = put (length h) performed_size out (performed_words (load (hart_of h)))

-- a hypervisor store: with the image's bytes after it, untouched where a length is wrong
abbrev pub on_store : (Hart → Performed × List ℕ) → (h bytes out : List ℕ) → ℕ × List ℕ × List ℕ
on_store store h bytes out = pick (misfit (length h) (length out) performed_size) (1, out, bytes) (0, performed_words (store (hart_of h)).0, (store (hart_of h)).1)
