-- Bytes of the image as a load answers them and as a store leaves them (2026-03).
use Rattle.std.specs.Prelude.{ℕ, zero, suc, ◌+◌, ◌-◌, ◌*◌, ◌/◌, ◌%◌, ◌^◌, Bool, ◌&&◌, List, [], ◌∷◌, take, drop}
use Rattle.std.proofs.lemmas.List.Edits.{sets}
use Rattle.bits.specs.Field.{pick, has}

-- "little-endian": the number that bytes make, and the low n bytes of a number
abbrev pub little : List ℕ → ℕ
little [] = 0
little (b ∷ bs) = b + 256 * little bs

abbrev pub low_bytes : ℕ → ℕ → List ℕ
low_bytes zero x = []
low_bytes (suc n) x = x % 256 ∷ low_bytes n (x / 256)

-- the width bytes at a machine address
abbrev pub bytes_at : ℕ → List ℕ → (address width : ℕ) → List ℕ
bytes_at base s address width = take width (drop (address - base) s)

-- "sign- or zero-extended to 64 bits": where it is signed and the top bit of its width bytes is set, all bits above them are ones
abbrev pub extended : (signed : Bool) → (width x : ℕ) → ℕ
extended signed width x = pick (signed && has (8 * width - 1) x) (x + (2 ^ 64 - 2 ^ (8 * width))) x

-- "HLV answers the loaded bytes"
unfoldable pub loaded : ℕ → List ℕ → (address width : ℕ) → (signed : Bool) → ℕ
loaded base s address width signed = extended signed width (little (bytes_at base s address width))

-- "HSV writes exactly its own bytes of the image"
unfoldable pub stored : ℕ → List ℕ → (address width value : ℕ) → List ℕ
stored base s address width value = sets s (address - base) (low_bytes width value)
