-- The image: a base and a run of bytes.
use Rattle.std.specs.Prelude.{ℕ, ◌+◌, ◌-◌, ◌*◌, ◌%◌, ◌^◌, Bool, not, ◌&&◌, ◌||◌, List, length, ◌==◌, nat_le, nat_lt, slice_index, Option, Some, None}
use Rattle.bits.specs.Field.{pick}

-- Refusal 1: "image over 67,108,864 bytes, base or length not a multiple of 4096, or base + length over 2^56".
unfoldable pub unfit : ℕ → ℕ → Bool
unfit base len =
    nat_lt 67108864 len || not (base % 4096 == 0) || not (len % 4096 == 0) || nat_lt (2 ^ 56) (base + len)

-- The whole access, width bytes from an address on, lies in the image.
unfoldable pub within : ℕ → ℕ → ℕ → ℕ → Bool
within base len address width = nat_le base address && nat_le (address + width) (base + len)

-- Four and eight bytes of s from a place on, little-endian.
abbrev pub four : List ℕ → ℕ → ℕ
four s at = slice_index s at + slice_index s (at + 1) * 2 ^ 8 + slice_index s (at + 2) * 2 ^ 16 + slice_index s (at + 3) * 2 ^ 24

abbrev pub eight : List ℕ → ℕ → ℕ
eight s at = four s at + four s (at + 4) * 2 ^ 32

-- The entry at a machine address: eight bytes, if they lie in the image.
unfoldable pub entry : ℕ → List ℕ → ℕ → Option ℕ
entry base s address = pick (within base (length s) address 8) (Some (eight s (address - base))) None
