-- The rules of one entry, the same for both stages and every level.
use Rattle.std.specs.Prelude.{Bool, false, ◌&&◌, ◌||◌, not, ℕ, ◌+◌, ◌*◌, eqb}
use Rattle.bits.specs.declared.Field.{Field}
use Rattle.bits.specs.Field.{span, get, has, pick}
use Rattle.rules.specs.declared.Need.{Need}
use Rattle.rules.specs.declared.Judgement.{Judgement}
use Rattle.rules.specs.declared.Judgement.TheVariants.{Pointer, Leaf, Bad}
use Rattle.rules.specs.Right.{by_right}

-- the bits of an entry
abbrev pub «V» : ℕ
«V» = 0

abbrev pub R : ℕ
R = 1

abbrev pub W : ℕ
W = 2

abbrev pub X : ℕ
X = 3

abbrev pub U : ℕ
U = 4

abbrev pub A : ℕ
A = 6

abbrev pub D : ℕ
D = 7

-- "the entry's PPN (bits 53:10)"
abbrev pub PPN : Field
PPN = span 53 10

-- the low PPN of a large leaf: nine bits for each level below it
abbrev pub low_ppn : ℕ → Field
low_ppn level = record { low = 10; width = 9 * level }

-- "An entry with neither R nor X is a pointer"; "Any other is a leaf".
abbrev pub pointer : ℕ → Bool
pointer e = not (has R e || has X e)

-- "user mode needs U=1; supervisor on a U=1 page may not fetch, and needs SUM for data"
abbrev pub admitted : Need → ℕ → Bool
admitted n e = pick n.user (has U e) (not (has U e) || (not n.fetch && n.sum))

-- "Loads need R, or X with MXR; stores need W, fetches X."
abbrev pub granted : Need → ℕ → Bool
granted n e = by_right n.right (has R e || (has X e && n.mxr)) (has W e) (has X e)

-- "V=0; W without R; any of bits 63:54"
unfoldable pub malformed : ℕ → Bool
malformed e = not (has «V» e) || (has W e && not (has R e)) || not (eqb (get (span 63 54) e) 0)

-- "a pointer with A, D or U; a pointer at level 0"
unfoldable pub bad_pointer : ℕ → ℕ → Bool
bad_pointer level e = has A e || has D e || has U e || eqb level 0

-- "a large leaf with nonzero low PPN; and, at a leaf only: A=0; a store with D=0; a right missing"
unfoldable pub bad_leaf : Need → ℕ → ℕ → Bool
bad_leaf n level e =
    not (eqb (get (low_ppn level) e) 0)
    || not (has A e)
    || by_right n.right false (not (has D e)) false
    || not (admitted n e && granted n e)

-- "Both stages fault on": an entry e of a level
unfoldable pub faulty : Need → ℕ → ℕ → Bool
faulty n level e = malformed e || pick (pointer e) (bad_pointer level e) (bad_leaf n level e)

-- where an entry leads: its PPN times 4096
abbrev pub target : ℕ → ℕ
target e = get PPN e * 4096

-- the low 12 + 9 times the level bits of an address
abbrev pub offset : ℕ → Field
offset level = record { low = 0; width = 12 + 9 * level }

-- A faulty entry, a pointer to the next table, or a leaf that yields "that PPN times 4096, with the low 12 + 9 times the
-- level bits taken from its address" (these are zero in a leaf's PPN times 4096).
unfoldable pub judged : Need → ℕ → ℕ → ℕ → Judgement
judged n level address e =
    pick (faulty n level e) Bad (pick (pointer e) (Pointer (target e)) (Leaf (target e + get (offset level) address)))
