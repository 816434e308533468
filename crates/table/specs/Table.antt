-- One constant table of rows, one for each register (document 01), its search, and where each row's bits are kept.
use Rattle.std.specs.Prelude.{Option, Some, None, Bool, List, [], ◌∷◌, map, ℕ, suc, ◌+◌, eqb, slice_get}
use Rattle.bits.specs.Field.{pick, top}
use Rattle.registers.specs.Views.{View}
use Rattle.registers.specs.Registers.{supervisor, hypervisor, machine, Register, registers}
use Rattle.table.specs.declared.Level.{Level}
use Rattle.table.specs.declared.Row.{Row}
use Rattle.table.specs.declared.kept.Kept.{Kept}

-- a level by its number in the list of the registers
abbrev pub level_of : ℕ → Level
level_of n = record { 0 = n }

-- M's; VS's and H's
abbrev pub is_machine : Level → Bool
is_machine l = eqb l.0 machine

abbrev pub is_hypervisor : Level → Bool
is_hypervisor l = eqb l.0 hypervisor

-- "number, level, read-only flag and stored-bits mask": what the code's table has of a register
abbrev pub row_of : Register → Row
row_of r = record { number = r.number; level = level_of r.level; read_only = r.read_only; mask = r.view.writes }

abbrev pub table : List Row
table = map row_of registers

-- the first row that bears n, with its place, counted from i
unfoldable pub first_at : List Row → ℕ → ℕ → Option (ℕ × Row)
first_at [] n i = None
first_at (r ∷ rs) n i = pick (eqb r.number n) (Some (i, r)) (first_at rs n (suc i))

-- "In VS an S number reaches its VS register" (with V=1 no other mode gets so far)
abbrev pub reached : (guest : Bool) → Register → View
reached guest r = pick guest r.twin r.view

-- a view, but for the bits that it writes: these are the row's mask
abbrev pub kept_of : View → Kept
kept_of v = record { home = v.home; shift = v.shift; shows = v.shows; gate = v.gate }

abbrev pub view_of : Kept → (writes : ℕ) → View
view_of k writes = record { home = k.home; shift = k.shift; shows = k.shows; writes = writes; gate = k.gate }

-- where the register with a number stands
abbrev pub row_numbered : ℕ → List Register → ℕ
row_numbered n [] = 0
row_numbered n (r ∷ rs) = pick (eqb r.number n) 0 (suc (row_numbered n rs))

-- the row that a number reaches with V=1: for an S number that of the VS register, 100 hex up
abbrev pub twin_row : Register → ℕ
twin_row r = row_numbered (pick (eqb r.level supervisor) (r.number + 0x100) r.number) registers

-- the numbers of the registers that a hart keeps: those that show every bit of their place
abbrev pub numbers : List Register → List ℕ
numbers [] = []
numbers (r ∷ rs) = pick (eqb r.view.shows top) (r.number ∷ numbers rs) (numbers rs)

-- the number of the register kept at a place; none past these
abbrev pub number_at : ℕ → Option ℕ
number_at place = slice_get (numbers registers) place
