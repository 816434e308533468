-- Five modes: U, HS, M (V=0) and VU, VS (V=1) (document 01); check 2 of the mode; what an instruction gives.
use Rattle.std.specs.Prelude.{Bool, ◌&&◌, ◌||◌, not, ℕ, ◌%◌, eqb}
use Rattle.bits.specs.declared.Field.{Field}
use Rattle.bits.specs.Field.{get}
use Rattle.registers.specs.Fields.{MPRV}
use Rattle.privilege.specs.declared.Context.{Context}
use Rattle.privilege.specs.declared.Mode.{Mode}
use Rattle.privilege.specs.declared.Mode.TheVariants.{U, HS, M, VU, VS}
use Rattle.privilege.specs.declared.Verdict.{Verdict}

abbrev pub is_u : Context → Bool
is_u c = eqb c.v 0 && eqb c.privilege 0

abbrev pub is_hs : Context → Bool
is_hs c = eqb c.v 0 && eqb c.privilege 1

abbrev pub is_m : Context → Bool
is_m c = eqb c.v 0 && eqb c.privilege 3

abbrev pub is_vu : Context → Bool
is_vu c = eqb c.v 1 && eqb c.privilege 0

abbrev pub is_vs : Context → Bool
is_vs c = eqb c.v 1 && eqb c.privilege 1

-- whether it is in a mode
abbrev pub is : Mode → Context → Bool
is U = is_u
is HS = is_hs
is M = is_m
is VU = is_vu
is VS = is_vs

-- a field of one bit is 1
abbrev pub is_set : Field → ℕ → Bool
is_set f x = eqb (get f x) 1

-- check 2: "a mode not among the five" is refused
abbrev pub among_five : Context → Bool
among_five c = is_u c || (is_hs c || (is_m c || (is_vu c || is_vs c)))

-- check 2: "MPRV=1 outside M" is refused
abbrev pub stray_mprv : Context → Bool
stray_mprv c = is_set MPRV c.mstatus && not (is_m c)

-- check 2 whole: refused for "a mode not among the five, a register holding what no write could store, pc not a multiple of 4, or MPRV=1 outside M"
abbrev pub checked : Context → (registers : Bool) → (pc : ℕ) → Bool
checked c registers pc = among_five c && (registers && (eqb (pc % 4) 0 && not (stray_mprv c)))

-- an instruction gives 2 where the first holds, else 22 where the second does
abbrev pub gives : Bool → Bool → Verdict
gives a b = record { gives2 = a; gives22 = b }
