-- The status words at a return (document 01, "MRET", "SRET"): which fields get which values.
use Rattle.std.specs.Prelude.{List, [], ◌∷◌, ℕ, eqb}
use Rattle.bits.specs.Field.{pick, get}
use Rattle.bits.specs.Assign.{Assignment, ◌:=◌}
use Rattle.registers.specs.Fields.{SIE, MIE, SPIE, MPIE, SPP, MPP, MPRV, MPV, SPV}

-- MRET: V = MPV unless MPP=3 (then 0)
abbrev pub v_after_mret : ℕ → ℕ
v_after_mret s = pick (eqb (get MPP s) 3) 0 (get MPV s)

-- MRET, mstatus: MIE = MPIE, MPIE = 1, MPP = 0, MPV = 0; MPRV = 0 if MPP was not 3
abbrev pub from_m : ℕ → List Assignment
from_m s = MIE := get MPIE s ∷ MPIE := 1 ∷ MPP := 0 ∷ MPV := 0 ∷ MPRV := pick (eqb (get MPP s) 3) (get MPRV s) 0 ∷ []

-- SRET in VS, vsstatus: SPP = 0, SIE = SPIE, SPIE = 1
abbrev pub from_s : ℕ → List Assignment
from_s s = SPP := 0 ∷ SIE := get SPIE s ∷ SPIE := 1 ∷ []

-- SRET with V=0, mstatus: as above, and MPRV = 0
abbrev pub from_hs : ℕ → List Assignment
from_hs s = MPRV := 0 ∷ from_s s

-- SRET with V=0, hstatus: SPV = 0
abbrev pub from_h : List Assignment
from_h = SPV := 0 ∷ []
