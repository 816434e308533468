-- The status words at a trap (document 01, "Delivery"): which fields get which values.
use Rattle.std.specs.Prelude.{Bool, List, [], ◌∷◌, ℕ, eqb}
use Rattle.bits.specs.Field.{pick, get}
use Rattle.bits.specs.Assign.{Assignment, ◌:=◌}
use Rattle.registers.specs.Fields.{SIE, MIE, SPIE, MPIE, SPP, MPP, GVA, MPV, HGVA, SPV, SPVP}

-- M, mstatus: MPV, MPP = former V and privilege; MPIE = MIE, MIE = 0; GVA written
abbrev pub into_m : ℕ → ℕ → Bool → ℕ → List Assignment
into_m v privilege flag s = MPV := v ∷ MPP := privilege ∷ MPIE := get MIE s ∷ MIE := 0 ∷ GVA := pick flag 1 0 ∷ []

-- HS, mstatus, and VS, vsstatus: SPP = former privilege; SPIE = SIE, SIE = 0
abbrev pub into_s : ℕ → ℕ → List Assignment
into_s privilege s = SPP := privilege ∷ SPIE := get SIE s ∷ SIE := 0 ∷ []

-- HS, hstatus: SPV = former V; SPVP = former privilege only if V was 1, otherwise kept; GVA written
abbrev pub into_h : ℕ → ℕ → Bool → ℕ → List Assignment
into_h v privilege flag s = SPV := v ∷ SPVP := pick (eqb v 1) privilege (get SPVP s) ∷ HGVA := pick flag 1 0 ∷ []
