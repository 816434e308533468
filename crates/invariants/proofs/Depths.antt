-- Sv48, Sv57 and their x4 (2026-05): the MODEs that a hart can hold; the bounds of every two depths, and worked cases, each a computed table. Assumes nothing.
use Rattle.std.specs.Prelude.{Some, Result, Ok, Err}
use mathlib.Core.Path.{◌≡◌, refl}
use mathlib.Core.Bool.{true}
use mathlib.Core.List.{List, [], ◌∷◌, map}
use Prim.Native.Nat.{ℕ, ◌+◌, ◌*◌, ◌%◌, ◌^◌, ◌<◌}
use native.Mathlib.Omega.{arith}
use lib.Dec.{eqb}
use lib.ListN.{length}
use Rattle.exceptions.specs.declared.Exception.{Exception}
use Rattle.bits.specs.Field.{pick, get, put}
use Rattle.bits.specs.Every.{every}
use Rattle.registers.specs.Fields.{MODE}
use Rattle.registers.specs.Places.{kept, satp, vsatp, hgatp}
use Rattle.registers.specs.Rules.{among, allowed, modes, legal, rule, stored}
use Rattle.registers.specs.File.{◌↢◌, registers_pass}
use Rattle.registers.proofs.Legal.{legal-allowed}
use Rattle.registers.proofs.Rows.{rule_sound}
use Rattle.table.specs.Table.{first_at}
use Rattle.hart.specs.declared.state.Hart.{Hart}
use Rattle.hart.specs.Hart.{reg, passes}
use Rattle.hart.specs.Deliver.{delivered_m, delivered_hs, delivered_vs, delivered}
use Rattle.hart.specs.Event.{settled}
use Rattle.hart.specs.Access.{written, access_row, access, write}
use Rattle.image.specs.Image.{within}
use Rattle.rules.specs.declared.Kind.TheVariants.{Load}
use Rattle.rules.specs.Address.{extended, small, index}
use Rattle.rules.specs.Entry.{malformed, bad_pointer, bad_leaf, faulty, judged}
use Rattle.access.specs.declared.Machine.{Machine}
use Rattle.effective.specs.Effective.{depth, first_root, second_root}
use Rattle.translate.specs.Translated.{access_of}
use Rattle.stages.specs.declared.Read.{Read}
use Rattle.stages.specs.Tree.{Ran, bind, run}
use Rattle.stages.specs.Stages.{follow, inspect, down, begin, last, final, walk_of}
use Rattle.stages.specs.Listed.{places, most}
use Rattle.invariants.proofs.Mode.{passing}
use Rattle.invariants.proofs.Passing.{legal-at}
use Rattle.invariants.proofs.Known.{Replay, ◌gives◌, any_word}
use Rattle.invariants.proofs.Worked.{hart_in_mode}

-- one of the MODEs that there are
abbrev pub Held : ℕ → Type 0
Held x = among (get MODE x) (0 ∷ 8 ∷ 9 ∷ 10 ∷ []) ≡ true

-- "Document 01's stored bits and check 2 accept the new modes", and no other, in each of the three
pub modes_held : (h : Hart) → passes h ≡ true → length h.regs ≡ kept → Held (reg h satp) × Held (reg h vsatp) × Held (reg h hgatp)
modes_held h p l = (at satp (omega arith), at vsatp (omega arith), at hgatp (omega arith))
  where
    at : (place : ℕ) → place < kept → allowed (rule place).restriction (reg h place) ≡ true
    at place b = legal-allowed (rule place) (rule_sound place) (reg h place) (legal-at h place (passing h p) l b)

-- ---- "(n+1)(m+1)-1 entries, so 15, 24, 35. .. Bare and mixed depths count n or m as 0 or their own depth": the first stage's MODE by rows, each of 0, 8, 9, 10

pub bounds : map (λ (x : ℕ). map (λ (y : ℕ). most (depth x) (depth y)) modes) modes
    ≡ (0 ∷ 3 ∷ 4 ∷ 5 ∷ []) ∷ (3 ∷ 15 ∷ 19 ∷ 23 ∷ []) ∷ (4 ∷ 19 ∷ 24 ∷ 29 ∷ []) ∷ (5 ∷ 23 ∷ 29 ∷ 35 ∷ []) ∷ []
unfolding depth
bounds = refl

-- the deepest walk can fill the list
pub filled : most (depth 10) (depth 10) ≡ places
unfolding depth
filled = refl

-- ---- the table

-- a word of satp, vsatp or hgatp: MODE, root PPN 80000
abbrev rooted : ℕ → ℕ
rooted mode = mode * 2 ^ 60 + 0x80000

-- its load of a byte, where every machine address below 2^56 has one and the same entry
abbrev walked : Hart → (entry address : ℕ) → Ran (Result Machine Exception)
walked h entry address = run (λ m. Some entry) (walk_of 0 (2 ^ 56) (access_of h Load address 1))

abbrev end_of : Result Machine Exception → ℕ
end_of (Ok m) = m.0
end_of (Err f) = f.cause

-- where the first read is made, over zero entries; a fault's cause where there is none
abbrev first_read : Ran (Result Machine Exception) → ℕ
first_read r = of r.reads
  where
    of : List Read → ℕ
    of [] = end_of r.end
    of (x ∷ xs) = x.address.0

abbrev by-satp : (mode address : ℕ) → ℕ
by-satp mode address = first_read (walked (hart_in_mode 0 1 (satp ↢ rooted mode ∷ [])) 0 address)

abbrev by-vsatp : (mode address : ℕ) → ℕ
by-vsatp mode address = first_read (walked (hart_in_mode 1 1 (vsatp ↢ rooted mode ∷ [])) 0 address)

-- satp's answer, where vsatp's is the same
abbrev by_either : (mode address : ℕ) → ℕ
by_either mode address = pick (eqb (by-satp mode address) (by-vsatp mode address)) (by-satp mode address) 0

abbrev by-hgatp : (mode address : ℕ) → ℕ
by-hgatp mode address = first_read (walked (hart_in_mode 1 1 (hgatp ↢ rooted mode ∷ [])) 0 address)

-- a number whose digits are what is told of each read, the first's first
abbrev digits : (base : ℕ) → (Read → ℕ) → ℕ → List Read → ℕ
digits base told n [] = n
digits base told n (x ∷ xs) = digits base told (n * base + told x) xs

-- stage, level and offset in the root's four pages, six digits a read, where every entry is a pointer to that root
abbrev down-from-hgatp : (mode address : ℕ) → ℕ
down-from-hgatp mode address =
    digits 0x1000000 (λ x. x.stage * 0x100000 + x.level * 0x10000 + x.address.0 % 0x4000) 0 (walked (hart_in_mode 1 1 (hgatp ↢ rooted mode ∷ [])) 0x20000001 address).reads

-- stage and level of the two reads with both stages on, where every entry is a leaf for a user
abbrev over : (first second : ℕ) → ℕ
over first second = digits 0x100 (λ x. x.stage * 0x10 + x.level) 0 (walked (hart_in_mode 1 1 (vsatp ↢ rooted first ∷ hgatp ↢ rooted second ∷ [])) 0xDF 0).reads

-- what a register that held one word holds after another was written to it, in M
abbrev after : (number place before w : ℕ) → ℕ
after number place before w = reg (write (hart_in_mode 0 3 (place ↢ before ∷ [])) number w any_word).hart place

-- 1 where check 2 lets a hart with such a register pass
abbrev accepted : (place mode : ℕ) → ℕ
accepted place mode = pick (passes (hart_in_mode 0 3 (place ↢ rooted mode ∷ []))) 1 0

abbrev cases : List Replay
cases =
    -- "Address checks become 48 or 57 bits first stage": the lowest and highest well-formed address of each half, and the ill-formed ones between them
    by_either 8 0 gives 0x80000000 ∷
    by_either 8 0x3FFFFFFFFF gives 0x800007F8 ∷
    by_either 8 0x4000000000 gives 13 ∷
    by_either 8 0xFFFFFFBFFFFFFFFF gives 13 ∷
    by_either 8 0xFFFFFFC000000000 gives 0x80000800 ∷
    by_either 8 0xFFFFFFFFFFFFFFFF gives 0x80000FF8 ∷
    by_either 9 0 gives 0x80000000 ∷
    by_either 9 0x7FFFFFFFFFFF gives 0x800007F8 ∷
    by_either 9 0x800000000000 gives 13 ∷
    by_either 9 0xFFFF7FFFFFFFFFFF gives 13 ∷
    by_either 9 0xFFFF800000000000 gives 0x80000800 ∷
    by_either 9 0xFFFFFFFFFFFFFFFF gives 0x80000FF8 ∷
    by_either 10 0 gives 0x80000000 ∷
    by_either 10 0xFFFFFFFFFFFFFF gives 0x800007F8 ∷
    by_either 10 0x100000000000000 gives 13 ∷
    by_either 10 0xFEFFFFFFFFFFFFFF gives 13 ∷
    by_either 10 0xFF00000000000000 gives 0x80000800 ∷
    by_either 10 0xFFFFFFFFFFFFFFFF gives 0x80000FF8 ∷
    -- "50 or 59 second": the lowest, the highest, at the last of the root's 2048 entries, and the first ill-formed one
    by-hgatp 8 0 gives 0x80000000 ∷
    by-hgatp 8 0x1FFFFFFFFFF gives 0x80003FF8 ∷
    by-hgatp 8 0x20000000000 gives 21 ∷
    by-hgatp 9 0 gives 0x80000000 ∷
    by-hgatp 9 0x3FFFFFFFFFFFF gives 0x80003FF8 ∷
    by-hgatp 9 0x4000000000000 gives 21 ∷
    by-hgatp 10 0 gives 0x80000000 ∷
    by-hgatp 10 0x7FFFFFFFFFFFFFF gives 0x80003FF8 ∷
    by-hgatp 10 0x800000000000000 gives 21 ∷
    -- eleven index bits at the top level, nine below
    down-from-hgatp 9 0x3FFFFFFFFFFFF gives 0x233FF8220FF8210FF8200FF8 ∷
    down-from-hgatp 10 0x7FFFFFFFFFFFFFF gives 0x243FF8230FF8220FF8210FF8200FF8 ∷
    -- each stage as deep as its own register says
    over 8 8 gives 0x2212 ∷
    over 8 9 gives 0x2312 ∷
    over 8 10 gives 0x2412 ∷
    over 9 8 gives 0x2213 ∷
    over 9 9 gives 0x2313 ∷
    over 9 10 gives 0x2413 ∷
    over 10 8 gives 0x2214 ∷
    over 10 9 gives 0x2314 ∷
    over 10 10 gives 0x2414 ∷
    -- a leaf at the root: 2^39 bytes of Sv48, 2^48 of Sv57; one that is not on such a page
    end_of (walked (hart_in_mode 0 1 (satp ↢ rooted 9 ∷ [])) 0xCF 0x7FFFFFFFFFFF).end gives 0x7FFFFFFFFF ∷
    end_of (walked (hart_in_mode 0 1 (satp ↢ rooted 10 ∷ [])) 0xCF 0xFFFFFFFFFFFFFF).end gives 0xFFFFFFFFFFFF ∷
    end_of (walked (hart_in_mode 0 1 (satp ↢ rooted 10 ∷ [])) 0x2000000000CF 0).end gives 13 ∷
    -- MODE 9 and 10 written, and 11: satp and vsatp keep all, hgatp its MODE
    after 0x180 satp 0 0x9000000000012345 gives 0x9000000000012345 ∷
    after 0x180 satp 0 0xA000000000012345 gives 0xA000000000012345 ∷
    after 0x180 satp 0x8000000000000001 0xB000000000012345 gives 0x8000000000000001 ∷
    after 0x280 vsatp 0 0x9000000000012345 gives 0x9000000000012345 ∷
    after 0x280 vsatp 0 0xA000000000012345 gives 0xA000000000012345 ∷
    after 0x280 vsatp 0x8000000000000001 0xB000000000012345 gives 0x8000000000000001 ∷
    after 0x680 hgatp 0 0x9000000000012344 gives 0x9000000000012344 ∷
    after 0x680 hgatp 0 0xA000000000012344 gives 0xA000000000012344 ∷
    after 0x680 hgatp 0xA000000000000004 0xB000000000012344 gives 0xA000000000012344 ∷
    -- "check 2 accept[s] the new modes"
    accepted satp 9 gives 1 ∷
    accepted vsatp 10 gives 1 ∷
    accepted hgatp 10 gives 1 ∷
    accepted satp 11 gives 0 ∷
    accepted vsatp 7 gives 0 ∷
    accepted hgatp 11 gives 0 ∷ []

pub deep : every (λ i (r : Replay). eqb r.answer r.expected) 0 cases ≡ true
unfolding every get put legal stored first_at registers_pass passes delivered_m delivered_hs delivered_vs delivered settled written access_row access within depth first_root second_root access_of run bind walk_of final last begin down inspect follow index extended small judged malformed bad_pointer bad_leaf faulty
deep = refl
