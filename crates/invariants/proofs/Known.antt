-- The starred known replays (document 01, "Tab against tab"), as one computed table. Assumes nothing.
use Rattle.std.specs.Prelude.{Some, Result, Ok, Err}
use mathlib.Core.Path.{◌≡◌, refl}
use mathlib.Core.Bool.{true}
use mathlib.Core.List.{List, [], ◌∷◌}
use Prim.Native.Nat.{ℕ, ◌+◌, ◌*◌}
use lib.Dec.{eqb}
use Rattle.exceptions.specs.declared.Exception.{Exception}
use Rattle.bits.specs.Field.{pick, top, get, put}
use Rattle.bits.specs.Assign.{◌after◌, ◌:=◌}
use Rattle.bits.specs.Every.{every}
use Rattle.registers.specs.Fields.{MPP, MPV}
use Rattle.registers.specs.Places.{mstatus}
use Rattle.registers.specs.Rules.{legal, stored}
use Rattle.table.specs.Table.{first_at}
use Rattle.hart.specs.declared.state.Hart.{Hart}
use Rattle.hart.specs.declared.event.Outcome.{Outcome}
use Rattle.hart.specs.declared.event.Outcome.TheVariants.{Done, Trapped, Refused, Interrupted}
use Rattle.hart.specs.declared.accesses.Accessed.{Accessed}
use Rattle.registers.specs.File.{◌↢◌, ◌with◌, registers_pass}
use Rattle.hart.specs.Hart.{reg, reset, passes}
use Rattle.hart.specs.Deliver.{delivered_m, delivered_hs, delivered_vs, delivered}
use Rattle.hart.specs.Event.{settled}
use Rattle.hart.specs.Return.{returned_m, mret}
use Rattle.hart.specs.Access.{written, access_row, access, read, write}
use Rattle.rules.specs.declared.Kind.TheVariants.{Load}
use Rattle.rules.specs.Address.{first, well_formed, extended, small, index}
use Rattle.rules.specs.Entry.{malformed, bad_pointer, bad_leaf, faulty, judged}
use Rattle.access.specs.declared.Machine.{Machine}
use Rattle.effective.specs.Effective.{depth, first_root, second_root}
use Rattle.translate.specs.Translated.{access_of}
use Rattle.stages.specs.declared.Read.{Read}
use Rattle.stages.specs.Tree.{Ran, bind, run}
use Rattle.stages.specs.Stages.{follow, inspect, down, begin, final, walk_of}

-- what a replay answers, and what it should
pub record Replay : Type 0 where
  pub answer : ℕ
  pub expected : ℕ

infix 70 ◌gives◌
abbrev pub ◌gives◌ : ℕ → ℕ → Replay
a gives k = record { answer = a; expected = k }

-- an instruction word that is not asked for
abbrev pub any_word : ℕ
any_word = 0xFFFFFFFF

-- all ones written to a register of a reset hart in M, and read back
abbrev pub all_ones : ℕ → ℕ
all_ones number = (read (write (reset 0 3 0) number top any_word).hart number any_word).value

abbrev cause : Accessed → ℕ
cause a = of a.outcome
  where
    of : Outcome → ℕ
    of Done = 0
    of (Trapped c) = c
    of (Refused r) = 0
    of (Interrupted n) = 0

-- in M, with MPP=3 and MPV=1
abbrev stays : Hart
stays = record { v = 0; privilege = 3; pc = 0; regs = (reset 0 3 0).regs with (mstatus ↢ (reg (reset 0 3 0) mstatus after (MPP := 3 ∷ MPV := 1 ∷ [])) ∷ []) }

-- in VS, with hgatp written: Sv39x4, root PPN 80004; vsatp is Bare
abbrev guest_hart : Hart
guest_hart = record { v = 1; privilege = 1; pc = 0; regs = (write (reset 0 3 0) 0x680 0x8000000000080004 any_word).hart.regs }

-- its load of a byte at a guest physical address, over an image of zero entries everywhere
abbrev probe : ℕ → Ran (Result Machine Exception)
probe address = run (λ m. Some 0) (walk_of 0 0 (access_of guest_hart Load address 1))

abbrev first_read : List Read → ℕ
first_read [] = 0
first_read (x ∷ xs) = x.address.0

abbrev fault-cause : Result Machine Exception → ℕ
fault-cause (Ok m) = 0
fault-cause (Err f) = f.cause

abbrev pub second-value : Result Machine Exception → ℕ
second-value (Ok m) = 0
second-value (Err f) = f.value2

-- Sv39: 1 for a well-formed address
abbrev well_formed_lem : ℕ → ℕ
well_formed_lem address = pick (well_formed first 3 address) 1 0

abbrev replays : List Replay
replays =
    first_read (probe 0x1FFFFFFFFFF).reads gives (0x80004 * 4096 + 0x3FF8) ∷  -- GPA 1FFFFFFFFFF
    fault-cause (probe 0x20000000000).end gives 21 ∷  -- GPA 20000000000
    second-value (probe 0x20000000000).end gives 0x8000000000 ∷
    well_formed_lem 0x3FFFFFFFFF gives 1 ∷
    well_formed_lem 0xFFFFFFC000000000 gives 1 ∷
    well_formed_lem 0x4000000000 gives 0 ∷
    all_ones 0x602 gives 0xB1FF ∷  -- hedeleg
    all_ones 0x302 gives 0xF0B7FF ∷  -- medeleg
    all_ones 0x600 gives 0x2007003C0 ∷  -- hstatus
    all_ones 0x100 gives 0x2000C0122 ∷  -- sstatus
    all_ones 0x300 gives 0xCA007E19AA ∷  -- mstatus
    all_ones 0x680 gives 0x03FFFFFFFFFFFFFC ∷  -- hgatp
    cause (read (reset 1 1 0) 0xE12 any_word) gives 22 ∷  -- hgeip in VS
    cause (write (reset 1 1 0) 0xE12 0 any_word) gives 2 ∷
    (mret stays any_word).hart.v gives 0 ∷  -- MRET stays in M
    (mret stays any_word).hart.privilege gives 3 ∷ []

pub known : every (λ i (r : Replay). eqb r.answer r.expected) 0 replays ≡ true
unfolding every get put legal stored first_at registers_pass passes delivered_m delivered_hs delivered_vs delivered settled returned_m mret written access_row access depth first_root second_root access_of run bind walk_of final begin down inspect follow index extended small judged malformed bad_pointer bad_leaf faulty
known = refl
