-- Register access: what it gives and what it writes (document 01, "Access").
use Rattle.std.specs.Prelude.{Bool, ◌&&◌, ◌||◌, ℕ, ◌-◌, eqb, ltb, Result, Ok, Err}
use Rattle.std.specs.Int.Bits.{bit_and, bit_or}
use Rattle.bits.specs.Field.{pick, top}
use Rattle.exceptions.specs.declared.Refusal.{Refusal}
use Rattle.exceptions.specs.declared.Refusal.TheVariants.{Register}
use Rattle.table.specs.declared.Row.{Row}
use Rattle.table.specs.Table.{is_machine, is_hypervisor}
use Rattle.registers.specs.Fields.{TVM, VTVM}
use Rattle.privilege.specs.declared.Context.{Context}
use Rattle.privilege.specs.declared.Verdict.{Verdict}
use Rattle.csr.specs.declared.Form.{Form}
use Rattle.csr.specs.declared.Form.TheVariants.{Read, Write, Set, Clear}
use Rattle.privilege.specs.Mode.{is_u, is_hs, is_vu, is_vs, is_set, gives}

-- refusal 5: "register number over 4095"
abbrev pub over_range : ℕ → Bool
over_range number = ltb 4095 number

-- an access's own refusal
abbrev pub refusal_of : (number : ℕ) → Result Unit Refusal
refusal_of number = pick (over_range number) (Err Register) (Ok tt)

-- "satp 180", "hgatp 680"
abbrev pub is_satp : Row → Bool
is_satp row = eqb row.number 0x180

abbrev pub is_hgatp : Row → Bool
is_hgatp row = eqb row.number 0x680

-- "V=0: M reaches all; HS all but M's; U none; what isn't reached gives 2; in HS with TVM=1, satp and hgatp give 2."
abbrev pub host_lacks : Context → Row → Bool
host_lacks c row = is_u c || is_hs c && (is_machine row.level || is_set TVM c.mstatus && (is_satp row || is_hgatp row))

-- "V=1: M's give 2."
abbrev pub guest_lacks : Context → Row → Bool
guest_lacks c row = eqb c.v 1 && is_machine row.level

-- "In VS .. satp with VTVM=1 gives 22; VS and H numbers give 22. In VU all S, VS and H numbers give 22."
abbrev pub virtual : Context → Row → Bool
virtual c row = is_vs c && (is_set VTVM c.hstatus && is_satp row || is_hypervisor row.level) || is_vu c

-- an access to the register of a row; "a write to hgeip: cause 2 in every mode"
abbrev pub verdict : Context → Row → (writes : Bool) → Verdict
verdict c row writes = gives (writes && row.read_only || (host_lacks c row || guest_lacks c row)) (virtual c row)

-- read, write, set or clear: what is written where old is seen
abbrev pub combined : Form → ℕ → ℕ → ℕ
combined Read old w = old
combined Write old w = w
combined Set old w = bit_or old w
combined Clear old w = bit_and old (top - w)
