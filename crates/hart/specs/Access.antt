-- Register access (document 01, "Access"), with its instruction word (2026-02).
use Rattle.std.specs.Prelude.{ℕ, Bool, true, false, ◌==◌, Option, Some, None, Result}
use Rattle.std.proofs.Math.ListN as list
use Rattle.bits.specs.Field.{pick}
use Rattle.exceptions.specs.declared.Refusal.{Refusal}
use Rattle.registers.specs.Views.{View, lets, shown, stored_by}
use Rattle.registers.specs.Registers.{at}
use Rattle.table.specs.declared.Row.{Row}
use Rattle.table.specs.Table.{table, first_at, reached}
use Rattle.privilege.specs.Mode.{gives}
use Rattle.csr.specs.declared.Form.{Form}
use Rattle.csr.specs.declared.Form.TheVariants.{Read, Write, Set, Clear}
use Rattle.csr.specs.Access.{refusal_of, verdict, combined}
use Rattle.hart.specs.declared.state.Hart.{Hart}
use Rattle.hart.specs.declared.event.Outcome.{Outcome}
use Rattle.hart.specs.declared.event.Outcome.TheVariants.{Done, Trapped, Refused, Interrupted}
use Rattle.hart.specs.declared.event.Step.{Step}
use Rattle.hart.specs.declared.accesses.Accessed.{Accessed}
use Rattle.hart.specs.Hart.{reg, context}
use Rattle.hart.specs.Event.{done, settled, next}

-- all answer the old value, a trap or refusal answers 0
abbrev pub value_of : Outcome → ℕ → ℕ
value_of Done old = old
value_of (Trapped cause) old = 0
value_of (Refused r) old = 0
value_of (Interrupted number) old = 0

abbrev pub answer : Step → ℕ → Accessed
answer s old = record { hart = s.hart; outcome = s.outcome; value = value_of s.outcome old }

-- what a read of a register shows
abbrev pub seen : Hart → View → ℕ
seen h v = shown v (lets h.regs v) (reg h v.home)

-- a done access: x written through the register's view, if the access writes, and pc moved on by 4, wrapping
unfoldable pub written : Hart → View → (x : ℕ) → Bool → Hart
written h v x writes = record {
  v = h.v;
  privilege = h.privilege;
  pc = next h.pc;
  regs = pick writes (list.set h.regs v.home (stored_by v (lets h.regs v) (reg h v.home) x)) h.regs;
}

-- an access to the register of a row; own is the call's own refusal
unfoldable pub access_row : Hart → (own : Result Unit Refusal) → ℕ → Row → Form → ℕ → Bool → (word : ℕ) → Accessed
access_row h own place row form w writes word =
    let to : View = reached (h.v == 1) (at place) in
    let old : ℕ = seen h to in
    answer (settled h own (verdict (context h) row writes) word (done (written h to (combined form old w) writes))) old

-- one that goes on (for a contract of code)
abbrev pub goes : Hart → View → Form → ℕ → Bool → Accessed
goes h to form w writes = answer (done (written h to (combined form (seen h to) w) writes)) (seen h to)

-- an unlisted number: cause 2 in every mode, so that the step that would be done never is
abbrev pub unlisted : Hart → (own : Result Unit Refusal) → (word : ℕ) → Accessed
unlisted h own word = answer (settled h own (gives true false) word (done h)) 0

-- the row that bears the number, or none
abbrev pub access_found : Option (ℕ × Row) → Hart → (own : Result Unit Refusal) → Form → ℕ → Bool → (word : ℕ) → Accessed
access_found None h own form w writes word = unlisted h own word
access_found (Some (place, row)) h own form w writes word = access_row h own place row form w writes word

unfoldable pub access : Hart → Form → ℕ → ℕ → Bool → (word : ℕ) → Accessed
access h form number w writes word = access_found (first_at table number 0) h (refusal_of number) form w writes word

abbrev pub read : Hart → ℕ → (word : ℕ) → Accessed
read h number word = access h Read number 0 false word

abbrev pub write : Hart → ℕ → ℕ → (word : ℕ) → Accessed
write h number w word = access h Write number w true word

-- the last two with a flag saying whether they write
abbrev pub set : Hart → ℕ → ℕ → Bool → (word : ℕ) → Accessed
set h number w writes word = access h Set number w writes word

abbrev pub clear : Hart → ℕ → ℕ → Bool → (word : ℕ) → Accessed
clear h number w writes word = access h Clear number w writes word
