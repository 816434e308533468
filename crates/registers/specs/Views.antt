-- How a register is seen and written: some bits of a place (document 01, "sstatus is mstatus's SIE, SPIE, ..").
use Rattle.std.specs.Prelude.{List, [], ◌∷◌, ◌++◌, ℕ, ◌*◌, ◌/◌, ◌%◌, ◌^◌, get_or, Option, Some, None}
use Rattle.std.specs.Int.Bits.{bit_and}
use Rattle.bits.specs.Field.{top, bits, copy}
use Rattle.registers.specs.Fields.{SIE, SPIE, SPP, SUM, MXR, UXL, SSI, VSSI}
use Rattle.registers.specs.Places.{mstatus, mideleg, mie, mip, hideleg}
use Rattle.registers.specs.Rules.{rule, stored, of_s, of_vs}

-- A view: the place where the register's bits are kept; how far up from its own bits they stand there; those of its bits that a read
-- shows and those that a write stores; and the place of the register that lets them through by its bits, if one does.
pub record View : Type 0 where
  pub home : ℕ
  pub shift : ℕ
  pub shows : ℕ
  pub writes : ℕ
  pub gate : Option ℕ

-- the bits that a gate lets through; without one all are
abbrev pub gate_bits : List ℕ → Option ℕ → ℕ
gate_bits rs None = top
gate_bits rs (Some place) = get_or rs place top

abbrev pub lets : List ℕ → View → ℕ
lets rs v = gate_bits rs v.gate

-- a word moved up
abbrev pub up : (shift x : ℕ) → ℕ
up shift x = x * 2 ^ shift % 2 ^ 64

-- what a read through a view shows of a word at its home; a bit that isn't let through is zero
abbrev pub shown : View → (gate word : ℕ) → ℕ
shown v gate word = bit_and (bit_and word gate / 2 ^ v.shift) v.shows

-- what the home, which held old, comes to hold where x is written; a bit that isn't let through is written as it was
abbrev pub stored_by : View → (gate old x : ℕ) → ℕ
stored_by v gate old x = stored v.home (up v.shift v.writes) old (copy gate (up v.shift x) old)

-- some bits of a place as they are there
abbrev pub window : (home shows writes : ℕ) → View
window home shows writes = record { home = home; shift = 0; shows = shows; writes = writes; gate = None }

-- the register that is kept at a place
abbrev pub whole : ℕ → View
whole p = window p top (rule p).mask

-- "sstatus is mstatus's SIE, SPIE, SPP, SUM, MXR and UXL"; UXL reads 2
abbrev pub status_view : View
status_view = window mstatus (bits (SIE ∷ SPIE ∷ SPP ∷ SUM ∷ MXR ∷ UXL ∷ [])) (bits (SIE ∷ SPIE ∷ SPP ∷ SUM ∷ MXR ∷ []))

-- "read-only, 0" (hgeip), and "hgeie as zero": no bit of any place
abbrev pub no_bits : View
no_bits = window 0 0 0

-- mip: S's bits and 2 can be written; "mip's bits 3, 7 and 11 .. can't be written", and 6 and 10 move through hvip
abbrev pub mip_view : View
mip_view = window mip top (bits (of_s ++ (VSSI ∷ [])))

-- hie: mie's 2, 6 and 10. hip and hvip: mip's; of hip 2 alone can be written
abbrev pub hie_view : View
hie_view = window mie (bits of_vs) (bits of_vs)

abbrev pub hip_view : View
hip_view = window mip (bits of_vs) (bits (VSSI ∷ []))

abbrev pub hvip_view : View
hvip_view = window mip (bits of_vs) (bits of_vs)

-- 1, 5 and 9, kept so far up at a home, where the register at a gate has the bit
abbrev pub gated : (home shift writes gate : ℕ) → View
gated home shift writes gate = record { home = home; shift = shift; shows = bits of_s; writes = writes; gate = Some gate }

-- sie: mie's 1, 5 and 9 where mideleg has the bit. sip: mip's; 1 alone can be written
abbrev pub sie_view : View
sie_view = gated mie 0 (bits of_s) mideleg

abbrev pub sip_view : View
sip_view = gated mip 0 (bits (SSI ∷ [])) mideleg

-- vsie and vsip: the same of hie and hip where hideleg has the bit, whose 2, 6 and 10 stand at 1, 5 and 9
abbrev pub vsie_view : View
vsie_view = gated mie 1 (bits of_s) hideleg

abbrev pub vsip_view : View
vsip_view = gated mip 1 (bits (SSI ∷ [])) hideleg
