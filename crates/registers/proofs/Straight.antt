-- The test of all registers as a straight line: those that hold every word ask nothing. Assumes nothing.
use mathlib.Core.Path.{◌≡◌, ◌∙◌}
use mathlib.Core.Bool.{Bool, true, ◌&&◌}
use mathlib.Core.List.{List}
use Prim.Native.Nat.{ℕ}
use lib.Bits.{and_zero_r}
use lib.ListN.{get_or, length}
use Rattle.bits.specs.Every.{every}
use Rattle.bits.proofs.Bools.{and_assoc, and-true}
use Rattle.bits.proofs.Every.{all, every_all}
use Rattle.registers.specs.Places.{kept, stvec, sepc, satp, vsstatus, vstvec, vsepc, vsatp, mstatus, medeleg, mideleg, mie, mtvec, mepc, mip, hstatus, hedeleg, hideleg, hgatp}
use Rattle.registers.specs.Rules.{legal, stores_word, stores_status, stores_mstatus, stores_hstatus, stores_hedeleg, stores_medeleg, stores_mideleg, stores_hideleg, stores_interrupts, stores_tvec, stores_epc, stores_satp, stores_hgatp}
use Rattle.registers.specs.File.{holds}

pub word-legal : (x : ℕ) → legal stores_word x ≡ true
unfolding legal
word-legal x = rw (and_zero_r x)

module _ (rs : List ℕ) where
  abbrev r : ℕ → ℕ
  r i = get_or rs i 0

  abbrev supervisor_legal : Bool
  supervisor_legal = legal stores_tvec (r stvec) && (legal stores_epc (r sepc) && legal stores_satp (r satp))

  abbrev guest_legal : Bool
  guest_legal = legal stores_status (r vsstatus) && (legal stores_tvec (r vstvec) && (legal stores_epc (r vsepc) && legal stores_satp (r vsatp)))

  abbrev machine_legal : Bool
  machine_legal =
      legal stores_mstatus (r mstatus) && (legal stores_medeleg (r medeleg) && (legal stores_mideleg (r mideleg) && (legal stores_interrupts (r mie)
      && (legal stores_tvec (r mtvec) && (legal stores_epc (r mepc) && legal stores_interrupts (r mip))))))

  abbrev hypervisor_legal : Bool
  hypervisor_legal = legal stores_hstatus (r hstatus) && (legal stores_hedeleg (r hedeleg) && (legal stores_hideleg (r hideleg) && legal stores_hgatp (r hgatp)))

  pub straight : length rs ≡ kept → every holds 0 rs ≡ (supervisor_legal && (guest_legal && (machine_legal && hypervisor_legal)))
  unfolding all
  straight n = every_all holds rs 0 kept 0 n ∙ simp (word-legal, and_assoc, and-true)
