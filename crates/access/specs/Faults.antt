-- The faults of an access.
use Rattle.std.specs.Prelude.{ℕ, ◌/◌}
use Rattle.exceptions.specs.declared.Exception.{Exception}
use Rattle.rules.specs.Kind.{by}
use Rattle.access.specs.declared.Access.{Access}
use Rattle.access.specs.declared.Guest.{Guest}

-- "The value is the virtual address; the flag is the effective V."
abbrev pub raised : Access → (cause value2 word : ℕ) → Exception
raised a cause value2 word = record { cause = cause; value = a.address; value2 = value2; word = word; flag = a.v }

-- "Misaligned load or store: 4 or 6"; no fetch comes to this.
abbrev pub misalignment : Access → Exception
misalignment a = raised a (by a.kind 0 4 6) 0 0

-- "access fault 1, 5, 7 by the original access"
abbrev pub access_fault : Access → Exception
access_fault a = raised a (by a.kind 1 5 7) 0 0

-- "page fault 12, 13, 15 (fetch, load, store)"
abbrev pub page_fault : Access → Exception
page_fault a = raised a (by a.kind 12 13 15) 0 0

-- "guest-page fault 20, 21, 23"; "Every guest-page fault's second value is the guest physical address shifted right by 2."
abbrev pub guest_page_fault : Access → Guest → Exception
guest_page_fault a guest = raised a (by a.kind 20 21 23) (guest.0 / 4) 0

-- A guest entry's, 2026-04: "the fault of the original access: 20, 21 or 23 .. Value, second value and instruction word stay": of document 01's sentence
-- "with instruction word 00003000 hex" stays, "a load guest-page fault, 21" is withdrawn.
abbrev pub entry_fault : Access → Guest → Exception
entry_fault a guest = raised a (by a.kind 20 21 23) (guest.0 / 4) 0x3000
