-- What a guest-page fault tells, in the words of demand 3's list.
use Rattle.std.specs.Prelude.{◌≡◌, Bool, List, ◌++◌, ℕ, ◌+◌, ◌-◌, ◌*◌, ◌/◌, ◌<◌}
use Rattle.exceptions.specs.declared.Exception.{Exception}
use Rattle.rules.specs.declared.Kind.{Kind}
use Rattle.rules.specs.Kind.{by}
use Rattle.rules.specs.Address.{first, second, index}
use Rattle.access.specs.declared.Guest.{Guest}
use Rattle.access.specs.declared.Root.{Root}
use Rattle.stages.specs.declared.Read.{Read}
use Rattle.stages.specs.Through.{Only, Leads, FirstResult}

-- The guest address that the second stage did not let through, with the fault's word. A guest entry's, "its address goes through that before the read": the entry
-- to which the first stage has come by the items listed, at its table t "plus 8 times the index", "with instruction word 00003000 hex". The access's own, "the
-- first stage's result, or the access's address if vsatp is Bare": "Other .. words are 0".
pub data Denied (root : Root) (address : ℕ) (xs : List Read) : (guest word : ℕ) → Type 0 where
  at_entry : (level t : ℕ) → 0 < root.levels → Leads (root.levels - 1) (root.ppn * 4096) xs level t → Denied root address xs (t + 8 * index first root.levels level address) 0x3000
  at_access : (earlier walk : List Read) (g : Guest) → xs ≡ earlier ++ walk → Only second walk → FirstResult root address earlier g → Denied root address xs g.0 0

-- "the fault of the original access: 20, 21 or 23" (2026-04); "second value is the guest physical address shifted right by 2"; "The value is the virtual address; the
-- flag is the effective V."
pub record GuestPageFault (root : Root) (kind : Kind) (address : ℕ) (v : Bool) (xs : List Read) (f : Exception) : Type 0 where
  pub guest : ℕ
  pub denied : Denied root address xs guest f.word
  pub cause : f.cause ≡ by kind 20 21 23
  pub value : f.value ≡ address
  pub value2 : f.value2 ≡ guest / 4
  pub flag : f.flag ≡ v
