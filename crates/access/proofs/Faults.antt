-- Of an access's faults only guest-page faults have a cause of 20 or more. Assumes nothing.
use mathlib.Core.Path.{◌≡◌}
use Prim.Native.Nat.{ℕ, ◌<◌, ◌≤◌}
use native.Mathlib.Omega.{arith}
use Rattle.exceptions.specs.declared.Exception.{Exception}
use Rattle.rules.specs.Kind.{by}
use Rattle.rules.proofs.Cases.{each_kind}
use Rattle.access.specs.declared.Access.{Access}
use Rattle.access.specs.Faults.{misalignment, access_fault, page_fault}

-- a fault of another cause is none
pub not-high : {P : Type 0} (x f : Exception) → f ≡ x → x.cause < 20 → 20 ≤ f.cause → P
not-high x f e low high = let less : f.cause < 20 = rw e low in absurd (omega (arith, high, less))

module _ (a : Access) where
  low : (x y z : ℕ) → x < 20 → y < 20 → z < 20 → by a.kind x y z < 20
  low x y z fetch load store = each_kind (λ k. by k x y z < 20) fetch load store a.kind

  pub misalignment-low : (misalignment a).cause < 20
  misalignment-low = low 0 4 6 (omega arith) (omega arith) (omega arith)

  pub access-low : (access_fault a).cause < 20
  access-low = low 1 5 7 (omega arith) (omega arith) (omega arith)

  pub page-low : (page_fault a).cause < 20
  page-low = low 12 13 15 (omega arith) (omega arith) (omega arith)
