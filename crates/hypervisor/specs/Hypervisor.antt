-- The hypervisor loads and stores: which there are, and the walk of their access, made for the guest (2026-03).
use Rattle.std.specs.Prelude.{Bool, ◌||◌, not, List, [], ℕ, eqb, length, Result, Ok, Err}
use Rattle.exceptions.specs.declared.Exception.{Exception}
use Rattle.bits.specs.Field.{pick}
use Rattle.privilege.specs.declared.Context.{Context}
use Rattle.exceptions.specs.declared.Refusal.{Refusal}
use Rattle.exceptions.specs.declared.Refusal.TheVariants as refusals
use Rattle.image.specs.Image.{unfit}
use Rattle.rules.specs.declared.Kind.{Kind}
use Rattle.rules.specs.declared.Kind.TheVariants.{Load, Store}
use Rattle.rules.specs.declared.Right.{Right}
use Rattle.rules.specs.declared.Right.TheVariants.{Read, Write, Execute}
use Rattle.access.specs.declared.Access.{Access}
use Rattle.access.specs.declared.Machine.{Machine}
use Rattle.access.specs.Widths.{known, misaligned}
use Rattle.access.specs.Faults.{misalignment}
use Rattle.effective.specs.declared.Paging.{Paging}
use Rattle.effective.specs.Effective.{guest_access}
use Rattle.stages.specs.Tree.{Ran, run}
use Rattle.stages.specs.Stages.{look, walk_of}
use Rattle.hypervisor.specs.declared.Operation.{Operation}
use Rattle.hypervisor.specs.declared.Operation.TheVariants.{Hlv, Hlvx, Hsv}

-- the one that is the operation's own
abbrev pub by_operation : {A : Type 0} → Operation → A → A → A → A
by_operation Hlv hlv hlvx hsv = hlv
by_operation Hlvx hlv hlvx hsv = hlvx
by_operation Hsv hlv hlvx hsv = hsv

-- HLVX "faults as a load"
abbrev pub kind_of : Operation → Kind
kind_of o = by_operation o Load Load Store

-- "HLVX needs X in place of R at both stages"
abbrev pub right_needed : Operation → Right
right_needed o = by_operation o Read Execute Write

-- "HLV of each width"; "HLVX.HU and HLVX.WU"; HSV: how many bytes there are forms for
abbrev pub offered : Operation → ℕ → Bool
offered o width = by_operation o (known width) (eqb width 2 || eqb width 4) (known width)

-- "Order: 2, then 1, then the call's own", which is 3: the refusal after 2
unfoldable pub refusal_of : Operation → (base len width : ℕ) → Result Unit Refusal
refusal_of o base len width = pick (unfit base len) (Err refusals.Image) (pick (not (offered o width)) (Err refusals.Access) (Ok tt))

-- "They translate as V=1 with privilege SPVP": its access, made for the guest
abbrev pub access_for : Operation → Context → Paging → (address width : ℕ) → Access
access_for o c p address width = guest_access c p (kind_of o) (right_needed o) address width

-- how its walk ends: at a machine address, or with a fault
abbrev pub End : Type 0
End = Result Machine Exception

-- "a misaligned one its fault, .. with the list empty", else its walk over the image
unfoldable pub walk_for : ℕ → List ℕ → Access → Ran End
walk_for base bytes a =
    pick (misaligned a.kind a.address a.width) (record { end = Err (misalignment a); reads = [] })
    (run (look base bytes) (walk_of base (length bytes) a))
