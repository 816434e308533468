-- What a hypervisor load or store that is not refused has. Assumes nothing.
use mathlib.Core.Path.{◌≡◌, refl}
use mathlib.Core.Bool.{Bool, true, false, ◌||◌, not}
use Prim.Native.Nat.{ℕ, ◌+◌, ◌^◌, ◌≤◌}
use lib.Dec.{eqb}
use borrow.Author.Tests.{not-false}
use Rattle.bits.specs.Field.{pick}
use Rattle.bits.proofs.Bools.{clash}
use Rattle.std.specs.Prelude.{Ok, Err}
use Rattle.exceptions.specs.declared.Refusal.TheVariants as refusals
use Rattle.privilege.specs.declared.Context.{Context}
use Rattle.image.specs.Image.{unfit}
use Rattle.image.proofs.Tests.{fit}
use Rattle.access.specs.Widths.{known}
use Rattle.second_stage.specs.Place.{Tables}
use Rattle.effective.specs.declared.Paging.{Paging}
use Rattle.effective.specs.Effective.{guest_mode}
use Rattle.effective.proofs.Roots.{first_five, second_five}
use Rattle.hypervisor.specs.declared.Operation.{Operation}
use Rattle.hypervisor.specs.declared.Operation.TheVariants.{Hlv, Hlvx, Hsv}
use Rattle.hypervisor.specs.Hypervisor.{offered, refusal_of, access_for}

-- a width that there is a form for is a known one
offered-known : (o : Operation) (width : ℕ) → offered o width ≡ true → known width ≡ true
offered-known Hlv width e = e
offered-known Hsv width e = e
offered-known Hlvx width e = go (eqb width 1) (eqb width 2) (eqb width 4) e
  where
    go : (one two four : Bool) → (two || four) ≡ true → (one || two || four || eqb width 8) ≡ true
    go true two four q = refl
    go false true four q = refl
    go false false true q = refl
    go false false false q = clash q

pub record Taken (base len width : ℕ) : Type 0 where
  pub image : unfit base len ≡ false
  pub ends : base + len ≤ 2 ^ 56
  pub form : known width ≡ true

pub taken : (o : Operation) (base len width : ℕ) → refusal_of o base len width ≡ Ok tt → Taken base len width
unfolding refusal_of
taken o base len width = go (unfit base len) (not (offered o width)) refl refl
  where
    go : (b c : Bool) → unfit base len ≡ b → not (offered o width) ≡ c → pick b (Err refusals.Image) (pick c (Err refusals.Access) (Ok (tt {0}))) ≡ Ok tt → Taken base len width
    go true c p q e = clash (cc)
    go false true p q e = clash (cc)
    go false false p q e = record { image = p; ends = fit base len p; form = offered-known o width (not-false _ q) }

-- its access goes by tables of at most five levels
pub tables_for : (o : Operation) (c : Context) (p : Paging) (address width : ℕ) → Tables (access_for o c p address width)
tables_for o c p address width =
    let f = first_five p (guest_mode c) in
    let s = second_five p (guest_mode c) in
    record { first = f.levels; second = s.levels; first_root = f.ppn; second_root = s.ppn }
