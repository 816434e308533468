-- What an access takes from the hart: the mode it is made in, the stages that are on, and the bits that count.
use Rattle.std.specs.Prelude.{Bool, true, false, ◌&&◌, ◌||◌, not, ℕ, eqb}
use Rattle.bits.specs.Field.{pick, get}
use Rattle.registers.specs.Fields.{MPP, MPRV, MPV, SUM, MXR, SPVP, MODE, PPN}
use Rattle.privilege.specs.declared.Context.{Context}
use Rattle.privilege.specs.Mode.{is_m, is_set}
use Rattle.rules.specs.declared.Kind.{Kind}
use Rattle.rules.specs.declared.Right.{Right}
use Rattle.rules.specs.Kind.{by}
use Rattle.access.specs.declared.Access.{Access}
use Rattle.access.specs.declared.Root.{Root}
use Rattle.rules.specs.Right.{right_of}
use Rattle.effective.specs.declared.Paging.{Paging}
use Rattle.effective.specs.declared.EffectiveMode.{EffectiveMode}

-- "in M with MPRV=1 a load or store uses MPP"
abbrev pub uses_mpp : Context → Kind → Bool
uses_mpp c kind = is_m c && is_set MPRV c.mstatus && by kind false true true

-- "Effective mode: the hart's, but in M with MPRV=1 a load or store uses MPP, and MPV if MPP isn't 3."
abbrev pub effective : Context → Kind → EffectiveMode
effective c kind =
    pick (uses_mpp c kind)
    (record { v = not (eqb (get MPP c.mstatus) 3) && is_set MPV c.mstatus; privilege = get MPP c.mstatus })
    (record { v = eqb c.v 1; privilege = c.privilege })

-- "They translate as V=1 with privilege SPVP, whatever MPRV says" (2026-03)
abbrev pub guest_mode : Context → EffectiveMode
guest_mode c = record { v = true; privilege = get SPVP c.hstatus }

-- "its MODE isn't Bare": Bare is 0
abbrev pub is_bare : ℕ → Bool
is_bare x = eqb (get MODE x) 0

-- the tables of a stage that is off
abbrev pub off : Root
off = record { levels = 0; ppn = 0 }

-- How many levels a MODE's tables have: Bare's none, Sv39's three ("its top level, 2 here"), those of "Sv48 and Sv57, with Sv48x4 and Sv57x4 (MODE 9 and
-- 10)" four and five (2026-05). A register holds no other MODE.
unfoldable pub depth : ℕ → ℕ
depth mode = pick (eqb mode 0) 0 (pick (eqb mode 8) 3 (pick (eqb mode 9) 4 5))

-- the tables of satp, vsatp or hgatp: "with the table at its register's PPN"
abbrev pub root : ℕ → Root
root x = record { levels = depth (get MODE x); ppn = get PPN x }

-- "M, or stages in Bare, pass the address on. V=0 walks satp alone; V=1 walks vsatp, then hgatp."
unfoldable pub first_root : Paging → EffectiveMode → Root
first_root p m = pick m.v (root p.vsatp) (pick (eqb m.privilege 3) off (root p.satp))

-- "V=1 walks vsatp, then hgatp": with V=0 there is no second stage
unfoldable pub second_root : Paging → EffectiveMode → Root
second_root p m = pick m.v (root p.hgatp) off

-- "SUM and MXR are vsstatus's when V=1, and mstatus.MXR counts too."
abbrev pub own_status : Context → Paging → EffectiveMode → ℕ
own_status c p m = pick m.v p.vsstatus c.mstatus

-- the access as a mode makes it: user mode is privilege 0; "MXR is mstatus's only" at the second stage, so mmxr is kept apart
abbrev pub in_mode : Context → Paging → EffectiveMode → Kind → Right → ℕ → ℕ → Access
in_mode c p m kind right address width =
    record {
      kind = kind;
      right = right;
      address = address;
      width = width;
      v = m.v;
      user = eqb m.privilege 0;
      sum = is_set SUM (own_status c p m);
      mxr = is_set MXR (own_status c p m) || is_set MXR c.mstatus;
      mmxr = is_set MXR c.mstatus;
      first = first_root p m;
      second = second_root p m;
    }

-- as the hart itself makes it: in the effective mode, for its kind's own right
abbrev pub plain_access : Context → Paging → Kind → ℕ → ℕ → Access
plain_access c p kind = in_mode c p (effective c kind) kind (right_of kind)

-- as it makes it for its guest (2026-03)
abbrev pub guest_access : Context → Paging → Kind → Right → ℕ → ℕ → Access
guest_access c p = in_mode c p (guest_mode c)
