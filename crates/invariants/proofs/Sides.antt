-- S and VS registers are never swapped: an event changes VS registers alone, or none of them. Assumes nothing.
use mathlib.Core.Path.{◌≡◌, refl, ap}
use mathlib.Core.Bool.{Bool, true, false, ◌&&◌, ◌||◌, not}
use mathlib.Core.Logic.{◌⊎◌, inl, inr}
use Prim.Native.Nat.{ℕ}
use lib.Dec.{eqb}
use lib.ListN.{get_or, set}
use lib.Seq.{get_or-set_other}
use borrow.Author.Tests.{eqb-true}
use Rattle.bits.specs.Field.{pick, has}
use Rattle.bits.proofs.Bools.{clash}
use Rattle.registers.specs.Places.{medeleg, hedeleg}
use Rattle.registers.specs.Views.{View}
use Rattle.exceptions.specs.declared.Exception.{Exception}
use Rattle.privilege.specs.Mode.{is_m}
use Rattle.delivery.specs.declared.Target.{Target}
use Rattle.delivery.specs.declared.Target.TheVariants.{M, HS, VS}
use Rattle.delivery.specs.Delivery.{target}
use Rattle.interrupts.specs.Interrupts.{interruption}
use Rattle.hart.specs.declared.state.Hart.{Hart}
use Rattle.hart.specs.declared.event.Step.{Step}
use Rattle.hart.specs.Hart.{reg, context}
use Rattle.hart.specs.Deliver.{writes_m, writes_hs, writes_vs, delivered_m, delivered_hs, delivered_vs, delivered_to, delivered}
use Rattle.hart.specs.Return.{writes_mret, writes_hsret, writes_vsret, returned_m, returned_hs, returned_vs}
use Rattle.hart.specs.Access.{written}
use Rattle.invariants.specs.Events.{Event, run}
use Rattle.invariants.specs.Learns.{guest}
use Rattle.invariants.proofs.Writes.{apart, outside_kept}
use Rattle.invariants.proofs.Comes.{Comes, refuses, traps, mrets, srets_VS, srets_HS, moves, writes, interrupts, rests, comes}

-- all places but those of the VS registers
abbrev pub host : ℕ → Bool
host p = not (guest p)

-- only registers inside differ
abbrev pub OnlyIn : (ℕ → Bool) → Hart → Hart → Type 0
OnlyIn inside h h' = (p : ℕ) → inside p ≡ false → reg h' p ≡ reg h p

abbrev pub OneSide : Hart → Hart → Type 0
OneSide h h' = OnlyIn guest h h' ⊎ OnlyIn host h h'

-- a trap goes to VS only from V=1
pub only_from_guest : (h : Hart) (cause : ℕ) → target (context h) (reg h medeleg) (reg h hedeleg) cause ≡ VS → h.v ≡ 1
only_from_guest h cause = go (is_m (context h) || not (has cause (reg h medeleg))) (eqb h.v 1) refl (has cause (reg h hedeleg))
  where
    go : (m v : Bool) → eqb h.v 1 ≡ v → (d : Bool) → pick m M (pick (v && d) VS HS) ≡ VS → h.v ≡ 1
    go true v e d q = clash (cc)
    go false true e d q = eqb-true h.v 1 e
    go false false e d q = clash (cc)

-- a trap into VS changes VS registers alone, so nothing of HS or M, and V stays 1
pub into_VS : (h : Hart) (t : Exception) → OnlyIn guest h (delivered_vs h t) × ((delivered_vs h t).v ≡ 1)
unfolding delivered_vs
into_VS h t = (outside_kept guest (writes_vs h t) h.regs refl, refl)

delivered_side : (to : Target) (h : Hart) (t : Exception) → OneSide h (delivered_to to h t)
unfolding delivered_m delivered_hs delivered_vs
delivered_side M h t = inr (outside_kept host (writes_m h t) h.regs refl)
delivered_side HS h t = inr (outside_kept host (writes_hs h t) h.regs refl)
delivered_side VS h t = inl (outside_kept guest (writes_vs h t) h.regs refl)

trap_side : (h : Hart) (t : Exception) → OneSide h (delivered h t)
unfolding delivered
trap_side h t = delivered_side (target (context h) (reg h medeleg) (reg h hedeleg) t.cause) h t

-- one register written
set_side : (h : Hart) (place x : ℕ) (b : Bool) → guest place ≡ b → ((p : ℕ) → guest p ≡ false → get_or (set h.regs place x) p 0 ≡ reg h p) ⊎ ((p : ℕ) → host p ≡ false → get_or (set h.regs place x) p 0 ≡ reg h p)
set_side h place x true e = inl (λ p f. get_or-set_other h.regs place p x 0 (apart guest p place f e))
set_side h place x false e = inr (λ p f. get_or-set_other h.regs place p x 0 (apart host p place f (ap not e)))

written_side : (h : Hart) (v : View) (x : ℕ) (writes : Bool) → OneSide h (written h v x writes)
unfolding written
written_side h v x true = set_side h v.home _ (guest v.home) refl
written_side h v x false = inl (λ p f. refl)

side : (h : Hart) (s : Step) → Comes h s → OneSide h s.hart
unfolding returned_m returned_hs returned_vs
side h s (refuses r) = inl (λ p f. refl)
side h s (traps a t) = trap_side h t
side h s (mrets a m) = inr (outside_kept host (writes_mret h) h.regs refl)
side h s (srets_VS a v) = inl (outside_kept guest (writes_vsret h) h.regs refl)
side h s (srets_HS a v) = inr (outside_kept host (writes_hsret h) h.regs refl)
side h s (moves a) = inl (λ p f. refl)
side h s (writes a place l w v x) = written_side h _ x w
side h s (interrupts a to n d) = delivered_side to h (interruption to n)
side h s (rests a) = inl (λ p f. refl)

-- every event changes VS registers alone, or none of them
pub never_swapped : (e : Event) (h : Hart) → OneSide h (run e h).hart
never_swapped e h = side h (run e h) (comes e h)
