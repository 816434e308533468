-- What every event owes to the order in which it is settled. Assumes nothing.
use mathlib.Core.Path.{◌≡◌, refl}
use mathlib.Core.Bool.{Bool, true, false, not}
use mathlib.Core.Logic.{◌⊎◌, inl, inr}
use Prim.Native.Nat.{ℕ}
use borrow.Author.Tests.{not-false}
use Rattle.std.specs.Prelude.{Result, Ok, Err}
use Rattle.exceptions.specs.declared.Refusal.{Refusal}
use Rattle.exceptions.specs.declared.Refusal.TheVariants as refusals
use Rattle.exceptions.specs.Refusal.{number}
use Rattle.bits.specs.Field.{pick}
use Rattle.bits.proofs.Bools.{clash}
use Rattle.privilege.specs.declared.Verdict.{Verdict}
use Rattle.hart.specs.declared.state.Hart.{Hart}
use Rattle.hart.specs.declared.event.Step.{Step}
use Rattle.hart.specs.Hart.{passes}
use Rattle.hart.specs.declared.event.Halt.{Halt}
use Rattle.hart.specs.declared.event.Halt.TheVariants.{Refuses, Raises}
use Rattle.hart.specs.Event.{refused, raised, unless_refused, stop_of, settled_by, settled}

-- an event is refused, raises 2 or 22, or goes on: each with what led there
pub stop_cases : (P : Result Unit Halt → Type 0) (h : Hart) (own : Result Unit Refusal) (verdict : Verdict)
    → ((r : Refusal) → P (Err (Refuses r)))
    → (passes h ≡ true → (cause : ℕ) → (cause ≡ 2) ⊎ (cause ≡ 22) → P (Err (Raises cause)))
    → (passes h ≡ true → own ≡ Ok tt → verdict.gives2 ≡ false → verdict.gives22 ≡ false → P (Ok tt))
    → P (stop_of h own verdict)
stop_cases P h own verdict r c d = one (not (passes h)) refl
  where
    four : passes h ≡ true → own ≡ Ok (tt {0}) → verdict.gives2 ≡ false → (b : Bool) → verdict.gives22 ≡ b → P (pick b (Err (Raises 22)) (Ok tt))
    four p o v true e = c p 22 (inr refl)
    four p o v false e = d p o v e

    three : passes h ≡ true → own ≡ Ok (tt {0}) → (b : Bool) → verdict.gives2 ≡ b → P (pick b (Err (Raises 2)) (pick verdict.gives22 (Err (Raises 22)) (Ok tt)))
    three p o true e = c p 2 (inl refl)
    three p o false e = four p o e verdict.gives22 refl

    two : passes h ≡ true → (o : Result Unit Refusal) → own ≡ o → P (unless_refused o (pick verdict.gives2 (Err (Raises 2)) (pick verdict.gives22 (Err (Raises 22)) (Ok tt))))
    two p (Err x) e = r x
    two p (Ok t) e = three p e verdict.gives2 refl

    one : (b : Bool) → not (passes h) ≡ b → P (pick b (Err (Refuses refusals.Hart)) (unless_refused own (pick verdict.gives2 (Err (Raises 2)) (pick verdict.gives22 (Err (Raises 22)) (Ok tt)))))
    one true e = r refusals.Hart
    one false e = two (not-false _ e) own refl

-- what it comes to then: the hart as given, refused; or the cause raised; or the step that is done
pub settled_cases : (P : Step → Type 0) (h : Hart) (own : Result Unit Refusal) (verdict : Verdict) (word : ℕ) (finished : Step)
    → ((r : Refusal) → P (refused h r))
    → (passes h ≡ true → (cause : ℕ) → (cause ≡ 2) ⊎ (cause ≡ 22) → P (raised h cause word))
    → (passes h ≡ true → own ≡ Ok tt → verdict.gives2 ≡ false → verdict.gives22 ≡ false → P finished)
    → P (settled h own verdict word finished)
unfolding settled
settled_cases P h own verdict word finished = stop_cases (λ (s : Result Unit Halt). P (settled_by s h word finished)) h own verdict

-- every refusal has a number
pub some_number : (r : Refusal) → number r ≡ 0 → ⊥
some_number refusals.Image e = clash (cc)
some_number refusals.Hart e = clash (cc)
some_number refusals.Access e = clash (cc)
some_number refusals.Request e = clash (cc)
some_number refusals.Register e = clash (cc)
some_number refusals.Place e = clash (cc)
