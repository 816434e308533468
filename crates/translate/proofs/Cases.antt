-- What a translation comes to: at once a refusal or a misalignment, else the walk. Assumes nothing.
use Rattle.std.specs.Prelude.{Result, Ok, Err}
use mathlib.Core.Path.{◌≡◌, ap}
use mathlib.Core.Bool.{true, not}
use mathlib.Core.List.{List}
use Prim.Native.Nat.{ℕ}
use lib.ListN.{length}
use borrow.Author.Tests.{not-false}
use Rattle.bits.specs.Field.{pick}
use Rattle.bits.proofs.Bools.{clash, pick_both}
use Rattle.exceptions.specs.declared.Exception.{Exception}
use Rattle.exceptions.specs.declared.Refusal.{Refusal}
use Rattle.hart.specs.declared.state.Hart.{Hart}
use Rattle.hart.specs.Hart.{passes}
use Rattle.image.specs.Image.{unfit}
use Rattle.rules.specs.declared.Kind.{Kind}
use Rattle.access.specs.declared.Access.{Access}
use Rattle.access.specs.declared.Machine.{Machine}
use Rattle.access.specs.Widths.{misaligned}
use Rattle.access.specs.Faults.{misalignment}
use Rattle.access.proofs.Widths.{Aligned}
use Rattle.stages.specs.Tree.{Ran, run}
use Rattle.stages.specs.Stages.{look, walk_of}
use Rattle.translate.specs.declared.Answer.{Answer}
use Rattle.translate.specs.declared.Translated.{Translated}
use Rattle.translate.specs.Translated.{unsupported, unless_refused, access_of, start_of, answer, unwalked, walked_to, concluded, translated}
use Rattle.translate.proofs.Accesses.{aligned}

-- a fault answered is the walk's
pub fault-ended : (o : Result Machine Exception) (f : Exception) → answer o ≡ Answer.Fault f → o ≡ Err f
fault-ended (Ok m) f e = clash (cc)
fault-ended (Err x) f e = let q : x ≡ f = cc in ap Err q

module _ (h : Hart) (base : ℕ) (bytes : List ℕ) (kind : Kind) (address width : ℕ) where
  -- the walk over the image
  abbrev pub ran_of : Ran (Result Machine Exception)
  ran_of = run (look base bytes) (walk_of base (length bytes) (access_of h kind address width))

  -- the answers that no walk gives
  pub data AtOnce : Answer → Type 0 where
    refused : (r : Refusal) → AtOnce (Answer.Refused r)
    misaligned-by : passes h ≡ true → AtOnce (Answer.Fault (misalignment (access_of h kind address width)))

  -- what holds of these and of the walk holds of every translation
  pub each : (P : Translated → Type 0) → ((x : Answer) → AtOnce x → P (unwalked h x)) → (passes h ≡ true → Aligned address width → P (walked_to h ran_of)) → P (translated h base bytes kind address width)
  unfolding translated start_of
  each P u w =
      pick_both Q (not (passes h)) _ _ (λ e. u _ (refused Refusal.Hart))
      (λ n. pick_both Q (unfit base (length bytes)) _ _ (λ e. u _ (refused Refusal.Image))
      (λ e. pick_both Q (unsupported kind address width) _ _ (λ e. u _ (refused Refusal.Access))
      (λ p. pick_both R (misaligned kind address width) _ _ (λ e. u _ (misaligned-by (not-false _ n))) (λ q. w (not-false _ n) (aligned kind address width p q)))))
    where
      -- by what it comes to before its walk, and by the refusal
      R : Result Access Answer → Type 0
      R s = P (concluded h base bytes s)

      Q : Result (Unit {0}) Refusal → Type 0
      Q n = R (unless_refused n (pick (misaligned kind address width) (Err (Answer.Fault (misalignment (access_of h kind address width)))) (Ok (access_of h kind address width))))
