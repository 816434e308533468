-- A start and a press (2026-07): what each makes of any hart, place and image.
use Rattle.std.specs.Prelude.{Bool, false, ◌||◌, not, List, [], ◌∷◌, ℕ, ◌+◌, eqb, ltb, length, set, Option, Some, None, Result, Ok, Err}
use Rattle.exceptions.specs.declared.Refusal.{Refusal}
use Rattle.hart.specs.declared.state.Hart.{Hart}
use Rattle.hart.specs.Hart.{context, paging}
use Rattle.image.specs.Image.{unfit}
use Rattle.rules.specs.declared.Kind.{Kind}
use Rattle.access.specs.declared.Access.{Access}
use Rattle.access.specs.Faults.{access_fault}
use Rattle.stages.specs.declared.Read.{Read}
use Rattle.stages.specs.Tree.{item}
use Rattle.stages.specs.Stages.{look}
use Rattle.stages.specs.Listed.{places, unused}
use Rattle.effective.specs.Effective.{plain_access}
use Rattle.translate.specs.declared.Answer.{Answer}
use Rattle.translate.specs.Translated.{first_refusal, start_of}
use Rattle.stepper.specs.declared.State.{State}
use Rattle.stepper.specs.declared.Place.{Place}
use Rattle.stepper.specs.declared.Told.{Told}
use Rattle.stepper.specs.declared.Pressed.{Pressed}
use Rattle.stepper.specs.declared.position.Position.{Position}
use Rattle.stepper.specs.Position.{level_at, misplaced, ended, after, begins}

-- the access of a place, as the hart made it at the start: each stage's depth and root are by the bits of its register
abbrev pub access_at : Place → Access
access_at p = plain_access p.context p.paging p.kind p.address p.width

-- "A start that the plain engine refuses is finished at once, with that refusal as its end answer"; so is a misaligned one
abbrev pub state_at : (base len : ℕ) → Result Access Answer → State
state_at base len (Err x) = State.Ended x
state_at base len (Ok a) = begins base len a

-- a start: nothing of the image but its base and length is looked at
unfoldable pub started : Hart → (base len : ℕ) → Kind → (address width : ℕ) → Place
started h base len kind address width =
    record {
      base = base;
      length = len;
      kind = kind;
      address = address;
      width = width;
      context = context h;
      paging = paging h;
      state = state_at base len (start_of h base len kind address width);
      reads = unused places;
      count = 0;
    }

-- "an unfinished place whose count is 35, whose stage isn't 1 or 2, or where a level still being walked isn't below its mode's depth"
unfoldable pub unfinished_badly : Access → (count : ℕ) → State → Bool
unfinished_badly a count (State.Ended x) = false
unfinished_badly a count (State.Going q) = eqb count places || misplaced a q

-- "another base or length, a count over 35, or an unfinished place .."
unfoldable pub unfit_place : Place → (base len : ℕ) → Bool
unfit_place p base len =
    not (eqb base p.base) || not (eqb len p.length) || ltb places p.count || unfinished_badly (access_at p) p.count p.state

-- "a press on an image bad by check 1 is refused as 1; then .. as 6"
abbrev pub press_refusals : Place → (base len : ℕ) → List (Bool × Refusal)
press_refusals p base len = (unfit base len, Refusal.Image) ∷ (unfit_place p base len, Refusal.Place) ∷ []

-- "the place, with its list, is unchanged and nothing is shown"
abbrev pub unpressed : Place → Told → Pressed
unpressed p x = record { place = p; shown = None; told = x }

-- a refusal is told, else what follows
abbrev pub unless_refused : Result (Unit {0}) Refusal → Place → Pressed → Pressed
unless_refused (Ok x) p next = next
unless_refused (Err r) p next = unpressed p (Told.Refused r)

-- what a press answers by where the walk stands after it
abbrev pub tells : State → Told
tells (State.Going q) = Told.Going
tells (State.Ended x) = Told.Ended x

-- a place with another state and list
abbrev pub moved : Place → State → List Read → ℕ → Place
moved p s reads count =
    record {
      base = p.base;
      length = p.length;
      kind = p.kind;
      address = p.address;
      width = p.width;
      context = p.context;
      paging = p.paging;
      state = s;
      reads = reads;
      count = count;
    }

-- The one entry, by what the image has there: "read, eight bytes, and listed" behind the others, and shown; outside the image it ends the walk.
unfoldable pub turned : Place → Position → Option ℕ → Pressed
turned p q None =
    let s = ended p.base p.length (access_at p) (Err (access_fault (access_at p))) in
    record { place = moved p s p.reads p.count; shown = None; told = tells s }
turned p q (Some e) =
    let x = item q.stage (level_at q) q.at e in
    let s = after p.base p.length (access_at p) q e in
    record { place = moved p s (set p.reads p.count x) (p.count + 1); shown = Some x; told = tells s }

-- "reads at most one entry on each press, and says which"; "Any other press after the end changes and shows nothing."
unfoldable pub stepped : Place → List ℕ → State → Pressed
stepped p bytes (State.Ended x) = unpressed p (Told.Ended x)
stepped p bytes (State.Going q) = turned p q (look p.base bytes q.at)

-- the whole
unfoldable pub pressed : Place → ℕ → List ℕ → Pressed
pressed p base bytes = unless_refused (first_refusal (press_refusals p base (length bytes))) p (stepped p bytes p.state)
