-- The translation of an access, with its refusals: answer, list, count and hart.
use Rattle.std.specs.Prelude.{Bool, false, ◌||◌, not, List, [], ◌∷◌, ℕ, ◌%◌, eqb, length, Result, Ok, Err}
use Rattle.exceptions.specs.declared.Exception.{Exception}
use Rattle.exceptions.specs.declared.Refusal.{Refusal}
use Rattle.exceptions.specs.Refusal.{number}
use Rattle.bits.specs.Field.{pick}
use Rattle.hart.specs.declared.state.Hart.{Hart}
use Rattle.hart.specs.Hart.{context, paging, passes}
use Rattle.image.specs.Image.{unfit}
use Rattle.rules.specs.declared.Kind.{Kind}
use Rattle.rules.specs.Kind.{by}
use Rattle.access.specs.declared.Access.{Access}
use Rattle.access.specs.declared.Machine.{Machine}
use Rattle.access.specs.Widths.{known, misaligned}
use Rattle.access.specs.Faults.{misalignment}
use Rattle.stages.specs.Tree.{Ran, run}
use Rattle.stages.specs.Stages.{look, walk_of}
use Rattle.stages.specs.Listed.{places, unused, padded}
use Rattle.translate.specs.declared.Answer.{Answer}
use Rattle.translate.specs.declared.Translated.{Translated}
use Rattle.effective.specs.Effective.{plain_access}

-- "A translation answers an address, a refusal number or a fault (cause, value, second value, word, flag)": the number of a refusal, 0 where there is none
abbrev pub refusal : Answer → ℕ
refusal (Answer.Address m) = 0
refusal (Answer.Refused r) = number r
refusal (Answer.Fault f) = 0

-- and each case's values
abbrev pub values : Answer → List ℕ
values (Answer.Address m) = m.0 ∷ []
values (Answer.Refused r) = number r ∷ []
values (Answer.Fault f) = f.cause ∷ f.value ∷ f.value2 ∷ f.word ∷ pick f.flag 1 0 ∷ []

-- Refusal 3: "width not 1, 2, 4 or 8; a fetch whose width isn't 4 or whose address isn't a multiple of 4"
unfoldable pub unsupported : Kind → ℕ → ℕ → Bool
unsupported kind address width =
    not (known width)
    || by kind (not (eqb width 4) || not (eqb (address % 4) 0)) false false

-- "Order: 2, then 1, then the call's own.": each refusal, and whether it is given
abbrev pub refusals : Hart → (base len : ℕ) → Kind → (address width : ℕ) → List (Bool × Refusal)
refusals h base len kind address width = (not (passes h), Refusal.Hart) ∷ (unfit base len, Refusal.Image) ∷ (unsupported kind address width, Refusal.Access) ∷ []

-- the first that is given, if one is
abbrev pub first_refusal : List (Bool × Refusal) → Result (Unit {0}) Refusal
first_refusal [] = Ok tt
first_refusal (r ∷ rs) = pick r.0 (Err r.1) (first_refusal rs)

-- its number; 0: none is
abbrev pub refusal_number : Result (Unit {0}) Refusal → ℕ
refusal_number (Ok x) = 0
refusal_number (Err r) = number r

-- a refusal is the answer, else what follows
abbrev pub unless_refused : Result (Unit {0}) Refusal → Result Access Answer → Result Access Answer
unless_refused (Ok x) next = next
unless_refused (Err r) next = Err (Answer.Refused r)

-- "It is fed the hart, the image and the access": what it takes of the hart
unfoldable pub access_of : Hart → Kind → ℕ → ℕ → Access
access_of h kind = plain_access (context h) (paging h) kind

-- what a translation comes to before its walk: the access to walk for, or a refusal or misalignment
unfoldable pub start_of : Hart → (base len : ℕ) → Kind → (address width : ℕ) → Result Access Answer
start_of h base len kind address width =
    unless_refused (first_refusal (refusals h base len kind address width))
    (pick (misaligned kind address width) (Err (Answer.Fault (misalignment (access_of h kind address width)))) (Ok (access_of h kind address width)))

-- the answer that a walk's end gives
abbrev pub answer : Result Machine Exception → Answer
answer (Ok m) = Answer.Address m
answer (Err f) = Answer.Fault f

-- an answer "with the list empty"; "its hart stays as it is"
abbrev pub unwalked : Hart → Answer → Translated
unwalked h x = record { hart = h; answer = x; reads = unused places; count = 0 }

-- the walk's answer and list, with their count
abbrev pub walked_to : Hart → Ran (Result Machine Exception) → Translated
walked_to h r = record { hart = h; answer = answer r.end; reads = padded places r.reads; count = length r.reads }

-- what it comes to by what it came to before its walk
abbrev pub concluded : Hart → ℕ → List ℕ → Result Access Answer → Translated
concluded h base bytes (Err x) = unwalked h x
concluded h base bytes (Ok a) = walked_to h (run (look base bytes) (walk_of base (length bytes) a))

-- the whole: "It is fed the hart, the image and the access"
unfoldable pub translated : Hart → ℕ → List ℕ → Kind → ℕ → ℕ → Translated
translated h base bytes kind address width = concluded h base bytes (start_of h base (length bytes) kind address width)
