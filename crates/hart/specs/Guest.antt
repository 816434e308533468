-- HLV, HLVX and HSV: a hypervisor reads and writes its guest's memory (2026-03).
use Rattle.std.specs.Prelude.{ℕ, Bool, false, List, length, Result, Ok, Err}
use Rattle.bits.specs.Field.{pick}
use Rattle.instructions.specs.Instructions.{hypervisor_access}
use Rattle.image.specs.Data.{loaded, stored}
use Rattle.stages.specs.declared.Read.{Read}
use Rattle.stages.specs.Tree.{Ran}
use Rattle.stages.specs.Listed.{places, unused, padded}
use Rattle.hypervisor.specs.declared.Operation.{Operation}
use Rattle.hypervisor.specs.declared.Operation.TheVariants.{Hlv, Hlvx, Hsv}
use Rattle.hypervisor.specs.Hypervisor.{End, refusal_of, access_for, walk_for}
use Rattle.hart.specs.declared.state.Hart.{Hart}
use Rattle.hart.specs.declared.event.Step.{Step}
use Rattle.hart.specs.declared.event.Halt.{Halt}
use Rattle.hart.specs.declared.guest.Reach.{Reach}
use Rattle.hart.specs.declared.guest.Performed.{Performed}
use Rattle.hart.specs.Hart.{context, paging}
use Rattle.hart.specs.Event.{is_done, done, trapped, halted, stop_of, moved}

-- "A done one moves pc on by 4"; "a fault is delivered as a trap"
abbrev pub ended : Hart → End → Step
ended h (Ok m) = done (moved h)
ended h (Err f) = trapped h f

-- the machine address of its bytes, 0 where it did not come to one
abbrev pub landed : End → ℕ
landed (Ok m) = m.0
landed (Err f) = 0

-- a refusal, or 22 or 2: "with the list empty"
abbrev pub unwalked : Step → Reach
unwalked s = record { hart = s.hart; outcome = s.outcome; at = 0; reads = unused places; count = 0 }

-- what its walk comes to, by its end, with "the list .. of the table entries read, .. also where it ends in a fault"
abbrev pub arrives : Hart → End → List Read → (count : ℕ) → Reach
arrives h e reads count = record { hart = (ended h e).hart; outcome = (ended h e).outcome; at = landed e; reads = reads; count = count }

-- the list in its places, "unused places are zero", with its count
abbrev pub arrived : Hart → Ran End → Reach
arrived h r = arrives h r.end (padded places r.reads) (length r.reads)

-- a refusal, or "V=1 gives 22; U with HU=0 gives 2; both carry the word"; else the walk's
abbrev pub reached_by : Result Unit Halt → Hart → (word : ℕ) → Ran End → Reach
reached_by (Ok t) h word r = arrived h r
reached_by (Err halt) h word r = unwalked (halted h halt word)

-- all of it but for its bytes: "Order: 2, then 1, then the call's own", then 22 and 2, then the walk "as V=1 with privilege SPVP"
unfoldable pub reach : Hart → Operation → (base : ℕ) → List ℕ → (width address word : ℕ) → Reach
reach h o base bytes width address word =
    reached_by (stop_of h (refusal_of o base (length bytes) width) (hypervisor_access (context h))) h word
    (walk_for base bytes (access_for o (context h) (paging h) address width))

-- what is answered: the hart, what it came to, a value and the list
abbrev pub performed : Reach → (value : ℕ) → Performed
performed r value = record { hart = r.hart; outcome = r.outcome; value = value; reads = r.reads; count = r.count }

-- "HLV answers the loaded bytes"; "a trap or refusal answers 0"
unfoldable pub load : Hart → Operation → (base : ℕ) → List ℕ → (width : ℕ) → (signed : Bool) → (address word : ℕ) → Performed
load h o base bytes width signed address word =
    let r = reach h o base bytes width address word in
    performed r (pick (is_done r.outcome) (loaded base bytes r.at width signed) 0)

-- "HLV of each width, signed and unsigned"
abbrev pub hlv : Hart → (base : ℕ) → List ℕ → (width : ℕ) → (signed : Bool) → (address word : ℕ) → Performed
hlv h base bytes width signed address word = load h Hlv base bytes width signed address word

-- "HLVX.HU and HLVX.WU": unsigned
abbrev pub hlvx : Hart → (base : ℕ) → List ℕ → (width address word : ℕ) → Performed
hlvx h base bytes width address word = load h Hlvx base bytes width false address word

-- "HSV writes exactly its own bytes of the image and nothing on any fault": with the image's bytes after it
unfoldable pub hsv : Hart → (base : ℕ) → List ℕ → (width address value word : ℕ) → Performed × List ℕ
hsv h base bytes width address value word =
    let r = reach h Hsv base bytes width address word in
    (performed r 0, pick (is_done r.outcome) (stored base bytes r.at width value) bytes)
