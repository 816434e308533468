-- Where a walk stands before an entry, and where that entry leads. "It holds the list so far and, for each stage, the address it translates, a table address
-- and a level": of the second stage the guest address; in place of a table's address that of the entry there.
use Rattle.std.specs.Prelude.{Bool, true, false, ◌&&◌, ◌||◌, not, ℕ, zero, suc, ◌-◌, ◌*◌, eqb, ltb, Result, Err}
use Rattle.bits.specs.Field.{pick}
use Rattle.image.specs.Image.{within}
use Rattle.exceptions.specs.declared.Exception.{Exception}
use Rattle.rules.specs.declared.Need.{Need}
use Rattle.rules.specs.declared.Judgement.{Judgement}
use Rattle.rules.specs.declared.Judgement.TheVariants.{Pointer, Leaf, Bad}
use Rattle.rules.specs.Address.{Stage, well_formed}
use Rattle.rules.specs.Entry.{judged}
use Rattle.access.specs.declared.Access.{Access}
use Rattle.access.specs.declared.Guest.{Guest}
use Rattle.access.specs.declared.Machine.{Machine}
use Rattle.access.specs.Needs.{first_need, second_need, entry_need}
use Rattle.access.specs.Faults.{access_fault, page_fault, guest_page_fault, entry_fault}
use Rattle.stages.specs.Stages.{Translation, guest, machine, slot, second_of, first_of, last}
use Rattle.translate.specs.Translated.{answer}
use Rattle.stepper.specs.declared.State.{State}
use Rattle.stepper.specs.declared.State.TheVariants.{Going, Ended}
use Rattle.stepper.specs.declared.position.Position.{Position}

abbrev pub position : (stage first second : ℕ) (entry : Bool) → Guest → Machine → Position
position stage first second entry g m = record { stage = stage; first = first; second = second; entry = entry; guest = g; at = m }

-- the level of the entry: its own stage's
abbrev pub level_at : Position → ℕ
level_at q = pick (eqb q.stage 1) q.first q.second

-- what the second stage needs and raises: for a guest entry, or for the access itself
abbrev pub need_for : Access → (entry : Bool) → Need
need_for a entry = pick entry entry_need (second_need a)

abbrev pub fault_for : Access → (entry : Bool) → Guest → Exception
fault_for a entry g = pick entry (entry_fault a g) (guest_page_fault a g)

abbrev pub second_for : Access → (entry : Bool) → Guest → Translation Machine
second_for a entry g = second_of a (need_for a entry) (fault_for a entry g) g

-- "whose stage isn't 1 or 2, or where a level still being walked isn't below its mode's depth" (2026-07): the first stage is being walked at its own entry, and
-- while the second is walked for a guest entry
unfoldable pub misplaced : Access → Position → Bool
misplaced a q =
    not (eqb q.stage 1 || eqb q.stage 2)
    || ((eqb q.stage 1 || q.entry) && not (ltb q.first a.first.levels))
    || (eqb q.stage 2 && not (ltb q.second a.second.levels))

module _ (base len : ℕ) (a : Access) where
  -- "Any fault, of either stage, ends the walk and is its answer"; so does the last address
  abbrev pub ended : Result Machine Exception → State
  ended r = Ended (answer r)

  -- "An entry outside the image: access fault". It is not shown, and the walk "is finished with the last item (at the start if there is none)" (2026-07), so
  -- before it the walk has ended.
  unfoldable pub before : Position → State
  before q = pick (within base len q.at.0 8) (Going q) (ended (Err (access_fault a)))

  -- The second stage has yielded a machine address: a guest entry's, which is read next, or the last one.
  unfoldable pub passed : Position → State
  passed q = pick q.entry (before (position 1 q.first q.second true q.guest q.at)) (ended (last base len a q.at))

  -- A guest address goes to the second stage, of so many levels: "begins by testing its address's high bits. It starts at its top level, .. with the table at its
  -- register's PPN times 4096."
  unfoldable pub onto : (levels first : ℕ) (entry : Bool) → Guest → State
  onto zero first entry g = passed (position 2 first 0 entry g (machine g.0))
  onto (suc l) first entry g =
      let t = second_for a entry g in
      pick (well_formed Stage.second (suc l) g.0) (before (position 2 first l entry g (machine (slot t l (a.second.ppn * 4096))))) (ended (Err t.fault))

  abbrev pub enters : (first : ℕ) (entry : Bool) → Guest → State
  enters = onto a.second.levels

  -- After the fault rules at a second-stage entry: "a pointer: the level falls by one, and the table is at the entry's PPN"; "Any other is a leaf".
  unfoldable pub after_second : Position → Judgement → State
  after_second q Bad = ended (Err (fault_for a q.entry q.guest))
  after_second q (Pointer table) =
      let l = q.second - 1 in
      before (position 2 q.first l q.entry q.guest (machine (slot (second_for a q.entry q.guest) l table)))
  after_second q (Leaf x) = passed (position 2 q.first q.second q.entry q.guest (machine x))

  -- at a first-stage entry: "its address goes through" the second "before the read"; a leaf's address does "for the access itself"
  unfoldable pub after_first : Position → Judgement → State
  after_first q Bad = ended (Err (page_fault a))
  after_first q (Pointer table) = let l = q.first - 1 in enters l true (guest (slot (first_of a) l table))
  after_first q (Leaf x) = enters q.first false (guest x)

  -- where an entry's value leads: its stage's fault rules, by what that needs and the address that it translates
  unfoldable pub after : Position → ℕ → State
  after q e =
      pick (eqb q.stage 1) (after_first q (judged (first_need a) q.first a.address e))
      (after_second q (judged (need_for a q.entry) q.second q.guest.0 e))

  -- Where the walk begins, by the first stage's levels: its address's high bits, its root; "or the access's address if vsatp is Bare".
  unfoldable pub from : (levels : ℕ) → State
  from zero = enters 0 false (guest a.address)
  from (suc l) =
      let t = first_of a in
      pick (well_formed Stage.first (suc l) a.address) (enters l true (guest (slot t l (a.first.ppn * 4096)))) (ended (Err t.fault))

  abbrev pub begins : State
  begins = from a.first.levels
