-- The walk written out: one stage, the same for both, and the two in turn.
use Rattle.std.specs.Prelude.{List, ℕ, zero, suc, ◌+◌, ◌*◌, Option, Result, Ok, Err}
use Rattle.bits.specs.Field.{pick}
use Rattle.image.specs.Image.{within, entry}
use Rattle.exceptions.specs.declared.Exception.{Exception}
use Rattle.rules.specs.declared.Need.{Need}
use Rattle.rules.specs.declared.Judgement.{Judgement}
use Rattle.rules.specs.declared.Judgement.TheVariants.{Pointer, Leaf, Bad}
use Rattle.rules.specs.Address.{Stage, first, second, number, well_formed, index}
use Rattle.rules.specs.Entry.{judged}
use Rattle.access.specs.declared.Access.{Access}
use Rattle.access.specs.declared.Guest.{Guest}
use Rattle.access.specs.declared.Machine.{Machine}
use Rattle.access.specs.declared.Root.{Root}
use Rattle.access.specs.Needs.{first_need, second_need, entry_need}
use Rattle.access.specs.Faults.{access_fault, page_fault, guest_page_fault, entry_fault}
use Rattle.stages.specs.Tree.{Walk, done, ask, bind}

-- With V=0 the second stage has no levels: it passes the address on, so that a `Guest` is a machine address there.
abbrev pub guest : ℕ → Guest
guest x = record { 0 = x }

abbrev pub machine : ℕ → Machine
machine x = record { 0 = x }

-- what an image has at a machine address
abbrev pub look : ℕ → List ℕ → Machine → Option ℕ
look base bytes m = entry base bytes m.0

-- A stage, and the whole walk, ends with what it yields or with a fault. What follows one goes by what it yields.
abbrev pub onward : {A B : Type 0} → (A → Walk (Result B Exception)) → Result A Exception → Walk (Result B Exception)
onward f (Ok a) = f a
onward f (Err x) = done (Err x)

-- "Any fault, of either stage, ends the walk and is its answer."
infixl 20 ◌then◌
abbrev pub ◌then◌ : {A B : Type 0} → Walk (Result A Exception) → (A → Walk (Result B Exception)) → Walk (Result B Exception)
w then f = bind w (onward f)

-- A stage's translation of an address: what it needs of a leaf, what a fault rule raises and what an entry outside the image
-- does, how an entry's own address becomes a machine address, and which kind of address the result is (wrap).
pub record Translation (A : Type 0) : Type 0 where
  pub stage : Stage
  pub tables : Root
  pub address : ℕ
  pub need : Need
  pub fault : Exception
  pub outside : Exception
  pub through : ℕ → Walk (Result Machine Exception)
  pub wrap : ℕ → A

-- "The entry is at the table plus 8 times the index."
abbrev pub slot : {A : Type 0} → Translation A → ℕ → ℕ → ℕ
slot t level table = table + 8 * index t.stage t.tables.levels level t.address

-- After the fault rules: "a pointer: the level falls by one, and the table is at the entry's PPN .. times 4096"; "Any other is a
-- leaf: the stage yields ..".
unfoldable pub follow : {A : Type 0} → Translation A → Judgement → (ℕ → Walk (Result A Exception)) → Walk (Result A Exception)
follow t Bad next = done (Err t.fault)
follow t (Pointer table) next = next table
follow t (Leaf x) next = done (Ok (t.wrap x))

-- "An entry in the image is read, eight bytes, and listed; then the fault rules above are tried."
unfoldable pub inspect : {A : Type 0} → Translation A → ℕ → (ℕ → Walk (Result A Exception)) → Machine → Walk (Result A Exception)
inspect t level next m =
    ask (number t.stage) level m (done (Err t.outside)) (λ e. follow t (judged t.need level t.address e) next)

-- from a level down, its table at an address; no pointer leads below level 0
unfoldable pub down : {A : Type 0} → Translation A → ℕ → ℕ → Walk (Result A Exception)
down t zero table = t.through (slot t zero table) then inspect t zero (λ x. done (Err t.fault))
down t (suc l) table = t.through (slot t (suc l) table) then inspect t (suc l) (down t l)

-- "A stage that is on begins by testing its address's high bits. It starts at its top level, .. with the table at its
-- register's PPN times 4096." With no levels it is off and passes the address on.
unfoldable pub begin : {A : Type 0} → Translation A → ℕ → Walk (Result A Exception)
begin t zero = done (Ok (t.wrap t.address))
begin t (suc l) = pick (well_formed t.stage (suc l) t.address) (down t l (t.tables.ppn * 4096)) (done (Err t.fault))

abbrev pub translation : {A : Type 0} → Translation A → Walk (Result A Exception)
translation t = begin t t.tables.levels

-- The second stage: its tables' own addresses are machine addresses. With V=0 it has no levels.
abbrev pub second_of : Access → Need → Exception → Guest → Translation Machine
second_of a need fault g =
    record {
      stage = second;
      tables = a.second;
      address = g.0;
      need = need;
      fault = fault;
      outside = access_fault a;
      through = λ x. done (Ok (machine x));
      wrap = machine;
    }

-- The first stage: an entry's "address goes through" the second "before the read".
abbrev pub first_of : Access → Translation Guest
first_of a =
    record {
      stage = first;
      tables = a.first;
      address = a.address;
      need = first_need a;
      fault = page_fault a;
      outside = access_fault a;
      through = λ x. translation (second_of a entry_need (entry_fault a (guest x)) (guest x));
      wrap = guest;
    }

-- "The last address, if the whole access lies in the image, is the answer", "else 1, 5, 7".
unfoldable pub last : ℕ → ℕ → Access → Machine → Result Machine Exception
last base len a m = pick (within base len m.0 a.width) (Ok m) (Err (access_fault a))

-- "the first stage's result, or the access's address if vsatp is Bare, goes through the second stage, if on, for the access itself"
unfoldable pub final : ℕ → ℕ → Access → Guest → Walk (Result Machine Exception)
final base len a g = translation (second_of a (second_need a) (guest_page_fault a g) g) then (λ m. done (last base len a m))

-- The walk of an access over an image of a base and length.
unfoldable pub walk_of : ℕ → ℕ → Access → Walk (Result Machine Exception)
walk_of base len a = translation (first_of a) then final base len a
