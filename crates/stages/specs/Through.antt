-- The words of demand 3: images and a list; a second-stage walk in the list, and what it let through; the first stage's way down.
use Rattle.std.specs.Prelude.{◌≡◌, Bool, true, false, ◌&&◌, ◌||◌, not, List, [], ◌∷◌, ◌++◌, ℕ, suc, ◌+◌, ◌-◌, ◌*◌, ◌%◌, ◌^◌, ◌<◌, ◌≤◌, Option, Some}
use Rattle.bits.specs.Field.{span, get, has}
use Rattle.rules.specs.declared.Right.{Right}
use Rattle.rules.specs.Right.{by_right}
use Rattle.rules.specs.Address.{Stage, first, second, number, index}
use Rattle.rules.specs.Entry.{«V», R, W, X, U, A, D, low_ppn, pointer, target}
use Rattle.access.specs.declared.Guest.{Guest}
use Rattle.access.specs.declared.Machine.{Machine}
use Rattle.access.specs.declared.Root.{Root}
use Rattle.stages.specs.declared.Read.{Read}
use Rattle.stages.specs.Tree.{item}
use Rattle.stages.specs.Stages.{guest, machine}

-- P holds of each item of a list
abbrev pub Each : (Read → Type 0) → List Read → Type 0
Each P [] = Unit {0}
Each P (x ∷ xs) = P x × Each P xs

-- two images agree on the entries of a list
abbrev pub Agree : (Machine → Option ℕ) → (Machine → Option ℕ) → List Read → Type 0
Agree f g = Each (λ x. g x.address ≡ f x.address)

-- each item's value is what the image has at its address
abbrev pub Shown : (Machine → Option ℕ) → List Read → Type 0
Shown look = Each (λ x. look x.address ≡ Some x.value)

-- each item is of a stage
abbrev pub Only : Stage → List Read → Type 0
Only s = Each (λ x. x.stage ≡ number s)

-- ---- the second stage

-- no fault rule held at an entry: V=1; no W without R; none of bits 63:54
pub record Formed (e : ℕ) : Type 0 where
  pub valid : has «V» e ≡ true
  pub readable : (has W e && not (has R e)) ≡ false
  pub high : get (span 63 54) e ≡ 0

-- and at a pointer: no A, D or U; not at level 0
pub record Points (level e : ℕ) : Type 0 where
  pub pointer : pointer e ≡ true
  pub formed : Formed e
  pub accessed : has A e ≡ false
  pub dirty : has D e ≡ false
  pub user : has U e ≡ false
  pub above : 0 < level

-- and at a second-stage leaf: no low PPN in a large one; A=1; "so U=1 and the right needed is there"
pub record Passes (right : ℕ → Bool) (level e : ℕ) : Type 0 where
  pub formed : Formed e
  pub whole : get (low_ppn level) e ≡ 0
  pub accessed : has A e ≡ true
  pub user : has U e ≡ true
  pub granted : right e ≡ true

-- "the access's own" right, in a leaf's bits: to read R, or X with MXR; to write W and D; to execute X
abbrev pub own_right : Right → (mxr : Bool) → ℕ → Bool
own_right right mxr e = by_right right (has R e || (has X e && mxr)) (has W e && has D e) (has X e)

-- "R for a guest entry"
abbrev pub entry_right : ℕ → Bool
entry_right e = has R e

-- the item of a second-stage entry for a guest address: level, table and value
abbrev pub second_item : Root → ℕ → ℕ → ℕ → ℕ → Read
second_item root g level table e = item (number second) level (machine (table + 8 * index second root.levels level g)) e

-- "its items from the top level down to a leaf, one after the other": from a level and a table on, with the leaf's item
pub data Descent (root : Root) (g : ℕ) : ℕ → ℕ → List Read → Read → Type 0 where
  at_leaf : (level table e : ℕ) → pointer e ≡ false → Descent root g level table (second_item root g level table e ∷ []) (second_item root g level table e)
  by_pointer : (level table e : ℕ) (xs : List Read) (leaf : Read) → Points (suc level) e → Descent root g level (target e) xs leaf
      → Descent root g (suc level) table (second_item root g (suc level) table e ∷ xs) leaf

-- "the 2^(12 + 9 times the level) machine bytes from the leaf's PPN times 4096": size bytes from an address on lie there
pub record OnPage (leaf : Read) (m : Machine) (size : ℕ) : Type 0 where
  pub from : target leaf.value ≤ m.0
  pub to : m.0 + size ≤ target leaf.value + 2 ^ (12 + 9 * leaf.level)

-- A second-stage walk, from its root, for a guest address let size bytes at a machine address through: "no fault rule held at that leaf"; the
-- machine address is what the leaf yields for the guest address; the bytes lie on the leaf's page.
pub record LetThrough (root : Root) (right : ℕ → Bool) (g : Guest) (walk : List Read) (m : Machine) (size : ℕ) : Type 0 where
  pub leaf : Read
  pub items : Descent root g.0 (root.levels - 1) (root.ppn * 4096) walk leaf
  pub passed : Passes right leaf.level leaf.value
  pub yielded : m.0 ≡ target leaf.value + g.0 % 2 ^ (12 + 9 * leaf.level)
  pub page : OnPage leaf m size

-- A list that ends with such a walk. "The walk for a guest entry stands directly before it; the one for the address answered
-- ends the list."
pub record EndsThrough (root : Root) (right : ℕ → Bool) (g : Guest) (reads : List Read) (m : Machine) (size : ℕ) : Type 0 where
  pub earlier : List Read
  pub walk : List Read
  pub split : reads ≡ earlier ++ walk
  pub through : LetThrough root right g walk m size

-- ---- the first stage, over the second

-- The first stage's way through a list, from a level and a table to others: at each of its items "a pointer: the level falls by one, and the table is at
-- the entry's PPN .. times 4096".
pub data Leads : (level table : ℕ) → List Read → (level' table' : ℕ) → Type 0 where
  stays : {level table : ℕ} (ws : List Read) → Only second ws → Leads level table ws level table
  falls : {table level' table' : ℕ} (ws : List Read) (x : Read) (xs : List Read) → Only second ws → x.stage ≡ number first → Points x.level x.value
      → Leads (x.level - 1) (target x.value) xs level' table' → Leads x.level table (ws ++ (x ∷ xs)) level' table'

-- A guest entry x and the items before it: the first stage has come from a level and a table to x's level and a table t, and x's guest address, t "plus 8
-- times the index", went through the second stage directly before x.
pub record GuestEntry (root over : Root) (address level table : ℕ) (earlier : List Read) (x : Read) : Type 0 where
  pub t : ℕ
  pub way : Leads level table earlier x.level t
  pub through : EndsThrough over entry_right (guest (t + 8 * index first root.levels x.level address)) earlier x.address 8

-- The first stage, from a level and a table, has ended with a leaf, the last item, that yields a guest address.
pub record Yields (address level table : ℕ) (xs : List Read) (g : Guest) : Type 0 where
  pub earlier : List Read
  pub leaf : Read
  pub t : ℕ
  pub split : xs ≡ earlier ++ (leaf ∷ [])
  pub way : Leads level table earlier leaf.level t
  pub stage : leaf.stage ≡ number first
  pub ends : pointer leaf.value ≡ false
  pub yielded : g.0 ≡ target leaf.value + address % 2 ^ (12 + 9 * leaf.level)

-- "the first stage's result, or the access's address if vsatp is Bare", with the items read for it
pub data FirstResult (root : Root) (address : ℕ) (xs : List Read) (g : Guest) : Type 0 where
  bare : root.levels ≡ 0 → xs ≡ [] → g.0 ≡ address → FirstResult root address xs g
  walked : 0 < root.levels → Yields address (root.levels - 1) (root.ppn * 4096) xs g → FirstResult root address xs g

-- The walk for an address answered: the first stage's result went through the second for the access's own right.
pub record AnsweredThrough (root over : Root) (right : ℕ → Bool) (address : ℕ) (reads : List Read) (m : Machine) (size : ℕ) : Type 0 where
  pub g : Guest
  pub ends : EndsThrough over right g reads m size
  pub first : FirstResult root address ends.earlier g
