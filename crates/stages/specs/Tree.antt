-- A walk as a tree of questions: it ends, or asks for the entry at a machine address and goes on by what it finds there.
use Rattle.std.specs.Prelude.{List, [], ◌∷◌, ℕ, Option, Some, None}
use Rattle.access.specs.declared.Machine.{Machine}
use Rattle.stages.specs.declared.Read.{Read}

-- `ask` has what follows an entry outside the image, and what follows a value.
pub data Walk (A : Type 0) : Type 0 where
  done : A → Walk A
  ask : (stage level : ℕ) → Machine → Walk A → (ℕ → Walk A) → Walk A

-- one walk, and then another that goes by its end
unfoldable pub bind : {A B : Type 0} → Walk A → (A → Walk B) → Walk B
bind (done a) f = f a
bind (ask s l m outside k) f = ask s l m (bind outside f) (λ v. bind (k v) f)

-- "each with stage (1 first, 2 second), level, machine address and value"
abbrev pub item : ℕ → ℕ → Machine → ℕ → Read
item s l m v = record { stage = s; level = l; address = m; value = v }

-- what a walk comes to: its end, and the reads in order
pub record Ran (A : Type 0) : Type 0 where
  pub end : A
  pub reads : List Read

abbrev pub listed : {A : Type 0} → Read → Ran A → Ran A
listed x r = record { end = r.end; reads = x ∷ r.reads }

abbrev pub found : {B : Type 0} → Option ℕ → B → (ℕ → B) → B
found None outside f = outside
found (Some v) outside f = f v

-- A walk over what an image has at each address. "A read outside the image isn't listed."
unfoldable pub run : {A : Type 0} → (Machine → Option ℕ) → Walk A → Ran A
run look (done a) = record { end = a; reads = [] }
run look (ask s l m outside k) = found (look m) (run look outside) (λ v. listed (item s l m v) (run look (k v)))
