-- A walk's run into the words of a slice, from an index on. Serves contracts below the public face.
use Rattle.std.specs.Prelude.{◌≡◌, List, [], ◌∷◌, ℕ, ◌+◌, Option, Some, None}
use Rattle.std.proofs.lemmas.List.Edits.{sets}
use Rattle.rules.specs.declared.Test.{Test}
use Rattle.rules.specs.declared.Judgement.{Judgement}
use Rattle.rules.specs.Test.{Judges}
use Rattle.access.specs.declared.Machine.{Machine}
use Rattle.stages.specs.Tree.{Walk, done, ask, found}

-- what a slice holds, the index behind the last read's words, and the walk's end
pub record Into (A : Type 0) : Type 0 where
  pub words : List ℕ
  pub next : ℕ
  pub end : A

abbrev pub onto : {A : Type 0} → List ℕ → ℕ → A → Into A
onto ws n x = record { words = ws; next = n; end = x }

-- one read's words, stored from an index on
abbrev pub stored : List ℕ → ℕ → (stage level at value : ℕ) → List ℕ
stored ws n s l m v = sets ws n (s ∷ l ∷ m ∷ v ∷ [])

-- a walk's run (`run` of stages), its reads stored one behind the other
unfoldable pub into : {A : Type 0} → (Machine → Option ℕ) → Walk A → List ℕ → ℕ → Into A
into look (done x) ws n = onto ws n x
into look (ask s l m outside k) ws n = found (look m) (into look outside ws n) (λ v. into look (k v) (stored ws n s l m.0 v) (n + 4))

-- an entry was found, its read is listed, and this is what it is to whoever needs what is tested
pub record Sees (look : Machine → Option ℕ) (t : Test) (stage level address : ℕ) (m : Machine) (n : ℕ) (before after : List ℕ) (j : Judgement) : Type 0 where
  pub value : ℕ
  pub found : look m ≡ Some value
  pub listed : after ≡ stored before n stage level m.0 value
  pub judgement : Judges t level address value j

-- this, or nothing of the image is there and nothing was listed
abbrev pub Inspects : (Machine → Option ℕ) → Test → (stage level address : ℕ) → Machine → ℕ → (before after : List ℕ) → Option Judgement → Type 0
Inspects look t stage level address m n before after (Some j) = Sees look t stage level address m n before after j
Inspects look t stage level address m n before after None = (look m ≡ None) × (after ≡ before)
