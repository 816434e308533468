-- A list shows what the image holds; two images of one base and length that agree on the entries listed for one of them give the same answer and list.
-- Assumes nothing.
use Rattle.std.specs.Prelude.{Option, Some, None}
use mathlib.Core.Path.{◌≡◌, refl, ap}
use mathlib.Core.Bool.{Bool, true, false}
use mathlib.Core.List.{List}
use Prim.Native.Nat.{ℕ, ◌-◌}
use lib.ListN.{length}
use Rattle.bits.specs.Field.{pick}
use Rattle.bits.proofs.Bools.{clash}
use Rattle.image.specs.Image.{within, eight, entry}
use Rattle.access.specs.declared.Machine.{Machine}
use Rattle.stages.specs.Tree.{Walk, done, ask, item, listed, found, run}
use Rattle.stages.specs.Stages.{look}
use Rattle.stages.specs.Through.{Agree, Shown}

-- of any walk: each item listed is what the image has at its address
pub shown-run : {A : Type 0} (look : Machine → Option ℕ) (w : Walk A) → Shown look (run look w).reads
unfolding run
shown-run look (done a) = tt
shown-run look (ask s l m outside k) = go (look m) refl (shown-run look outside) (λ v. shown-run look (k v))
  where
    go : (e : Option ℕ) → look m ≡ e → Shown look (run look outside).reads → ((v : ℕ) → Shown look (run look (k v)).reads)
        → Shown look (found e (run look outside) (λ v. listed (item s l m v) (run look (k v)))).reads
    go None e io ik = io
    go (Some v) e io ik = (e, ik v)

-- two images lack the same entries
abbrev SameGaps : (Machine → Option ℕ) → (Machine → Option ℕ) → Type 0
SameGaps f g = (m : Machine) → f m ≡ None → g m ≡ None

-- of any walk: where g has what f shows on the way, the run is the same
same-run : {A : Type 0} (f g : Machine → Option ℕ) → SameGaps f g → (w : Walk A) → Agree f g (run f w).reads → run g w ≡ run f w
unfolding run
same-run f g gaps (done a) h = refl
same-run {A} f g gaps (ask s l m outside k) h = go (f m) refl (same-run f g gaps outside) (λ v. same-run f g gaps (k v)) h
  where
    go : (e : Option ℕ) → f m ≡ e → (Agree f g (run f outside).reads → run g outside ≡ run f outside)
        → ((v : ℕ) → Agree f g (run f (k v)).reads → run g (k v) ≡ run f (k v))
        → Agree f g (found e (run f outside) (λ v. listed (item s l m v) (run f (k v)))).reads
        → found (g m) (run g outside) (λ v. listed (item s l m v) (run g (k v))) ≡ found e (run f outside) (λ v. listed (item s l m v) (run f (k v)))
    go None e io ik h = rw (gaps m e) (io h)
    go (Some v) e io ik h = rw (h.0, e) (ap (listed (item s l m v)) (ik v h.1))

same_gaps : (base : ℕ) (s t : List ℕ) → length s ≡ length t → SameGaps (look base s) (look base t)
unfolding entry
same_gaps base s t e m h = go (within base (length s) m.0 8) (within base (length t) m.0 8) (ap (λ (n : ℕ). within base n m.0 8) e) h
  where
    go : (b c : Bool) → b ≡ c → pick b (Some (eight s (m.0 - base))) None ≡ None → pick c (Some (eight t (m.0 - base))) None ≡ None
    go b false p h = refl
    go true true p h = clash (cc)
    go false true p h = clash p

pub same-walk : {A : Type 0} (base : ℕ) (s t : List ℕ) → length s ≡ length t → (w : Walk A)
    → Agree (look base s) (look base t) (run (look base s) w).reads → run (look base t) w ≡ run (look base s) w
same-walk base s t e w h = same-run (look base s) (look base t) (same_gaps base s t e) w h
