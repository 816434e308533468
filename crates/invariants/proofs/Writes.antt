-- Of every list of register writes at once: what it leaves alone, and what it keeps. Assumes nothing.
use mathlib.Core.Path.{◌≡◌, refl, sym, ap, ◌∙◌}
use mathlib.Core.Bool.{Bool, true, false, ◌&&◌}
use mathlib.Core.List.{List, [], ◌∷◌}
use mathlib.Core.Logic.{◌≢◌}
use Prim.Native.Nat.{ℕ, ◌<◌}
use lib.Dec.{eqb, ltb}
use lib.ListN.{get_or, set, length, length-set}
use lib.Seq.{get_or-set_same, get_or-set_other}
use borrow.Author.Tests.{eqb-true, eqb-false, ltb-true}
use Rattle.bits.specs.Field.{pick}
use Rattle.bits.specs.Every.{every}
use Rattle.bits.proofs.Bools.{split, clash}
use Rattle.bits.proofs.Every.{every_set}
use Rattle.registers.specs.Places.{kept}
use Rattle.registers.specs.File.{Write, ◌with◌, holds}

-- every write is to a place inside
abbrev pub all_in : (ℕ → Bool) → List Write → Bool
all_in inside [] = true
all_in inside (w ∷ ws) = inside w.place && all_in inside ws

pub apart : (inside : ℕ → Bool) (p q : ℕ) → inside p ≡ false → inside q ≡ true → p ≢ q
apart inside p q f t e = clash (sym f ∙ ap inside e ∙ t)

-- a place that is not inside keeps what it held
pub outside_kept : (inside : ℕ → Bool) (ws : List Write) (rs : List ℕ) → all_in inside ws ≡ true → (p : ℕ) → inside p ≡ false → get_or (rs with ws) p 0 ≡ get_or rs p 0
outside_kept inside [] rs t p f = refl
outside_kept inside (w ∷ ws) rs t p f =
    split (inside w.place) (all_in inside ws) t
    (λ a b. outside_kept inside ws (set rs w.place w.value) b p f ∙ get_or-set_other rs w.place p w.value 0 (apart inside p w.place f a))

-- what a place holds after writes, if it held x before
abbrev pub lands : List Write → (place x : ℕ) → ℕ
lands [] p x = x
lands (w ∷ ws) p x = lands ws p (pick (eqb p w.place) w.value x)

set_lands : (rs : List ℕ) (q x p : ℕ) → q < length rs → get_or (set rs q x) p 0 ≡ pick (eqb p q) x (get_or rs p 0)
set_lands rs q x p b = go (eqb p q) refl
  where
    go : (t : Bool) → eqb p q ≡ t → get_or (set rs q x) p 0 ≡ pick t x (get_or rs p 0)
    go true i = rw (eqb-true p q i) (get_or-set_same rs q x 0 b)
    go false i = get_or-set_other rs q p x 0 (eqb-false p q i)

pub with_lands : (ws : List Write) (rs : List ℕ) (p : ℕ) → length rs ≡ kept → all_in (λ q. ltb q kept) ws ≡ true → get_or (rs with ws) p 0 ≡ lands ws p (get_or rs p 0)
with_lands [] rs p l t = refl
with_lands (w ∷ ws) rs p l t =
    split (ltb w.place kept) (all_in (λ q. ltb q kept) ws) t (λ b more.
    with_lands ws (set rs w.place w.value) p (length-set rs _ _ ∙ l) more ∙ ap (lands ws p) (set_lands rs w.place w.value p (rw l (ltb-true _ _ b))))

pub length_with : (ws : List Write) (rs : List ℕ) → length (rs with ws) ≡ length rs
length_with [] rs = refl
length_with (w ∷ ws) rs = length_with ws (set rs w.place w.value) ∙ length-set rs w.place w.value

-- what is written can be held
abbrev pub Holds : List Write → Type 0
Holds [] = Unit {0}
Holds (w ∷ ws) = (holds w.place w.value ≡ true) × Holds ws

pub with_holds : (ws : List Write) (rs : List ℕ) → every holds 0 rs ≡ true → Holds ws → every holds 0 (rs with ws) ≡ true
with_holds [] rs t h = t
with_holds (w ∷ ws) rs t h = with_holds ws (set rs w.place w.value) (every_set holds rs w.place w.value t h.0) h.1
