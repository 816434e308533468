-- A write through a view changes nothing but the bits that it writes and its gate lets through; what is let through depends on nothing
-- else. Assumes nothing.
use mathlib.Core.Path.{◌≡◌, refl, sym, ap, ap₂, ◌∙◌}
use mathlib.Core.Bool.{Bool, true, false, ◌&&◌}
use mathlib.Core.List.{List, [], ◌∷◌}
use Prim.Native.Nat.{ℕ, ◌/◌, ◌^◌, ◌-◌, ◌<◌}
use native.Mathlib.Nat.{mod-lt}
use lib.Bits.{bit_and, bit_or, and_comm, and_zero_r}
use lib.Dec.{eqb}
use lib.Pow.{pow_pos}
use Rattle.bits.specs.Field.{pick, top, has, copy}
use Rattle.bits.proofs.Bools.{clash}
use Rattle.bits.proofs.Masks.{and-or, and_assoc}
use Rattle.bits.proofs.Single.{has-copy, has_back}
use Rattle.registers.specs.Rules.{free, rule, stored}
use Rattle.registers.specs.Views.{View, up, shown, stored_by, no_bits}
use Rattle.registers.specs.Registers.{Register, registers}
use Rattle.registers.proofs.Legal.{taken-has, restricted_fits}
use Rattle.registers.proofs.Rows.{rule_sound}

up_lt : (s x : ℕ) → up s x < 2 ^ 64
up_lt s x = mod-lt _ (pow_pos 64)

picked : (m g x old : Bool) → (m && g) ≡ false → pick m (pick g x old) old ≡ old
picked true true x old e = clash (cc)
picked true false x old e = refl
picked false g x old e = refl

-- a bit of the home that the view does not write, or that is not let through, stays as it was
pub through_alone : (v : View) (gate old x n : ℕ) → n < 64 → gate < 2 ^ 64 → (has n (up v.shift v.writes) && has n gate) ≡ false → has n (stored_by v gate old x) ≡ has n old
unfolding stored
through_alone v gate old x n h b e =
    let m = up v.shift v.writes in
    let w = copy gate (up v.shift x) old in
    let k : has n (copy m w old) ≡ has n old =
    has-copy n m w old h (up_lt v.shift v.writes) ∙ ap (λ (t : Bool). pick (has n m) t (has n old)) (has-copy n gate (up v.shift x) old h b)
    ∙ picked (has n m) (has n gate) (has n (up v.shift x)) (has n old) e in
    taken-has (λ (y : ℕ). has n y ≡ has n old) (rule v.home).restriction old (copy m w old) refl k
    (λ f vs q. has_back n f old (copy m w old) h (restricted_fits (rule v.home) (rule_sound v.home) f vs q) k)

-- ---- what is let through

swap : (a b c : ℕ) → bit_and (bit_and a b) c ≡ bit_and (bit_and a c) b
swap a b c = and_assoc a b c ∙ ap (bit_and a) (and_comm b c) ∙ sym (and_assoc a c b)

-- a copy under a gate depends on the old word under it alone
copied : (k w old g : ℕ) → bit_and (copy k w old) g ≡ bit_or (bit_and (bit_and old g) (top - k)) (bit_and (bit_and w g) k)
copied k w old g = and-or (bit_and old (top - k)) (bit_and w k) g ∙ ap₂ bit_or (swap old (top - k) g) (swap w k g)

pub same-through : (v : View) (gate old old' x : ℕ) → (rule v.home).restriction ≡ free → bit_and old gate ≡ bit_and old' gate
    → bit_and (stored_by v gate old x) gate ≡ bit_and (stored_by v gate old' x) gate
unfolding stored
same-through v gate old old' x f e =
    let m = up v.shift v.writes in
    let y = up v.shift x in
    let w : bit_and (copy gate y old) gate ≡ bit_and (copy gate y old') gate = copied gate y old gate ∙ ap (λ (o : ℕ). bit_or (bit_and o (top - gate)) (bit_and (bit_and y gate) gate)) e ∙ sym (copied gate y old' gate) in
    rw f (copied m (copy gate y old) old gate ∙ ap₂ (λ (o z : ℕ). bit_or (bit_and o (top - m)) (bit_and z m)) e w ∙ sym (copied m (copy gate y old') old' gate))

-- ---- windows that never overlap

-- the view of the register with a number
abbrev pub numbered : ℕ → List Register → View
numbered n [] = no_bits
numbered n (r ∷ rs) = pick (eqb r.number n) r.view (numbered n rs)

apart : (a b : ℕ) → bit_and a b ≡ 0 → (x y : ℕ) → bit_and (bit_and x a) (bit_and y b) ≡ 0
apart a b e x y =
    and_assoc x a (bit_and y b) ∙ ap (bit_and x) (ap (bit_and a) (and_comm y b) ∙ sym (and_assoc a b y) ∙ ap (λ (z : ℕ). bit_and z y) e ∙ and_comm 0 y ∙ and_zero_r y) ∙ and_zero_r x

-- whatever the registers hold, sie and hie show no bit in common, nor do sip and hip
pub never_overlap : (gate word gate' word' : ℕ)
    → (bit_and (shown (numbered 0x104 registers) gate word) (shown (numbered 0x604 registers) gate' word') ≡ 0)
    × (bit_and (shown (numbered 0x144 registers) gate word) (shown (numbered 0x644 registers) gate' word') ≡ 0)
never_overlap gate word gate' word' = let e = apart 0x222 0x444 refl (bit_and word gate / 1) (bit_and word' gate' / 1) in (e, e)
