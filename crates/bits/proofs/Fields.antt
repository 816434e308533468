-- Laws of fields: what was put is got, and every other field is as it was. Assumes nothing.
use mathlib.Core.Path.{◌≡◌, sym, ap, ap₂, subst, ◌∙◌}
use mathlib.Core.Logic.{◌⊎◌, ⊎_elim}
use Prim.Native.Nat.{ℕ, ◌+◌, ◌*◌, ◌/◌, ◌%◌, ◌^◌, ◌-◌, ◌<◌, ◌≤◌}
use native.Mathlib.Nat.{mod-eq_of_lt, div-eq_of_lt, lt_of_lt_of_le, mod-lt, mul_assoc, add-mul, mul-mod_left, sub_self, sub-zero, zero-mod}
use native.Mathlib.Omega.{arith}
use lib.Arith.{digits_div, digits_mod}
use lib.Bits.{bit_and, bit_or, and_shr, or_shr, and_mod, or_mod, and_mask, and_zero_r, or_zero_r}
use lib.Pow.{pow_mono, pow_pos, pow-add, shl-shr, shl_lt, shr_lt, ones_lt, ones_sub-lt, split}
use Rattle.bits.specs.declared.Field.{Field}
use Rattle.bits.specs.Field.{Fits, ones, place, get, put, top}

-- ---- a complement: each run of its digits is the complement of that run
comp : (d h l P : ℕ) → l < P → ((d + 1 + h) * P - 1) - (h * P + l) ≡ d * P + (P - 1 - l)
comp d h l P k = let e : (d + 1 + h) * P ≡ d * P + 1 * P + h * P = add-mul (d + 1) h P ∙ ap (λ (x : ℕ). x + h * P) (add-mul d 1 P) in omega arith

comp_at : (j k a : ℕ) → a < 2 ^ (j + k) → (2 ^ (j + k) - 1) - a ≡ (2 ^ j - 1 - a / 2 ^ k) * 2 ^ k + (2 ^ k - 1 - a % 2 ^ k)
comp_at j k a b =
    let h : a / 2 ^ k < 2 ^ j = shr_lt j k b in
    let q : 2 ^ j - 1 - a / 2 ^ k + 1 + a / 2 ^ k ≡ 2 ^ j = omega arith in
    ap₂ (λ (x y : ℕ). (x - 1) - y) (pow-add 2 j k ∙ ap (λ (x : ℕ). x * 2 ^ k) (sym q)) (sym (split a k))
    ∙ comp (2 ^ j - 1 - a / 2 ^ k) (a / 2 ^ k) (a % 2 ^ k) (2 ^ k) (mod-lt a (pow_pos k))

comp_shr : (j k a : ℕ) → a < 2 ^ (j + k) → ((2 ^ (j + k) - 1) - a) / 2 ^ k ≡ 2 ^ j - 1 - a / 2 ^ k
comp_shr j k a b = ap (λ (x : ℕ). x / 2 ^ k) (comp_at j k a b) ∙ digits_div (2 ^ j - 1 - a / 2 ^ k) (ones_sub-lt k (a % 2 ^ k))

comp_mod : (j k a : ℕ) → a < 2 ^ (j + k) → ((2 ^ (j + k) - 1) - a) % 2 ^ k ≡ 2 ^ k - 1 - a % 2 ^ k
comp_mod j k a b = ap (λ (x : ℕ). x % 2 ^ k) (comp_at j k a b) ∙ digits_mod (2 ^ j - 1 - a / 2 ^ k) (ones_sub-lt k (a % 2 ^ k))

-- ---- a field of what is made bit by bit
pub get-and : (f : Field) (a b : ℕ) → get f (bit_and a b) ≡ bit_and (get f a) (get f b)
unfolding get
get-and f a b = ap (λ (x : ℕ). x % 2 ^ f.width) (and_shr a b f.low) ∙ and_mod (a / 2 ^ f.low) (b / 2 ^ f.low) f.width

pub get-or : (f : Field) (a b : ℕ) → get f (bit_or a b) ≡ bit_or (get f a) (get f b)
unfolding get
get-or f a b = ap (λ (x : ℕ). x % 2 ^ f.width) (or_shr a b f.low) ∙ or_mod (a / 2 ^ f.low) (b / 2 ^ f.low) f.width

pub get-lt : (f : Field) (x : ℕ) → get f x < 2 ^ f.width
unfolding get
get-lt f x = mod-lt (x / 2 ^ f.low) (pow_pos f.width)

-- all ones keep what the field holds
pub get_all : (f : Field) (x : ℕ) → bit_and (get f x) (2 ^ f.width - 1) ≡ get f x
get_all f x = and_mask (get f x) f.width ∙ mod-eq_of_lt (get-lt f x)

get_comp_of : (f : Field) (j a : ℕ) → a < 2 ^ (j + f.width + f.low) → get f ((2 ^ (j + f.width + f.low) - 1) - a) ≡ 2 ^ f.width - 1 - get f a
unfolding get
get_comp_of f j a b =
    ap (λ (x : ℕ). x % 2 ^ f.width) (comp_shr (j + f.width) f.low a b)
    ∙ comp_mod j f.width (a / 2 ^ f.low) (shr_lt (j + f.width) f.low b)

pub get_comp : (f : Field) → Fits f → (a : ℕ) → a < 2 ^ 64 → get f (top - a) ≡ 2 ^ f.width - 1 - get f a
get_comp f h a b =
    let e : 64 - (f.low + f.width) + f.width + f.low ≡ 64 = omega (arith, h.sum) in
    subst (λ (n : ℕ). a < 2 ^ n → get f ((2 ^ n - 1) - a) ≡ 2 ^ f.width - 1 - get f a) e (get_comp_of f (64 - (f.low + f.width)) a) b

-- ---- a field of a field's bits

-- one field lies wholly below the other
unfoldable pub Apart : Field → Field → Type 0
Apart f g = (f.low + f.width ≤ g.low) ⊎ (g.low + g.width ≤ f.low)

pub get-same : (f : Field) (n : ℕ) → n < 2 ^ f.width → get f (n * 2 ^ f.low) ≡ n
unfolding get
get-same f n h = ap (λ (x : ℕ). x % 2 ^ f.width) (shl-shr n f.low) ∙ mod-eq_of_lt h

below : (f g : Field) (n : ℕ) → n < 2 ^ f.width → f.low + f.width ≤ g.low → get g (n * 2 ^ f.low) ≡ 0
unfolding get
below f g n h o =
    let w : f.width + f.low ≤ g.low = omega arith in
    ap (λ (x : ℕ). x % 2 ^ g.width) (div-eq_of_lt (lt_of_lt_of_le (shl_lt f.width f.low h) (pow_mono w))) ∙ zero-mod (2 ^ g.width)

above : (g : Field) (k n : ℕ) → get g (n * 2 ^ (k + g.width + g.low)) ≡ 0
unfolding get
above g k n =
    ap (λ (x : ℕ). x / 2 ^ g.low % 2 ^ g.width) (ap (λ (x : ℕ). n * x) (pow-add 2 (k + g.width) g.low) ∙ sym (mul_assoc n (2 ^ (k + g.width)) (2 ^ g.low)))
    ∙ ap (λ (x : ℕ). x % 2 ^ g.width) (shl-shr (n * 2 ^ (k + g.width)) g.low)
    ∙ ap (λ (x : ℕ). x % 2 ^ g.width) (ap (λ (x : ℕ). n * x) (pow-add 2 k g.width) ∙ sym (mul_assoc n (2 ^ k) (2 ^ g.width)))
    ∙ mul-mod_left (n * 2 ^ k) (2 ^ g.width)

pub get_apart : (f g : Field) (n : ℕ) → n < 2 ^ f.width → Apart f g → get g (n * 2 ^ f.low) ≡ 0
unfolding Apart
get_apart f g n h a =
    ⊎_elim (below f g n h)
    (λ o. let e : f.low - (g.low + g.width) + g.width + g.low ≡ f.low = omega arith in
    subst (λ (l : ℕ). get g (n * 2 ^ l) ≡ 0) e (above g (f.low - (g.low + g.width)) n)) a

pub ones_bound : (f : Field) → Fits f → ones f < 2 ^ 64
ones_bound f h =
    let w : f.width + f.low ≤ 64 = omega (arith, h.sum) in
    lt_of_lt_of_le (shl_lt f.width f.low (ones_lt f.width)) (pow_mono w)

-- ---- the two laws

-- what was put is got
pub get-put : (f : Field) → Fits f → (v x : ℕ) → get f (put f v x) ≡ v % 2 ^ f.width
unfolding put
get-put f h v x =
    let W : ℕ = 2 ^ f.width in
    let c : get f (top - ones f) ≡ 0 =
    get_comp f h (ones f) (ones_bound f h) ∙ ap (λ (y : ℕ). 2 ^ f.width - 1 - y) (get-same f (2 ^ f.width - 1) (ones_lt f.width)) ∙ sub_self (2 ^ f.width - 1) in
    get-or f (bit_and x (top - ones f)) (place f v)
    ∙ ap₂ bit_or (get-and f x (top - ones f) ∙ ap (bit_and (get f x)) c ∙ and_zero_r (get f x)) (get-same f (v % 2 ^ f.width) (mod-lt v (pow_pos f.width)))

-- every other field is as it was
pub get-put_other : (f g : Field) → Fits f → Fits g → Apart f g → (v x : ℕ) → get g (put f v x) ≡ get g x
unfolding put
get-put_other f g hf hg a v x =
    let c : get g (top - ones f) ≡ 2 ^ g.width - 1 =
    get_comp g hg (ones f) (ones_bound f hf) ∙ ap (λ (y : ℕ). 2 ^ g.width - 1 - y) (get_apart f g (2 ^ f.width - 1) (ones_lt f.width) a) ∙ sub-zero (2 ^ g.width - 1) in
    get-or g (bit_and x (top - ones f)) (place f v)
    ∙ ap₂ bit_or (get-and g x (top - ones f) ∙ ap (bit_and (get g x)) c ∙ get_all g x) (get_apart f g (v % 2 ^ f.width) (mod-lt v (pow_pos f.width)) a)
    ∙ or_zero_r (get g x)

-- a field above a word's bits holds nothing
pub get_past : (f : Field) (x : ℕ) → 64 ≤ f.low → x < 2 ^ 64 → get f x ≡ 0
unfolding get
get_past f x h b = ap (λ (y : ℕ). y % 2 ^ f.width) (div-eq_of_lt (lt_of_lt_of_le b (pow_mono h))) ∙ zero-mod (2 ^ f.width)
