-- The low bits of an address: what a stage keeps, and what lies on a page. Assumes nothing.
use Rattle.std.specs.Prelude.{Option, Some, None, Result, Ok, Err}
use mathlib.Core.Path.{◌≡◌, refl, ap, ◌∙◌}
use mathlib.Core.Bool.{Bool, true, false}
use Prim.Native.Nat.{ℕ, zero, suc, ◌+◌, ◌-◌, ◌*◌, ◌/◌, ◌%◌, ◌^◌, ◌<◌, ◌≤◌}
use native.Mathlib.Nat.{mod-lt, mul_assoc, add-mul}
use native.Mathlib.Omega.{arith}
use lib.Arith.{digits_lt, digits_mod}
use lib.Pow.{pow_pos, pow-add, mod-pow-add}
use Rattle.bits.specs.Field.{pick, get}
use Rattle.bits.proofs.Bools.{clash}
use Rattle.exceptions.specs.declared.Exception.{Exception}
use Rattle.rules.specs.declared.Judgement.{Judgement}
use Rattle.rules.specs.declared.Judgement.TheVariants.{Pointer, Leaf, Bad}
use Rattle.rules.specs.Address.{number, well_formed}
use Rattle.rules.specs.Entry.{PPN, target, offset, judged}
use Rattle.rules.proofs.Judgements.{is_leaf}
use Rattle.access.specs.declared.Machine.{Machine}
use Rattle.stages.specs.Tree.{Walk, done, item, listed, found, run}
use Rattle.stages.specs.Stages.{onward, ◌then◌, Translation, slot, follow, inspect, down, begin, translation}
use Rattle.stages.proofs.Runs.{run_bind}

pub never : {A : Type 0} {P : Type 0} (f : Exception) (x : A) → ◌≡◌ {A = Result A Exception} (Err f) (Ok x) → P
never f x e = clash (cc)

pub low_part : (level x : ℕ) → get (offset level) x ≡ x % 2 ^ (12 + 9 * level)
unfolding get
low_part level x = let one : x / 1 ≡ x = omega arith in rw one

module _ (level x k : ℕ) where
  offset-by : (j : ℕ) → 12 + 9 * level ≡ j + k → get (offset level) x ≡ (x / 2 ^ k % 2 ^ j) * 2 ^ k + x % 2 ^ k
  offset-by j whole = rw (low_part level x, whole) (mod-pow-add x j k)

  -- an aligned address leaves room for as many bytes on its page
  pub room : k ≤ 12 → x % 2 ^ k ≡ 0 → get (offset level) x + 2 ^ k ≤ 2 ^ (12 + 9 * level)
  room small aligned = go (12 + 9 * level - k) (omega arith)
    where
      go : (j : ℕ) → 12 + 9 * level ≡ j + k → get (offset level) x + 2 ^ k ≤ 2 ^ (12 + 9 * level)
      go j whole =
          let below : (x / 2 ^ k % 2 ^ j) * 2 ^ k + (2 ^ k - 1) < 2 ^ j * 2 ^ k = digits_lt (mod-lt (x / 2 ^ k) (pow_pos j)) (omega (arith, pow_pos k)) in
          rw (offset-by j whole, aligned, whole, pow-add 2 j k) (omega (arith, below, pow_pos k))

  -- what a leaf yields has the low bits of its address
  low_bits : k ≤ 12 → (e : ℕ) → (target e + get (offset level) x) % 2 ^ k ≡ x % 2 ^ k
  low_bits small e = go (12 + 9 * level - k) (12 - k) (omega arith) (omega arith)
    where
      go : (j i : ℕ) → 12 + 9 * level ≡ j + k → 12 ≡ i + k → (target e + get (offset level) x) % 2 ^ k ≡ x % 2 ^ k
      go j i whole twelve =
          let page : 4096 ≡ 2 ^ i * 2 ^ k = ap (λ (n : ℕ). 2 ^ n) twelve ∙ pow-add 2 i k in
          let q : ℕ = x / 2 ^ k % 2 ^ j in
          let sum : get PPN e * 4096 + (q * 2 ^ k + x % 2 ^ k) ≡ (get PPN e * 2 ^ i + q) * 2 ^ k + x % 2 ^ k = rw (page, add-mul (get PPN e * 2 ^ i) q (2 ^ k), mul_assoc (get PPN e) (2 ^ i) (2 ^ k)) (omega arith) in
          rw (offset-by j whole, sum) (digits_mod (get PPN e * 2 ^ i + q) (mod-lt x (pow_pos k)))

-- a stage keeps the low bits of the address that it translates
pub record Kept {A : Type 0} (t : Translation A) (k : ℕ) (r : A) : Type 0 where
  pub to : ℕ
  pub same : r ≡ t.wrap to
  pub low : to % 2 ^ k ≡ t.address % 2 ^ k

module _ {A : Type 0} (look : Machine → Option ℕ) (t : Translation A) (k : ℕ) (small : k ≤ 12) (r : A) where
  visit : (level x : ℕ) (next : ℕ → Walk (Result A Exception)) → ((y : ℕ) → (run look (next y)).end ≡ Ok r → Kept t k r)
      → (run look (t.through x then inspect t level next)).end ≡ Ok r → Kept t k r
  unfolding run inspect follow
  visit level x next sub h = go (run look (t.through x)).end (rw (run_bind look (t.through x) (onward (inspect t level next))) at h)
    where
      judge : (v : ℕ) (d : Judgement) → judged t.need level t.address v ≡ d → (run look (follow t d next)).end ≡ Ok r → Kept t k r
      judge v Bad j q = never t.fault r q
      judge v (Leaf y) j q =
          record { to = y; same = cc; low = ap (λ (z : ℕ). z % 2 ^ k) (is_leaf t.need level t.address v y j).to ∙ low_bits level t.address k small v }
      judge v (Pointer y) j q = sub y q

      entry : (m : Machine) (e : Option ℕ)
          → (found e (run look (done (Err t.outside))) (λ v. listed (item (number t.stage) level m v) (run look (follow t (judged t.need level t.address v) next)))).end ≡ Ok r → Kept t k r
      entry m None q = never t.outside r q
      entry m (Some v) q = judge v (judged t.need level t.address v) refl q

      go : (o : Result Machine Exception) → (run look (onward (inspect t level next) o)).end ≡ Ok r → Kept t k r
      go (Err f) q = never f r q
      go (Ok m) q = entry m (look m) q

  descend : (level table : ℕ) → (run look (down t level table)).end ≡ Ok r → Kept t k r
  unfolding down run
  descend zero table = visit zero (slot t zero table) (λ x. done (Err t.fault)) (λ x q. never t.fault r q)
  descend (suc l) table = visit (suc l) (slot t (suc l) table) (down t l) (descend l)

  start : (levels : ℕ) → (run look (begin t levels)).end ≡ Ok r → Kept t k r
  unfolding begin run
  start zero h = record { to = t.address; same = cc; low = refl }
  start (suc l) h = go (well_formed t.stage (suc l) t.address) h
    where
      go : (b : Bool) → (run look (pick b (down t l (t.tables.ppn * 4096)) (done (Err t.fault)))).end ≡ Ok r → Kept t k r
      go true q = descend l (t.tables.ppn * 4096) q
      go false q = never t.fault r q

  pub keeps_low : (run look (translation t)).end ≡ Ok r → Kept t k r
  keeps_low = start t.tables.levels
