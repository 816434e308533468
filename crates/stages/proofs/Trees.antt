-- Laws of trees of questions, and where a stage begins. Assumes nothing.
use Rattle.std.specs.Prelude.{Result, Ok, Err}
use mathlib.Core.Path.{◌≡◌, refl}
use Prim.Native.Nat.{ℕ, zero, suc, ◌-◌, ◌*◌, ◌<◌}
use native.Mathlib.Omega.{arith}
use Rattle.exceptions.specs.declared.Exception.{Exception}
use Rattle.bits.specs.Field.{pick}
use Rattle.rules.specs.Address.{well_formed}
use Rattle.stages.specs.Tree.{Walk, done, ask, bind}
use Rattle.stages.specs.Stages.{◌then◌, Translation, down, begin}

-- three in turn are grouped either way
pub then_assoc : {A B C : Type 0} (w : Walk (Result A Exception)) (f : A → Walk (Result B Exception)) (g : B → Walk (Result C Exception)) → w then f then g ≡ w then (λ x. f x then g)
unfolding bind
then_assoc (done (Ok x)) f g = refl
then_assoc (done (Err x)) f g = refl
then_assoc (ask s l m outside k) f g = λ i. ask s l m (then_assoc outside f g i) (λ v. then_assoc (k v) f g i)

-- a stage that is off
pub begin-off : {A : Type 0} (t : Translation A) (levels : ℕ) → levels ≡ 0 → begin t levels ≡ done (Ok (t.wrap t.address))
unfolding begin
begin-off t levels e = rw e

-- a stage that is on
pub begin-at : {A : Type 0} (t : Translation A) (levels : ℕ) → 0 < levels
    → begin t levels ≡ pick (well_formed t.stage levels t.address) (down t (levels - 1) (t.tables.ppn * 4096)) (done (Err t.fault))
unfolding begin
begin-at t zero h = absurd (omega arith)
begin-at t (suc l) h = let e : suc l - 1 ≡ l = omega arith in rw e
