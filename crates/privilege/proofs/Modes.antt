-- The five modes, from the code's comparisons. Assumes nothing.
use mathlib.Core.Path.{◌≡◌, refl}
use mathlib.Core.Bool.{Bool, true, false, ◌&&◌, ◌||◌}
use Prim.Native.Nat.{ℕ, zero, suc}
use native.Mathlib.Omega.{arith}
use lib.Dec.{eqb, ltb}
use borrow.Author.Tests.{ne_eqb, le-ltb}

below_two : (x : ℕ) → ltb x 2 ≡ (eqb x 0 || eqb x 1)
below_two zero = refl
below_two (suc zero) = refl
below_two (suc (suc x)) = rw (le-ltb (suc (suc x)) 2 (omega arith), ne_eqb (suc (suc x)) 0 (λ e. omega arith), ne_eqb (suc (suc x)) 1 (λ e. omega arith))

each : (z o u s m : Bool) → (((z || o) && (u || s)) || (z && m)) ≡ ((z && u) || ((z && s) || ((z && m) || ((o && u) || (o && s)))))
each true o true s m = refl
each true o false true m = refl
each true true false false true = refl
each true true false false false = refl
each true false false false true = refl
each true false false false false = refl
each false true true s m = refl
each false true false true m = refl
each false true false false m = refl
each false false u s m = refl

-- privileges 0 and 1 with either V, and 3 with V=0
pub five : (v p : ℕ) → ((ltb v 2 && ltb p 2) || (eqb v 0 && eqb p 3))
    ≡ ((eqb v 0 && eqb p 0) || ((eqb v 0 && eqb p 1) || ((eqb v 0 && eqb p 3) || ((eqb v 1 && eqb p 0) || (eqb v 1 && eqb p 1)))))
five v p = rw (below_two v, below_two p) (each (eqb v 0) (eqb v 1) (eqb p 0) (eqb p 1) (eqb p 3))
