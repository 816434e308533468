-- Which places have a restricted field: one computed test over the rules. Assumes nothing.
use mathlib.Core.Path.{◌≡◌, refl}
use mathlib.Core.Bool.{Bool, true, false, ◌||◌}
use mathlib.Core.Logic.{⊎_elim}
use Prim.Native.Nat.{ℕ}
use lib.Dec.{eqb}
use borrow.Author.Tests.{eqb-true}
use Rattle.bits.specs.Every.{every}
use Rattle.bits.proofs.Bools.{clash, or-true, or_cases}
use Rattle.bits.proofs.Every.{every_any}
use Rattle.registers.specs.Fields.{MODE}
use Rattle.registers.specs.Places.{mstatus, hgatp, satp, vsatp}
use Rattle.registers.specs.Rules.{Restriction, free, keeps, ignores, Rule, modes, stores_word, rules, rule}

is_free : Restriction → Bool
is_free free = true
is_free (keeps f vs) = false
is_free (ignores f vs) = false

is_free_lem : (r : Restriction) → is_free r ≡ true → r ≡ free
unfolding is_free
is_free_lem free e = refl
is_free_lem (keeps f vs) e = clash e
is_free_lem (ignores f vs) e = clash e

abbrev restricted : ℕ → Bool
restricted i = eqb i mstatus || (eqb i hgatp || (eqb i satp || eqb i vsatp))

abbrev test : ℕ → Rule → Bool
test i r = restricted i || is_free r.restriction

all : every test 0 rules ≡ true
unfolding every is_free
all = refl

other : (i : ℕ) → test i stores_word ≡ true
unfolding is_free
other i = or-true (restricted i)

pub unrestricted : (i : ℕ) → eqb i mstatus ≡ false → eqb i hgatp ≡ false → (eqb i satp || eqb i vsatp) ≡ false → (rule i).restriction ≡ free
unrestricted i p q r = is_free_lem (rule i).restriction (simp (p, q, r) at (every_any test rules stores_word all other i))

pub ignored_mode : (i : ℕ) → (eqb i satp || eqb i vsatp) ≡ true → (rule i).restriction ≡ ignores MODE modes
ignored_mode i t =
    ⊎_elim (λ e. rw (eqb-true i satp e)) (λ e. rw (eqb-true i vsatp e)) (or_cases (eqb i satp) (eqb i vsatp) t)
