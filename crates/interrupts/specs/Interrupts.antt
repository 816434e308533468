-- Which interrupt is due, and what is delivered (2026-01).
use Rattle.std.specs.Prelude.{Bool, false, ◌&&◌, ◌||◌, not, List, [], ◌∷◌, ℕ, ◌-◌, ◌^◌, Option, None, option_map, find}
use Rattle.std.specs.Option.{option_or}
use Rattle.std.specs.Int.Bits.{bit_or}
use Rattle.bits.specs.Field.{has}
use Rattle.registers.specs.Fields.{MIE, SIE}
use Rattle.exceptions.specs.declared.Exception.{Exception}
use Rattle.privilege.specs.declared.Context.{Context}
use Rattle.privilege.specs.Mode.{is_u, is_hs, is_m, is_vu, is_vs, is_set}
use Rattle.delivery.specs.declared.Target.{Target}
use Rattle.delivery.specs.declared.Target.TheVariants.{M, HS, VS}
use Rattle.interrupts.specs.declared.Lines.{Lines}

-- pending, and enabled
abbrev pub waits : Lines → ℕ → Bool
waits l n = has n l.mip && has n l.mie

-- whether the level is an interrupt's: M where mideleg's bit is clear, else HS where hideleg's is clear, else VS
abbrev pub goes : Lines → Target → ℕ → Bool
goes l M n = not (has n l.mideleg)
goes l HS n = has n l.mideleg && not (has n l.hideleg)
goes l VS n = has n l.mideleg && has n l.hideleg

-- whether a level lets its interrupts through: M in a mode below it, or in M with MIE; HS in U, VU and VS, or in HS with SIE; VS in VU, or in
-- VS with vsstatus.SIE
abbrev pub admits : Context → (vsstatus : ℕ) → Target → Bool
admits c vsstatus M = not (is_m c) || is_set MIE c.mstatus
admits c vsstatus HS = is_u c || (is_vu c || (is_vs c || is_hs c && is_set SIE c.mstatus))
admits c vsstatus VS = is_vu c || is_vs c && is_set SIE vsstatus

-- "the interrupt that is due", at a level
abbrev pub due : Context → Lines → Target → ℕ → Bool
due c l to n = admits c l.vsstatus to && (waits l n && goes l to n)

-- "Choose by target level first (M, HS, VS), then by the manual's order: 11, 3, 7, 9, 1, 5, 10, 2, 6."
abbrev pub levels : List Target
levels = M ∷ HS ∷ VS ∷ []

abbrev pub order : List ℕ
order = 11 ∷ 3 ∷ 7 ∷ 9 ∷ 1 ∷ 5 ∷ 10 ∷ 2 ∷ 6 ∷ []

-- the first level that has an interrupt, with it
abbrev pub first_level : (Target → Option ℕ) → List Target → Option (Target × ℕ)
first_level at [] = None
first_level at (to ∷ more) = option_or (option_map (λ n. (to, n)) (at to)) (first_level at more)

unfoldable pub chosen : Context → Lines → Option (Target × ℕ)
chosen c l = first_level (λ to. find (due c l to) order) levels

-- "Into VS, causes 10, 2, 6 are written as 9, 1, 5"
abbrev pub written : Target → ℕ → ℕ
written M n = n
written HS n = n
written VS n = n - 1

-- "with value, second value, word and flag 0", "with the interrupt bit set"
abbrev pub interruption : Target → ℕ → Exception
interruption to n = record { cause = bit_or (2 ^ 63) (written to n); value = 0; value2 = 0; word = 0; flag = false }

-- what each level has, where the three are given (for a contract of code)
abbrev pub of : (m hs vs : Option ℕ) → Target → Option ℕ
of m hs vs M = m
of m hs vs HS = hs
of m hs vs VS = vs
