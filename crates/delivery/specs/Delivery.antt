-- Where a trap goes; environment calls and breakpoints (document 01, "Traps and returns"); vectored interrupts (2026-01).
use Rattle.std.specs.Prelude.{ℕ, ◌+◌, ◌-◌, ◌*◌, ◌%◌, ◌^◌, Bool, not, ◌&&◌, ◌||◌, ◌==◌}
use Rattle.bits.specs.Field.{pick, has}
use Rattle.privilege.specs.declared.Context.{Context}
use Rattle.exceptions.specs.declared.Exception.{Exception}
use Rattle.delivery.specs.declared.Target.{Target}
use Rattle.delivery.specs.declared.Target.TheVariants.{M, HS, VS}
use Rattle.privilege.specs.Mode.{is_hs, is_m, is_vs}

-- from M to M; otherwise to M if medeleg's bit for the cause is 0; else to VS if V=1 and hedeleg's bit is 1; else to HS
abbrev pub target : Context → (medeleg hedeleg cause : ℕ) → Target
target c medeleg hedeleg cause =
    pick (is_m c || not (has cause medeleg)) M (pick (c.v == 1 && has cause hedeleg) VS HS)

-- "pc becomes the target's tvec without bits 1:0."
abbrev pub base : (tvec : ℕ) → ℕ
base tvec = tvec - tvec % 4

-- the interrupt bit of a cause, and the cause without it
abbrev pub is_interrupt : (cause : ℕ) → Bool
is_interrupt cause = has 63 cause

abbrev pub code : (cause : ℕ) → ℕ
code cause = cause % 2 ^ 63

-- "Vectored tvec now adds 4 times the written cause, wrapping, for interrupts only."
abbrev pub handler : (tvec cause : ℕ) → ℕ
handler tvec cause = pick (is_interrupt cause && has 0 tvec) ((base tvec + 4 * code cause) % 2 ^ 64) (base tvec)

-- environment calls give 8 (U, VU), 9 (HS), 10 (VS), 11 (M)
abbrev pub call_cause : Context → ℕ
call_cause c = pick (is_m c) 11 (pick (is_vs c) 10 (pick (is_hs c) 9 8))

-- breakpoint: value pc, flag = V; second value and word are 0
abbrev pub breakpoint : (v pc : ℕ) → Exception
breakpoint v pc = record { cause = 3; value = pc; value2 = 0; word = 0; flag = (v == 1) }
