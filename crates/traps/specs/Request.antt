-- Refusal 4: a trap request that can't arise (document 01).
use Rattle.std.specs.Prelude.{Bool, ◌&&◌, ◌||◌, not, ℕ, eqb, leb, Result, Ok, Err}
use Rattle.bits.specs.Field.{pick}
use Rattle.privilege.specs.declared.Context.{Context}
use Rattle.exceptions.specs.declared.Exception.{Exception}
use Rattle.exceptions.specs.declared.Refusal.{Refusal}
use Rattle.exceptions.specs.declared.Refusal.TheVariants as refusals
use Rattle.privilege.specs.Mode.{is_u, is_hs, is_m, is_vu, is_vs}

-- an environment call: 8 to 11
abbrev pub is_call : ℕ → Bool
is_call cause = leb 8 cause && leb cause 11

-- a guest-page fault: 20, 21 or 23
abbrev pub is_guest_page : ℕ → Bool
is_guest_page cause = eqb cause 20 || (eqb cause 21 || eqb cause 23)

-- cause not in 0-13, 15, 20-23
abbrev pub unknown : ℕ → Bool
unknown cause = not (leb cause 13 || (eqb cause 15 || leb 20 cause && leb cause 23))

-- 8, 9, 10 or 11 from other than U/VU, HS, VS, M; 22 with V=0
abbrev pub wrong_mode : Context → ℕ → Bool
wrong_mode c cause =
    eqb cause 8 && not (is_u c || is_vu c)
    || (eqb cause 9 && not (is_hs c)
    || (eqb cause 10 && not (is_vs c)
    || (eqb cause 11 && not (is_m c)
    || eqb cause 22 && eqb c.v 0)))

-- 8-11 with a nonzero value; second value or instruction word nonzero unless cause 20, 21, 23
abbrev pub wrong_value : Exception → Bool
wrong_value t =
    is_call t.cause && not (eqb t.value 0)
    || not (is_guest_page t.cause) && not (eqb t.value2 0 && eqb t.word 0)

-- the causes whose flag is never set: 2, 8-11, 22
abbrev pub never_flagged : ℕ → Bool
never_flagged cause = eqb cause 2 || (is_call cause || eqb cause 22)

-- flag set for 2, 8-11, 22, or clear for 20, 21, 23, or clear with V=1 for any other cause
abbrev pub wrong_flag : Context → Exception → Bool
wrong_flag c t =
    t.flag && never_flagged t.cause
    || (not t.flag && is_guest_page t.cause
    || not t.flag && (eqb c.v 1 && not (never_flagged t.cause)))

abbrev pub impossible : Context → Exception → Bool
impossible c t = unknown t.cause || (wrong_mode c t.cause || (wrong_value t || wrong_flag c t))

-- a trap request's own refusal
abbrev pub refusal_of : Context → Exception → Result Unit Refusal
refusal_of c t = pick (impossible c t) (Err refusals.Request) (Ok tt)
