-- Which kinds of access a call takes by number; what it returns, and with it what the lent slice holds after the call.
use Rattle.std.specs.Prelude.{List, ℕ, length, Result, Ok, Err}
use Rattle.bits.specs.Field.{pick}
use Rattle.rules.specs.declared.Kind.{Kind}
use Rattle.rules.specs.declared.UnknownKind.{UnknownKind}
use Rattle.rules.specs.Kind.{numbered}
use Rattle.layout.specs.Taken.{misfit}

-- the result for a kind; 2, and nothing is written, where there is none
abbrev pub by_kind : Result Kind UnknownKind → (out : List ℕ) → (Kind → List ℕ) → ℕ × List ℕ
by_kind (Ok kind) out result = (0, result kind)
by_kind (Err n) out result = (2, out)

-- as put of layout, for a kind of access given by number
unfoldable pub put_kind : (hart n kind : ℕ) (out : List ℕ) → (Kind → List ℕ) → ℕ × List ℕ
put_kind hart n kind out result = pick (misfit hart (length out) n) (1, out) (by_kind (numbered kind) out result)
