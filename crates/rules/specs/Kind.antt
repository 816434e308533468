-- The three kinds of access, their numbers, and what goes by them.
use Rattle.std.specs.Prelude.{ℕ, ◌==◌, Result, Ok, Err}
use Rattle.bits.specs.Field.{pick}
use Rattle.rules.specs.declared.Kind.{Kind}
use Rattle.rules.specs.declared.Kind.TheVariants.{Fetch, Load, Store}
use Rattle.rules.specs.declared.UnknownKind.{UnknownKind}

-- "(fetch, load, store)": the one that is the access's own.
abbrev pub by : {A : Type 0} → Kind → A → A → A → A
by Fetch fetch load store = fetch
by Load fetch load store = load
by Store fetch load store = store

-- The kind with a number: 0 fetch, 1 load, 2 store. No other number has one.
abbrev pub numbered : ℕ → Result Kind UnknownKind
numbered n = pick (n == 0) (Ok Fetch) (pick (n == 1) (Ok Load) (pick (n == 2) (Ok Store) (Err (record { 0 = n }))))
