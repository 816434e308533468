-- What holds of each of the three kinds holds of any. Assumes nothing.
use Rattle.rules.specs.declared.Kind.{Kind}
use Rattle.rules.specs.declared.Kind.TheVariants.{Fetch, Load, Store}

pub each_kind : (P : Kind → Type 0) → P Fetch → P Load → P Store → (k : Kind) → P k
each_kind P fetch load store Fetch = fetch
each_kind P fetch load store Load = load
each_kind P fetch load store Store = store
