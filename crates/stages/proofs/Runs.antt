-- A walk's run in two parts. Assumes nothing.
use Rattle.std.specs.Prelude.{Option, Some, None}
use mathlib.Core.Path.{◌≡◌, refl, ap}
use mathlib.Core.List.{◌++◌}
use Prim.Native.Nat.{ℕ}
use Rattle.access.specs.declared.Machine.{Machine}
use Rattle.stages.specs.Tree.{Walk, done, ask, bind, item, Ran, listed, found, run}

abbrev pub joined : {A B : Type 0} → Ran A → (A → Ran B) → Ran B
joined r f = record { end = (f r.end).end; reads = r.reads ++ (f r.end).reads }

pub run_bind : {A B : Type 0} (look : Machine → Option ℕ) (w : Walk A) (f : A → Walk B) → run look (bind w f) ≡ joined (run look w) (λ a. run look (f a))
unfolding run bind
run_bind look (done a) f = refl
run_bind {A} {B} look (ask s l m outside k) f = go (look m) (run_bind look outside f) (λ v. run_bind look (k v) f)
  where
    go : (e : Option ℕ) → run look (bind outside f) ≡ joined (run look outside) (λ a. run look (f a))
        → ((v : ℕ) → run look (bind (k v) f) ≡ joined (run look (k v)) (λ a. run look (f a)))
        → found e (run look (bind outside f)) (λ v. listed (item s l m v) (run look (bind (k v) f)))
        ≡ joined (found e (run look outside) (λ v. listed (item s l m v) (run look (k v)))) (λ a. run look (f a))
    go None io ik = io
    go (Some v) io ik = ap (listed (item s l m v)) (ik v)
