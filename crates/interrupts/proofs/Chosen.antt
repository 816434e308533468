-- An interrupt is taken exactly if one is due, and it is the first by level and order. Assumes nothing.
use mathlib.Core.Path.{◌≡◌, refl, sym, ap, ◌∙◌}
use mathlib.Core.Bool.{Bool, true, false}
use mathlib.Core.List.{List, [], ◌∷◌, ◌++◌}
use mathlib.Core.Logic.{inl, inr, ⊎_elim, ◌↔◌}
use Prim.Native.Nat.{ℕ}
use Rattle.std.specs.Prelude.{Option, Some, None, option_map, find, cond}
use Rattle.std.specs.Option.{option_or}
use Rattle.bits.proofs.Bools.{clash}
use Rattle.privilege.specs.declared.Context.{Context}
use Rattle.delivery.specs.declared.Target.{Target}
use Rattle.delivery.specs.declared.Target.TheVariants.{M, HS, VS}
use Rattle.interrupts.specs.declared.Lines.{Lines}
use Rattle.interrupts.specs.Interrupts.{due, levels, order, first_level, chosen}
use Rattle.interrupts.specs.First.{In, First}

-- ---- the first of a list

none_found : (p : ℕ → Bool) (ns : List ℕ) → ((m : ℕ) → In m ns → p m ≡ false) → find p ns ≡ None
none_found p [] h = refl
none_found p (n ∷ ns) h = rw (h n (inl refl)) (none_found p ns (λ m i. h m (inr i)))

found_none : (p : ℕ → Bool) (ns : List ℕ) → find p ns ≡ None → (m : ℕ) → In m ns → p m ≡ false
found_none p [] e m i = absurd i
found_none p (n ∷ ns) e m i = go (p n) refl e (λ r. found_none p ns r m)
  where
    go : (t : Bool) → p n ≡ t → cond t (Some n) (find p ns) ≡ None → (find p ns ≡ None → In m ns → p m ≡ false) → p m ≡ false
    go true q r more = clash (cc)
    go false q r more = ⊎_elim (λ u. ap p u ∙ q) (more r) i

record Split (p : ℕ → Bool) (ns : List ℕ) (n : ℕ) : Type 0 where
  before : List ℕ
  after : List ℕ
  list : ns ≡ before ++ (n ∷ after)
  earlier : (m : ℕ) → In m before → p m ≡ false
  holds : p n ≡ true

found_split : (p : ℕ → Bool) (ns : List ℕ) (n : ℕ) → find p ns ≡ Some n → Split p ns n
found_split p [] n e = clash (cc)
found_split p (x ∷ xs) n e = go (p x) refl e (found_split p xs n)
  where
    go : (t : Bool) → p x ≡ t → cond t (Some x) (find p xs) ≡ Some n → (find p xs ≡ Some n → Split p xs n) → Split p (x ∷ xs) n
    go true q r more =
        let same : x ≡ n = cc in
        record { before = []; after = xs; list = ap (λ (y : ℕ). y ∷ xs) same; earlier = λ m i. absurd i; holds = ap p (sym same) ∙ q }
    go false q r more =
        let s = more r in
        record {
          before = x ∷ s.before;
          after = s.after;
          list = ap (λ (ys : List ℕ). x ∷ ys) s.list;
          earlier = λ m i. ⊎_elim (λ u. ap p u ∙ q) (s.earlier m) i;
          holds = s.holds;
        }

split_found : (p : ℕ → Bool) (before after : List ℕ) (n : ℕ) → ((m : ℕ) → In m before → p m ≡ false) → p n ≡ true → find p (before ++ (n ∷ after)) ≡ Some n
split_found p [] after n e h = rw h
split_found p (x ∷ xs) after n e h = rw (e x (inl refl)) (split_found p xs after n (λ m i. e m (inr i)) h)

-- ---- the first of the levels

record Above (f : Target → Option ℕ) (ts : List Target) (to : Target) (n : ℕ) : Type 0 where
  above : List Target
  below : List Target
  list : ts ≡ above ++ (to ∷ below)
  higher : (t : Target) → In t above → f t ≡ None
  here : f to ≡ Some n

level-split : (f : Target → Option ℕ) (ts : List Target) (to : Target) (n : ℕ) → first_level f ts ≡ Some (to, n) → Above f ts to n
level-split f [] to n e = clash (cc)
level-split f (x ∷ xs) to n e = go (f x) refl e (level-split f xs to n)
  where
    go : (o : Option ℕ) → f x ≡ o → option_or (option_map (λ m. (x, m)) o) (first_level f xs) ≡ Some (to, n) → (first_level f xs ≡ Some (to, n) → Above f xs to n) → Above f (x ∷ xs) to n
    go None q r more =
        let s = more r in
        record {
          above = x ∷ s.above;
          below = s.below;
          list = ap (λ (ys : List Target). x ∷ ys) s.list;
          higher = λ t i. ⊎_elim (λ u. ap f u ∙ q) (s.higher t) i;
          here = s.here;
        }
    go (Some m) q r more =
        let same : ◌≡◌ {A = Target × ℕ} (x, m) (to, n) = cc in
        let level = ap (λ (y : Target × ℕ). y.0) same in
        record {
          above = [];
          below = xs;
          list = ap (λ (y : Target). y ∷ xs) level;
          higher = λ t i. absurd i;
          here = ap f (sym level) ∙ q ∙ ap (λ (y : Target × ℕ). Some y.1) same;
        }

split_level : (f : Target → Option ℕ) (above below : List Target) (to : Target) (n : ℕ) → ((t : Target) → In t above → f t ≡ None) → f to ≡ Some n → first_level f (above ++ (to ∷ below)) ≡ Some (to, n)
split_level f [] below to n h e = rw e
split_level f (x ∷ xs) below to n h e = rw (h x (inl refl)) (split_level f xs below to n (λ t i. h t (inr i)) e)

level-none : (f : Target → Option ℕ) (ts : List Target) → first_level f ts ≡ None → (t : Target) → In t ts → f t ≡ None
level-none f [] e t i = absurd i
level-none f (x ∷ xs) e t i = go (f x) refl e (λ r. level-none f xs r t)
  where
    go : (o : Option ℕ) → f x ≡ o → option_or (option_map (λ m. (x, m)) o) (first_level f xs) ≡ None → (first_level f xs ≡ None → In t xs → f t ≡ None) → f t ≡ None
    go None q r more = ⊎_elim (λ u. ap f u ∙ q) (more r) i
    go (Some m) q r more = clash (cc)

none-level : (f : Target → Option ℕ) (ts : List Target) → ((t : Target) → In t ts → f t ≡ None) → first_level f ts ≡ None
none-level f [] h = refl
none-level f (x ∷ xs) h = rw (h x (inl refl)) (none-level f xs (λ t i. h t (inr i)))

is_level : (t : Target) → In t levels
is_level M = inl refl
is_level HS = inr (inl refl)
is_level VS = inr (inr (inl refl))

-- ---- what is chosen

module _ (c : Context) (l : Lines) where
  at : Target → Option ℕ
  at to = find (due c l to) order

  -- none is taken exactly if none of the nine is due at any level
  pub rests_exactly : (chosen c l ≡ None) ↔ ((to : Target) (n : ℕ) → In n order → due c l to n ≡ false)
  unfolding chosen at
  rests_exactly = (
    λ e to n i. found_none (due c l to) order (level-none at levels e to (is_level to)) n i,
    λ h. none-level at levels (λ t i. none_found (due c l t) order (h t)),
  )

  forth : (to : Target) (n : ℕ) → chosen c l ≡ Some (to, n) → First c l to n
  unfolding chosen at
  forth to n e =
      let a = level-split at levels to n e in
      let s = found_split (due c l to) order n a.here in
      record {
        above = a.above;
        below = a.below;
        before = s.before;
        after = s.after;
        by_level = a.list;
        by_order = s.list;
        higher = λ t i m j. found_none (due c l t) order (a.higher t i) m j;
        earlier = s.earlier;
        is_due = s.holds;
      }

  back : (to : Target) (n : ℕ) → First c l to n → chosen c l ≡ Some (to, n)
  unfolding chosen at
  back to n f =
      let e : at to ≡ Some n = ap (find (due c l to)) f.by_order ∙ split_found (due c l to) f.before f.after n f.earlier f.is_due in
      ap (first_level at) f.by_level ∙ split_level at f.above f.below to n (λ t j. none_found (due c l t) order (f.higher t j)) e

  -- one is taken exactly if it is the first by level and order of those that are due
  pub takes_exactly : (to : Target) (n : ℕ) → (chosen c l ≡ Some (to, n)) ↔ First c l to n
  takes_exactly to n = (forth to n, back to n)
