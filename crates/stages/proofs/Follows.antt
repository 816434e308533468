-- What may be stored may be loaded: where a store's walk ends with an address, the load's reads the same entries and ends there too. Assumes nothing.
use Rattle.std.specs.Prelude.{Option, Some, None, Result, Ok, Err}
use mathlib.Core.Path.{◌≡◌, refl, sym, ap, ◌∙◌}
use mathlib.Core.Bool.{Bool, true, false, ◌&&◌, ◌||◌, not}
use mathlib.Core.Logic.{◌⊎◌, inl, inr}
use Prim.Native.Nat.{ℕ, zero, suc, ◌+◌, ◌*◌}
use lib.Dec.{eqb}
use Rattle.bits.specs.Field.{pick, span, get, has}
use Rattle.bits.proofs.Bools.{clash, or_left, or_right}
use Rattle.exceptions.specs.declared.Exception.{Exception}
use Rattle.image.specs.Image.{within}
use Rattle.rules.specs.declared.Kind.{Kind}
use Rattle.rules.specs.declared.Kind.TheVariants.{Load, Store}
use Rattle.rules.specs.declared.Right.{Right}
use Rattle.rules.specs.declared.Right.TheVariants.{Read, Write}
use Rattle.rules.specs.declared.Need.{Need}
use Rattle.rules.specs.declared.Judgement.{Judgement}
use Rattle.rules.specs.declared.Judgement.TheVariants.{Pointer, Leaf, Bad}
use Rattle.rules.specs.Address.{Stage, first, second, well_formed}
use Rattle.rules.specs.Entry.{«V», R, W, X, A, D, low_ppn, pointer, admitted, malformed, bad_pointer, bad_leaf, faulty, target, offset, judged}
use Rattle.access.specs.declared.Access.{Access}
use Rattle.access.specs.declared.Guest.{Guest}
use Rattle.access.specs.declared.Machine.{Machine}
use Rattle.access.specs.declared.Root.{Root}
use Rattle.access.specs.Needs.{need_of, first_need, second_need, entry_need}
use Rattle.access.specs.Faults.{access_fault, page_fault, guest_page_fault, entry_fault}
use Rattle.stages.specs.Tree.{Walk, done, ask, bind, item, listed, found, run}
use Rattle.stages.specs.Stages.{◌then◌, Translation, follow, inspect, down, begin, translation, guest, machine, last, final, walk_of}

-- one walk asks what another does, and ends as it does unless that one faults
pub data Follows {A : Type 0} : Walk (Result A Exception) → Walk (Result A Exception) → Type 0 where
  faulted : (f : Exception) (w : Walk (Result A Exception)) → Follows (done (Err f)) w
  ends : (x : Result A Exception) → Follows (done x) (done x)
  asks : (stage level : ℕ) (m : Machine) {o o' : Walk (Result A Exception)} {k k' : ℕ → Walk (Result A Exception)} → Follows o o' → ((v : ℕ) → Follows (k v) (k' v)) → Follows (ask stage level m o k) (ask stage level m o' k')

follows_then : {A B : Type 0} {w w' : Walk (Result A Exception)} {f f' : A → Walk (Result B Exception)} → Follows w w' → ((a : A) → Follows (f a) (f' a)) → Follows (w then f) (w' then f')
unfolding bind
follows_then (faulted x w) g = faulted x _
follows_then (ends (Ok a)) g = g a
follows_then (ends (Err x)) g = faulted x _
follows_then (asks s l m h k) g = asks s l m (follows_then h g) (λ v. follows_then (k v) g)

follows_run : {A : Type 0} (look : Machine → Option ℕ) {w w' : Walk (Result A Exception)} → Follows w w' → (a : A) → (run look w).end ≡ Ok a → run look w' ≡ run look w
unfolding run
follows_run look (faulted f w) a e = clash (cc)
follows_run look (ends x) a e = refl
follows_run {A} look (asks s l m {o} {o'} {k} {k'} h g) a e = go (look m) (follows_run look h a) (λ v. follows_run look (g v) a) e
  where
    go : (x : Option ℕ) → ((run look o).end ≡ Ok a → run look o' ≡ run look o) → ((v : ℕ) → (run look (k v)).end ≡ Ok a → run look (k' v) ≡ run look (k v))
        → (found x (run look o) (λ v. listed (item s l m v) (run look (k v)))).end ≡ Ok a
        → found x (run look o') (λ v. listed (item s l m v) (run look (k' v))) ≡ found x (run look o) (λ v. listed (item s l m v) (run look (k v)))
    go None io ik q = io q
    go (Some v) io ik q = ap (listed (item s l m v)) (ik v q)

-- ---- a stage, with other needs and faults

-- each entry that one need takes the other takes too
abbrev Takes : Need → Need → Type 0
Takes n n' = (level address e : ℕ) → (judged n level address e ≡ Bad) ⊎ (judged n' level address e ≡ judged n level address e)

module _ {A : Type 0} (stage : Stage) (tables : Root) (address : ℕ) (wrap : ℕ → A) where
  abbrev stage-of : Need → (fault outside : Exception) → (ℕ → Walk (Result Machine Exception)) → Translation A
  stage-of n f x through = record { stage = stage; tables = tables; address = address; need = n; fault = f; outside = x; through = through; wrap = wrap }

  module _ (n n' : Need) (f f' x x' : Exception) (through through' : ℕ → Walk (Result Machine Exception)) (takes : Takes n n') (t-follows : (y : ℕ) → Follows (through y) (through' y)) where
    abbrev t : Translation A
    t = stage-of n f x through

    abbrev t' : Translation A
    t' = stage-of n' f' x' through'

    follows_judged : (d d' : Judgement) → (d ≡ Bad) ⊎ (d' ≡ d) → (next next' : ℕ → Walk (Result A Exception)) → ((y : ℕ) → Follows (next y) (next' y)) → Follows (follow t d next) (follow t' d' next')
    unfolding follow
    follows_judged d d' (inl e) next next' h = rw e (faulted f _)
    follows_judged (Pointer y) d' (inr e) next next' h = rw e (h y)
    follows_judged (Leaf y) d' (inr e) next next' h = rw e (ends (Ok (wrap y)))
    follows_judged Bad d' (inr e) next next' h = faulted f _

    follows_inspect : (level : ℕ) (next next' : ℕ → Walk (Result A Exception)) → ((y : ℕ) → Follows (next y) (next' y)) → (m : Machine) → Follows (inspect t level next m) (inspect t' level next' m)
    unfolding inspect
    follows_inspect level next next' h m = asks _ level m (faulted x _) (λ e. follows_judged (judged n level address e) (judged n' level address e) (takes level address e) next next' h)

    follows_down : (level table : ℕ) → Follows (down t level table) (down t' level table)
    unfolding down
    follows_down zero table = follows_then (t-follows _) (follows_inspect zero _ _ (λ y. faulted f _))
    follows_down (suc l) table = follows_then (t-follows _) (follows_inspect (suc l) _ _ (follows_down l))

    follows_begin : (levels : ℕ) → Follows (begin t levels) (begin t' levels)
    unfolding begin
    follows_begin zero = ends _
    follows_begin (suc l) = go (well_formed stage (suc l) address)
      where
        go : (b : Bool) → Follows (pick b (down t l (tables.ppn * 4096)) (done (Err f))) (pick b (down t' l (tables.ppn * 4096)) (done (Err f')))
        go true = follows_down l (tables.ppn * 4096)
        go false = faulted f _

    pub follows_stage : Follows (translation t) (translation t')
    follows_stage = follows_begin tables.levels

-- ---- a store and a load

-- W without R is no entry, so that W is enough for R
leaf-read : (low a d adm w r x : Bool) (mxr : Bool) → (w && not r) ≡ false → (low || not a || not d || not (adm && w)) ≡ false → (low || not a || false || not (adm && (r || (x && mxr)))) ≡ false
leaf-read true a d adm w r x mxr p q = clash (sym q)
leaf-read false false d adm w r x mxr p q = clash (sym q)
leaf-read false true false adm w r x mxr p q = clash (sym q)
leaf-read false true true false w r x mxr p q = clash (sym q)
leaf-read false true true true false r x mxr p q = clash (sym q)
leaf-read false true true true true false x mxr p q = clash (sym p)
leaf-read false true true true true true x mxr p q = refl

module _ (user sum mxr : Bool) where
  abbrev stores : Need
  stores = need_of Store Write user sum mxr

  abbrev loads : Need
  loads = need_of Load Read user sum mxr

  load-faulty : (level e : ℕ) → faulty stores level e ≡ false → faulty loads level e ≡ false
  unfolding faulty malformed bad_leaf
  load-faulty level e h =
      let formed = or_left (malformed e) _ h in
      let readable = or_right (not (has «V» e)) (has W e && not (has R e)) (or_left _ (not (eqb (get (span 63 54) e) 0)) formed) in
      rw formed (go (pointer e) readable (or_right (malformed e) _ h))
    where
      go : (b : Bool) → (has W e && not (has R e)) ≡ false → pick b (bad_pointer level e) (bad_leaf stores level e) ≡ false → pick b (bad_pointer level e) (bad_leaf loads level e) ≡ false
      go true r q = q
      go false r q = leaf-read (not (eqb (get (low_ppn level) e) 0)) (has A e) (has D e) (admitted stores e) (has W e) (has R e) (has X e) mxr r q

  load_takes : Takes stores loads
  unfolding judged
  load_takes level address e = go (faulty stores level e) refl
    where
      then_as : Bool → Judgement
      then_as b = pick b Bad (pick (pointer e) (Pointer (target e)) (Leaf (target e + get (offset level) address)))

      go : (b : Bool) → faulty stores level e ≡ b → (judged stores level address e ≡ Bad) ⊎ (judged loads level address e ≡ judged stores level address e)
      go true q = inl (ap then_as q)
      go false q = inr (ap then_as (load-faulty level e q ∙ sym q))

-- an access as another kind makes it, for another right
abbrev pub made_as : Kind → Right → Access → Access
made_as kind right a = record { kind = kind; right = right; address = a.address; width = a.width; v = a.v; user = a.user; sum = a.sum; mxr = a.mxr; mmxr = a.mmxr; first = a.first; second = a.second }

module _ (look : Machine → Option ℕ) (base len : ℕ) (a : Access) where
  abbrev store : Access
  store = made_as Store Write a

  abbrev load : Access
  load = made_as Load Read a

  follows_final : (g : Guest) → Follows (final base len store g) (final base len load g)
  unfolding final last
  follows_final g =
      follows_then
      (follows_stage second a.second g.0 machine (second_need store) (second_need load) (guest_page_fault store g) (guest_page_fault load g) (access_fault store) (access_fault load) _ _ (load_takes true false a.mmxr) (λ y. ends _))
      (λ m. go m (within base len m.0 a.width))
    where
      go : (m : Machine) (b : Bool) → Follows (done (pick b (Ok m) (Err (access_fault store)))) (done (pick b (Ok m) (Err (access_fault load))))
      go m true = ends _
      go m false = faulted _ _

  follows_walk : Follows (walk_of base len store) (walk_of base len load)
  unfolding walk_of
  follows_walk =
      follows_then
      (follows_stage first a.first a.address guest (first_need store) (first_need load) (page_fault store) (page_fault load) (access_fault store) (access_fault load) _ _ (load_takes a.user a.sum a.mxr)
      (λ y. follows_stage second a.second y machine entry_need entry_need (entry_fault store (guest y)) (entry_fault load (guest y)) (access_fault store) (access_fault load) _ _ (λ level address e. inr refl) (λ z. ends _)))
      follows_final

  pub loads_where_stores : (m : Machine) → (run look (walk_of base len store)).end ≡ Ok m → run look (walk_of base len load) ≡ run look (walk_of base len store)
  loads_where_stores m e = follows_run look follows_walk m e
