-- What the second stage let through stands in the list: demand 3. Assumes nothing.
use Rattle.std.specs.Prelude.{Option, Some, None, Result, Ok, Err}
use mathlib.Core.Path.{◌≡◌, refl, sym, ap, subst, ◌∙◌}
use mathlib.Core.Bool.{Bool, true, false}
use mathlib.Core.List.{List, [], ◌∷◌, ◌++◌, append-nil, append_assoc}
use Prim.Native.Nat.{ℕ, zero, suc, ◌+◌, ◌-◌, ◌*◌, ◌%◌, ◌^◌, ◌<◌, ◌≤◌}
use mathlib.Core.Logic.{◌⊎◌, inl, inr, ⊎_elim}
use native.Mathlib.Omega.{arith}
use lib.Dec.{eqb}
use borrow.Author.Tests.{eqb-true, eqb-false}
use Rattle.bits.specs.Field.{pick}
use Rattle.image.specs.Image.{within}
use Rattle.exceptions.specs.declared.Exception.{Exception}
use Rattle.rules.specs.declared.Need.{Need}
use Rattle.rules.specs.declared.Judgement.{Judgement}
use Rattle.rules.specs.declared.Judgement.TheVariants.{Pointer, Leaf, Bad}
use Rattle.rules.specs.Address.{Stage, first, second, number, well_formed}
use Rattle.rules.specs.Entry.{pointer, faulty, target, judged}
use Rattle.rules.proofs.Judgements.{is_pointer, is_leaf}
use Rattle.access.specs.declared.Access.{Access}
use Rattle.access.specs.declared.Guest.{Guest}
use Rattle.access.specs.declared.Machine.{Machine}
use Rattle.access.specs.Needs.{first_need, second_need, entry_need}
use Rattle.access.specs.Faults.{access_fault, page_fault, entry_fault, guest_page_fault}
use Rattle.access.proofs.Faults.{not-high, access-low, page-low}
use Rattle.stages.specs.declared.Read.{Read}
use Rattle.stages.specs.Tree.{Walk, done, ask, bind, item, Ran, listed, found, run}
use Rattle.stages.specs.Stages.{onward, ◌then◌, Translation, slot, follow, inspect, down, begin, translation, guest, machine, second_of, first_of, last, final, walk_of}
use Rattle.stages.specs.Through.{Only, Points, own_right, entry_right, second_item, Descent, at_leaf, by_pointer, LetThrough, Leads, stays, falls, GuestEntry, Yields, FirstResult, bare, walked, AnsweredThrough}
use Rattle.stages.specs.Denied.{at_entry, at_access, GuestPageFault}
use Rattle.stages.proofs.Trees.{begin-off, begin-at}
use Rattle.stages.proofs.Runs.{run_bind}
use Rattle.stages.proofs.Offsets.{never, low_part, room, keeps_low}
use Rattle.stages.proofs.Passed.{points, passes, own_right_lem, entry-right}
use Rattle.stages.proofs.Raised.{second-fault, final-fault}

-- ---- a second stage that yields an address has let it through

module _ (look : Machine → Option ℕ) (a : Access) (n : Need) (f : Exception) (g : Guest) where
  abbrev t : Translation Machine
  t = second_of a n f g

  -- from a level down there is a leaf, and the address is what it yields
  record Found (level table : ℕ) (xs : List Read) (m : Machine) : Type 0 where
    leaf : Read
    items : Descent a.second g.0 level table xs leaf
    yielded : judged n leaf.level g.0 leaf.value ≡ Leaf m.0

  abbrev Under : ℕ → ℕ → List Read → Machine → Type 0
  Under zero table xs m = ⊥
  Under (suc l) table xs m = Found l table xs m

  deeper : (level table e : ℕ) (xs : List Read) (m : Machine) → Points level e → Under level (target e) xs m → Found level table (second_item a.second g.0 level table e ∷ xs) m
  deeper zero table e xs m p u = absurd u
  deeper (suc l) table e xs m p u = record { leaf = u.leaf; items = by_pointer l table e xs u.leaf p u.items; yielded = u.yielded }

  visited : (level table : ℕ) (m : Machine) (next : ℕ → Walk (Result Machine Exception))
      → ((x : ℕ) → (run look (next x)).end ≡ Ok m → Under level x (run look (next x)).reads m)
      → (run look (inspect t level next (machine (slot t level table)))).end ≡ Ok m
      → Found level table (run look (inspect t level next (machine (slot t level table)))).reads m
  unfolding run inspect follow
  visited level table m next sub h = go (look (machine (slot t level table))) h
    where
      after : ℕ → Judgement → Ran (Result Machine Exception)
      after e d = listed (second_item a.second g.0 level table e) (run look (follow t d next))

      judge : (e : ℕ) (d : Judgement) → judged n level g.0 e ≡ d → (after e d).end ≡ Ok m → Found level table (after e d).reads m
      judge e Bad j q = never f m q
      judge e (Leaf x) j q =
          record { leaf = second_item a.second g.0 level table e; items = at_leaf level table e (is_leaf n level g.0 e x j).leaf; yielded = cc }
      judge e (Pointer x) j q =
          let k = is_pointer n level g.0 e x j in
          deeper level table e (run look (next x)).reads m (points n level e k.good k.pointer) (subst (λ (y : ℕ). Under level y (run look (next x)).reads m) k.to (sub x q))

      go : (e : Option ℕ) → (found e (run look (done (Err t.outside))) (λ v. after v (judged n level g.0 v))).end ≡ Ok m
          → Found level table (found e (run look (done (Err t.outside))) (λ v. after v (judged n level g.0 v))).reads m
      go None q = never t.outside m q
      go (Some v) q = judge v (judged n level g.0 v) refl q

  descended : (level table : ℕ) (m : Machine) → (run look (down t level table)).end ≡ Ok m → Found level table (run look (down t level table)).reads m
  unfolding run down bind
  descended zero table m h = visited zero table m (λ x. done (Err f)) (λ x q. never f m q) h
  descended (suc l) table m h = visited (suc l) table m (down t l) (λ x q. descended l x m q) h

  -- what is needed is a user's, and a right in plain bits
  module _ (user : n.user ≡ true) (right : ℕ → Bool) (grants : (level e : ℕ) → faulty n level e ≡ false → pointer e ≡ false → right e ≡ true) where
    -- what a leaf that yields an address tells
    from_found : (k : ℕ) → k ≤ 12 → g.0 % 2 ^ k ≡ 0 → (m : Machine) (xs : List Read) → Found (a.second.levels - 1) (a.second.ppn * 4096) xs m
        → LetThrough a.second right g xs m (2 ^ k)
    from_found size small aligned m xs k =
        let leaf = k.leaf in
        let i = is_leaf n leaf.level g.0 leaf.value m.0 k.yielded in
        record {
          leaf = leaf;
          items = k.items;
          passed = passes n leaf.level leaf.value i.good i.leaf user right (grants leaf.level leaf.value i.good i.leaf);
          yielded = rw low_part at i.to;
          page = record { from = omega (arith, i.to); to = omega (arith, i.to, room leaf.level g.0 size small aligned) };
        }

    -- the second stage, on, has let through what it yields
    pub let_through : 0 < a.second.levels → (k : ℕ) → k ≤ 12 → g.0 % 2 ^ k ≡ 0 → (m : Machine) → (run look (translation (second_of a n f g))).end ≡ Ok m
        → LetThrough a.second right g (run look (translation (second_of a n f g))).reads m (2 ^ k)
    unfolding run
    let_through p k small aligned m h =
        rw (begin-at t a.second.levels p) (go (well_formed second a.second.levels g.0) (rw (begin-at t a.second.levels p) at h))
      where
        root : Walk (Result Machine Exception)
        root = down t (a.second.levels - 1) (a.second.ppn * 4096)

        go : (b : Bool) → (run look (pick b root (done (Err f)))).end ≡ Ok m → LetThrough a.second right g (run look (pick b root (done (Err f)))).reads m (2 ^ k)
        go true q = from_found k small aligned m (run look root).reads (descended (a.second.levels - 1) (a.second.ppn * 4096) m q)
        go false q = never f m q

-- ---- the items of a second-stage walk are all of the second stage

-- each question of a walk is of one stage
abbrev Asks : {A : Type 0} → Stage → Walk A → Type 0
Asks s (done a) = Unit {0}
Asks s (ask s' l m outside k) = (s' ≡ number s) × Asks s outside × ((v : ℕ) → Asks s (k v))

asks_run : {A : Type 0} (look : Machine → Option ℕ) (s : Stage) (w : Walk A) → Asks s w → Only s (run look w).reads
unfolding run
asks_run look s (done a) h = tt
asks_run {A} look s (ask s' l m outside k) h = go (look m) (asks_run look s outside h.1) (λ v. asks_run look s (k v) (h.2 v))
  where
    go : (e : Option ℕ) → Only s (run look outside).reads → ((v : ℕ) → Only s (run look (k v)).reads)
        → Only s (found e (run look outside) (λ v. listed (item s' l m v) (run look (k v)))).reads
    go None io ik = io
    go (Some v) io ik = (h.0, ik v)

only_append : (s : Stage) (xs ys : List Read) → Only s xs → Only s ys → Only s (xs ++ ys)
only_append s [] ys h k = k
only_append s (x ∷ xs) ys h k = (h.0, only_append s xs ys h.1 k)

module _ (a : Access) (n : Need) (f : Exception) (g : Guest) where
  abbrev u : Translation Machine
  u = second_of a n f g

  asks_follow : (d : Judgement) (next : ℕ → Walk (Result Machine Exception)) → ((x : ℕ) → Asks second (next x)) → Asks second (follow u d next)
  unfolding follow
  asks_follow Bad next h = tt
  asks_follow (Leaf x) next h = tt
  asks_follow (Pointer x) next h = h x

  asks_down : (level table : ℕ) → Asks second (down u level table)
  unfolding down bind inspect
  asks_down zero table = (refl, tt, λ e. asks_follow (judged n zero g.0 e) (λ x. done (Err f)) (λ x. tt))
  asks_down (suc l) table = (refl, tt, λ e. asks_follow (judged n (suc l) g.0 e) (down u l) (asks_down l))

  asks_begin : (levels : ℕ) → Asks second (begin u levels)
  unfolding begin
  asks_begin zero = tt
  asks_begin (suc l) = go (well_formed second (suc l) g.0)
    where
      go : (b : Bool) → Asks second (pick b (down u l (a.second.ppn * 4096)) (done (Err f)))
      go true = asks_down l (a.second.ppn * 4096)
      go false = tt

  only_second : (look : Machine → Option ℕ) → Only second (run look (translation (second_of a n f g))).reads
  only_second look = asks_run look second (translation (second_of a n f g)) (asks_begin a.second.levels)

-- ---- the first stage's part of the list

module _ (a : Access) where
  -- "The entry is at the table plus 8 times the index": a first-stage entry's guest address
  abbrev entry_at : ℕ → ℕ → Guest
  entry_at level table = guest (slot (first_of a) level table)

  -- directly before an entry stands the second-stage walk that let it through
  record Before (level table : ℕ) (ws : List Read) (m : Machine) : Type 0 where
    only : Only second ws
    through : LetThrough a.second entry_right (entry_at level table) ws m 8

  -- a fault that is no guest-page fault
  abbrev Plain : Exception → Type 0
  Plain f = (f ≡ access_fault a) ⊎ (f ≡ page_fault a)

  -- an end by the last entry
  abbrev End : ℕ → ℕ → Result Guest Exception → Type 0
  End level e (Err f) = Plain f
  End level e (Ok g) = (pointer e ≡ false) × (g.0 ≡ target e + a.address % 2 ^ (12 + 9 * level))

  -- from a level and a table on, with its end: no entry, one that ends it, or a pointer and what follows
  data Part : ℕ → ℕ → List Read → Result Guest Exception → Type 0 where
    lost : {level table : ℕ} (ws : List Read) (f : Exception) → Only second ws → Plain f ⊎ (f ≡ entry_fault a (entry_at level table)) → Part level table ws (Err f)
    ended : {level table : ℕ} (ws : List Read) (m : Machine) (e : ℕ) (o : Result Guest Exception) → Before level table ws m → End level e o
        → Part level table (ws ++ (item 1 level m e ∷ [])) o
    pointed : {level table : ℕ} (ws : List Read) (m : Machine) (e : ℕ) (xs : List Read) (o : Result Guest Exception) → Before level table ws m → Points level e
        → Part (level - 1) (target e) xs o → Part level table (ws ++ (item 1 level m e ∷ xs)) o

module _ (look : Machine → Option ℕ) (a : Access) (on : 0 < a.second.levels) where
  -- what a run of the first stage comes to
  abbrev PartOf : ℕ → ℕ → Ran (Result Guest Exception) → Type 0
  PartOf level table r = Part a level table r.reads r.end

  part_visit : (level table : ℕ) → table % 8 ≡ 0 → (next : ℕ → Walk (Result Guest Exception)) → ((y : ℕ) → y % 8 ≡ 0 → PartOf (level - 1) y (run look (next y)))
      → PartOf level table (run look ((first_of a).through (slot (first_of a) level table) then inspect (first_of a) level next))
  unfolding run inspect follow
  part_visit level table aligned next sub = rw (run_bind look w (onward (inspect (first_of a) level next))) (go (run look w).end refl)
    where
      g : Guest
      g = entry_at a level table

      w : Walk (Result Machine Exception)
      w = translation (second_of a entry_need (entry_fault a g) g)

      ws : List Read
      ws = (run look w).reads

      second_only : Only second ws
      second_only = only_second a entry_need (entry_fault a g) g look

      judge : (m : Machine) (e : ℕ) (d : Judgement) → judged (first_need a) level a.address e ≡ d → Before a level table ws m
          → Part a level table (ws ++ (item 1 level m e ∷ (run look (follow (first_of a) d next)).reads)) (run look (follow (first_of a) d next)).end
      judge m e Bad j b = ended ws m e (Err (page_fault a)) b (inr refl)
      judge m e (Leaf y) j b = let k = is_leaf (first_need a) level a.address e y j in ended ws m e (Ok (guest y)) b (k.leaf, rw low_part at k.to)
      judge m e (Pointer y) j b =
          let k = is_pointer (first_need a) level a.address e y j in
          pointed ws m e (run look (next y)).reads (run look (next y)).end b (points (first_need a) level e k.good k.pointer) (rw (← k.to) (sub y (omega (arith, k.to))))

      entry : (m : Machine) → LetThrough a.second entry_right g ws m 8 → (e : Option ℕ)
          → let r = found e (run look (done (Err (first_of a).outside))) (λ v. listed (item 1 level m v) (run look (follow (first_of a) (judged (first_need a) level a.address v) next))) in
          Part a level table (ws ++ r.reads) r.end
      entry m l None = rw append-nil (lost ws (access_fault a) second_only (inl (inl refl)))
      entry m l (Some v) = judge m v (judged (first_need a) level a.address v) refl (record { only = second_only; through = l })

      go : (o : Result Machine Exception) → (run look w).end ≡ o
          → let r = run look (onward (inspect (first_of a) level next) o) in
          Part a level table (ws ++ r.reads) r.end
      go (Err f) e =
          rw append-nil (lost ws f second_only (second-fault (λ x. Plain a x ⊎ (x ≡ entry_fault a g)) a (inl (inl refl)) entry_need (entry_fault a g) g (λ p. inr refl) look f e))
      go (Ok m) e = entry m (let_through look a entry_need (entry_fault a g) g refl entry_right entry-right on 3 (omega arith) (omega arith) m e) (look m)

  part_down : (level table : ℕ) → table % 8 ≡ 0 → PartOf level table (run look (down (first_of a) level table))
  unfolding down run
  part_down zero table aligned = part_visit zero table aligned (λ x. done (Err (first_of a).fault)) (λ x e. lost [] (first_of a).fault tt (inl (inr refl)))
  part_down (suc l) table aligned = let e : suc l - 1 ≡ l = omega arith in part_visit (suc l) table aligned (down (first_of a) l) (λ y q. rw e (part_down l y q))

  part_begin : 0 < a.first.levels → PartOf (a.first.levels - 1) (a.first.ppn * 4096) (run look (translation (first_of a)))
  unfolding run
  part_begin p = rw (begin-at (first_of a) a.first.levels p) (go (well_formed first a.first.levels a.address))
    where
      go : (b : Bool) → PartOf (a.first.levels - 1) (a.first.ppn * 4096) (run look (pick b (down (first_of a) (a.first.levels - 1) (a.first.ppn * 4096)) (done (Err (first_of a).fault))))
      go true = part_down (a.first.levels - 1) (a.first.ppn * 4096) (omega arith)
      go false = lost [] (first_of a).fault tt (inl (inr refl))

-- ---- where an entry of the first stage stands

in_only : (s : Stage) (earlier : List Read) (x : Read) (later : List Read) → Only s (earlier ++ (x ∷ later)) → x.stage ≡ number s
in_only s [] x later h = h.0
in_only s (y ∷ ys) x later h = in_only s ys x later h.1

not_both : {P : Type 0} (x : ℕ) → x ≡ 2 → x ≡ 1 → P
not_both x e f = let no : ⊥ = omega arith in absurd no

-- an item of the first stage in a list that begins with a second-stage walk and an item
cut : (ws earlier : List Read) (x y : Read) (xs later : List Read) → Only second ws → x.stage ≡ 1 → ws ++ (y ∷ xs) ≡ earlier ++ (x ∷ later)
    → ((earlier ≡ ws) × (x ≡ y)) ⊎ ((es : List Read) × (earlier ≡ ws ++ (y ∷ es)) × (xs ≡ es ++ (x ∷ later)))
cut [] [] x y xs later h one e = inl (refl, cc)
cut [] (z ∷ es) x y xs later h one e = inr (es, (cc), (cc))
cut (w ∷ ws) [] x y xs later h one e = let q : w ≡ x = cc in not_both w.stage h.0 (ap (λ (r : Read). r.stage) q ∙ one)
cut (w ∷ ws) (z ∷ es) x y xs later h one e =
    let q : w ≡ z = cc in
    let r : ws ++ (y ∷ xs) ≡ es ++ (x ∷ later) = cc in
    ⊎_elim (λ k. inl (let i : es ≡ ws = k.0 in (cc), k.1)) (λ k. inr (k.0, (let i : es ≡ ws ++ (y ∷ k.0) = k.1 in cc), k.2)) (cut ws es x y xs later h.1 one r)

module _ (a : Access) where
  -- a guest entry from a level and a table on
  abbrev EntryFrom : ℕ → ℕ → List Read → Read → Type 0
  EntryFrom = GuestEntry a.first a.second a.address

  first_entry : {level table : ℕ} (ws : List Read) (m : Machine) (e : ℕ) → Before a level table ws m → EntryFrom level table ws (item 1 level m e)
  first_entry {table = table} ws m e b = record { t = table; way = stays ws b.only; through = record { earlier = []; walk = ws; split = refl; through = b.through } }

  later_entry : {level table : ℕ} (ws : List Read) (m : Machine) (e : ℕ) (es : List Read) (x : Read) → Only second ws → Points level e
      → EntryFrom (level - 1) (target e) es x → EntryFrom level table (ws ++ (item 1 level m e ∷ es)) x
  later_entry {level} ws m e es x only p k =
      let y = item 1 level m e in
      let s = k.through in
      record {
        t = k.t;
        way = falls ws y es only refl p k.way;
        through = record {
          earlier = ws ++ (y ∷ s.earlier);
          walk = s.walk;
          split = ap (λ (zs : List Read). ws ++ (y ∷ zs)) s.split ∙ sym (append_assoc ws (y ∷ s.earlier) s.walk);
          through = s.through;
        };
      }

  module _ (zs : List Read) (rest : Only second zs) (x : Read) (later : List Read) (one : x.stage ≡ 1) where
    here_or_later : {level table : ℕ} (ws : List Read) (m : Machine) (e : ℕ) (xs earlier : List Read) → Before a level table ws m
        → ((es : List Read) → xs ++ zs ≡ es ++ (x ∷ later) → EntryFrom level table (ws ++ (item 1 level m e ∷ es)) x)
        → (ws ++ (item 1 level m e ∷ xs)) ++ zs ≡ earlier ++ (x ∷ later) → EntryFrom level table earlier x
    here_or_later {level} ws m e xs earlier b after q =
        ⊎_elim (λ k. rw (k.0, k.1) (first_entry ws m e b)) (λ k. rw k.1 (after k.0 k.2))
        (cut ws earlier x (item 1 level m e) (xs ++ zs) later b.only one (sym (append_assoc ws (item 1 level m e ∷ xs) zs) ∙ q))

    only_second_stage : {P : Type 0} (xs earlier : List Read) → Only second xs → xs ≡ earlier ++ (x ∷ later) → P
    only_second_stage xs earlier h e = not_both x.stage (in_only second earlier x later (rw e at h)) one

    by_place : {level table : ℕ} {xs : List Read} {o : Result Guest Exception} → Part a level table xs o → (earlier : List Read) → xs ++ zs ≡ earlier ++ (x ∷ later) → EntryFrom level table earlier x
    by_place (lost ws f h w) earlier e = only_second_stage (ws ++ zs) earlier (only_append second ws zs h rest) e
    by_place (ended ws m v o b h) earlier e = here_or_later ws m v [] earlier b (λ es q. only_second_stage zs es rest q) e
    by_place (pointed ws m v xs o b p r) earlier e = here_or_later ws m v xs earlier b (λ es q. later_entry ws m v es x b.only p (by_place r es q)) e

  -- ---- what the first stage yields

  later_yield : {level table : ℕ} (ws : List Read) (m : Machine) (e : ℕ) (xs : List Read) (g : Guest) → Only second ws → Points level e
      → Yields a.address (level - 1) (target e) xs g → Yields a.address level table (ws ++ (item 1 level m e ∷ xs)) g
  later_yield {level} ws m e xs g only p k =
      let y = item 1 level m e in
      record {
        earlier = ws ++ (y ∷ k.earlier);
        leaf = k.leaf;
        t = k.t;
        split = ap (λ (zs : List Read). ws ++ (y ∷ zs)) k.split ∙ sym (append_assoc ws (y ∷ k.earlier) (k.leaf ∷ []));
        way = falls ws y k.earlier only refl p k.way;
        stage = k.stage;
        ends = k.ends;
        yielded = k.yielded;
      }

  leaf_yield : {level table : ℕ} (ws : List Read) (m : Machine) (e : ℕ) (o : Result Guest Exception) (g : Guest) → Only second ws → End a level e o → o ≡ Ok g → Yields a.address level table (ws ++ (item 1 level m e ∷ [])) g
  leaf_yield ws m e (Err f) g only h q = never f g q
  leaf_yield {level} {table} ws m e (Ok x) g only h q =
      let same : x ≡ g = cc in
      record { earlier = ws; leaf = item 1 level m e; t = table; split = refl; way = stays ws only; stage = refl; ends = h.0; yielded = rw (← same) h.1 }

  part_yields : {level table : ℕ} {xs : List Read} {o : Result Guest Exception} → Part a level table xs o → (g : Guest) → o ≡ Ok g → Yields a.address level table xs g
  part_yields (lost ws f h w) g q = never f g q
  part_yields (ended ws m e o b h) g q = leaf_yield ws m e o g b.only h q
  part_yields (pointed ws m e xs o b p r) g q = later_yield ws m e xs g b.only p (part_yields r g q)

  -- ---- where the first stage met a guest-page fault

  -- on the way to the entry at a level and a table, to which it has come
  record Toward (level table : ℕ) (xs : List Read) (f : Exception) : Type 0 where
    at : ℕ
    t : ℕ
    way : Leads level table xs at t
    same : f ≡ entry_fault a (entry_at a at t)

  part_faults : {level table : ℕ} {xs : List Read} {o : Result Guest Exception} → Part a level table xs o → (f : Exception) → o ≡ Err f → Plain a f ⊎ Toward level table xs f
  part_faults {level} {table} (lost ws x h w) f q =
      let k : x ≡ f = cc in subst (λ (y : Exception). Plain a y ⊎ Toward level table ws y) k (⊎_elim inl (λ e. inr (record { at = level; t = table; way = stays ws h; same = e })) w)
  part_faults (ended ws m e (Ok g) b h) f q = never f g (sym q)
  part_faults (ended ws m e (Err x) b h) f q = let k : x ≡ f = cc in inl (subst (Plain a) k h)
  part_faults {level} (pointed ws m e xs o b p r) f q =
      ⊎_elim inl (λ k. inr (record { at = k.at; t = k.t; way = falls ws (item 1 level m e) xs b.only refl p k.way; same = k.same })) (part_faults r f q)

-- ---- demand 3 of the walk: an access of 2 ^ k bytes, aligned, with the second stage on

module _ (look : Machine → Option ℕ) (base len : ℕ) (a : Access) (on : 0 < a.second.levels) (k : ℕ) (small : k ≤ 12) (aligned : a.address % 2 ^ k ≡ 0) where
  abbrev own : ℕ → Bool
  own = own_right a.right a.mmxr

  -- the access itself: only second-stage items, and an answer was let through
  record Final (g : Guest) (xs : List Read) (o : Result Machine Exception) : Type 0 where
    only : Only second xs
    through : (m : Machine) → o ≡ Ok m → LetThrough a.second own g xs m (2 ^ k)

  final-through : (g : Guest) → g.0 % 2 ^ k ≡ 0 → Final g (run look (final base len a g)).reads (run look (final base len a g)).end
  unfolding final run last
  final-through g even = rw (run_bind look w (onward (λ m. done (last base len a m)))) (go (run look w).end refl)
    where
      w : Walk (Result Machine Exception)
      w = translation (second_of a (second_need a) (guest_page_fault a g) g)

      ws : List Read
      ws = (run look w).reads

      second_only : Only second ws
      second_only = only_second a (second_need a) (guest_page_fault a g) g look

      conclude : (m : Machine) → LetThrough a.second own g ws m (2 ^ k) → (b : Bool) → Final g (ws ++ []) (pick b (Ok m) (Err (access_fault a)))
      conclude m l true = rw append-nil (record { only = second_only; through = λ m' e. let q : m ≡ m' = cc in rw (← q) l })
      conclude m l false = rw append-nil (record { only = second_only; through = λ m' e. never (access_fault a) m' e })

      go : (o : Result Machine Exception) → (run look w).end ≡ o → Final g (ws ++ (run look (onward (λ m. done (last base len a m)) o)).reads) (run look (onward (λ m. done (last base len a m)) o)).end
      go (Err f) e = rw append-nil (record { only = second_only; through = λ m e. never f m e })
      go (Ok m) e = conclude m (let_through look a (second_need a) (guest_page_fault a g) g refl own (own_right_lem a) on k small even m e) (within base len m.0 a.width)

  -- The whole list and its end: each guest entry listed, with where the first stage has come to and what let it through; an address answered, with the
  -- first stage's result and what let it through.
  pub record Guarded (xs : List Read) (o : Result Machine Exception) : Type 0 where
    pub entries : (earlier : List Read) (x : Read) (later : List Read) → x.stage ≡ 1 → xs ≡ earlier ++ (x ∷ later) → GuestEntry a.first a.second a.address (a.first.levels - 1) (a.first.ppn * 4096) earlier x
    pub answer : (m : Machine) → o ≡ Ok m → AnsweredThrough a.first a.second (own_right a.right a.mmxr) a.address xs m (2 ^ k)

  abbrev first_walk : Walk (Result Guest Exception)
  first_walk = translation (first_of a)

  -- the first stage, on or off: its entries, followed by second-stage items, and its result
  record First (r : Ran (Result Guest Exception)) : Type 0 where
    entries : (zs : List Read) → Only second zs → (earlier : List Read) (x : Read) (later : List Read) → x.stage ≡ 1 → r.reads ++ zs ≡ earlier ++ (x ∷ later)
        → EntryFrom a (a.first.levels - 1) (a.first.ppn * 4096) earlier x
    result : (g : Guest) → r.end ≡ Ok g → FirstResult a.first a.address r.reads g
    fault : (f : Exception) → r.end ≡ Err f → Plain a f ⊎ ((0 < a.first.levels) × Toward a (a.first.levels - 1) (a.first.ppn * 4096) r.reads f)

  first_off : a.first.levels ≡ 0 → First (run look first_walk)
  unfolding run
  first_off off =
      rw (begin-off (first_of a) a.first.levels off)
      (record {
        entries = λ zs h earlier x later one e. only_second_stage a zs h x later one zs earlier h e;
        result = λ g e. bare off refl (let q : guest a.address ≡ g = cc in rw (← q) refl);
        fault = λ f e. never f (guest a.address) (sym e);
      })

  first_on : 0 < a.first.levels → First (run look first_walk)
  first_on p =
      record {
        entries = λ zs h earlier x later one e. by_place a zs h x later one (part_begin look a on p) earlier e;
        result = λ g e. walked p (part_yields a (part_begin look a on p) g e);
        fault = λ f e. ⊎_elim inl (λ k. inr (p, k)) (part_faults a (part_begin look a on p) f e);
      }

  first_part : First (run look first_walk)
  first_part = go (eqb a.first.levels 0) refl
    where
      go : (b : Bool) → eqb a.first.levels 0 ≡ b → First (run look first_walk)
      go true e = first_off (eqb-true a.first.levels 0 e)
      go false e = first_on (omega (arith, eqb-false a.first.levels 0 e))

  final_part : (g : Guest) → (run look first_walk).end ≡ Ok g → Final g (run look (final base len a g)).reads (run look (final base len a g)).end
  final_part g e = let kept = keeps_low look (first_of a) k small g e in final-through g (ap (λ (x : Guest). x.0 % 2 ^ k) kept.same ∙ kept.low ∙ aligned)

  pub guarded : Guarded (run look (walk_of base len a)).reads (run look (walk_of base len a)).end
  unfolding walk_of run
  guarded = rw (run_bind look first_walk (onward (final base len a))) (go (run look first_walk).end refl)
    where
      ws : List Read
      ws = (run look first_walk).reads

      go : (o : Result Guest Exception) → (run look first_walk).end ≡ o → Guarded (ws ++ (run look (onward (final base len a) o)).reads) (run look (onward (final base len a) o)).end
      go (Err f) e = record { entries = first_part.entries [] tt; answer = λ m e. never f m e }
      go (Ok g) e =
          let last = final_part g e in
          record {
            entries = first_part.entries (run look (final base len a g)).reads last.only;
            answer = λ m q. record {
              g = g;
              ends = record { earlier = ws; walk = (run look (final base len a g)).reads; split = refl; through = last.through m q };
              first = first_part.result g e;
            };
          }

-- ---- where a guest-page fault was met: at the guest entry that the first stage had come to, or at the access itself

module _ (look : Machine → Option ℕ) (base len : ℕ) (a : Access) (on : 0 < a.second.levels) (f : Exception) where
  abbrev Told : List Read → Type 0
  Told xs = GuestPageFault a.first a.kind a.address a.v xs f

  -- an access or page fault has another cause
  other : {P : Type 0} → Plain a f → 20 ≤ f.cause → P
  other (inl e) = not-high (access_fault a) f e (access-low a)
  other (inr e) = not-high (page_fault a) f e (page-low a)

  pub guest-page-fault : (run look (walk_of base len a)).end ≡ Err f → 20 ≤ f.cause → Told (run look (walk_of base len a)).reads
  unfolding walk_of run
  guest-page-fault = rw (run_bind look w (onward (final base len a))) (go (run look w).end refl)
    where
      w : Walk (Result Guest Exception)
      w = translation (first_of a)

      ws : List Read
      ws = (run look w).reads

      -- of one byte: every address is a multiple
      first-stage : First look base len a on 0 (omega arith) (omega arith) (run look w)
      first-stage = first_part look base len a on 0 (omega arith) (omega arith)

      entry : Plain a f ⊎ ((0 < a.first.levels) × Toward a (a.first.levels - 1) (a.first.ppn * 4096) ws f) → 20 ≤ f.cause → Told ws
      entry (inl p) c = other p c
      entry (inr (p, k)) c = rw k.same (record { guest = (entry_at a k.at k.t).0; denied = at_entry k.at k.t p k.way; cause = refl; value = refl; value2 = refl; flag = refl })

      itself : (g : Guest) → (run look w).end ≡ Ok g → (f ≡ access_fault a) ⊎ (f ≡ guest_page_fault a g) → 20 ≤ f.cause → Told (ws ++ (run look (final base len a g)).reads)
      itself g e (inl p) c = other (inl p) c
      itself g e (inr p) c =
          let only = (final_part look base len a on 0 (omega arith) (omega arith) g e).only in
          rw p (record { guest = g.0; denied = at_access ws (run look (final base len a g)).reads g refl only (first-stage.result g e); cause = refl; value = refl; value2 = refl; flag = refl })

      go : (o : Result Guest Exception) → (run look w).end ≡ o → (run look (onward (final base len a) o)).end ≡ Err f → 20 ≤ f.cause → Told (ws ++ (run look (onward (final base len a) o)).reads)
      go (Err x) e q = let k : x ≡ f = cc in rw append-nil (entry (first-stage.fault f (e ∙ ap Err k)))
      go (Ok g) e q = itself g e (final-fault (λ x. (x ≡ access_fault a) ⊎ (x ≡ guest_page_fault a g)) base len a (inl refl) g (λ p. inr refl) look f q)
