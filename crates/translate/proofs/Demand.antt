-- Demand 3 of every translation, for every hart, image and access: refused, misaligned or walked. Assumes nothing.
use Rattle.std.specs.Prelude.{Result, Ok, Err}
use mathlib.Core.Path.{◌≡◌, refl, sym, ap, subst, ◌∙◌}
use mathlib.Core.Bool.{Bool, true, false}
use mathlib.Core.List.{List, [], ◌∷◌, ◌++◌}
use Prim.Native.Nat.{ℕ, ◌-◌, ◌*◌, ◌<◌, ◌≤◌, zero-le}
use native.Mathlib.Nat.{mul-one, one-mul}
use native.Mathlib.Omega.{arith}
use lib.ListN.{length, take, drop}
use lib.Seq.{take-append_seam, drop-append_seam}
use Rattle.exceptions.specs.declared.Exception.{Exception}
use Rattle.bits.specs.Field.{pick, get}
use Rattle.bits.proofs.Bools.{clash}
use Rattle.registers.specs.Fields.{MXR, MODE}
use Rattle.registers.specs.Places.{vsatp, hgatp, mstatus}
use Rattle.privilege.specs.Mode.{is_set}
use Rattle.exceptions.specs.declared.Refusal.{Refusal}
use Rattle.exceptions.specs.Refusal.{number}
use Rattle.hart.specs.declared.state.Hart.{Hart}
use Rattle.hart.specs.Hart.{reg, context, passes}
use Rattle.image.specs.Image.{unfit}
use Rattle.rules.specs.declared.Kind.{Kind}
use Rattle.rules.specs.declared.Right.{Right}
use Rattle.rules.specs.Kind.{by}
use Rattle.access.specs.declared.Access.{Access}
use Rattle.access.specs.declared.Machine.{Machine}
use Rattle.access.specs.declared.Root.{Root}
use Rattle.access.specs.Widths.{misaligned}
use Rattle.access.specs.Faults.{misalignment}
use Rattle.stages.specs.declared.Read.{Read}
use Rattle.stages.specs.Tree.{Ran, run}
use Rattle.stages.specs.Stages.{look, walk_of}
use Rattle.stages.specs.Listed.{places, most, unused}
use Rattle.stages.specs.Through.{Agree, Shown, own_right, GuestEntry, AnsweredThrough}
use Rattle.stages.proofs.Bounds.{most-places, at_most}
use Rattle.stages.proofs.Images.{same-walk, shown-run}
use Rattle.stages.proofs.Guarded.{guarded}
use Rattle.translate.specs.declared.Answer.{Answer}
use Rattle.translate.specs.declared.Translated.{Translated}
use Rattle.effective.specs.Effective.{effective, depth, root}
use Rattle.translate.specs.Translated.{unsupported, refusals, first_refusal, refusal_number, refusal, unless_refused, access_of, start_of, answer, unwalked, walked_to, concluded, translated}
use Rattle.translate.specs.On.{first_on, second_on, first_depth, second_depth}
use Rattle.translate.proofs.Accesses.{tables-of}
use Rattle.translate.proofs.On.{first-depth, second-depth, first_off, second-off, first-tables, second-tables, second-levels}
use Rattle.translate.proofs.Cases.{ran_of, AtOnce, refused, misaligned-by, each}

-- the items listed: the places up to the count
abbrev pub listed : Translated → List Read
listed t = take t.count t.reads

pub listed-walk : (h : Hart) (r : Ran (Result Machine Exception)) → listed (walked_to h r) ≡ r.reads
listed-walk h r = take-append_seam r.reads (unused (places - length r.reads))

-- no item is of the empty list
pub not_empty : {P : Type 0} (earlier : List Read) (x : Read) (later : List Read) → ◌≡◌ {A = List Read} [] (earlier ++ (x ∷ later)) → P
not_empty [] x later e = clash (cc)
not_empty (y ∷ ys) x later e = clash (cc)

address-yielded : (o : Result Machine Exception) (m : Machine) → answer o ≡ Answer.Address m → o ≡ Ok m
address-yielded (Ok x) m e = let q : x ≡ m = cc in ap Ok q
address-yielded (Err f) m e = clash (cc)

walk_accepted : (o : Result Machine Exception) → refusal (answer o) ≡ 0
walk_accepted (Ok m) = refl
walk_accepted (Err f) = refl

-- 0 is no refusal's number
numbered : {P : Type 0} (r : Refusal) → number r ≡ 0 → P
numbered Refusal.Image e = absurd (omega arith)
numbered Refusal.Hart e = absurd (omega arith)
numbered Refusal.Access e = absurd (omega arith)
numbered Refusal.Request e = absurd (omega arith)
numbered Refusal.Register e = absurd (omega arith)
numbered Refusal.Place e = absurd (omega arith)

module _ (h : Hart) (base : ℕ) (bytes : List ℕ) (kind : Kind) (address width : ℕ) where
  abbrev a : Access
  a = access_of h kind address width

  abbrev ran : Ran (Result Machine Exception)
  ran = ran_of h base bytes kind address width

  abbrev t : Translated
  t = translated h base bytes kind address width

  -- ---- answer and list are those of the walk

  pub is_walk : passes h ≡ true → unfit base (length bytes) ≡ false → unsupported kind address width ≡ false → misaligned kind address width ≡ false → t ≡ walked_to h ran
  unfolding translated start_of
  is_walk p q r s = rw (p, q, r, s)

  -- the hart is handed back as it was
  pub same_hart : t.hart ≡ h
  same_hart = each h base bytes kind address width (λ (x : Translated). x.hart ≡ h) (λ x e. refl) (λ p k. refl)

  -- a refusal is given exactly by the list of refusals
  pub refused-by : refusal t.answer ≡ refusal_number (first_refusal (refusals h base (length bytes) kind address width))
  unfolding translated start_of
  refused-by = go (first_refusal (refusals h base (length bytes) kind address width)) (misaligned kind address width)
    where
      go : (r : Result (Unit {0}) Refusal) (b : Bool) → refusal (concluded h base bytes (unless_refused r (pick b (Err (Answer.Fault (misalignment a))) (Ok a)))).answer ≡ refusal_number r
      go (Err r) b = refl
      go (Ok x) true = refl
      go (Ok x) false = walk_accepted ran.end

  -- a refusal leaves the hart as given and the list empty
  pub refusal_empty : 0 < refusal t.answer → (r : Refusal) × (t ≡ unwalked h (Answer.Refused r))
  refusal_empty = each h base bytes kind address width (λ (x : Translated). 0 < refusal x.answer → (r : Refusal) × (x ≡ unwalked h (Answer.Refused r))) (λ x e q. go x q) (λ p k q. absurd (omega (arith, q, walk_accepted ran.end)))
    where
      go : (x : Answer) → 0 < refusal x → (r : Refusal) × (unwalked h x ≡ unwalked h (Answer.Refused r))
      go (Answer.Address m) q = absurd (omega (arith, q))
      go (Answer.Refused r) q = (r, refl)
      go (Answer.Fault f) q = absurd (omega (arith, q))

  -- an accepted translation leaves a hart that passes check 2
  pub accepted_passes : refusal t.answer ≡ 0 → passes t.hart ≡ true
  accepted_passes = each h base bytes kind address width (λ (x : Translated). refusal x.answer ≡ 0 → passes x.hart ≡ true) at_once (λ p k q. p)
    where
      at_once : (x : Answer) → AtOnce h base bytes kind address width x → refusal x ≡ 0 → passes h ≡ true
      at_once x (refused r) q = numbered r q
      at_once x (misaligned-by p) q = p

  -- "n levels over m levels read at most (n+1)(m+1)-1 entries": as deep as the registers that the access walks say, 0 where it walks none or Bare
  pub count_bound : t.count ≤ most (first_depth h kind) (second_depth h kind)
  count_bound =
      rw (first-depth h kind address width, second-depth h kind address width) at
      (each h base bytes kind address width (λ (x : Translated). x.count ≤ most a.first.levels a.second.levels) (λ x e. zero-le) (λ p k. at_most a base (length bytes) (look base bytes)))

  -- vsatp's tables over hgatp's
  pub both_stages : (effective (context h) kind).v ≡ true → t.count ≤ most (depth (get MODE (reg h vsatp))) (depth (get MODE (reg h hgatp)))
  both_stages v = rw v at count_bound

  pub first_alone : second_on h kind ≡ false → t.count ≤ first_depth h kind
  first_alone off = omega (arith, rw (second-off h kind address width off, mul-one) at count_bound)

  pub second_alone : first_on h kind ≡ false → t.count ≤ second_depth h kind
  second_alone off = omega (arith, rw (first_off h kind address width off, one-mul) at count_bound)

  pub no_stage : first_on h kind ≡ false → second_on h kind ≡ false → t.count ≡ 0
  no_stage off off' = omega (arith, rw (first_off h kind address width off, second-off h kind address width off') at count_bound)

  -- the list has a place for each
  pub in_places : t.count ≤ places
  in_places =
      let k = tables-of h kind address width in
      omega (arith, rw (first-depth h kind address width, second-depth h kind address width) at (most-places _ _ k.first k.second), count_bound)

  -- the places beyond the count are zero
  pub beyond_count : drop t.count t.reads ≡ unused (places - t.count)
  beyond_count = each h base bytes kind address width (λ (x : Translated). drop x.count x.reads ≡ unused (places - x.count)) (λ x e. refl) (λ p k. drop-append_seam ran.reads (unused (places - length ran.reads)))

  -- each item listed is what the image has at its address
  pub shown : Shown (look base bytes) (listed t)
  shown = each h base bytes kind address width (λ (x : Translated). Shown (look base bytes) (listed x)) (λ x e. tt) (λ p k. rw (listed-walk h ran) (shown-run (look base bytes) (walk_of base (length bytes) a)))

  -- ---- with the second stage on

  module _ (on : second_on h kind ≡ true) where
    -- vsatp's tables and hgatp's
    abbrev vs : Root
    vs = root (reg h vsatp)

    abbrev g : Root
    g = root (reg h hgatp)

    -- the access's own right, with mstatus's MXR
    abbrev own : ℕ → Bool
    own = own_right (by kind Right.Execute Right.Read Right.Write) (is_set MXR (reg h mstatus))

    -- Each guest entry listed is the one that the first stage's pointers before it lead to; its eight bytes lie on a page that a second-stage walk
    -- standing directly before it let its guest address through to, with R and U.
    pub guest_entries : (earlier : List Read) (x : Read) (later : List Read) → listed t ≡ earlier ++ (x ∷ later) → x.stage ≡ 1
        → GuestEntry vs g address (vs.levels - 1) (vs.ppn * 4096) earlier x
    unfolding access_of
    guest_entries earlier x later e one =
        subst (λ (r : Root). GuestEntry vs r address (vs.levels - 1) (vs.ppn * 4096) earlier x) (second-tables h kind address width on)
        (subst (λ (r : Root). GuestEntry r a.second address (r.levels - 1) (r.ppn * 4096) earlier x) (first-tables h kind address width on)
        (each h base bytes kind address width (λ (r : Translated). listed r ≡ earlier ++ (x ∷ later) → GuestEntry a.first a.second address (a.first.levels - 1) (a.first.ppn * 4096) earlier x) (λ y u q. not_empty earlier x later q)
        (λ p k q. (guarded (look base bytes) base (length bytes) a (second-levels h kind address width on) k.k k.small k.multiple).entries earlier x later one (sym (listed-walk h ran) ∙ q)) e))

    -- The bytes of the access at an address answered lie on a page that the second-stage walk ending the list let through, for the first stage's result, with
    -- the access's own right and U.
    pub answer_let_through : (m : Machine) → t.answer ≡ Answer.Address m → AnsweredThrough vs g own address (listed t) m width
    unfolding access_of
    answer_let_through m e =
        subst (λ (r : Root). AnsweredThrough vs r own address (listed t) m width) (second-tables h kind address width on)
        (subst (λ (r : Root). AnsweredThrough r a.second own address (listed t) m width) (first-tables h kind address width on)
        (each h base bytes kind address width (λ (r : Translated). r.answer ≡ Answer.Address m → AnsweredThrough a.first a.second own address (listed r) m width) at_once
        (λ p k q. rw (listed-walk h ran)
        (subst (λ (n : ℕ). AnsweredThrough a.first a.second own address ran.reads m n) (sym k.size)
        ((guarded (look base bytes) base (length bytes) a (second-levels h kind address width on) k.k k.small k.multiple).answer m (address-yielded ran.end m q)))) e))
      where
        at_once : (x : Answer) → AtOnce h base bytes kind address width x → x ≡ Answer.Address m → AnsweredThrough a.first a.second own address (listed (unwalked h x)) m width
        at_once x (refused n) q = clash (cc)
        at_once x (misaligned-by p) q = clash (cc)

-- two images of one base and length that agree on the entries listed for one of them give the same answer and list
pub same_image : (h : Hart) (base : ℕ) (s s' : List ℕ) (kind : Kind) (address width : ℕ) → length s ≡ length s'
    → Agree (look base s) (look base s') (listed (translated h base s kind address width)) → translated h base s' kind address width ≡ translated h base s kind address width
unfolding translated
same_image h base s s' kind address width e = rw (← e) (go (start_of h base (length s) kind address width))
  where
    go : (x : Result Access Answer) → Agree (look base s) (look base s') (listed (concluded h base s x)) → concluded h base s' x ≡ concluded h base s x
    go (Err x) g = refl
    go (Ok a) g = rw (← e) (ap (walked_to h) (same-walk base s s' e (walk_of base (length s) a) (rw (listed-walk h (run (look base s) (walk_of base (length s) a))) at g)))
