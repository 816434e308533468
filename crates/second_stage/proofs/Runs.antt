-- A walk's run into words. Assumes nothing.
use Rattle.std.specs.Prelude.{Option, Some, None}
use mathlib.Core.Path.{◌≡◌, refl, sym, ap, ◌∙◌}
use mathlib.Core.List.{List, [], ◌∷◌}
use Prim.Native.Nat.{ℕ, zero, suc, ◌+◌, ◌*◌, ◌≤◌}
use native.Mathlib.Omega.{arith}
use lib.ListN.{length}
use lib.Seq.{sets, length-sets}
use Rattle.access.specs.declared.Machine.{Machine}
use Rattle.stages.specs.Tree.{Walk, done, ask, bind, item, Ran, listed, found, run}
use Rattle.stages.proofs.Bounds.{Within}
use Rattle.stages.specs.Listed.{read_words}
use Rattle.second_stage.specs.Words.{Into, onto, stored, into}

-- two walks in turn: the second's words stand behind the first's
abbrev continued : {A B : Type 0} → (Machine → Option ℕ) → (A → Walk B) → Into A → Into B
continued look f i = into look (f i.end) i.words i.next

pub into-bind : {A B : Type 0} (look : Machine → Option ℕ) (w : Walk A) (f : A → Walk B) (ws : List ℕ) (n : ℕ)
    → into look (bind w f) ws n ≡ into look (f (into look w ws n).end) (into look w ws n).words (into look w ws n).next
unfolding into bind
into-bind look (done x) f ws n = refl
into-bind {A} {B} look (ask s l m outside k) f ws n =
    go (look m) (into-bind look outside f ws n) (λ v. into-bind look (k v) f (stored ws n s l m.0 v) (n + 4))
  where
    go : (e : Option ℕ) → into look (bind outside f) ws n ≡ continued look f (into look outside ws n)
        → ((v : ℕ) → into look (bind (k v) f) (stored ws n s l m.0 v) (n + 4) ≡ continued look f (into look (k v) (stored ws n s l m.0 v) (n + 4)))
        → found e (into look (bind outside f) ws n) (λ v. into look (bind (k v) f) (stored ws n s l m.0 v) (n + 4))
        ≡ continued look f (found e (into look outside ws n) (λ v. into look (k v) (stored ws n s l m.0 v) (n + 4)))
    go None io ik = io
    go (Some v) io ik = ik v

-- what is the same so far goes on the same
pub into_then : {A B : Type 0} (look : Machine → Option ℕ) (f : A → Walk B) (w w' : Walk A) (ws ws' : List ℕ) (n n' : ℕ) → into look w ws n ≡ into look w' ws' n'
    → into look (bind w f) ws n ≡ into look (bind w' f) ws' n'
into_then look f w w' ws ws' n n' e = into-bind look w f ws n ∙ ap (continued look f) e ∙ sym (into-bind look w' f ws' n')

-- a walk that reads at most k entries: the place after them, and the slice's length
abbrev Room : {A : Type 0} → Into A → ℕ → List ℕ → Type 0
Room i n ws = (i.next ≤ n) × (length i.words ≡ length ws)

pub into_room : {A : Type 0} (look : Machine → Option ℕ) (w : Walk A) (k : ℕ) → Within w k → (ws : List ℕ) (n : ℕ)
    → ((into look w ws n).next ≤ n + 4 * k) × (length (into look w ws n).words ≡ length ws)
unfolding into
into_room look (done x) k h ws n = (omega arith, refl)
into_room look (ask s l m outside next) zero h ws n = absurd h
into_room {A} look (ask s l m outside next) (suc k) h ws n =
    go (look m) (into_room look outside (suc k) h.0 ws n) (λ v. into_room look (next v) k (h.1 v) (stored ws n s l m.0 v) (n + 4))
  where
    go : (e : Option ℕ) → Room (into look outside ws n) (n + 4 * suc k) ws
        → ((v : ℕ) → Room (into look (next v) (stored ws n s l m.0 v) (n + 4)) (n + 4 + 4 * k) (stored ws n s l m.0 v))
        → Room (found e (into look outside ws n) (λ v. into look (next v) (stored ws n s l m.0 v) (n + 4))) (n + 4 * suc k) ws
    go None io ik = io
    go (Some v) io ik = (omega (arith, (ik v).0), (ik v).1 ∙ length-sets ws n (s ∷ l ∷ m.0 ∷ v ∷ []))

-- the run's list, as words from a place on
abbrev pub written : {A : Type 0} → Ran A → List ℕ → ℕ → Into A
written r ws n = onto (sets ws n (read_words r.reads)) (n + 4 * length r.reads) r.end

pub into-run : {A : Type 0} (look : Machine → Option ℕ) (w : Walk A) (ws : List ℕ) (n : ℕ) → into look w ws n ≡ written (run look w) ws n
unfolding into run
into-run look (done x) ws n = let e : n + 4 * 0 ≡ n = omega arith in rw e
into-run {A} look (ask s l m outside k) ws n = go (look m) (into-run look outside ws n) (λ v. into-run look (k v) (stored ws n s l m.0 v) (n + 4))
  where
    go : (e : Option ℕ) → into look outside ws n ≡ written (run look outside) ws n
        → ((v : ℕ) → into look (k v) (stored ws n s l m.0 v) (n + 4) ≡ written (run look (k v)) (stored ws n s l m.0 v) (n + 4))
        → found e (into look outside ws n) (λ v. into look (k v) (stored ws n s l m.0 v) (n + 4))
        ≡ written (found e (run look outside) (λ v. listed (item s l m v) (run look (k v)))) ws n
    go None io ik = io
    go (Some v) io ik =
        let q : n + 4 + 4 * length (run look (k v)).reads ≡ n + 4 * suc (length (run look (k v)).reads) = omega arith in
        let p : n + 4 ≡ suc (suc (suc (suc n))) = omega arith in
        ik v ∙ rw (q, p)
