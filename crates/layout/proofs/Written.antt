-- Words written one after the other are the definition's. Assumes nothing.
use mathlib.Core.Path.{◌≡◌, refl}
use mathlib.Core.List.{List, ◌++◌, append-nil}
use Prim.Native.Nat.{ℕ, ◌+◌, ◌-◌, ◌≤◌}
use native.Mathlib.Omega.{arith}
use lib.ListN.{length, length-append, take, drop, length-drop, drop_of_length-le}
use lib.Seq.{take_at, drop_at, length-take-le, sets, sets-eq}
use borrow.Author.Tests.{eq-eqb}
use borrow.Rule.Slice.PartMut.{put_mid}
use Rattle.hart.specs.declared.state.Hart.{Hart}
use Rattle.layout.specs.Layout.{hart_size, words, said, hart_of}

-- words written past the first n, up to the end
pub past : (out rest : List ℕ) (n : ℕ) → length out ≡ n + length rest → drop n (sets out n rest) ≡ rest
past out rest n e =
    let h : n + length rest ≤ length out = omega arith in
    let end : length out ≤ n + length rest = omega arith in
    let start : n ≤ length out = omega arith in
    rw (sets-eq rest out n h, drop_of_length-le out end, append-nil) (drop_at (take n out) rest n (length-take-le n out start))

-- words written over all that stands behind others
pub over_rest : (p d z : List ℕ) (n : ℕ) → length p ≡ n → length d ≡ length z → sets (p ++ d) n z ≡ p ++ z
over_rest p d z n e l =
    let total : length (p ++ d) ≡ n + length z = simp length-append (omega (arith, e, l)) in
    rw (sets-eq z (p ++ d) n (omega (arith, total)), take_at p d n e, drop_of_length-le (p ++ d) {i = n + length z} (omega (arith, total)), append-nil)

-- words written as all that stands behind the first n
pub behind : (n : ℕ) (out rest : List ℕ) → put_mid n (length out - n) out rest ≡ take n out ++ rest
behind n out rest =
    let none : length (drop n out) ≤ length out - n = rw length-drop (omega arith) in
    rw (drop_of_length-le (drop n out) none, append-nil)

-- words of a hart's number say one
pub read : (ws : List ℕ) → length ws ≡ hart_size → hart_of ws ≡ said ws
unfolding hart_of
read ws e = rw (eq-eqb _ _ e)

-- ---- the layout loses nothing

pub hart_back : (h : Hart) → said (words h) ≡ h
hart_back h = refl
