-- What hypervisor loads and stores do with the image's bytes. Assumes nothing.
use mathlib.Core.Path.{◌≡◌, refl, sym, ap, ◌∙◌}
use mathlib.Core.Bool.{Bool, true, false}
use mathlib.Core.List.{List}
use Prim.Native.Nat.{ℕ, ◌+◌, ◌-◌, ◌*◌, ◌/◌, ◌%◌, ◌^◌, ◌<◌, ◌≤◌}
use native.Mathlib.Omega.{arith}
use lib.Dec.{leb}
use lib.ListN.{length, get_or}
use Rattle.bits.specs.Field.{pick}
use Rattle.image.specs.Data.{little, bytes_at, extended, loaded, stored}
use Rattle.image.proofs.Tests.{within_facts}
use Rattle.image.proofs.Bytes.{sign_bit}
use Rattle.image.proofs.Memory.{Apart, stored-length, stored_apart, stored_byte, same_bytes}
use Rattle.access.proofs.Widths.{at_most_eight}
use Rattle.stages.specs.Stages.{look}
use Rattle.stages.specs.Through.{Agree}
use Rattle.hypervisor.specs.declared.Operation.{Operation}
use Rattle.hypervisor.specs.declared.Operation.TheVariants.{Hlv, Hlvx, Hsv}
use Rattle.hart.specs.declared.state.Hart.{Hart}
use Rattle.hart.specs.declared.guest.Reach.{Reach}
use Rattle.hart.specs.declared.guest.Performed.{Performed}
use Rattle.hart.specs.Event.{is_done}
use Rattle.hart.specs.Guest.{reach, performed, load, hlv, hlvx, hsv}
use Rattle.hart.proofs.Reached.{done-inside}
use Rattle.invariants.proofs.Reached.{listed, same-reach}

-- ---- what is answered: hart, outcome, list and count are those of `reach`, of which demand 3 speaks

pub record As (r : Reach) (p : Performed) : Type 0 where
  pub hart : p.hart ≡ r.hart
  pub outcome : p.outcome ≡ r.outcome
  pub reads : p.reads ≡ r.reads
  pub count : p.count ≡ r.count

module _ (h : Hart) (base : ℕ) (bytes : List ℕ) (width address word : ℕ) where
  pub hlv_as_reached : (signed : Bool) → As (reach h Hlv base bytes width address word) (hlv h base bytes width signed address word)
  unfolding load
  hlv_as_reached signed = record { hart = refl; outcome = refl; reads = refl; count = refl }

  pub hlvx_as_reached : As (reach h Hlvx base bytes width address word) (hlvx h base bytes width address word)
  unfolding load
  hlvx_as_reached = record { hart = refl; outcome = refl; reads = refl; count = refl }

  pub hsv_as_reached : (value : ℕ) → let p = (hsv h base bytes width address value word).0 in As (reach h Hsv base bytes width address word) p × (p.value ≡ 0)
  unfolding hsv
  hsv_as_reached value = (record { hart = refl; outcome = refl; reads = refl; count = refl }, refl)

  -- HLVX that is done answers its bytes, and so does an unsigned HLV
  pub hlvx_answers : let r = reach h Hlvx base bytes width address word in is_done r.outcome ≡ true → (hlvx h base bytes width address word).value ≡ little (bytes_at base bytes r.at width)
  unfolding load loaded
  hlvx_answers e = rw e

  pub hlv_answers : let r = reach h Hlv base bytes width address word in is_done r.outcome ≡ true → (hlv h base bytes width false address word).value ≡ little (bytes_at base bytes r.at width)
  unfolding load loaded
  hlv_answers e = rw e

  -- a signed one answers them if they are below 2 ^ (8 width - 1), else what is 2 ^ 64 - 2 ^ (8 width) more
  pub signed_answers : let r = reach h Hlv base bytes width address word in let x = little (bytes_at base bytes r.at width) in
      is_done r.outcome ≡ true → x < 2 ^ (8 * width) → (hlv h base bytes width true address word).value ≡ pick (leb (2 ^ (8 * width - 1)) x) (x + (2 ^ 64 - 2 ^ (8 * width))) x
  unfolding load loaded
  signed_answers e l =
      let k = at_most_eight width (done-inside h Hlv base bytes width address word e).0 in
      rw (e, sign_bit width _ k.0 k.1 l)

-- ---- loads

module _ (h : Hart) (o : Operation) (base : ℕ) (width : ℕ) (signed : Bool) (address word : ℕ) where
  -- "a trap or refusal answers 0"
  pub answers_zero : (bytes : List ℕ) → let p = load h o base bytes width signed address word in is_done p.outcome ≡ false → p.value ≡ 0
  unfolding load
  answers_zero bytes e = rw e

  -- two images of one base and length that agree on the entries listed for one of them and on the bytes loaded: all is the same
  pub same_load : (s s' : List ℕ) → length s ≡ length s' → let r = reach h o base s width address word in Agree (look base s) (look base s') (listed r)
      → (is_done r.outcome ≡ true → (i : ℕ) → i < width → get_or s (r.at - base + i) 0 ≡ get_or s' (r.at - base + i) 0)
      → load h o base s' width signed address word ≡ load h o base s width signed address word
  unfolding load loaded
  same_load s s' e agree bytes = rw (same-reach h o base s s' width address word e agree) (go (is_done r.outcome) refl)
    where
      r : Reach
      r = reach h o base s width address word

      value : List ℕ → ℕ
      value t = extended signed width (little (bytes_at base t r.at width))

      go : (b : Bool) → is_done r.outcome ≡ b → performed r (pick b (value s') 0) ≡ performed r (pick b (value s) 0)
      go false d = refl
      go true d =
          let f = within_facts base (length s) r.at width (done-inside h o base s width address word d).1 in
          let same = same_bytes s s' (r.at - base) width (omega (arith, f.0, f.1)) (omega (arith, f.0, f.1, e)) (bytes d) in
          ap (λ (xs : List ℕ). performed r (extended signed width (little xs))) (sym same)

-- ---- stores

module _ (h : Hart) (base : ℕ) (bytes : List ℕ) (width address value word : ℕ) where
  abbrev r : Reach
  r = reach h Hsv base bytes width address word

  abbrev p : Performed
  p = (hsv h base bytes width address value word).0

  -- the image after it
  abbrev after : List ℕ
  after = (hsv h base bytes width address value word).1

  by-done : (b : Bool) → is_done r.outcome ≡ b → after ≡ pick b (stored base bytes r.at width value) bytes
  unfolding hsv
  by-done b e = rw e

  -- "nothing on any fault", nor where it is refused
  pub nothing_stored : is_done p.outcome ≡ false → after ≡ bytes
  unfolding hsv
  nothing_stored e = by-done false e

  pub same_length : length after ≡ length bytes
  same_length = go (is_done r.outcome) refl
    where
      go : (b : Bool) → is_done r.outcome ≡ b → length after ≡ length bytes
      go true e = ap length (by-done true e) ∙ stored-length base bytes r.at width value
      go false e = ap length (by-done false e)

  -- "exactly its own bytes": none outside [address, address + width), the machine address where it was done
  pub none-outside : (k : ℕ) → Apart (r.at - base) width k → get_or after k 0 ≡ get_or bytes k 0
  none-outside k a = go (is_done r.outcome) refl
    where
      go : (b : Bool) → is_done r.outcome ≡ b → get_or after k 0 ≡ get_or bytes k 0
      go true e = ap (λ (s : List ℕ). get_or s k 0) (by-done true e) ∙ stored_apart base bytes r.at width value k a
      go false e = ap (λ (s : List ℕ). get_or s k 0) (by-done false e)

  module _ (d : is_done r.outcome ≡ true) where
    inside : (base ≤ r.at) × (r.at + width ≤ base + length bytes)
    inside = within_facts base (length bytes) r.at width (done-inside h Hsv base bytes width address word d).1

    fits : r.at - base + width ≤ length bytes
    fits = omega (arith, inside.0, inside.1)

    -- and those are the value's: byte i is its bits from 8 i up
    pub the_value's : (i : ℕ) → i < width → get_or after (r.at - base + i) 0 ≡ value / 2 ^ (8 * i) % 256
    the_value's i l = ap (λ (s : List ℕ). get_or s (r.at - base + i) 0) (by-done true d) ∙ stored_byte base bytes r.at width value fits i l
