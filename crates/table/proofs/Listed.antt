-- What a lookup finds is a row of the table. Assumes nothing.
use mathlib.Core.Path.{◌≡◌, sym, ap, ◌∙◌}
use Prim.Native.Nat.{ℕ, ◌<◌}
use native.Mathlib.Omega.{arith}
use lib.ListN.{get_or-map}
use Rattle.registers.specs.Views.{no_bits}
use Rattle.registers.specs.Registers.{count, register, registers, at}
use Rattle.table.specs.declared.Row.{Row}
use Rattle.std.specs.Prelude.{Some}
use Rattle.table.specs.Table.{row_of, table, first_at}
use Rattle.table.proofs.First.{found}

pub record Listed (n i : ℕ) (r : Row) : Type 0 where
  pub below : i < count
  pub row : r ≡ row_of (at i)
  pub number : (at i).number ≡ n

pub lookup-found : (n i : ℕ) (r : Row) → first_at table n 0 ≡ Some (i, r) → Listed n i r
lookup-found n i r e =
    let b = found table n 0 i r e in
    let o : b.offset ≡ i = omega (arith, b.counted) in
    let q : r ≡ row_of (at i) = sym b.here ∙ get_or-map row_of registers b.offset (register 0 0 no_bits) ∙ ap (λ (j : ℕ). row_of (at j)) o in
    record { below = omega (arith, b.within); row = q; number = ap (λ (x : Row). x.number) (sym q) ∙ b.bears }
