use mathlib.Core.Path.{sym, refl, ◌∙◌}
use mathlib.Core.List.{◌++◌, append_assoc}
use Prim.Native.Nat.{◌+◌}
use native.Mathlib.Omega.{arith}
use lib.ListN.{drop}
use lib.Seq.{length-take-le, length_front, take_at}
use borrow.Author.Tests.{eq-eqb}
use Rattle.std.proofs.lemmas.Grind.{take-set_at}
use Rattle.layout.specs.Layout.{access_size, access_words, performed_words}
use Rattle.layout.proofs.Written.{behind}
use Rattle.layout.proofs.guest.PerformedWords.write_to.Goals as goal

pub slice_bounds-write_access-end-then-out-eq-PERFORMED : goal.slice_bounds-write_access-end-then-out-eq-PERFORMED
slice_bounds-write_access-end-then-out-eq-PERFORMED c = sym (length-take-le access_size c.args.out.now (omega arith))

pub write_access-requires : goal.write_access-requires
write_access-requires c = length-take-le access_size c.args.out.now (omega arith)

pub returns-then-out-eq-PERFORMED : goal.returns-then-out-eq-PERFORMED
unfolding performed_words access_words
returns-then-out-eq-PERFORMED c =
    let p = c.args.self.now in
    let out = c.args.out.now in
    let first = c.write_access.new.out in
    let same = c.write_access.auto.out in
    rw (
      eq-eqb _ _ c.if-out-eq-PERFORMED.true,
      behind,
      take-set_at (first ++ drop access_size out) access_size (access_size + 1) p.count refl (omega (arith, length_front out first access_size same)),
      take_at first (drop access_size out) access_size (same ∙ length-take-le access_size out (omega arith)),
      c.write_access.ensures,
      c.put_reads.ensures,
      append_assoc,
    )
