use Rattle.delivery.specs.declared.Target.TheVariants.{M, HS, VS}
use Rattle.interrupts.specs.Interrupts.{chosen}
use Rattle.interrupts.proofs.Sets.{Words, level-first, of_M, of_HS, of_VS}
use borrow.Author.Rules.{rules}
use Rattle.interrupts.proofs.choose.Goals as goal

pub returns : goal.returns
unfolding chosen
returns c =
    let a = c.args in
    let w : Words a.l = record { mip = search rules; mie = search rules; mideleg = search rules; hideleg = search rules } in
    rw (
      c.first_level.ensures,
      c.level-vs.ensures,
      c.level-hs.ensures,
      c.level-m.ensures,
      level-first a.c a.l M _ (of_M a.l w),
      level-first a.c a.l HS _ (of_HS a.l w),
      level-first a.c a.l VS _ (of_VS a.l w),
    )
