use mathlib.Core.Path.{◌≡◌}
use lib.ListN.{length}
use Rattle.registers.specs.Places.{kept}
use Rattle.registers.specs.File.{registers_pass}
use Rattle.registers.proofs.Straight.{straight}
use borrow.Author.Rules.{rules}
use Rattle.registers.proofs.file.pass.Goals as goal

pub returns : goal.returns
unfolding registers_pass
returns c =
    let regs = c.args.r in
    let n : length regs ≡ kept = search rules in
    rw (
      straight regs n,
      c.hypervisor_legal-h.ensures,
      c.machine_legal-m.ensures,
      c.status_legal-vsstatus.ensures,
      c.supervisor_legal-vs.ensures,
      c.supervisor_legal-s.ensures,
    )
