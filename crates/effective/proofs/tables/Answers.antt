use Rattle.bits.proofs.Fields.{get-lt}
use Rattle.registers.specs.Fields.{MODE}
use Rattle.effective.proofs.tables.Goals as goal

pub depth-requires : goal.depth-requires
depth-requires c = rw c.get.ensures (get-lt MODE _)
