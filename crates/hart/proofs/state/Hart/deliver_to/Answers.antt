use Rattle.std.proofs.Common.{◌∙◌}
use Rattle.hart.proofs.state.Hart.deliver_to.Goals as goal

pub returns : goal.returns
returns c = c.on.ensures ∙ rw c.control.ensures at c.deliver_to-c.ensures
