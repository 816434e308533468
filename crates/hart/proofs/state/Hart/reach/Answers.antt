use Rattle.std.proofs.Common.{sym, ◌∙◌}
use Rattle.hart.proofs.Reached.{goes_own, goes-reach, halts_reach}
use Rattle.hart.proofs.state.Hart.reach.Goals as goal

pub walk-requires : goal.walk-requires
walk-requires c =
    let own = c.check-own in
    let h = c.args.self in
    sym own.ensures ∙ goes_own h own.result c.hypervisor_access.result c.in-Ok.ensures

pub returns-in-Ok : goal.returns-in-Ok
returns-in-Ok c =
    let a = c.args in
    let here = c.context-c.ensures in
    let stop = rw (c.check-own.ensures, c.hypervisor_access.ensures, here) at c.in-Ok.ensures in
    let walk = rw (c.paging.ensures, here) at c.walk.ensures in
    c.arrive.ensures ∙ goes-reach a.self a.o a.base a.bytes.now a.width a.address a.word stop walk

pub returns-in-Err : goal.returns-in-Err
returns-in-Err c =
    let a = c.args in
    let here = c.context-c.ensures in
    let stop = rw (c.check-own.ensures, c.hypervisor_access.ensures, here) at c.in-Err.ensures in
    rw (c.unwalked.ensures, c.halt.ensures) (halts_reach a.self a.o a.base a.bytes.now a.width a.address a.word stop)
