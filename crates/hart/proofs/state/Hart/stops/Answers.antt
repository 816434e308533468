use Rattle.hart.proofs.state.Hart.stops.Goals as goal

pub returns : goal.returns
returns c = c.stops.ensures c.args.self c.passes.ensures
