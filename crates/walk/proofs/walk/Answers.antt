use mathlib.Core.Path.{refl, ap, ◌∙◌}
use lib.ListN.{length}
use Rattle.stages.specs.Tree.{run}
use Rattle.stages.specs.Stages.{look, walk_of}
use Rattle.engine.proofs.Places.{few}
use Rattle.stages.specs.Listed.{places}
use Rattle.walk.specs.Walked.{unpack}
use Rattle.walk.proofs.Packs.{handed}
use Rattle.walk.proofs.walk.Goals as goal

pub returns : goal.returns
returns c =
    let a = c.args in
    let i = c.new.result in
    let w = c.list-w in
    let R = run (look i.base i.bytes.now) (walk_of i.base (length i.bytes.now) a.a) in
    let room = few a.a i.base (length i.bytes.now) (look i.base i.bytes.now) c.requires.tables in
    let rs = c.pack.ensures ∙ ap unpack w.ensures.words ∙ handed _ places R.reads refl room in
    rw (← c.new.ensures.same_base, ← c.new.ensures.same_bytes) (rw (rs, w.ensures.count, w.ensures.end))
