use mathlib.Core.Path.{◌≡◌, sym, ◌∙◌}
use mathlib.Core.Bool.{true}
use Rattle.image.specs.Image.{within}
use Rattle.stages.specs.Stages.{last}
use Rattle.engine.proofs.conclude.Goals as goal

pub returns-then-inside : goal.returns-then-inside
unfolding last
returns-then-inside c =
    let x = c.args in
    let whole : within x.base x.len x.m.0 x.a.width ≡ true = sym c.inside.ensures ∙ c.if-inside.true in
    simp whole

pub returns : goal.returns
unfolding last
returns c = simp (sym c.inside.ensures ∙ c.if-inside.false, c.access_fault.ensures)
