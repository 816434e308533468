use mathlib.Core.Path.{◌≡◌}
use mathlib.Core.Logic.{inl, ⊎_elim}
use native.Mathlib.Omega.{arith}
use borrow.Author.Tests.{eq-eqb, ne_eqb}
use Rattle.rules.specs.Entry.{judged}
use Rattle.access.specs.Needs.{first_need}
use Rattle.stepper.specs.Position.{need_for, after}
use Rattle.stepper.proofs.Moves.{need_for_lem}
use Rattle.stepper.proofs.Sound.{placed}
use Rattle.stepper.proofs.position.Position.after.Goals.{After-judge-j, After-judge-j-2}
use Rattle.stepper.proofs.position.Position.after.Goals as goal

-- what the entry is to the first stage
first : (c : After-judge-j) → let a = c.args in c.judge-j.result ≡ judged (first_need a.a) a.self.first a.a.address a.e
first c = c.judge-j.ensures _ (rw c.first_need.ensures at c.test.ensures)

-- and to the second
second : (c : After-judge-j-2) → let a = c.args in c.judge-j-2.result ≡ judged (need_for a.a a.self.entry) a.self.second a.self.guest.0 a.e
second c =
    let a = c.args in
    c.judge-j-2.ensures _ (rw (c.left.ensures, need_for_lem a.a a.self.entry) at c.test-t.ensures)

pub judge-j-requires : goal.judge-j-requires
judge-j-requires c =
    let p = placed _ _ c.requires.placed in
    omega (arith, p.first (inl c.if-self-eq1.true), c.requires.tables.first)

pub after_first-requires : goal.after_first-requires
after_first-requires c =
    let p = placed _ _ c.requires.placed in
    record { tables = c.requires.tables; below = p.first (inl c.if-self-eq1.true); judgement = first (goal.at.after_first-requires c).After-judge-j }

pub returns-then-self-eq1 : goal.returns-then-self-eq1
unfolding after
returns-then-self-eq1 c = rw (c.after_first.ensures, first (goal.at.returns-then-self-eq1 c).After-judge-j, eq-eqb _ _ c.if-self-eq1.true)

pub judge-j-requires-2 : goal.judge-j-requires-2
judge-j-requires-2 c =
    let p = placed _ _ c.requires.placed in
    omega (arith, p.second (⊎_elim (λ e. absurd (c.if-self-eq1.false e)) (λ e. e) p.stage), c.requires.tables.second)

pub after_second-requires : goal.after_second-requires
after_second-requires c =
    let p = placed _ _ c.requires.placed in
    record { tables = c.requires.tables; below = p.second (⊎_elim (λ e. absurd (c.if-self-eq1.false e)) (λ e. e) p.stage); judgement = second (goal.at.after_second-requires c).After-judge-j-2 }

pub returns : goal.returns
unfolding after
returns c = rw (c.after_second.ensures, second (goal.at.returns c).After-judge-j-2, ne_eqb _ _ c.if-self-eq1.false)
