use Rattle.std.proofs.Common.{◌≡◌, ◌+◌, ◌-◌, ◌<◌, ◌∙◌, ap, length, take, drop, arith, length-drop, length-take-le}
use Rattle.std.proofs.lemmas.List.{get_or-take, get_or-drop}
use Rattle.image.specs.Data.{little}
use Rattle.image.proofs.Bytes.{filled, little-lt}
use Rattle.image.proofs.data.join.Goals.{After-from_le_bytes}
use Rattle.image.proofs.data.join.Goals as goal

size : (c : After-from_le_bytes) → let a = c.args in length (take a.width (drop a.at a.s.now)) ≡ a.width
size c = let a = c.args in length-take-le a.width (drop a.at a.s.now) (rw length-drop (omega arith))

value : (c : After-from_le_bytes) → let a = c.args in c.from_le_bytes.result ≡ little (take a.width (drop a.at a.s.now))
value c =
    let a = c.args in
    let same : a.at + a.width - a.at ≡ a.width = omega arith in
    let new = rw same at c.copy_from_slice.ensures.after in
    c.from_le_bytes.ensures ∙ filled c.copy_from_slice.new.self a.width (ap length new ∙ size c) (omega arith) ∙ ap little new

pub returns-clause-value : goal.returns-clause-value
returns-clause-value c = value c

pub returns-clause-small : goal.returns-clause-small
returns-clause-small c =
    let a = c.args in
    let bytes = take a.width (drop a.at a.s.now) in
    let small = little-lt bytes (λ i l. let k : i < a.width = omega (arith, size c) in let b = c.type_inv.s (a.at + i) in rw (get_or-take, get_or-drop) (omega (arith, b))) in
    rw (value c) (rw (size c) at small)
