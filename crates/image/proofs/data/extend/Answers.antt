use Rattle.image.proofs.Bytes.{kept, grows}
use Rattle.image.proofs.data.extend.Goals as goal

pub returns-then-signed-sign : goal.returns-then-signed-sign
returns-then-signed-sign c = let a = c.args in let p = c.requires in (grows a.signed a.width a.x p.some p.few p.small c.if-signed-sign.true).value

pub returns : goal.returns
returns c = let a = c.args in let p = c.requires in kept a.signed a.width a.x p.some p.few p.small c.if-signed-sign.false
