use Rattle.std.proofs.Common.{subst}
use Rattle.law.specs.Store.{Sized}
use Rattle.play.proofs.Stage.{begun-new, both-played}
use Rattle.play.proofs.play_both.Goals as goal

pub returns : goal.returns
returns g c =
    let A = g.A.CardCalls in
    let B = g.B.CardCalls in
    let one = c.put_on-one.result in
    let other = c.put_on-other.result in
    let e = c.put_on-one.ensures in
    let f = c.put_on-other.ensures in
    both-played A.kind B.kind g.met.A.CardCalls.lawful g.met.B.CardCalls.lawful _ _ _ _ _ _
    (subst Sized e.store (g.met.A.CardCalls.sized one)) (subst Sized f.store (g.met.B.CardCalls.sized other)) _ _ _ _
    (begun-new A.kind _ _ _ _ _ _ _ e.card e.store c.play.ensures) (begun-new B.kind _ _ _ _ _ _ _ f.card f.store c.play-2.ensures)
