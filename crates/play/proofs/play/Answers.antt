use Rattle.std.proofs.Common.{ℕ, ◌<◌, ◌≢◌, List, Some, length, get_or, refl, sym, subst, ◌∙◌, get_or-set_other, arith}
use Rattle.law.specs.Calls.{Answer}
use Rattle.calls.specs.Replies.{answer_by}
use Rattle.calls.specs.Turns.{buffer_in}
use Rattle.calls.specs.declared.Turn.{Turn}
use Rattle.play.proofs.Stage.{Took, stage_next}
use Rattle.play.proofs.play.Goals as goal

pub loop-turn-preserved : goal.loop-turn-preserved
loop-turn-preserved g c =
    let C = g.C.CardCalls in
    let ys : List Turn = c.loop-turn.turns in
    let i : ℕ = c.loop-turn.turn-index in
    let x : Turn = c.turn-item.result in
    let t : Turn = record { request = c.call.new.request; reply = Some c.call.result } in
    let a : Answer = answer_by c.call.result (buffer_in c.call.new.request) in
    let in-xs = c.loop-turn-test.true in
    let in-ys : i < length ys = subst (λ n. i < n) (sym c.loop-turn.auto.turns) in-xs in
    let k = C.card c.loop-turn.card in
    let k' = C.card c.call.new.self in
    let s = C.store c.loop-turn.card in
    let s' = C.store c.call.new.self in
    let was = c.loop-turn.invariant in
    let took : Took C.kind k k' s s' (get_or ys i x) t a =
    record { given = c.call.ensures.given; came = c.call.ensures.came; answer = refl; left = c.call.ensures.left } in
    record {
      played =
          stage_next C.kind (C.card c.args.card.now) k k' (C.store c.args.card.now) s s' _ ys i x t a in-xs in-ys was.played
          (subst (λ y. Took C.kind k k' s s' y t a) (was.waiting i x (omega arith)) took);
      waiting = λ j d h. let ne : j ≢ i = omega arith in get_or-set_other ys i j t d ne ∙ was.waiting j d (omega arith);
    }
