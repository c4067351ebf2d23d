use Rattle.std.proofs.Common.{◌≡◌, refl, sym, ap, ◌∙◌, subst}
use Rattle.std.proofs.lemmas.List.{map-id}
use Rattle.std.proofs.iter.Yields.{gives_Drains}
use Rattle.std.specs.Iterator.{Yields}
use Rattle.camellia.specs.Rounds.{run, swapped, whitened}
use Rattle.camellia.specs.Cipher.{encrypt}
use Rattle.camellia_rounds.proofs.Runs.{run-push}
use Rattle.camellia_rounds.proofs.rounds.Halves.enciphered.Goals as goal

pub loop-layer-init : goal.loop-layer-init
unfolding run
loop-layer-init g c = refl

pub loop-layer-preserved : goal.loop-layer-preserved
loop-layer-preserved g c = run-push c.loop-layer.yielded c.in-Some.layer _ _ _ c.loop-layer.invariant c.step-s.ensures

pub returns : goal.returns
unfolding encrypt
returns g c ys from =
    let next = g.I.Iterator.next_gives in
    let xs = c.loop-layer.yielded in
    let t = c.loop-layer.layer-iterator in
    let by = subst (λ s. Yields next s xs t) c.into_iter-layer-iterator.ensures.into_iter_gives c.loop-layer.yielded_by in
    let all : xs ≡ ys =
    sym (map-id xs) ∙ gives_Drains next (λ y. y) xs ys c.args.layers from.runs (c.next.new.self, (t, by, c.in-None.ensures.steps)) in
    c.whitened.ensures
    ∙ ap (whitened c.args.kw.kw3 c.args.kw.kw4) (c.swapped.ensures ∙ ap swapped (c.loop-layer.invariant ∙ (λ i. run (all i) (c.whitened-s.ensures i))))
