use Rattle.std.proofs.Common.{ℕ, ◌+◌, ◌≡◌, ◌++◌, map, set, take, drop, get_or, ap, ◌∙◌, ap₂, rules}
use Rattle.std.proofs.lemmas.List.Edits.{map_over_more}
use Rattle.std.proofs.lemmas.List.{take_all, drop_all}
use Rattle.camellia.specs.Functions.{FL, FLINV}
use mathlib.Core.List.{map-map}
use Rattle.camellia.specs.Rounds.{State, st, run}
use Rattle.camellia_long.specs.Wide.{states}
use Rattle.camellia_long.proofs.Each.{of_left, of_right}
use Rattle.camellia_long.proofs.blocks.Blocks.fl.Goals as goal

pub loop-x-preserved : goal.loop-x-preserved
loop-x-preserved g c =
    let xs = c.args.self.now.left in
    let ys = c.loop-x.x-items in
    let i = c.loop-x.x-index in
    let f : ℕ → ℕ = λ x. FL x c.args.k.left in
    let e : set ys i (f (get_or ys i 0)) ≡ map f (take (i + 1) xs) ++ drop (i + 1) xs = search (rules, map_over_more f) in
    ap (set ys i) c.fl.ensures ∙ e

pub loop-y-preserved : goal.loop-y-preserved
loop-y-preserved g c =
    let xs = c.args.self.now.right in
    let ys = c.loop-y.y-items in
    let i = c.loop-y.y-index in
    let f : ℕ → ℕ = λ y. FLINV y c.args.k.right in
    let e : set ys i (f (get_or ys i 0)) ≡ map f (take (i + 1) xs) ++ drop (i + 1) xs = search (rules, map_over_more f) in
    ap (set ys i) c.fl_inverse.ensures ∙ e

pub returns : goal.returns
unfolding run
returns g c =
    let b = c.args.self.now in
    let left : c.loop-x.x-items ≡ map (λ x. FL x c.args.k.left) b.left = search (rules, take_all, drop_all) in
    let right : c.loop-y.y-items ≡ map (λ y. FLINV y c.args.k.right) b.right = search (rules, take_all, drop_all) in
    let ys = map (λ y. FLINV y c.args.k.right) b.right in
    ap₂ states left right ∙ of_left (λ x. FL x c.args.k.left) b.left ys
    ∙ ap (map (λ (s : State). st (FL s.left c.args.k.left) s.right)) (of_right (λ y. FLINV y c.args.k.right) b.left b.right)
    ∙ map-map _ _ (states b.left b.right)
