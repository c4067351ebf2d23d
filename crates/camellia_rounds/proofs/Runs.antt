-- One layer more at the end, and the layers from the last to the first.
use Rattle.std.proofs.Common.{◌≡◌, ℕ, List, [], ◌∷◌, ◌++◌, map, reverse, sym, refl, ap, ◌∙◌}
use mathlib.Core.List.{map-append}
use Rattle.std.proofs.lemmas.List.{reverse-append}
use Rattle.camellia.specs.Rounds.{State, step, run, turned, backward}
use Rattle.camellia.specs.declared.plan.Layer.{Layer}
use Rattle.camellia.proofs.Undo.{run-++}

pub run-push : (ys : List (Layer ℕ)) (y : Layer ℕ) (s t u : State) → t ≡ run ys s → u ≡ step y t → u ≡ run (ys ++ y ∷ []) s
unfolding run
run-push ys y s t u at more = more ∙ ap (step y) at ∙ sym (run-++ ys (y ∷ []) s)

pub turned-reversed : (ys : List (Layer ℕ)) → map turned (reverse ys) ≡ backward ys
unfolding backward
turned-reversed [] = refl
turned-reversed (y ∷ ys) =
    ap (map turned) (reverse-append (y ∷ []) ys) ∙ map-append turned (reverse ys) (y ∷ [])
    ∙ ap (λ (zs : List (Layer ℕ)). zs ++ turned y ∷ []) (turned-reversed ys)
