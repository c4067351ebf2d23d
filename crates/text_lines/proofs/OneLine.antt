-- A line is a line in one way.
use Rattle.std.proofs.Common.{◌≡◌, ℕ, ◌≢◌, List, [], ◌∷◌, ◌++◌, length, take, drop, sym, refl, ap, ◌∙◌}
use Rattle.std.specs.List.{AllByRecursion}
use Rattle.std.proofs.lemmas.List.{append_cancel_left, take_at, drop_at}
use Rattle.text_lines.specs.Line.{assigned, line}

-- what follows the name and its '='
pub after_equals : (value rest s : List ℕ) → 61 ∷ s ≡ assigned value rest → s ≡ value ++ (10 ∷ rest)
unfolding assigned
after_equals value rest s e = cc

values : (name v w t u : List ℕ) → line name v t ≡ line name w u → v ++ (10 ∷ t) ≡ w ++ (10 ∷ u)
unfolding assigned
values name v w t u e = after_equals w u (v ++ (10 ∷ t)) (append_cancel_left name (assigned v t) (assigned w u) e)

-- a line whose value has a known width
pub same-wide-line : (name v w t u : List ℕ) → length v ≡ length w → line name v t ≡ line name w u → (v ≡ w) × (t ≡ u)
same-wide-line name v w t u l e =
    let n = length w in
    let f = values name v w t u e in
    let tails : 10 ∷ t ≡ 10 ∷ u = sym (drop_at v (10 ∷ t) n l) ∙ ap (drop n) f ∙ drop_at w (10 ∷ u) n refl in
    (sym (take_at v (10 ∷ t) n l) ∙ ap (take n) f ∙ take_at w (10 ∷ u) n refl, cc)

abbrev pub Unbroken : List ℕ → Type 0
Unbroken = AllByRecursion (λ b. b ≢ 10)

same_unbroken : (v w t u : List ℕ) → Unbroken v → Unbroken w → v ++ (10 ∷ t) ≡ w ++ (10 ∷ u) → (v ≡ w) × (t ≡ u)
same_unbroken [] [] t u p q e = (refl, cc)
same_unbroken [] (y ∷ w) t u p q e = absurd (q.0 (cc))
same_unbroken (x ∷ v) [] t u p q e = absurd (p.0 (cc))
same_unbroken (x ∷ v) (y ∷ w) t u p q e =
    let head : x ≡ y = cc in
    let rest = same_unbroken v w t u p.1 q.1 (cc) in
    let same : v ≡ w = rest.0 in
    (cc, rest.1)

-- a line whose value holds no end of line
pub same_line : (name v w t u : List ℕ) → Unbroken v → Unbroken w → line name v t ≡ line name w u → (v ≡ w) × (t ≡ u)
same_line name v w t u p q e = same_unbroken v w t u p q (values name v w t u e)
