-- The folded schedule key by key, in both shapes; k and ke number the round keys and the keys of FL as RFC 3713 does.
use Rattle.std.proofs.Common.{ℕ, ◌+◌, ◌-◌, ◌≡◌, refl, List, [], ◌∷◌, map, get_or}
use Rattle.camellia.specs.Numbers.{◌⊕◌}
use Rattle.camellia.specs.Rounds.{backward}
use Rattle.camellia.specs.Keys.{Schedule, scheduled, layer_of, whitening_of, whitening18, layers18, whitening24, layers24}
use Rattle.camellia.specs.declared.plan.Layer.{Layer}
use Rattle.camellia.specs.declared.plan.Layer.TheVariants.{Round, Fl}
use Rattle.camellia.specs.declared.plan.Material.{Material}
use Rattle.camellia.specs.declared.plan.Whitening.{Whitening}
use Rattle.camellia_fold.specs.Fold.{through_fl_inverse, folded, last_offset, folded_back, fold}

-- six rounds after the n-th, then ys
abbrev pub six : (ℕ → ℕ) → ℕ → List (Layer ℕ) → List (Layer ℕ)
six k n ys =
    Round (k (n + 1)) ∷ Round (k (n + 2)) ∷ Round (k (n + 3)) ∷ Round (k (n + 4)) ∷ Round (k (n + 5)) ∷ Round (k (n + 6)) ∷ ys

-- the same with e in the odd keys and d in the even keys
abbrev pub six_with : ℕ → ℕ → (ℕ → ℕ) → ℕ → List (Layer ℕ) → List (Layer ℕ)
six_with e d k n ys =
    Round (k (n + 1) ⊕ e) ∷ Round (k (n + 2) ⊕ d) ∷ Round (k (n + 3) ⊕ e)
    ∷ Round (k (n + 4) ⊕ d) ∷ Round (k (n + 5) ⊕ e) ∷ Round (k (n + 6) ⊕ d) ∷ ys

abbrev pub fl_of : (ℕ → ℕ) → ℕ → Layer ℕ
fl_of ke n = Fl (ke (n + 1)) (ke (n + 2))

-- kw2 and kw4 gone, kw1 and kw3 with the last offsets
abbrev pub whitening_with : ℕ → ℕ → Whitening ℕ → Whitening ℕ
whitening_with e d w = record { kw1 = w.kw1 ⊕ e; kw2 = 0; kw3 = w.kw3 ⊕ d; kw4 = 0 }

abbrev pub plain18 : Whitening ℕ → (ℕ → ℕ) → (ℕ → ℕ) → Schedule
plain18 w k ke = record { kw = w; layers = six k 0 (fl_of ke 0 ∷ six k 6 (fl_of ke 2 ∷ six k 12 [])) }

abbrev pub plain24 : Whitening ℕ → (ℕ → ℕ) → (ℕ → ℕ) → Schedule
plain24 w k ke = record { kw = w; layers = six k 0 (fl_of ke 0 ∷ six k 6 (fl_of ke 2 ∷ six k 12 (fl_of ke 4 ∷ six k 18 []))) }

abbrev pub folded18 : Whitening ℕ → (ℕ → ℕ) → (ℕ → ℕ) → Schedule
folded18 w k ke =
    let d1 = w.kw2 in
    let d2 = through_fl_inverse d1 (ke 2) in
    let d3 = through_fl_inverse d2 (ke 4) in
    let e3 = w.kw4 in
    let e2 = through_fl_inverse e3 (ke 3) in
    let e1 = through_fl_inverse e2 (ke 1) in
    record {
      kw = whitening_with e1 d3 w;
      layers = six_with e1 d1 k 0 (fl_of ke 0 ∷ six_with e2 d2 k 6 (fl_of ke 2 ∷ six_with e3 d3 k 12 []));
    }

abbrev pub folded24 : Whitening ℕ → (ℕ → ℕ) → (ℕ → ℕ) → Schedule
folded24 w k ke =
    let d1 = w.kw2 in
    let d2 = through_fl_inverse d1 (ke 2) in
    let d3 = through_fl_inverse d2 (ke 4) in
    let d4 = through_fl_inverse d3 (ke 6) in
    let e4 = w.kw4 in
    let e3 = through_fl_inverse e4 (ke 5) in
    let e2 = through_fl_inverse e3 (ke 3) in
    let e1 = through_fl_inverse e2 (ke 1) in
    record {
      kw = whitening_with e1 d4 w;
      layers = six_with e1 d1 k 0 (fl_of ke 0 ∷ six_with e2 d2 k 6 (fl_of ke 2 ∷ six_with e3 d3 k 12 (fl_of ke 4 ∷ six_with e4 d4 k 18 [])));
    }

pub fold_plain18 : (w : Whitening ℕ) (k ke : ℕ → ℕ) → fold (plain18 w k ke) ≡ folded18 w k ke
unfolding fold folded folded_back last_offset backward
fold_plain18 w k ke = refl

pub fold_plain24 : (w : Whitening ℕ) (k ke : ℕ → ℕ) → fold (plain24 w k ke) ≡ folded24 w k ke
unfolding fold folded folded_back last_offset backward
fold_plain24 w k ke = refl

-- ---- the keys of a schedule's layers, by their numbers
abbrev pub round_keys : List (Layer ℕ) → List ℕ
round_keys [] = []
round_keys (Round k ∷ ys) = k ∷ round_keys ys
round_keys (Fl a b ∷ ys) = round_keys ys

abbrev pub fl_keys : List (Layer ℕ) → List ℕ
fl_keys [] = []
fl_keys (Round k ∷ ys) = fl_keys ys
fl_keys (Fl a b ∷ ys) = a ∷ b ∷ fl_keys ys

abbrev pub k_of : List (Layer ℕ) → ℕ → ℕ
k_of ys n = get_or (round_keys ys) (n - 1) 0

abbrev pub ke_of : List (Layer ℕ) → ℕ → ℕ
ke_of ys n = get_or (fl_keys ys) (n - 1) 0

abbrev pub of18 : Material → List (Layer ℕ)
of18 m = map (layer_of m) layers18

abbrev pub of24 : Material → List (Layer ℕ)
of24 m = map (layer_of m) layers24

pub scheduled_plain18 : (m : Material)
    → scheduled m whitening18 layers18 ≡ plain18 (whitening_of m whitening18) (k_of (of18 m)) (ke_of (of18 m))
scheduled_plain18 m = refl

pub scheduled_plain24 : (m : Material)
    → scheduled m whitening24 layers24 ≡ plain24 (whitening_of m whitening24) (k_of (of24 m)) (ke_of (of24 m))
scheduled_plain24 m = refl

pub fold_18 : (m : Material)
    → fold (scheduled m whitening18 layers18) ≡ folded18 (whitening_of m whitening18) (k_of (of18 m)) (ke_of (of18 m))
fold_18 m = fold_plain18 (whitening_of m whitening18) (k_of (of18 m)) (ke_of (of18 m))

pub fold_24 : (m : Material)
    → fold (scheduled m whitening24 layers24) ≡ folded24 (whitening_of m whitening24) (k_of (of24 m)) (ke_of (of24 m))
fold_24 m = fold_plain24 (whitening_of m whitening24) (k_of (of24 m)) (ke_of (of24 m))
