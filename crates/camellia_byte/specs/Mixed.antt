-- P of eight bytes in a list: eight sums.
use Rattle.std.specs.Prelude.{ℕ, List, [], ◌∷◌, get_or}
use Rattle.camellia.specs.Numbers.{◌⊕◌}

abbrev sums : ℕ → ℕ → ℕ → ℕ → ℕ → ℕ → ℕ → ℕ → List ℕ
sums t1 t2 t3 t4 t5 t6 t7 t8 =
    (t1 ⊕ t3 ⊕ t4 ⊕ t6 ⊕ t7 ⊕ t8) ∷ (t1 ⊕ t2 ⊕ t4 ⊕ t5 ⊕ t7 ⊕ t8)
    ∷ (t1 ⊕ t2 ⊕ t3 ⊕ t5 ⊕ t6 ⊕ t8) ∷ (t2 ⊕ t3 ⊕ t4 ⊕ t5 ⊕ t6 ⊕ t7)
    ∷ (t1 ⊕ t2 ⊕ t6 ⊕ t7 ⊕ t8) ∷ (t2 ⊕ t3 ⊕ t5 ⊕ t7 ⊕ t8)
    ∷ (t3 ⊕ t4 ⊕ t5 ⊕ t6 ⊕ t8) ∷ (t1 ⊕ t4 ⊕ t5 ⊕ t6 ⊕ t7) ∷ []

abbrev pub mixed : List ℕ → List ℕ
mixed z =
    sums (get_or z 0 0) (get_or z 1 0) (get_or z 2 0) (get_or z 3 0) (get_or z 4 0) (get_or z 5 0) (get_or z 6 0) (get_or z 7 0)
