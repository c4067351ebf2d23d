use Rattle.std.proofs.Common.{ℕ, List, [], ◌∷◌, get_or, ap₂}
use Rattle.camellia.specs.Cipher.{to_bytes}
use Rattle.camellia_rounds.proofs.bytes.block.Goals as goal

-- sixteen bytes read out of two arrays
read : List ℕ → List ℕ → List ℕ
read xs ys =
    get_or xs 0 0 ∷ get_or xs 1 0 ∷ get_or xs 2 0 ∷ get_or xs 3 0 ∷ get_or xs 4 0 ∷ get_or xs 5 0 ∷ get_or xs 6 0 ∷ get_or xs 7 0
    ∷ get_or ys 0 0 ∷ get_or ys 1 0 ∷ get_or ys 2 0 ∷ get_or ys 3 0 ∷ get_or ys 4 0 ∷ get_or ys 5 0 ∷ get_or ys 6 0 ∷ get_or ys 7 0 ∷ []

pub returns : goal.returns
unfolding to_bytes read
returns c = ap₂ read c.eight.ensures c.eight-2.ensures
