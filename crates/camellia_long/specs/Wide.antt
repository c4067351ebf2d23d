-- Several blocks at once: the left halves in one list, the right halves in another.
use Rattle.std.specs.Prelude.{◌≡◌, ℕ, ◌<◌, List, [], ◌∷◌, length, slice_index}
use Rattle.camellia.specs.Rounds.{State, st}
use Rattle.camellia_long.specs.declared.blocks.Blocks.{Blocks}

abbrev pub states : List ℕ → List ℕ → List State
states [] ys = []
states (x ∷ xs) [] = []
states (x ∷ xs) (y ∷ ys) = st x y ∷ states xs ys

abbrev pub blocks_of : {n : ℕ} → Blocks n → List State
blocks_of b = states b.left b.right

-- f of each of n halves and of the other half of its block
pub record Mixed (n : ℕ) (f : ℕ → ℕ → ℕ) (xs ys ys' : List ℕ) : Type 0 where
  pub long : length ys' ≡ n
  pub at : (i : ℕ) → i < n → slice_index ys' i ≡ f (slice_index xs i) (slice_index ys i)
