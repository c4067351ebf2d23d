-- What is proved of the folded schedule, for every key and every state.
use Rattle.std.specs.Prelude.{ℕ, List, ◌≡◌}
use Rattle.camellia.specs.Rounds.{State}
use Rattle.camellia.specs.Keys.{schedule, reversed}
use Rattle.camellia.specs.Cipher.{encrypt}
use Rattle.camellia_fold.specs.Fold.{fold}

-- the same cipher, in both directions
pub record Folded : Type 0 where
  pub enciphers : (key : List ℕ) (m : State) → encrypt (fold (schedule key)) m ≡ encrypt (schedule key) m
  pub deciphers : (key : List ℕ) (m : State) → encrypt (reversed (fold (schedule key))) m ≡ encrypt (reversed (schedule key)) m
