-- The folded schedule of a key enciphers and deciphers as the key does.
use Rattle.std.proofs.Common.{◌≡◌, ℕ, List, ap, ◌∙◌}
use Rattle.camellia.specs.Keys.{Schedule, schedule}
use Rattle.camellia.specs.Cipher.{to_state, to_bytes, enciphered, deciphered, E, D}
use Rattle.camellia_fold.specs.Fold.{fold}
use Rattle.camellia_fold.proofs.Same.{all_folded}

module _ (s : Schedule) (key : List ℕ) (e : s ≡ fold (schedule key)) where
  pub enciphers_as : enciphered s ≡ E key
  enciphers_as = ap enciphered e ∙ (λ i b. to_bytes (all_folded.enciphers key (to_state b) i))

  pub deciphers_as : deciphered s ≡ D key
  deciphers_as = ap deciphered e ∙ (λ i b. to_bytes (all_folded.deciphers key (to_state b) i))
