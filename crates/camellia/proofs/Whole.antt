-- Deciphering undoes enciphering on blocks, and the other way round.
use Rattle.std.proofs.Common.{◌≡◌, ℕ, List, sym, ap, ◌∙◌}
use Rattle.octets.specs.Octets.{Block}
use Rattle.camellia.specs.Keys.{Schedule, schedule, reversed}
use Rattle.camellia.specs.Cipher.{encrypt, to_state, to_bytes, enciphered}
use Rattle.camellia.specs.Laws.{Undone, Sized}
use Rattle.camellia.proofs.Undo.{decrypt_encrypt, reversed-reversed}
use Rattle.camellia.proofs.Small.{SmallKeys, encrypt-small, reversed-small, schedule-small}
use Rattle.camellia.proofs.Blocks.{state-back, block_back, block_small, to_bytes_block}

undone_by : (k : Schedule) (b : List ℕ) → SmallKeys k.kw → Block b → enciphered (reversed k) (enciphered k b) ≡ b
undone_by k b h p =
    ap (λ s. to_bytes (encrypt (reversed k) s)) (state-back (encrypt k (to_state b)) (encrypt-small k (to_state b) h (block_small b p)))
    ∙ ap to_bytes (decrypt_encrypt k (to_state b)) ∙ block_back b p

pub undone : Undone
undone = record {
  forth = λ key b h p. undone_by (schedule key) b (schedule-small key h.bytes) p;
  back = λ key b h p.
      let k : Schedule = schedule key in
      ap (λ s. enciphered s (enciphered (reversed k) b)) (sym (reversed-reversed k))
      ∙ undone_by (reversed k) b (reversed-small k (schedule-small key h.bytes)) p;
}

pub sized : Sized
sized = record {
  enciphers = λ key b h p. to_bytes_block (encrypt (schedule key) (to_state b));
  deciphers = λ key b h p. to_bytes_block (encrypt (reversed (schedule key)) (to_state b));
}
