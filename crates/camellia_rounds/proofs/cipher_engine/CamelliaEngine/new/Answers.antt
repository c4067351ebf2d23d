use Rattle.std.proofs.Common.{◌≡◌, refl, replicate, sym, ◌∙◌}
use Rattle.camellia.specs.Keys.{schedule}
use Rattle.camellia.specs.Cipher.{enciphered, deciphered}
use Rattle.camellia.proofs.Schedules.{schedule_16}
use Rattle.camellia_rounds.specs.Told.{schedule_of}
use Rattle.camellia_rounds.proofs.cipher_engine.CamelliaEngine.new.Goals as goal

pub returns : goal.returns
returns g c =
    let zero : schedule_of c.of.result ≡ schedule (replicate 16 0) = c.of.ensures ∙ sym (schedule_16 (replicate 16 0) refl) in
    record {
      enciphers = λ i. enciphered (zero i);
      deciphers = λ i. deciphered (zero i);
    }
