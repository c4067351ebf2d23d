use Rattle.std.proofs.Common.{map, reverse, ◌∙◌, rules}
use Rattle.std.proofs.lemmas.Iterator.{YieldsList-from_map}
use Rattle.std.proofs.lemmas.Iterator.Adapters.{YieldsList-from_rev_slice}
use Rattle.camellia.specs.Rounds.{turned}
use Rattle.camellia.specs.Cipher.{encrypt}
use Rattle.camellia_rounds.specs.Told.{state_of, schedule_of}
use Rattle.camellia_rounds.proofs.Runs.{turned-reversed}
use Rattle.camellia_rounds.proofs.rounds.Halves.decrypted.Goals as goal

pub returns : goal.returns
returns g c =
    let layers = (schedule_of c.args.k.now).layers in
    c.enciphered.ensures (map turned (reverse layers))
    (YieldsList-from_map _ turned (YieldsList-from_rev_slice layers cc) c.map.ensures.closure (λ x r q k. search rules))
    ∙ (λ i. encrypt (record { kw = c.exchanged.ensures i; layers = turned-reversed layers i }) (state_of g.H.Half.value c.args.self))
