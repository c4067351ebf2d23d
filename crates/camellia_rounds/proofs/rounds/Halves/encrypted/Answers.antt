use Rattle.std.proofs.lemmas.Iterator.{YieldsList-from_slice}
use Rattle.std.proofs.lemmas.Iterator.Consumers.{YieldsList-from_copied}
use Rattle.camellia_rounds.specs.Told.{schedule_of}
use Rattle.camellia_rounds.proofs.rounds.Halves.encrypted.Goals as goal

pub returns : goal.returns
returns g c =
    let layers = (schedule_of c.args.k.now).layers in
    c.enciphered.ensures layers (YieldsList-from_copied (YieldsList-from_slice layers cc))
