use Rattle.camellia_long.proofs.Each.{through}
use Rattle.camellia_long.proofs.cipher.LongCamellia.decipher_blocks.Goals as goal

pub returns : goal.returns
returns g c = through _ c.args.blocks.now _ _ _ c.of-halves.ensures c.decrypt.ensures c.put.ensures
