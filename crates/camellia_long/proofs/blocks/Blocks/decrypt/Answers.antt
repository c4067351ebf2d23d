use Rattle.camellia_long.proofs.Each.{around}
use Rattle.camellia_subkeys.specs.Groups.{schedule_of}
use Rattle.camellia_long.proofs.blocks.Blocks.decrypt.Goals as goal

pub returns : goal.returns
unfolding schedule_of
returns g c =
    let k = c.args.k.now in
    let b = c.args.self.now in
    let t = c.backward.new.self in
    around k.kw3 k.kw1 _ b.left b.right _ t.left t.right _ c.whiten.ensures c.backward.ensures c.whiten-2.ensures
