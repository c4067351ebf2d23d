use Rattle.std.proofs.Common.{◌≡◌, ◌++◌, map, take, drop}
use Rattle.engine.proofs.Engine.encipher_eight.Given as goal

abbrev pub invariant-loop-block : goal.invariant-loop-block
invariant-loop-block g l =
    l.blocks
    ≡ map (g.Self.Engine.enciphers l.self) (take l.block-index l.initial.blocks) ++ drop l.block-index l.initial.blocks
