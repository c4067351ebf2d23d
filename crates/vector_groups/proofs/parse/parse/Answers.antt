use Rattle.vector_groups.proofs.OneGroup.{after-key, after-plain}
use Rattle.vector_groups.proofs.parse.parse.Goals as goal

pub returns-in_err-plain : goal.returns-in_err-plain
returns-in_err-plain c =
    rw c.from_residual-in_err-plain.ensures
    (λ group rest h.
    c.in_err-plain.ensures _ _ (record { sized = h.valid.plain; reads = after-key c.in_ok-key.ensures h }))

pub returns-in_err-cipher : goal.returns-in_err-cipher
returns-in_err-cipher c =
    rw c.from_residual-in_err-cipher.ensures
    (λ group rest h.
    let reads = after-plain c.in_ok-key.ensures h c.in_ok-plain.ensures in
    c.in_err-cipher.ensures _ _ (record { sized = h.valid.cipher; reads = reads }))
