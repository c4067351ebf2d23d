use Rattle.sealing.proofs.Undo.{xts-undone}
use Rattle.sealing.proofs.laws.undone.Goals as goal

pub returns : goal.returns
returns g c =
    let E = g.E.Engine in
    let law = g.met.E.Engine in
    record {
      opened = λ k t n f p q. xts-undone (E.cipher k) (E.inverse k) (E.cipher t) n
          (λ b h. law.undone k b p h) (λ b h. law.enciphered_blocks k b p h) (λ b h. law.enciphered_blocks t b q h) f;
      sealed = λ k t n f p q. xts-undone (E.inverse k) (E.cipher k) (E.cipher t) n
          (λ b h. law.redone k b p h) (λ b h. law.deciphered_blocks k b p h) (λ b h. law.enciphered_blocks t b q h) f;
    }
