-- What is proved of the cipher, for every key and every block.
use Rattle.std.specs.Prelude.{ℕ, Bool, ◌||◌, ◌==◌}
use Rattle.engine.specs.Kind.{Undoes, Blocks}
use Rattle.camellia.specs.Cipher.{E, D}

-- the lengths of a key
abbrev pub takes : ℕ → Bool
takes n = n == 16 || (n == 24 || n == 32)

pub record Undone : Type 0 where
  pub forth : Undoes takes E D
  pub back : Undoes takes D E

pub record Sized : Type 0 where
  pub enciphers : Blocks takes E
  pub deciphers : Blocks takes D
