-- What the types of the code stand for in the definition of the cipher.
use Rattle.std.specs.Prelude.{ℕ, List}
use Rattle.camellia.specs.Cipher.{enciphered, deciphered}
use Rattle.camellia_subkeys.specs.Groups.{schedule_of}
use Rattle.camellia_long.specs.declared.cipher.LongCamellia.{LongCamellia}

-- E and D of the key held
abbrev pub enciphers_of : LongCamellia → List ℕ → List ℕ
enciphers_of c = enciphered (schedule_of c.keys)

abbrev pub deciphers_of : LongCamellia → List ℕ → List ℕ
deciphers_of c = deciphered (schedule_of c.keys)
