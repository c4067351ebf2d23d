-- Camellia on blocks of sixteen bytes (RFC 3713, section 2.3): E, and D as E with the subkeys in the reverse order.
use Rattle.std.specs.Prelude.{ℕ, List, ◌++◌}
use Rattle.camellia.specs.Numbers.{half_at, bytes8}
use Rattle.camellia.specs.Rounds.{State, st, swapped, whitened, run}
use Rattle.camellia.specs.Keys.{Schedule, schedule, reversed}

unfoldable pub encrypt : Schedule → State → State
encrypt s m = let w = s.kw in whitened w.kw3 w.kw4 (swapped (run s.layers (whitened w.kw1 w.kw2 m)))

unfoldable pub to_state : List ℕ → State
to_state b = st (half_at b 0) (half_at b 8)

unfoldable pub to_bytes : State → List ℕ
to_bytes s = bytes8 s.left ++ bytes8 s.right

abbrev pub enciphered : Schedule → List ℕ → List ℕ
enciphered s b = to_bytes (encrypt s (to_state b))

abbrev pub deciphered : Schedule → List ℕ → List ℕ
deciphered s b = enciphered (reversed s) b

-- of a key and a block
abbrev pub E : List ℕ → List ℕ → List ℕ
E key = enciphered (schedule key)

abbrev pub D : List ℕ → List ℕ → List ℕ
D key = deciphered (schedule key)
