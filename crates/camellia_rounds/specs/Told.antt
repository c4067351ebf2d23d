-- What the types of the code stand for in the definition of the cipher.
use Rattle.std.specs.Prelude.{ℕ, List, take}
use Rattle.camellia.specs.Rounds.{State, st}
use Rattle.camellia.specs.Keys as camellia
use Rattle.camellia.specs.Cipher.{enciphered, deciphered}
use Rattle.camellia.specs.declared.plan.Whitening.{Whitening}
use Rattle.camellia_rounds.specs.declared.rounds.Halves.{Halves}
use Rattle.camellia_rounds.specs.declared.schedule.Schedule.{Schedule}
use Rattle.camellia_rounds.specs.declared.cipher.Camellia.{Camellia}

-- two halves of any form, by the number that a half is
abbrev pub state_of : {H : Type 0} → (H → ℕ) → Halves H → State
state_of value s = st (value s.left) (value s.right)

abbrev pub schedule_of : Schedule → camellia.Schedule
schedule_of s = record { kw = s.kw; layers = take s.count s.layers }

-- the whitening keys of the two ends change places
abbrev pub exchanged : Whitening ℕ → Whitening ℕ
exchanged w = record { kw1 = w.kw3; kw2 = w.kw4; kw3 = w.kw1; kw4 = w.kw2 }

-- E and D of the key held
abbrev pub enciphers_of : {H : Type 0} → Camellia H → List ℕ → List ℕ
enciphers_of c = enciphered (schedule_of c.schedule)

abbrev pub deciphers_of : {H : Type 0} → Camellia H → List ℕ → List ℕ
deciphers_of c = deciphered (schedule_of c.schedule)
