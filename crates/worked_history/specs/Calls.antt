-- A card of sixteen frames, sealed with Camellia: made, written, ejected half way through a change, and mounted again.
use Rattle.std.specs.Prelude.{ℕ, ◌||◌, List, [], ◌∷◌, ◌++◌, map, replicate, codes, ◌==◌}
use Rattle.std.specs.List.{range_with_len}
use Rattle.camellia.specs.Cipher.{E, D}
use Rattle.camellia.specs.Laws.{takes}
use Rattle.law.specs.Kind.{Kind}
use Rattle.law.specs.Store.{Store}
use Rattle.law.specs.Calls.{Call, make, mount, eject, read, write, start, step, status, Answer}
use Rattle.law.specs.History.{Event, History}
use Rattle.law.specs.Law.{onto, last_store}
use Rattle.law.specs.Model.{off, events}

abbrev pub camellia : Kind
camellia = record { name = codes "camellia"; takes = takes; cipher = E; inverse = D }

-- frames 3 and 12 are worn
abbrev pub blank : Store
blank = record { frames = replicate 16 (replicate 128 0); worn = λ n. (n == 3) || (n == 12) }

-- the pair of bytes 0 to 31, and that of bytes 32 to 63
abbrev pub old : List ℕ
old = range_with_len 0 32

abbrev pub new : List ℕ
new = range_with_len 32 32

-- a save, and the buffer that a read is given
abbrev pub save : ℕ → List ℕ
save b = replicate 128 b

abbrev pub room : List ℕ
room = replicate 128 255

-- seven of fifteen frames are moved, the worn one among them
abbrev pub at_home : List Call
at_home =
    make old ∷ write 2 (save 2) ∷ write 9 (save 9) ∷ start new
    ∷ step ∷ step ∷ step ∷ step ∷ step ∷ step ∷ step ∷ eject ∷ []

-- the first mount lacks the second pair, the next has the pairs in the wrong order; writes stand at the mark and behind it
abbrev pub abroad : List Call
abroad =
    mount old [] ∷ mount new old ∷ mount old new ∷ status
    ∷ write 7 (save 7) ∷ write 8 (save 8) ∷ read 2 room ∷ read 7 room ∷ read 8 room ∷ read 9 room ∷ read 15 room ∷ step ∷ []

abbrev pub both : List Call
both = at_home ++ abroad

-- the events of a list on a new card: oldest first with their answers, and newest first as a history
abbrev pub played : Store → List Call → List Event
played s cs = events camellia (off camellia) s cs

abbrev pub answers : Store → List Call → List Answer
answers s cs = map (λ (e : Event). e.answer) (played s cs)

abbrev pub past : Store → List Call → History
past s cs = onto [] (played s cs)

-- the store that the first list left
abbrev pub left : Store
left = last_store blank (played blank at_home)
