-- What engines, pairs of them and stores tell, in the words of the law.
use Rattle.std.specs.Prelude.{◌≡◌, ℕ, not, List, [], ◌∷◌, length, Ok, Err, Result}
use Rattle.refusal.specs.declared.Refusal.{Refusal}
use Rattle.refusal.specs.declared.Refusal.TheVariants.{PairLength, KeyLength}
use Rattle.engine.specs.declared.Engine as engine
use Rattle.store.specs.declared.Store as store
use Rattle.sealing.specs.declared.pair.Pair.{Pair}
use Rattle.sealing.specs.Pair.{paired}
use Rattle.law.specs.Kind.{Kind, Keys, keys_of, half_taken}
use Rattle.law.specs.Checks.{Check}
use Rattle.law.specs.Store.{Store}

abbrev pub kind_of : {E : Type 0} → engine.Ghosts E → Kind
kind_of e = record { name = e.NAME; takes = e.takes; cipher = e.cipher; inverse = e.inverse }

abbrev pub keys_in : {E : Type 0} → engine.Ghosts E → Pair E → Keys
keys_in e p = record { enciphers = e.enciphers p.cipher; deciphers = e.deciphers p.cipher; tweaks = e.enciphers p.tweak }

abbrev pub store_in : {S : Type 0} → store.Ghosts S → S → Store
store_in g s = record { frames = g.frames s; worn = g.worn s }

-- the checks of a load: the pair's length, then whether the engine takes its halves
abbrev pub load_checks : Kind → List ℕ → List Check
load_checks M p = (not (paired (length p)), PairLength) ∷ (not (half_taken M p), KeyLength) ∷ []

abbrev pub Loaded : {E : Type 0} → engine.Ghosts E → List ℕ → Result (Pair E) Refusal → Type 0
Loaded e p (Ok pair) = keys_in e pair ≡ keys_of (kind_of e) p
Loaded e p (Err why) = Unit {0}
