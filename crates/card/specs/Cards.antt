-- A card in the code, in the words of the law.
use Rattle.std.specs.Prelude.{◌≡◌, ℕ, ◌*◌, Bool, if◌then◌else◌, not, ◌&&◌, List, [], ◌∷◌, length, replicate, Ok, Err, Result, ◌==◌, nat_le}
use Rattle.std.specs.Str.{bytes_eq}
use Rattle.octets.specs.Octets.{Bytes}
use Rattle.refusal.specs.declared.Refusal.{Refusal}
use Rattle.refusal.specs.declared.Refusal.TheVariants.{WrongState, PairLength, KeyLength, CardBufferLength, LabelFrame, FrameNumber, WornFrame, OtherKeys}
use Rattle.engine.specs.declared.Engine as engine
use Rattle.store.specs.declared.Store as store
use Rattle.sealing.specs.Pair.{paired}
use Rattle.label.specs.Told.{fields_in}
use Rattle.label.specs.Text.{Fields}
use Rattle.law.specs.Kind as law
use Rattle.law.specs.Kind.{keys_of, check_of, half_taken}
use Rattle.law.specs.Store.{Store, size}
use Rattle.law.specs.Calls.{Call, Answer}
use Rattle.law.specs.Checks.{Check, second_fits, second_checks}
use Rattle.law.specs.Model as model
use Rattle.calls.specs.Outcomes.{ComesTo}
use Rattle.sealed_store.specs.Told.{kind_of, keys_in, store_in}
use Rattle.card.specs.declared.card.Card.{Card}
use Rattle.card.specs.declared.belongs.Kind.{Kind}
use Rattle.card.specs.declared.belongs.Kind.TheVariants.{Make, Mount, Eject, Read, Write, Start, Step}

-- its label while mounted, and what its engines tell
abbrev pub card_in : {E S : Type 0} → engine.Ghosts E → Card E S → model.Card
card_in e c = record { label = fields_in c.label; old = keys_in e c.engines.old; new = keys_in e c.engines.new }

-- what a call on it comes to
abbrev pub outcome : {E S : Type 0} → engine.Ghosts E → store.Ghosts S → Card E S → Call → model.Outcome
outcome e s c k = model.act (kind_of e) (card_in e c) (store_in s c.store) k

-- a call of the card `c` answered and left the card `d` as the law's model does
abbrev pub Does : {E S : Type 0} → engine.Ghosts E → store.Ghosts S → Card E S → Call → Answer → Card E S → Type 0
Does e s c k a d = ComesTo (outcome e s c k) a (card_in e d) (store_in s d.store)

-- lent key bytes: bytes, and zero when they are given back
pub record Zeroed (lent left : List ℕ) : Type 0 where
  pub bytes : Bytes lent
  pub zeroed : left ≡ replicate (length lent) 0

-- a call that does not belong to the state (0 unmounted, 1 at rest, 2 changing)
abbrev pub stray : ℕ → Kind → Bool
stray n Make = not (n == 0)
stray n Mount = not (n == 0)
stray n Eject = n == 0
stray n Read = n == 0
stray n Write = n == 0
stray n Start = not (n == 1)
stray n Step = not (n == 2)

abbrev pub belonging : ℕ → Kind → Result (Unit {0}) Refusal
belonging n k = if stray n k then Err WrongState else Ok tt

-- a read or a write of frame n with so long a buffer, on a mounted card
abbrev pub slot_checks : Store → ℕ → ℕ → List Check
slot_checks s n len =
    (not (len == 128), CardBufferLength n)
    ∷ ((n == 0), LabelFrame)
    ∷ (nat_le (size s) n, FrameNumber n)
    ∷ (s.worn n, WornFrame n)
    ∷ []

-- pairs of the sizes that a label asks for: a second one in a change alone
abbrev pub fitting : Fields → List ℕ → List ℕ → Bool
fitting l p q = paired (length p) && l.keybits == 4 * length p && second_fits l.next p q

-- the last checks of a mount
abbrev pub key_checks : law.Kind → Fields → List ℕ → List ℕ → List Check
key_checks M l p q =
    (not (fitting l p q), PairLength)
    ∷ (not (half_taken M p), KeyLength)
    ∷ (not (bytes_eq (check_of (keys_of M p)) l.check && second_checks M l.next q), OtherKeys)
    ∷ []
