-- What a refusal carries: its number, the layer that refused (1 card, 2 store, 3 cipher) and a frame.
use Rattle.std.specs.Prelude.{ℕ}
use Rattle.refusal.specs.declared.Layer.{Layer}
use Rattle.refusal.specs.declared.Layer.TheVariants.{Card, Store, Cipher}
use Rattle.refusal.specs.declared.Refusal.{Refusal}
use Rattle.refusal.specs.declared.Refusal.TheVariants.{WrongState, PairLength, KeyLength, CardBufferLength, BufferLength, TooFewFrames, LabelFrame, FrameNumber, WornFrame, NotLabel, OtherCard, OtherKeys, TooManyWorn}

pub record Code : Type 0 where
  pub number : ℕ
  pub layer : Layer
  pub frame : ℕ

abbrev pub code : Refusal → Code
code WrongState = record { number = 1; layer = Card; frame = 0 }
code PairLength = record { number = 2; layer = Card; frame = 0 }
code KeyLength = record { number = 2; layer = Cipher; frame = 0 }
code (CardBufferLength n) = record { number = 3; layer = Card; frame = n }
code (BufferLength n) = record { number = 3; layer = Store; frame = n }
code TooFewFrames = record { number = 4; layer = Card; frame = 1 }
code LabelFrame = record { number = 4; layer = Card; frame = 0 }
code (FrameNumber n) = record { number = 4; layer = Store; frame = n }
code (WornFrame n) = record { number = 5; layer = Store; frame = n }
code NotLabel = record { number = 6; layer = Card; frame = 0 }
code OtherCard = record { number = 7; layer = Card; frame = 0 }
code OtherKeys = record { number = 8; layer = Card; frame = 0 }
code (TooManyWorn n) = record { number = 9; layer = Store; frame = n }

abbrev pub layer_number : Layer → ℕ
layer_number Card = 1
layer_number Store = 2
layer_number Cipher = 3
