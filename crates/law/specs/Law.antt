-- What every list of calls on a card keeps, told of the calls, their answers and the stores.
use Rattle.std.specs.Prelude.{◌≡◌, ℕ, suc, ◌-◌, true, false, cond, ◌⊎◌, List, [], ◌∷◌, ◌++◌, length, Some, None, ◌==◌, ◌≢◌}
use Rattle.label.specs.Text.{Fields}
use Rattle.label.specs.Read as label
use Rattle.law.specs.Kind.{Kind, Shared, keys_of, seal, unseal}
use Rattle.law.specs.Store.{Store, size, frame_at, Same, Sound, unworn_to}
use Rattle.law.specs.Labels.{label_in, labelled, label_for}
use Rattle.law.specs.Calls.{Call, make, mount, eject, read, write, start, step, status, Answer, made, mounted, ejected, got, kept, started, stepped, told, accepted, refused_by, left_by}
use Rattle.law.specs.Checks.{refusal}
use Rattle.law.specs.History.{Event, History, content, steps, new_pair, in_change, pair, second, pair_at, is_on, state, moved_after, Claimed}

-- 1. A call is refused exactly where the table of checks says, and then changes nothing but keys, which are zeroed.

-- frames that an accepted call doesn't write, with so many moved before it
abbrev pub Spared : ℕ → Call → ℕ → Type 0
Spared moved (make p) n = ⊥
Spared moved (mount p q) n = Unit {0}
Spared moved eject n = Unit {0}
Spared moved (read k b) n = Unit {0}
Spared moved (write k b) n = n ≡ k → ⊥
Spared moved (start p) n = n ≡ 0 → ⊥
Spared moved step n = (n ≢ 0) × (n ≢ suc moved)
Spared moved status n = Unit {0}

pub record RefusedExactly (M : Kind) (h : History) (s : Store) (e : Event) : Type 0 where
  pub refuses : refused_by e.answer ≡ refusal M (state h) (label_in s).keybits s e.call
  pub unchanged : accepted e.answer ≡ false → e.store ≡ s
  pub left : e.left ≡ left_by e.call e.answer
  pub count : size e.store ≡ size s
  pub worn : (n : ℕ) → e.store.worn n ≡ s.worn n
  pub spared : (n : ℕ) → (s.worn n ≡ true) ⊎ Spared (label_in s).moved e.call n → frame_at e.store n ≡ frame_at s n

-- 2. While the card is mounted frame 0 is a label that tells its state, and answers tell as much.

-- frame 0 is a label of this kind and number of frames, in this state
pub record Labelled (M : Kind) (N st : ℕ) (s : Store) : Type 0 where
  pub reads : label.reads (frame_at s 0) ≡ Some (label_in s)
  pub named : (label_in s).cipher ≡ M.name
  pub counted : (label_in s).frames ≡ N
  pub state : st ≡ labelled (label_in s).next

-- what an accepted call answers by the state, the label and the store before it
abbrev pub Told : ℕ → Store → Call → Answer → Type 0
Told st s (make p) a = a ≡ made (unworn_to s.worn (size s - 1))
Told st s (mount p q) a = a ≡ mounted (labelled (label_in s).next)
Told st s eject a = a ≡ ejected
Told st s (read n b) a = (f : List ℕ) × (a ≡ got f)
Told st s (write n b) a = a ≡ kept
Told st s (start p) a = a ≡ started (size s - 1)
Told st s step a = let n : ℕ = suc (label_in s).moved in a ≡ stepped n (s.worn n) (n == size s - 1)
Told st s status a = a ≡ cond (st == 0) (told 0 0 0) (told st (size s) (label_in s).moved)

pub record LabelTells (M : Kind) (N : ℕ) (h : History) (s : Store) (e : Event) : Type 0 where
  pub labelled : (state (e ∷ h) ≢ 0) → Labelled M N (state (e ∷ h)) e.store
  pub moved : (label_in e.store).moved ≡ moved_after e.answer (label_in s).moved
  pub answers : accepted e.answer ≡ true → Told (state h) s e.call e.answer

-- 3. What was written is read back, on a mounted card and by who mounts it next.

-- every unworn data frame stands in the store as its content, sealed under the pair that is right for it
abbrev pub Stands : Kind → ℕ → History → Store → Type 0
Stands M N h s = (n : ℕ) → Sound s n → frame_at s n ≡ seal (keys_of M (pair_at N h n)) n (content n h)

-- a read of frame n into b would be accepted and give the content
pub record Readable (M : Kind) (N : ℕ) (h : History) (s : Store) (n : ℕ) (b : List ℕ) : Type 0 where
  pub accepts : refusal M (state h) (label_in s).keybits s (read n b) ≡ None
  pub gives : unseal (keys_of M (pair_at N h n)) n (frame_at s n) ≡ content n h

-- a read of the list gives the content
abbrev pub Gives : History → Store → Call → Answer → Type 0
Gives h s (make p) a = Unit {0}
Gives h s (mount p q) a = Unit {0}
Gives h s eject a = Unit {0}
Gives h s (read n b) a = Sound s n → length b ≡ 128 → a ≡ got (content n h)
Gives h s (write n b) a = Unit {0}
Gives h s (start p) a = Unit {0}
Gives h s step a = Unit {0}
Gives h s status a = Unit {0}

-- the label that the history tells
abbrev pub label_told : Kind → ℕ → History → Fields
label_told M N h = label_for M N (in_change N h) (pair N h) (new_pair h) (steps h)

pub record ReadsBack (M : Kind) (N : ℕ) (h : History) (s : Store) (e : Event) : Type 0 where
  pub gives : Claimed N h → is_on h ≡ true → Gives h s e.call e.answer
  pub readable : Claimed N (e ∷ h) → is_on (e ∷ h) ≡ true → (n : ℕ) → Sound e.store n → (b : List ℕ) → length b ≡ 128 → Readable M N (e ∷ h) e.store n b
  pub stands : Claimed N (e ∷ h) → Stands M N (e ∷ h) e.store
  pub labels : Claimed N (e ∷ h) → label.reads (frame_at e.store 0) ≡ Some (label_told M N (e ∷ h))
  pub mountable : Claimed N (e ∷ h) → is_on (e ∷ h) ≡ false
      → refusal M (state (e ∷ h)) (label_in e.store).keybits e.store (mount (pair N (e ∷ h)) (second N (e ∷ h))) ≡ None

-- 4. A change is counted by its accepted steps, and over after N - 1 of them.

-- every unworn data frame stands as its content, sealed under the pair q alone
abbrev pub Under : Kind → List ℕ → History → Store → Type 0
Under M q h s = (n : ℕ) → Sound s n → frame_at s n ≡ seal (keys_of M q) n (content n h)

-- an accepted step in a change answers the next frame; the N - 1st leaves a card at rest under the new pair
pub record Steps (M : Kind) (N : ℕ) (h : History) (s : Store) (e : Event) : Type 0 where
  pub answer : e.answer ≡ stepped (suc (steps h)) (s.worn (suc (steps h))) (suc (steps h) == N - 1)
  pub over : suc (steps h) ≡ N - 1 → (state (e ∷ h) ≡ 1) × Under M (new_pair h) h e.store

abbrev pub Counted : Kind → ℕ → History → Store → Event → Call → Type 0
Counted M N h s e (make p) = Unit {0}
Counted M N h s e (mount p q) = Unit {0}
Counted M N h s e eject = Unit {0}
Counted M N h s e (read n b) = Unit {0}
Counted M N h s e (write n b) = Unit {0}
Counted M N h s e (start p) = Unit {0}
Counted M N h s e step = in_change N h ≡ true → Steps M N h s e
Counted M N h s e status = e.answer ≡ cond (in_change N h) (told 2 N (steps h)) (told 1 N 0)

pub record ChangeCounted (M : Kind) (N : ℕ) (h : History) (s : Store) (e : Event) : Type 0 where
  pub state : Claimed N h → state h ≡ cond (is_on h) (cond (in_change N h) 2 1) 0
  pub counted : Claimed N h → is_on h ≡ true → Counted M N h s e e.call

-- all of this of each event: h is the history before it and s the store
abbrev pub Each : (History → Store → Event → Type 0) → History → Store → List Event → Type 0
Each P h s [] = Unit {0}
Each P h s (e ∷ es) = P h s e × Each P (e ∷ h) e.store es

pub record Fair (M : Kind) (N : ℕ) (h : History) (s : Store) (e : Event) : Type 0 where
  pub refused_exactly : RefusedExactly M h s e
  pub label_tells : LabelTells M N h s e
  pub reads_back : ReadsBack M N h s e
  pub change_counted : ChangeCounted M N h s e

-- 5. Hosts agree: as long as the calls are the same, so are the answers and the frames.
abbrev pub Agree : List Event → List Event → Type 0
Agree [] fs = Unit {0}
Agree (e ∷ es) [] = Unit {0}
Agree (e ∷ es) (f ∷ fs) = e.call ≡ f.call → (e.answer ≡ f.answer) × Same e.store f.store × Agree es fs

abbrev pub HostsAgree : Kind → Kind → Store → Store → List Event → List Event → Type 0
HostsAgree M M' s s' es fs = Shared M M' → Same s s' → Agree es fs

-- 6. Handed over: where the first card is unmounted, a new card on the store left goes on as it would have.
abbrev pub onto : History → List Event → History
onto h [] = h
onto h (e ∷ es) = onto (e ∷ h) es

abbrev pub last_store : Store → List Event → Store
last_store s [] = s
last_store s (e ∷ es) = last_store e.store es

abbrev pub HandedOver : Kind → Kind → Store → Store → List Event → List Event → Type 0
HandedOver M M' s s' es fs =
    Shared M M' → (before after : List Event) → es ≡ before ++ after → state (onto [] before) ≡ 0 → Same (last_store s before) s' → Agree after fs

-- the law of two cards that begin new, of kinds M and M' on the stores s and s', for the events of one list of calls each
pub record Law (M M' : Kind) (s s' : Store) (es fs : List Event) : Type 0 where
  pub first : Each (Fair M (size s)) [] s es
  pub second : Each (Fair M' (size s')) [] s' fs
  pub hosts_agree : HostsAgree M M' s s' es fs
  pub handed_over : HandedOver M M' s s' es fs
