-- Frames in their slots: how many, how long, and what a write to one of them leaves.
use Rattle.std.specs.Prelude.{◌≡◌, ℕ, ◌+◌, ◌*◌, ◌<◌, ◌≤◌, false, ◌≢◌, List, [], ◌++◌, map, length, get_or, take, drop, Ok, Result, slice_index_or, slice_set, refl}
use Rattle.std.proofs.Math.Logic.{⊎_elim}
use Rattle.std.proofs.Math.Path.{sym, ap}
use Rattle.std.proofs.Common.{◌∙◌, length-append}
use native.Mathlib.Omega.{arith}
use borrow.Rule.Slice.PartMut.{put_mid}
use Rattle.std.specs.List.{range_with_len}
use Rattle.std.proofs.lemmas.List.FromFn.{length-map-range_with_len, get_or-map-range_with_len, fill_by_all}
use Rattle.std.proofs.lemmas.List.{drop-drop, drop-take, get_or-set_same, get_or-set_other, length-drop, length-set, length-take-le}
use Rattle.std.proofs.Math.Seq.{drop-append_seam, take-append_seam}
use Rattle.std.proofs.lemmas.Slice.{drop-put_mid, take-put_mid_below}
use Rattle.std.proofs.lemmas.Bool.{cases_eq, cases_order}
use Rattle.std.proofs.lemmas.Bool.Decides.{nat_tests}
use Rattle.std.proofs.lemmas.Grind.{common_steps}
use Rattle.refusal.specs.declared.Refusal.{Refusal}
use Rattle.octets.specs.Octets.{Bytes, Frame}
use Rattle.octets.proofs.Bytes.{take-bytes, drop-bytes, append-bytes}
use Rattle.store.specs.Answers.{call_answer}
use Rattle.store.specs.Frames.{frame_count, frame_at, placed, frames_in, in_order, flat_frames}

pub length-frames_in : (slot : ℕ → ℕ) (s : List ℕ) → length (frames_in slot s) ≡ frame_count (length s)
unfolding frames_in
length-frames_in slot s = length-map-range_with_len (λ n. frame_at s (slot n)) 0 (frame_count (length s))

pub get_or-frames_in : (slot : ℕ → ℕ) (s : List ℕ) (n : ℕ) → n < frame_count (length s) → slice_index_or (frames_in slot s) n [] ≡ frame_at s (slot n)
unfolding frames_in
get_or-frames_in slot s n h = get_or-map-range_with_len (λ n. frame_at s (slot n)) 0 (frame_count (length s)) n n [] h (omega arith)

pub bytes-placed : (s x : List ℕ) (k : ℕ) → Bytes s → Bytes x → Bytes (placed s k x)
bytes-placed s x k octets new =
    append-bytes (take (k * 128) s) (x ++ drop (k * 128 + 128) s) (take-bytes (k * 128) s octets)
    (append-bytes x (drop (k * 128 + 128) s) new (drop-bytes (k * 128 + 128) s octets))

-- what an accepted call has passed
pub passed : (slot : ℕ → ℕ) (s : List ℕ) (len n : ℕ) (r : Result (Unit {0}) Refusal) → r ≡ call_answer len (length (frames_in slot s)) false n → r ≡ Ok tt
    → (len ≡ 128) × (n < frame_count (length s))
passed slot s len n r told was = let l = length-frames_in slot s in (grind (arith, nat_tests), grind (arith, nat_tests))

-- and a call that passes all of it
pub accepted : (slot : ℕ → ℕ) (s : List ℕ) (len n : ℕ) → len ≡ 128 → n < frame_count (length s) → call_answer len (length (frames_in slot s)) false n ≡ Ok tt
accepted slot s len n long lt = let l = length-frames_in slot s in grind (arith, nat_tests)

pub few : (slot : ℕ → ℕ) (s : List ℕ) → length (frames_in slot s) ≤ 1024
few slot s = omega (arith, length-frames_in slot s)

pub slot_fits : (len k : ℕ) → k < frame_count len → (k < 1024) × (k * 128 + 128 ≤ len)
slot_fits len k h = (omega arith, omega arith)

pub length-placed : (s x : List ℕ) (k : ℕ) → k * 128 + 128 ≤ length s → length x ≡ 128 → length (placed s k x) ≡ length s
length-placed s x k le e =
    simp (length-append, length-drop) (let t = length-take-le (k * 128) s (omega arith) in omega arith)

pub placed-is : (s x : List ℕ) (k : ℕ) → placed s k x ≡ put_mid (k * 128) 128 s x
placed-is s x k = ap (λ z. take (k * 128) s ++ (x ++ z)) (sym (drop-drop 128 (k * 128) s))

-- another slot, before the one written or after it, and that slot itself
before : (s x : List ℕ) (k j : ℕ) → j < k → k * 128 ≤ length s → frame_at (placed s k x) j ≡ frame_at s j
before s x k j lt le =
    ap (λ t. frame_at t j) (placed-is s x k) ∙ sym (drop-take (j * 128) 128 _)
    ∙ ap (drop (j * 128)) (take-put_mid_below (k * 128) 128 s x (j * 128 + 128) (omega arith) le) ∙ drop-take (j * 128) 128 s

after : (s x : List ℕ) (k j : ℕ) → k < j → k * 128 ≤ length s → length x ≡ 128 → frame_at (placed s k x) j ≡ frame_at s j
after s x k j lt le e = rw (placed-is, drop-put_mid (k * 128) 128 s x (j * 128) (omega arith) le e) refl

other : (s x : List ℕ) (k j : ℕ) → j ≢ k → k * 128 ≤ length s → length x ≡ 128 → frame_at (placed s k x) j ≡ frame_at s j
other s x k j ne le e =
    ⊎_elim (λ same. absurd (ne same)) (⊎_elim (λ lt. before s x k j lt le) (λ gt. after s x k j gt le e)) (cases_order j k)

itself : (s x : List ℕ) (k : ℕ) → k * 128 ≤ length s → length x ≡ 128 → frame_at (placed s k x) k ≡ x
itself s x k le e =
    let here = length-take-le (k * 128) s le in
    let from = drop-append_seam (take (k * 128) s) (x ++ drop (k * 128 + 128) s) in
    let to = take-append_seam x (drop (k * 128 + 128) s) in
    cc

pub ruleset slots = (length-frames_in, get_or-frames_in, passed, slot_fits, nat_tests)

-- where each frame has a slot of its own among them
module _ (slot : ℕ → ℕ) (s : List ℕ) (among : (n : ℕ) → n < frame_count (length s) → slot n < frame_count (length s)) where
  pub framed : Bytes s → (n : ℕ) → n < length (frames_in slot s) → Frame (slice_index_or (frames_in slot s) n [])
  framed octets n h =
      let l = length-frames_in slot s in
      let lt : n < frame_count (length s) = omega arith in
      let f = slot_fits (length s) (slot n) (among n lt) in
      rw (get_or-frames_in slot s n lt) (record {
        long = length-take-le 128 (drop (slot n * 128) s) (simp length-drop (omega arith));
        bytes = take-bytes 128 (drop (slot n * 128) s) (drop-bytes (slot n * 128) s octets);
      })

  module _ (x : List ℕ) (k : ℕ) (in' : k < frame_count (length s)) (long : length x ≡ 128)
      (own : (j : ℕ) → j < frame_count (length s) → slot j ≡ slot k → j ≡ k) where
    pub frames_in-placed : frames_in slot (placed s (slot k) x) ≡ slice_set (frames_in slot s) k x
    unfolding frames_in
    frames_in-placed =
        let f = slot_fits (length s) (slot k) (among k in') in
        let le : slot k * 128 ≤ length s = omega arith in
        let all : frame_count (length (placed s (slot k) x)) ≡ frame_count (length s) = ap frame_count (length-placed s x (slot k) f.1 long) in
        ap (λ m. map (λ n. frame_at (placed s (slot k) x) (slot n)) (range_with_len 0 m)) all
        ∙ sym (fill_by_all (λ n. frame_at (placed s (slot k) x) (slot n)) (slice_set (frames_in slot s) k x) (frame_count (length s)) []
        (length-set (frames_in slot s) k x ∙ length-frames_in slot s)
        (λ j lt. ⊎_elim
        (λ (same : j ≡ k). ap (λ i. get_or (slice_set (frames_in slot s) k x) i []) same
        ∙ get_or-set_same (frames_in slot s) k x [] (let l = length-frames_in slot s in omega arith)
        ∙ sym (itself s x (slot k) le long) ∙ ap (λ i. frame_at (placed s (slot k) x) (slot i)) (sym same))
        (λ (ne : j ≢ k). get_or-set_other (frames_in slot s) k j x [] ne ∙ get_or-frames_in slot s j lt
        ∙ sym (other s x (slot k) (slot j) (λ same. ne (own j lt same)) le long))
        (cases_eq j k)))

-- a frame written in its slot of an image whose frames stand in this order
pub frames_placed : (order : ℕ → ℕ → ℕ) (s x : List ℕ) (k : ℕ) → k < frame_count (length s) → length x ≡ 128
    → ((j : ℕ) → j < frame_count (length s) → order (frame_count (length s)) j < frame_count (length s))
    → ((j : ℕ) → j < frame_count (length s) → order (frame_count (length s)) j ≡ order (frame_count (length s)) k → j ≡ k)
    → slice_set (frames_in (order (frame_count (length s))) s) k x
    ≡ (let t = placed s (order (frame_count (length s)) k) x in frames_in (order (frame_count (length t))) t)
frames_placed order s x k lt long among own =
    let slot = order (frame_count (length s)) in
    let f = slot_fits (length s) (slot k) (among k lt) in
    sym (ap (λ len. frames_in (order (frame_count len)) (placed s (slot k) x)) (length-placed s x (slot k) f.1 long)
    ∙ frames_in-placed slot s among x k lt long own)

pub flat_frames_placed : (s x : List ℕ) (k : ℕ) → k < frame_count (length s) → length x ≡ 128 → slice_set (flat_frames s) k x ≡ flat_frames (placed s k x)
flat_frames_placed s x k lt long = frames_placed (λ count. in_order) s x k lt long (λ j h. h) (λ j h e. e)

pub ruleset writes = (common_steps, flat_frames_placed)
