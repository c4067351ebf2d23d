-- A frame written in its slot of an image in reverse order.
use Rattle.std.proofs.Common.{◌≡◌, ℕ, ◌<◌, List, length, slice_set, arith}
use Rattle.store.specs.Frames.{frame_count, placed}
use Rattle.store.specs.Slots.{frames_placed}
use Rattle.reversed_store.specs.Backwards.{backwards, frames_back}

pub frames_back_placed : (s x : List ℕ) (k : ℕ) → k < frame_count (length s) → length x ≡ 128 → slice_set (frames_back s) k x ≡ frames_back (placed s (backwards (frame_count (length s)) k) x)
frames_back_placed s x k lt long = frames_placed backwards s x k lt long (λ j h. omega arith) (λ j h e. omega arith)
