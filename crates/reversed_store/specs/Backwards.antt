-- Frames that stand in an image in reverse order.
use Rattle.std.specs.Prelude.{ℕ, ◌-◌, List, length}
use Rattle.store.specs.Frames.{frame_count, frames_in}

-- frame 0 stands in the last slot
abbrev pub backwards : ℕ → ℕ → ℕ
backwards count n = count - 1 - n

abbrev pub frames_back : List ℕ → List (List ℕ)
frames_back image = frames_in (backwards (frame_count (length image))) image
