-- Frames of 128 bytes in the bytes of an image.
use Rattle.std.specs.Prelude.{ℕ, ◌+◌, ◌*◌, ◌/◌, min, List, ◌++◌, map, length, take, drop}
use Rattle.std.specs.List.{range_with_len}

-- an image holds as many frames as are whole, and at most 1,024
abbrev pub frame_count : ℕ → ℕ
frame_count len = min (len / 128) 1024

-- the bytes in a slot, and an image with others there
abbrev pub frame_at : List ℕ → ℕ → List ℕ
frame_at image slot = take 128 (drop (slot * 128) image)

abbrev pub placed : List ℕ → ℕ → List ℕ → List ℕ
placed image slot frame = take (slot * 128) image ++ (frame ++ drop (slot * 128 + 128) image)

-- the frames of an image, given the slot of each
unfoldable pub frames_in : (ℕ → ℕ) → List ℕ → List (List ℕ)
frames_in slot image = map (λ n. frame_at image (slot n)) (range_with_len 0 (frame_count (length image)))

-- in a flat image they stand one after another
abbrev pub in_order : ℕ → ℕ
in_order n = n

abbrev pub flat_frames : List ℕ → List (List ℕ)
flat_frames image = frames_in in_order image
