-- Plain frames ("msgr2 protocol", frame format): the spelling of a frame, and the reading of what stands behind its preamble.
use Rattle.std.specs.Prelude.{ℕ, ◌≡◌, ◌+◌, ◌-◌, ◌^◌, ◌<◌, ◌≤◌, ◌==◌, List, [], ◌∷◌, ◌++◌, All, length, take, drop, sum, sum_by, slice_index, slice_get, Option, Some, None, Result, Ok, Err, if◌then◌else◌}
use Rattle.std.specs.List.{flat_map, slice_range}
use Rattle.std.specs.Int.{w32, to_le_bytes}
use Rattle.cx_digest.specs.Checksum.{crc32c}
use Rattle.cx_frame.specs.Preambles.{length_of, preamble_of, preamble_text, is_four_bytes}
use Rattle.cx_frame.specs.declared.frame.Segment.{Segment}
use Rattle.cx_frame.specs.declared.frame.Frame.{Frame}
use Rattle.cx_frame.specs.declared.preamble.Preamble.{Preamble}
use Rattle.cx_frame.specs.declared.refusals.FrameRefusal.{FrameRefusal}
use Rattle.cx_frame.specs.declared.refusals.FrameRefusal.TheVariants.{BadCrc, BadShape, TooLong, Aborted, OutOfMemory}

abbrev pub bytes_of : Segment → List ℕ
bytes_of s = s.bytes

-- the bytes that the segments have together
abbrev pub total : Frame → ℕ
total f = sum_by length_of f.segments

-- the check sum of a segment, whose seed is 2^32 - 1
unfoldable pub check_sum : List ℕ → ℕ
check_sum bytes = crc32c 0xffffffff bytes

-- ---- how a frame is spelled

-- the first segment, and its check sum where it isn't empty
unfoldable pub first_text : List ℕ → List ℕ
first_text bytes = if length bytes == 0 then [] else bytes ++ to_le_bytes w32 (check_sum bytes)

-- the check sum of a later segment; 0 where there is none
unfoldable pub sum_text : Option Segment → List ℕ
sum_text (Some s) = to_le_bytes w32 (check_sum s.bytes)
sum_text None = to_le_bytes w32 0

-- the epilogue behind the segments from the second on: the late status 0x0e, which says that the frame is complete, and three
-- check sums
unfoldable pub epilogue : List Segment → List ℕ
epilogue others =
    0x0e ∷ sum_text (slice_get others 0) ++ (sum_text (slice_get others 1) ++ sum_text (slice_get others 2))

-- the segments from the second on and the epilogue, where there are any
unfoldable pub others_text : List Segment → List ℕ
others_text others = if length others == 0 then [] else flat_map bytes_of others ++ epilogue others

-- what stands behind the preamble
unfoldable pub rest_text : List Segment → List ℕ
rest_text [] = []
rest_text (s ∷ ss) = first_text s.bytes ++ others_text ss

-- a plain frame
unfoldable pub frame_text : Frame → List ℕ
frame_text f = preamble_text (preamble_of f) ++ rest_text f.segments

-- a frame that a preamble can announce
pub record IsAnnounceable (f : Frame) : Type 0 where
  pub tag_low : 1 ≤ f.tag
  pub tag_high : f.tag ≤ 20
  pub count_low : 1 ≤ length f.segments
  pub count_high : length f.segments ≤ 4
  pub each : All (λ s. length s.bytes < 2 ^ 32) f.segments

-- ---- how it is read

-- the bytes that the first segment takes up, with its check sum
unfoldable pub first_len : ℕ → ℕ
first_len n = if n == 0 then 0 else n + 4

-- the bytes that the segments from the second on take up, with the epilogue
unfoldable pub others_len : Preamble → ℕ
others_len p = if p.count == 1 then 0 else sum (slice_range p.lengths 1 p.count) + 13

-- the bytes that stand behind a preamble
unfoldable pub rest_len : Preamble → ℕ
rest_len p = first_len (slice_index p.lengths 0) + others_len p

-- the first segment in the bytes that it takes up
unfoldable pub first_at : ℕ → List ℕ → Result Segment FrameRefusal
first_at align bytes =
    if length bytes == 0 then Ok (record { align = align; bytes = [] })
    else if is_four_bytes (drop (length bytes - 4) bytes) (check_sum (take (length bytes - 4) bytes))
    then Ok (record { align = align; bytes = take (length bytes - 4) bytes })
    else Err BadCrc

-- bytes cut into segments of these lengths and alignments
unfoldable pub segments_of : List ℕ → List ℕ → List ℕ → List Segment
segments_of [] aligns bytes = []
segments_of (n ∷ ns) [] bytes = []
segments_of (n ∷ ns) (a ∷ more) bytes = record { align = a; bytes = take n bytes } ∷ segments_of ns more (drop n bytes)

-- one check sum of an epilogue; where there is no segment it is a part of the format
unfoldable pub sum_fault : Option Segment → List ℕ → Option FrameRefusal
sum_fault (Some s) bytes = if is_four_bytes bytes (check_sum s.bytes) then None else Some BadCrc
sum_fault None bytes = if is_four_bytes bytes 0 then None else Some BadShape

-- the first of two faults
abbrev pub or_next : Option FrameRefusal → Option FrameRefusal → Option FrameRefusal
or_next (Some e) next = Some e
or_next None next = next

-- the first fault of an epilogue behind these segments: the late status, and then the check sums in their order
unfoldable pub epilogue_fault : List Segment → List ℕ → Option FrameRefusal
epilogue_fault others bytes =
    if slice_index bytes 0 == 0x0e
    then or_next (sum_fault (slice_get others 0) (slice_range bytes 1 5))
    (or_next (sum_fault (slice_get others 1) (slice_range bytes 5 9)) (sum_fault (slice_get others 2) (slice_range bytes 9 13)))
    else if slice_index bytes 0 == 0x01 then Some Aborted
    else Some BadShape

abbrev pub unless : {X : Type 0} → Option FrameRefusal → X → Result X FrameRefusal
unless (Some e) x = Err e
unless None x = Ok x

-- the frame, once its first segment was read, in what stands behind that
unfoldable pub behind_first : Preamble → List ℕ → Result Segment FrameRefusal → Result Frame FrameRefusal
behind_first p left (Err e) = Err e
behind_first p left (Ok first) =
    if p.count == 1 then Ok (record { tag = p.tag; segments = first ∷ [] })
    else let others = segments_of (slice_range p.lengths 1 p.count) (slice_range p.aligns 1 p.count) (take (length left - 13) left) in
    unless (epilogue_fault others (drop (length left - 13) left)) (record { tag = p.tag; segments = first ∷ others })

-- the frame whose preamble this is, in what stands behind it, or the first check that fails: the check sum of the first segment,
-- the late status, and then the other check sums
unfoldable pub rest_at : Preamble → List ℕ → Result Frame FrameRefusal
rest_at p bytes =
    let n = first_len (slice_index p.lengths 0) in
    behind_first p (drop n bytes) (first_at (slice_index p.aligns 0) (take n bytes))

-- ---- what the calls answer

-- the answer is this one, unless memory was wanting
abbrev pub Agrees : {X : Type 0} → Result X FrameRefusal → Result X FrameRefusal → Type 0
Agrees (Ok x) expected = expected ≡ Ok x
Agrees (Err OutOfMemory) expected = Unit {0}
Agrees (Err e) expected = expected ≡ Err e

-- the preamble announces this frame, and these bytes are the rest of it
pub record IsRest (p : Preamble) (bytes : List ℕ) (f : Frame) : Type 0 where
  pub head : preamble_of f ≡ p
  pub text : bytes ≡ rest_text f.segments

-- why a frame isn't written: its segments have so many bytes together, which is above the limit; want of memory is free
abbrev pub IsAboveLimit : ℕ → Frame → FrameRefusal → Type 0
IsAboveLimit limit f (TooLong n) = (n ≡ total f) × (limit < n)
IsAboveLimit limit f OutOfMemory = Unit {0}
IsAboveLimit limit f _ = ⊥
