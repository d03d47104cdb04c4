-- The plain texts of a secure frame's parts, and the frame that is read in them.
use Rattle.std.specs.Prelude.{ℕ, ◌+◌, ◌-◌, ◌*◌, ◌/◌, ◌==◌, ◌&&◌, Bool, true, List, [], ◌∷◌, ◌++◌, length, take, drop, replicate, sum_by, slice_index, Result, Ok, Err, if◌then◌else◌}
use Rattle.std.specs.List.{flat_map, list_all, slice_range}
use Rattle.cx_frame.specs.declared.frame.Segment.{Segment}
use Rattle.cx_frame.specs.declared.frame.Frame.{Frame}
use Rattle.cx_frame.specs.declared.preamble.Preamble.{Preamble}
use Rattle.cx_frame.specs.Preambles.{preamble_of, preamble_text}
use Rattle.cx_secure.specs.Parts.{sealed_parts}
use Rattle.cx_secure.specs.declared.refusals.SecureRefusal.{SecureRefusal}
use Rattle.cx_secure.specs.declared.refusals.SecureRefusal.TheVariants.{BadShape, Aborted}

-- the multiple of 16 from a number on
unfoldable pub up16 : ℕ → ℕ
up16 n = (n + 15) / 16 * 16

-- bytes filled with zeros
unfoldable pub filled : ℕ → List ℕ → List ℕ
filled n bytes = bytes ++ replicate (n - length bytes) 0

-- ---- how a frame is written

-- a text that is part of the frame where it isn't empty
abbrev pub nonempty : List ℕ → List (List ℕ)
nonempty [] = []
nonempty (b ∷ bs) = (b ∷ bs) ∷ []

-- a segment filled to a multiple of 16
unfoldable pub padded : Segment → List ℕ
padded s = filled (up16 (length s.bytes)) s.bytes

-- the segments from the second on
abbrev pub bodies : List Segment → List ℕ
bodies others = flat_map padded others

-- the last part: these segments, and the late status 0x0e, filled to 16 bytes
unfoldable pub last_plain : List Segment → List ℕ
last_plain others = if length others == 0 then [] else bodies others ++ filled 16 (0x0e ∷ [])

-- what of the first segment stands in the first part: 48 bytes, with zeros where it is shorter
unfoldable pub inline_of : List ℕ → List ℕ
inline_of bytes = filled 48 (take 48 bytes)

-- its rest, filled to a multiple of 16
unfoldable pub second_plain : List ℕ → List ℕ
second_plain bytes = filled (up16 (length bytes - 48)) (drop 48 bytes)

-- the parts of a frame with this preamble, first segment and others
unfoldable pub parts_of : List ℕ → List ℕ → List Segment → List (List ℕ)
parts_of preamble first others = (preamble ++ inline_of first) ∷ nonempty (second_plain first) ++ nonempty (last_plain others)

unfoldable pub plains_of : List ℕ → List Segment → List (List ℕ)
plains_of preamble [] = []
plains_of preamble (s ∷ ss) = parts_of preamble s.bytes ss

unfoldable pub plains : Frame → List (List ℕ)
plains f = plains_of (preamble_text (preamble_of f)) f.segments

-- a secure frame, whose parts are sealed from this counter on; the counter behind it is higher by their number
abbrev pub secure_text : List ℕ → List ℕ → ℕ → Frame → List ℕ
secure_text key fixed counter f = sealed_parts key fixed counter (plains f)

-- ---- how long it is

-- the plain bytes of the second part, and of the last one; 0 where there is none
unfoldable pub second_len : Preamble → ℕ
second_len p = up16 (slice_index p.lengths 0 - 48)

unfoldable pub last_len : Preamble → ℕ
last_len p = if p.count == 1 then 0 else sum_by up16 (slice_range p.lengths 1 p.count) + 16

-- a part with its tag
unfoldable pub tagged : ℕ → ℕ
tagged n = if n == 0 then 0 else n + 16

abbrev pub one_if : ℕ → ℕ
one_if n = if n == 0 then 0 else 1

-- the bytes that stand behind the head, and the parts that these are
unfoldable pub rest_len : Preamble → ℕ
rest_len p = tagged (second_len p) + tagged (last_len p)

unfoldable pub rest_parts : Preamble → ℕ
rest_parts p = one_if (second_len p) + one_if (last_len p)

-- ---- how it is read

unfoldable pub are_zeros : List ℕ → Bool
are_zeros bytes = list_all (λ b. b == 0) bytes

-- segments of these lengths, each filled to a multiple of 16, have zeros as their fill
unfoldable pub have_zero_fills : List ℕ → List ℕ → Bool
have_zero_fills [] bytes = true
have_zero_fills (n ∷ ns) bytes = are_zeros (drop n (take (up16 n) bytes)) && have_zero_fills ns (drop (up16 n) bytes)

-- the segments themselves
unfoldable pub cut_of : List ℕ → List ℕ → List ℕ → List Segment
cut_of [] aligns bytes = []
cut_of (n ∷ ns) [] bytes = []
cut_of (n ∷ ns) (a ∷ more) bytes = record { align = a; bytes = take n bytes } ∷ cut_of ns more (drop (up16 n) bytes)

-- the late status
unfoldable pub by_late : {X : Type 0} → ℕ → X → Result X SecureRefusal
by_late late x = if late == 0x0e then Ok x else if late == 0x01 then Err Aborted else Err BadShape

-- the frame with this first segment, in the plain bytes of the last part: all fills have to be zeros before the late status counts
unfoldable pub with_last : Preamble → Segment → List ℕ → Result Frame SecureRefusal
with_last p first last =
    let ns = slice_range p.lengths 1 p.count in
    let body = take (length last - 16) last in
    let end = drop (length last - 16) last in
    if have_zero_fills ns body && are_zeros (drop 1 end)
    then by_late (slice_index end 0) (record { tag = p.tag; segments = first ∷ cut_of ns (slice_range p.aligns 1 p.count) body })
    else Err BadShape

-- the frame in its first segment with the fill of that, and in the plain bytes of the last part
unfoldable pub frame_at : Preamble → List ℕ → List ℕ → Result Frame SecureRefusal
frame_at p room last =
    let first : Segment = record { align = slice_index p.aligns 0; bytes = take (slice_index p.lengths 0) room } in
    if are_zeros (drop (slice_index p.lengths 0) room)
    then (if p.count == 1 then Ok (record { tag = p.tag; segments = first ∷ [] }) else with_last p first last)
    else Err BadShape
