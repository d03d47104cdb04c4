-- Frames, and the preamble that announces each ("msgr2 protocol", frame format): how it is spelled, and what is checked of it.
use Rattle.std.specs.Prelude.{ℕ, ◌≡◌, ◌+◌, ◌^◌, ◌<◌, ◌≤◌, ◌==◌, ◌&&◌, Bool, List, [], ◌∷◌, ◌++◌, length, take, drop, map, sum, slice_index, nat_lt, nat_le, Result, Ok, Err, if◌then◌else◌, IsTrue}
use Rattle.std.specs.List.{list_all}
use Rattle.std.specs.Int.{w16, w32, to_le_bytes, from_le_bytes}
use Rattle.std.specs.Str.{bytes_eq}
use Rattle.cx_digest.specs.Checksum.{crc32c}
use Rattle.cx_frame.specs.declared.frame.Segment.{Segment}
use Rattle.cx_frame.specs.declared.frame.Frame.{Frame}
use Rattle.cx_frame.specs.declared.preamble.Preamble.{Preamble}
use Rattle.cx_frame.specs.declared.refusals.FrameRefusal.{FrameRefusal}
use Rattle.cx_frame.specs.declared.refusals.FrameRefusal.TheVariants.{BadCrc, BadShape, TooLong}

-- four numbers: those that there are, and zeros behind them
abbrev pub four : List ℕ → List ℕ
four ns = slice_index ns 0 ∷ slice_index ns 1 ∷ slice_index ns 2 ∷ slice_index ns 3 ∷ []

abbrev pub length_of : Segment → ℕ
length_of s = length s.bytes

abbrev pub align_of : Segment → ℕ
align_of s = s.align

-- what the preamble of a frame announces
unfoldable pub preamble_of : Frame → Preamble
preamble_of f = record {
  tag = f.tag;
  count = length f.segments;
  lengths = four (map length_of f.segments);
  aligns = four (map align_of f.segments);
}

-- ---- how it is spelled

-- a length in four bytes and an alignment in two, for each segment
unfoldable pub descriptors : List ℕ → List ℕ → List ℕ
descriptors [] aligns = []
descriptors (n ∷ ns) [] = []
descriptors (n ∷ ns) (a ∷ more) = to_le_bytes w32 n ++ (to_le_bytes w16 a ++ descriptors ns more)

-- the 28 bytes that its check sum covers: tag, count, four descriptors, flags 0 and a reserved 0
unfoldable pub front_text : Preamble → List ℕ
front_text p = p.tag ∷ p.count ∷ descriptors p.lengths p.aligns ++ 0 ∷ 0 ∷ []

-- with the check sum behind them, whose seed is 0: 32 bytes
unfoldable pub preamble_text : Preamble → List ℕ
preamble_text p = front_text p ++ to_le_bytes w32 (crc32c 0 (front_text p))

-- ---- how it is read

abbrev pub number16 : List ℕ → ℕ → ℕ
number16 b i = from_le_bytes w16 (slice_index b i ∷ slice_index b (i + 1) ∷ [])

abbrev pub number32 : List ℕ → ℕ → ℕ
number32 b i = from_le_bytes w32 (slice_index b i ∷ slice_index b (i + 1) ∷ slice_index b (i + 2) ∷ slice_index b (i + 3) ∷ [])

-- the numbers that stand in 32 bytes
unfoldable pub fields_of : List ℕ → Preamble
fields_of b = record {
  tag = slice_index b 0;
  count = slice_index b 1;
  lengths = number32 b 2 ∷ number32 b 8 ∷ number32 b 14 ∷ number32 b 20 ∷ [];
  aligns = number16 b 6 ∷ number16 b 12 ∷ number16 b 18 ∷ number16 b 24 ∷ [];
}

-- these bytes are this number
unfoldable pub is_four_bytes : List ℕ → ℕ → Bool
is_four_bytes bytes n = bytes_eq bytes (to_le_bytes w32 n)

-- the last four bytes are the check sum of the others
unfoldable pub has_sum : List ℕ → Bool
has_sum b = is_four_bytes (drop 28 b) (crc32c 0 (take 28 b))

-- a tag from 1 to 20, one to four segments, and zeros for those that there aren't
unfoldable pub is_shaped : Preamble → Bool
is_shaped p =
    nat_le 1 p.tag && (nat_le p.tag 20 && (nat_le 1 p.count && (nat_le p.count 4
    && (list_all (λ n. n == 0) (drop p.count p.lengths) && list_all (λ a. a == 0) (drop p.count p.aligns)))))

-- flags and the reserved byte are 0
unfoldable pub ends_in_zeros : List ℕ → Bool
ends_in_zeros b = (slice_index b 26 == 0) && (slice_index b 27 == 0)

-- the preamble in 32 bytes, where the segments may have so many bytes together, or the first check that fails
unfoldable pub preamble_at : ℕ → List ℕ → Result Preamble FrameRefusal
preamble_at limit b =
    if has_sum b
    then (if is_shaped (fields_of b) && ends_in_zeros b
    then (if nat_lt limit (sum (fields_of b).lengths) then Err (TooLong (sum (fields_of b).lengths)) else Ok (fields_of b))
    else Err BadShape)
    else Err BadCrc

-- what the checks behind the check sum let through, where the segments may have so many bytes together
pub record IsAllowed (limit : ℕ) (p : Preamble) : Type 0 where
  pub tag_low : 1 ≤ p.tag
  pub tag_high : p.tag ≤ 20
  pub count_low : 1 ≤ p.count
  pub count_high : p.count ≤ 4
  pub no_lengths : IsTrue (list_all (λ n. n == 0) (drop p.count p.lengths))
  pub no_aligns : IsTrue (list_all (λ a. a == 0) (drop p.count p.aligns))
  pub total : sum p.lengths ≤ limit
  pub four_lengths : length p.lengths ≡ 4
  pub four_aligns : length p.aligns ≡ 4
  pub each_length : (i : ℕ) → slice_index p.lengths i < 2 ^ 32
  pub each_align : (i : ℕ) → slice_index p.aligns i < 2 ^ 16
