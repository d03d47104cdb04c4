-- Bytes cut into segments.
use Rattle.std.proofs.Common.{◌≡◌, ℕ, zero, suc, ◌+◌, ◌-◌, ◌<◌, ◌≤◌, List, [], ◌∷◌, ◌++◌, length, slice_index, slice_index_or, take, drop, sum, refl, sym, ap, ◌∙◌, arith, add-one, length-take, length-drop, Bool, true, false, All, sum_by, ◌*◌, ◌^◌, ◌≢◌, append_assoc, map, inl, inr}
use Rattle.std.proofs.Math.Seq.{drop-cons}
use Rattle.std.specs.Prelude.{Result, Err}
use Rattle.std.specs.List.{list_all}
use Rattle.std.proofs.lemmas.Bool.{cases_eq, ne_eqb}
use Rattle.std.proofs.lemmas.List.{append-nil, at_drop_all}
use Rattle.std.proofs.lemmas.List.Elements.{All-weaker}
use Rattle.cx_frame.specs.declared.refusals.FrameRefusal.{FrameRefusal}
use Rattle.cx_frame.specs.declared.refusals.FrameRefusal.TheVariants.{BadCrc, BadShape, TooLong, Aborted, OutOfMemory}
use Rattle.cx_frame.proofs.Fours.{each_below}
use Rattle.std.proofs.lemmas.List.Sums.{sum_by-cons, sum_by-take-le, sum_by-take-drop, sum_by-le}
use Rattle.std.specs.List.{slice_range}
use Rattle.cx_frame.specs.declared.frame.Segment.{Segment}
use Rattle.std.specs.Prelude.{if◌then◌else◌, ◌==◌}
use Rattle.cx_frame.specs.declared.frame.Frame.{Frame}
use Rattle.cx_frame.specs.declared.preamble.Preamble.{Preamble}
use Rattle.std.specs.Int.{w16, w32, to_le_bytes}
use Rattle.cx_frame.specs.Frames.{segments_of, others_len, first_len, behind_first, total, IsAnnounceable, Agrees}
use Rattle.cx_frame.specs.Preambles.{descriptors, IsAllowed, length_of, align_of, four, preamble_of}

-- a part of a list of numbers has no larger sum
pub range_le : (xs : List ℕ) (k : ℕ) → sum (slice_range xs 1 k) ≤ sum xs
range_le xs k =
    let front : sum (take (k - 1) (drop 1 xs)) ≤ sum (drop 1 xs) = sum_by-take-le (λ n. n) (drop 1 xs) (k - 1) in
    let behind : sum (take 1 xs) + sum (drop 1 xs) ≡ sum xs = sum_by-take-drop (λ n. n) xs 1 in
    omega arith

-- the segments from the second on are short
pub few_others : (p : Preamble) → IsAllowed 65536 p → others_len p ≤ 65549
unfolding others_len
few_others p fine =
    let one : Bool = p.count == 1 in
    let part : sum (slice_range p.lengths 1 p.count) ≤ sum p.lengths = range_le p.lengths p.count in
    elim one as (λ (b : Bool). (if b then 0 else sum (slice_range p.lengths 1 p.count) + 13) ≤ 65549) [ true ↦ omega arith | false ↦ omega (arith, fine.total) ]

-- the lengths and the alignments from the second on are as many
pub same_ranges : (p : Preamble) → IsAllowed 65536 p → length (slice_range p.aligns 1 p.count) ≡ length (slice_range p.lengths 1 p.count)
same_ranges p fine = omega (arith, length-take (p.count - 1) (drop 1 p.aligns), length-take (p.count - 1) (drop 1 p.lengths), length-drop 1 p.aligns, length-drop 1 p.lengths, fine.four_lengths, fine.four_aligns)

-- few segments that are not too long have few bytes together
pub total_small : (f : Frame) → IsAnnounceable f → sum_by length_of f.segments < 2 ^ 64
total_small f fine =
    let each : All (λ s. length_of s ≤ 2 ^ 32) f.segments = All-weaker (λ s. length s.bytes < 2 ^ 32) (λ s. length_of s ≤ 2 ^ 32) (λ s lt. omega arith) f.segments fine.each in
    let most : sum_by length_of f.segments ≤ length f.segments * 2 ^ 32 = sum_by-le length_of (2 ^ 32) f.segments each in
    omega (arith, fine.count_high)

pub sum-cons : (n : ℕ) (ns : List ℕ) → sum (n ∷ ns) ≡ n + sum ns
sum-cons n ns = sum_by-cons (λ m. m) n ns

-- one segment more is cut off
pub cut_more : (ns aligns bytes : List ℕ) (i : ℕ) → i < length ns → length aligns ≡ length ns
    → segments_of (drop i ns) (drop i aligns) bytes
    ≡ (let s : Segment = record { align = slice_index aligns i; bytes = take (slice_index ns i) bytes } in s) ∷ segments_of (drop (i + 1) ns) (drop (i + 1) aligns) (drop (slice_index ns i) bytes)
unfolding segments_of
cut_more ns aligns bytes i lt same =
    let too : i < length aligns = omega arith in
    rw (drop-cons ns i 0, drop-cons aligns i 0, add-one) refl

-- what is left to cut has as many bytes as the lengths that are left
pub room_more : (ns : List ℕ) (i : ℕ) → i < length ns → sum (drop i ns) ≡ slice_index ns i + sum (drop (i + 1) ns)
room_more ns i lt =
    ap sum (drop-cons ns i 0 lt ∙ ap (λ j. slice_index ns i ∷ drop j ns) (sym (add-one i))) ∙ sum-cons (slice_index ns i) (drop (i + 1) ns)

-- four descriptors, byte by byte
pub all_described : (tag count : ℕ) (ns aligns a b c d : List ℕ) → length ns ≡ 4 → length aligns ≡ 4
    → a ≡ to_le_bytes w32 (slice_index ns 0) ++ to_le_bytes w16 (slice_index aligns 0)
    → b ≡ to_le_bytes w32 (slice_index ns 1) ++ to_le_bytes w16 (slice_index aligns 1)
    → c ≡ to_le_bytes w32 (slice_index ns 2) ++ to_le_bytes w16 (slice_index aligns 2)
    → d ≡ to_le_bytes w32 (slice_index ns 3) ++ to_le_bytes w16 (slice_index aligns 3)
    → tag ∷ count ∷ slice_index_or a 0 0 ∷ slice_index_or a 1 0 ∷ slice_index_or a 2 0 ∷ slice_index_or a 3 0 ∷ slice_index_or a 4 0 ∷ slice_index_or a 5 0 ∷ slice_index_or b 0 0 ∷ slice_index_or b 1 0 ∷ slice_index_or b 2 0 ∷ slice_index_or b 3 0 ∷ slice_index_or b 4 0 ∷ slice_index_or b 5 0 ∷ slice_index_or c 0 0 ∷ slice_index_or c 1 0 ∷ slice_index_or c 2 0 ∷ slice_index_or c 3 0 ∷ slice_index_or c 4 0 ∷ slice_index_or c 5 0 ∷ slice_index_or d 0 0 ∷ slice_index_or d 1 0 ∷ slice_index_or d 2 0 ∷ slice_index_or d 3 0 ∷ slice_index_or d 4 0 ∷ slice_index_or d 5 0 ∷ 0 ∷ 0 ∷ [] ≡ tag ∷ count ∷ descriptors ns aligns ++ 0 ∷ 0 ∷ []
unfolding descriptors
all_described tag count (n ∷ m ∷ o ∷ p ∷ []) (q ∷ r ∷ s ∷ t ∷ []) a b c d e f first second third fourth = rw (first, second, third, fourth) refl
all_described tag count _ _ a b c d e f first second third fourth = absurd (omega arith)

-- one segment more was cut off and put behind the others
pub segment_on : (ns aligns left behind : List ℕ) (i : ℕ) (before now whole : List Segment) → i < length ns → length aligns ≡ length ns
    → before ++ segments_of (drop i ns) (drop i aligns) left ≡ whole
    → (let s : Segment = record { align = slice_index aligns i; bytes = take (slice_index ns i) left } in now ≡ before ++ s ∷ []) → behind ≡ drop (slice_index ns i) left
    → now ++ segments_of (drop (i + 1) ns) (drop (i + 1) aligns) behind ≡ whole
segment_on ns aligns left behind i before now whole lt same so_far pushed cut =
    let s : Segment = record { align = slice_index aligns i; bytes = take (slice_index ns i) left } in
    let rest : List ℕ → List Segment = λ b. segments_of (drop (i + 1) ns) (drop (i + 1) aligns) b in
    ap (λ b. now ++ rest b) cut ∙ ap (λ (t : List Segment). t ++ rest (drop (slice_index ns i) left)) pushed
    ∙ append_assoc before (s ∷ []) (rest (drop (slice_index ns i) left))
    ∙ ap (λ (t : List Segment). before ++ t) (sym (cut_more ns aligns left i lt same)) ∙ so_far

pub all_cut : (ns aligns left : List ℕ) (i : ℕ) (now whole : List Segment) → length ns ≤ i → now ++ segments_of (drop i ns) (drop i aligns) left ≡ whole → now ≡ whole
unfolding segments_of
all_cut ns aligns left i now whole le so_far =
    sym (append-nil now) ∙ sym (at_drop_all (λ (xs : List ℕ). now ++ segments_of xs (drop i aligns) left) ns i le) ∙ so_far

-- a segment that takes up bytes takes up those of its check sum
pub first_large : (n : ℕ) → first_len n ≢ 0 → 4 ≤ first_len n
unfolding first_len
first_large n some = elim (cases_eq n 0) [ inl e ↦ absurd (some (rw e refl)) | inr ne ↦ rw (ne_eqb n 0 ne) (omega arith) ]

-- a fault of the first segment is the frame's
pub first_refused : (p : Preamble) (left : List ℕ) (e : FrameRefusal) (read : Result Segment FrameRefusal)
    → (let answer : Result Segment FrameRefusal = Err e in Agrees answer read) → (let answer : Result Frame FrameRefusal = Err e in Agrees answer (behind_first p left read))
unfolding behind_first
first_refused p left BadCrc read is = ap (behind_first p left) is
first_refused p left BadShape read is = ap (behind_first p left) is
first_refused p left (TooLong n) read is = ap (behind_first p left) is
first_refused p left Aborted read is = ap (behind_first p left) is
first_refused p left OutOfMemory read is = tt

-- ---- the preamble of a frame that is written

made : (limit t n k l m o p q r s : ℕ) → 1 ≤ t → t ≤ 20 → 1 ≤ n → n ≤ 4
    → list_all (λ x. x == 0) (drop n (k ∷ l ∷ m ∷ o ∷ [])) ≡ true → list_all (λ x. x == 0) (drop n (p ∷ q ∷ r ∷ s ∷ [])) ≡ true → k + l + m + o ≤ limit
    → k < 2 ^ 32 → l < 2 ^ 32 → m < 2 ^ 32 → o < 2 ^ 32 → p < 2 ^ 16 → q < 2 ^ 16 → r < 2 ^ 16 → s < 2 ^ 16
    → (let h : Preamble = record { tag = t; count = n; lengths = k ∷ l ∷ m ∷ o ∷ []; aligns = p ∷ q ∷ r ∷ s ∷ [] } in IsAllowed limit h)
made limit t n k l m o p q r s t1 t2 n1 n2 no_l no_a sum hk hl hm ho hp hq hr hs = record {
  tag_low = t1;
  tag_high = t2;
  count_low = n1;
  count_high = n2;
  no_lengths = no_l;
  no_aligns = no_a;
  total = omega arith;
  four_lengths = refl;
  four_aligns = refl;
  each_length = each_below (2 ^ 32) k l m o (omega arith) hk hl hm ho;
  each_align = each_below (2 ^ 16) p q r s (omega arith) hp hq hr hs;
}

-- the numbers of the segments are those of fields
pub record AreFields (ss : List Segment) : Type 0 where
  pub lengths : (i : ℕ) → i < 4 → slice_index (map length_of ss) i < 2 ^ 32
  pub aligns : (i : ℕ) → i < 4 → slice_index (map align_of ss) i < 2 ^ 16

fields_made : (limit t n : ℕ) (ns aligns : List ℕ) → 1 ≤ t → t ≤ 20 → 1 ≤ n → n ≤ 4
    → ((i : ℕ) → i < 4 → slice_index ns i < 2 ^ 32) → ((i : ℕ) → i < 4 → slice_index aligns i < 2 ^ 16)
    → list_all (λ x. x == 0) (drop n (four ns)) ≡ true → list_all (λ x. x == 0) (drop n (four aligns)) ≡ true
    → slice_index ns 0 + slice_index ns 1 + slice_index ns 2 + slice_index ns 3 ≤ limit
    → (let h : Preamble = record { tag = t; count = n; lengths = four ns; aligns = four aligns } in IsAllowed limit h)
fields_made limit t n ns aligns t1 t2 n1 n2 each_n each_a no_n no_a sum =
    made limit t n _ _ _ _ _ _ _ _ t1 t2 n1 n2 no_n no_a sum
    (each_n 0 (omega arith)) (each_n 1 (omega arith)) (each_n 2 (omega arith)) (each_n 3 (omega arith)) (each_a 0 (omega arith)) (each_a 1 (omega arith)) (each_a 2 (omega arith)) (each_a 3 (omega arith))

allowed_segments : (limit t : ℕ) (ss : List Segment) → 1 ≤ t → t ≤ 20 → 1 ≤ length ss → length ss ≤ 4 → AreFields ss → sum_by length_of ss ≤ limit
    → (let f : Frame = record { tag = t; segments = ss } in IsAllowed limit (preamble_of f))
unfolding preamble_of
allowed_segments limit t (a ∷ []) t1 t2 n1 n2 are within = fields_made limit t 1 (map length_of (a ∷ [])) (map align_of (a ∷ [])) t1 t2 n1 n2 are.lengths are.aligns refl refl (omega arith)
allowed_segments limit t (a ∷ b ∷ []) t1 t2 n1 n2 are within = fields_made limit t 2 (map length_of (a ∷ b ∷ [])) (map align_of (a ∷ b ∷ [])) t1 t2 n1 n2 are.lengths are.aligns refl refl (omega arith)
allowed_segments limit t (a ∷ b ∷ c ∷ []) t1 t2 n1 n2 are within = fields_made limit t 3 (map length_of (a ∷ b ∷ c ∷ [])) (map align_of (a ∷ b ∷ c ∷ [])) t1 t2 n1 n2 are.lengths are.aligns refl refl (omega arith)
allowed_segments limit t (a ∷ b ∷ c ∷ d ∷ []) t1 t2 n1 n2 are within = fields_made limit t 4 (map length_of (a ∷ b ∷ c ∷ d ∷ [])) (map align_of (a ∷ b ∷ c ∷ d ∷ [])) t1 t2 n1 n2 are.lengths are.aligns refl refl (omega arith)
allowed_segments limit t _ t1 t2 n1 n2 are within = absurd (omega arith)

pub allowed_frame : (limit : ℕ) (f : Frame) → IsAnnounceable f → AreFields f.segments → total f ≤ limit → IsAllowed limit (preamble_of f)
allowed_frame limit f fine are within = allowed_segments limit f.tag f.segments fine.tag_low fine.tag_high fine.count_low fine.count_high are within

four_cases : (P : ℕ → Type 0) → P 0 → P 1 → P 2 → P 3 → (i : ℕ) → i < 4 → P i
four_cases P p q r s zero lt = p
four_cases P p q r s (suc zero) lt = q
four_cases P p q r s (suc (suc zero)) lt = r
four_cases P p q r s (suc (suc (suc zero))) lt = s
four_cases P p q r s (suc (suc (suc (suc i)))) lt = absurd (omega arith)

-- the fields that were made of the segments
pub made_fields : (ss : List Segment) (k l m n p q r s : ℕ)
    → k ≡ slice_index (map length_of ss) 0 → l ≡ slice_index (map length_of ss) 1 → m ≡ slice_index (map length_of ss) 2 → n ≡ slice_index (map length_of ss) 3
    → p ≡ slice_index (map align_of ss) 0 → q ≡ slice_index (map align_of ss) 1 → r ≡ slice_index (map align_of ss) 2 → s ≡ slice_index (map align_of ss) 3
    → k < 2 ^ 32 → l < 2 ^ 32 → m < 2 ^ 32 → n < 2 ^ 32 → p < 2 ^ 16 → q < 2 ^ 16 → r < 2 ^ 16 → s < 2 ^ 16 → AreFields ss
made_fields ss k l m n p q r s ek el em en ep eq er es hk hl hm hn hp hq hr hs = record {
  lengths = four_cases (λ i. slice_index (map length_of ss) i < 2 ^ 32) (omega arith) (omega arith) (omega arith) (omega arith);
  aligns = four_cases (λ i. slice_index (map align_of ss) i < 2 ^ 16) (omega arith) (omega arith) (omega arith) (omega arith);
}
