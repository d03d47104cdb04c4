-- What is read behind a preamble was spelled so, and what is spelled is read again.
use Rattle.std.proofs.Common.{◌≡◌, ◌≢◌, ℕ, zero, suc, ◌+◌, ◌-◌, ◌<◌, ◌≤◌, ◌^◌, Bool, true, false, List, [], ◌∷◌, ◌++◌, length, slice_index, get_or, take, drop, map, sum, Option, Some, None, Result, Ok, Err, refl, sym, ap, ◌∙◌, arith, inl, inr, length-take, length-drop, length-append, append_assoc, eq-eqb}
use Rattle.std.specs.Prelude.{◌==◌, slice_get, if◌then◌else◌}
use Rattle.std.specs.List.{list_all, flat_map, slice_range}
use Rattle.std.specs.Int.{w32, to_le_bytes}
use Rattle.std.proofs.lemmas.Bool.{and_parts, eqb-true, cases_eq, ne_eqb}
use Rattle.std.proofs.lemmas.List.{length-map, nil_from_length, take-append-drop, take_at, drop_at}
use Rattle.cx_frame.specs.declared.frame.Segment.{Segment}
use Rattle.cx_frame.specs.declared.frame.Frame.{Frame}
use Rattle.cx_frame.specs.declared.preamble.Preamble.{Preamble}
use Rattle.cx_frame.specs.declared.refusals.FrameRefusal.{FrameRefusal}
use Rattle.cx_frame.specs.declared.refusals.FrameRefusal.TheVariants.{BadCrc, BadShape, Aborted}
use Rattle.cx_frame.specs.Preambles.{IsAllowed, four, length_of, align_of, preamble_of, is_four_bytes}
use Rattle.cx_frame.specs.Frames.{IsRest, behind_first, bytes_of, check_sum, epilogue, epilogue_fault, first_at, first_len, first_text, or_next, others_len, others_text, rest_at, rest_len, rest_text, segments_of, sum_fault, sum_text, unless}
use Rattle.cx_frame.proofs.Cutting.{sum-cons}
use Rattle.cx_frame.proofs.PreambleLaws.{four_bytes, is_four}

-- ---- segments that are cut

pub cut_found : (ns aligns bytes : List ℕ) → length aligns ≡ length ns → sum ns ≡ length bytes → flat_map bytes_of (segments_of ns aligns bytes) ≡ bytes
unfolding segments_of
cut_found [] aligns bytes same all = sym (nil_from_length bytes (sym all))
cut_found (n ∷ ns) [] bytes same all = absurd (omega arith)
cut_found (n ∷ ns) (a ∷ more) bytes same all =
    let rest : sum ns ≡ length (drop n bytes) = omega (arith, sum-cons n ns, length-drop n bytes) in
    ap (λ t. take n bytes ++ t) (cut_found ns more (drop n bytes) (omega arith) rest) ∙ take-append-drop n bytes

pub cut_lengths : (ns aligns bytes : List ℕ) → length aligns ≡ length ns → sum ns ≤ length bytes → map length_of (segments_of ns aligns bytes) ≡ ns
unfolding segments_of
cut_lengths [] aligns bytes same all = refl
cut_lengths (n ∷ ns) [] bytes same all = absurd (omega arith)
cut_lengths (n ∷ ns) (a ∷ more) bytes same all =
    let first : length (take n bytes) ≡ n = omega (arith, sum-cons n ns, length-take n bytes) in
    let rest : sum ns ≤ length (drop n bytes) = omega (arith, sum-cons n ns, length-drop n bytes) in
    cc (first, cut_lengths ns more (drop n bytes) (omega arith) rest)

pub cut_aligns : (ns aligns bytes : List ℕ) → length aligns ≡ length ns → map align_of (segments_of ns aligns bytes) ≡ aligns
unfolding segments_of
cut_aligns [] [] bytes same = refl
cut_aligns [] (a ∷ more) bytes same = absurd (omega arith)
cut_aligns (n ∷ ns) [] bytes same = absurd (omega arith)
cut_aligns (n ∷ ns) (a ∷ more) bytes same = cc (cut_aligns ns more (drop n bytes) (omega arith))

pub cut_again : (ss : List Segment) → segments_of (map length_of ss) (map align_of ss) (flat_map bytes_of ss) ≡ ss
unfolding segments_of
cut_again [] = refl
cut_again (s ∷ ss) =
    let first : take (length s.bytes) (s.bytes ++ flat_map bytes_of ss) ≡ s.bytes = take_at s.bytes (flat_map bytes_of ss) (length s.bytes) refl in
    let behind : drop (length s.bytes) (s.bytes ++ flat_map bytes_of ss) ≡ flat_map bytes_of ss = drop_at s.bytes (flat_map bytes_of ss) (length s.bytes) refl in
    let made : List ℕ → Segment = λ b. record { align = s.align; bytes = b } in
    ap (λ b. made b ∷ segments_of (map length_of ss) (map align_of ss) (drop (length s.bytes) (s.bytes ++ flat_map bytes_of ss))) first
    ∙ ap (λ b. s ∷ segments_of (map length_of ss) (map align_of ss) b) behind
    ∙ ap (λ (t : List Segment). s ∷ t) (cut_again ss)

-- ---- the first segment

pub record FirstFound (n align : ℕ) (bytes : List ℕ) (s : Segment) : Type 0 where
  pub len : length s.bytes ≡ n
  pub same : s.align ≡ align
  pub text : bytes ≡ first_text s.bytes

segment_is : (s t : Segment) → (let r : Result Segment FrameRefusal = Ok s in let q : Result Segment FrameRefusal = Ok t in r ≡ q) → s ≡ t
segment_is s t e = cc

passed : (b : Bool) (s t : Segment) → (let r : Result Segment FrameRefusal = (if b then Ok s else Err BadCrc) in r ≡ Ok t) → (b ≡ true) × (s ≡ t)
passed true s t e = (refl, segment_is s t e)
passed false s t e = absurd cc

pub first_found : (n align : ℕ) (bytes : List ℕ) (s : Segment) → length bytes ≡ first_len n → first_at align bytes ≡ Ok s → FirstFound n align bytes s
unfolding first_at first_len first_text
first_found n align bytes s len read = elim (cases_eq n 0) [
  | inl none ↦
      let empty : length bytes ≡ 0 = len ∙ rw (eq-eqb n 0 none) refl in
      let is : (let t : Segment = record { align = align; bytes = [] } in t) ≡ s = segment_is _ s (sym (rw (eq-eqb (length bytes) 0 empty) refl) ∙ read) in
      let found : FirstFound n align bytes (record { align = align; bytes = [] }) = record { len = sym none; same = refl; text = nil_from_length bytes empty } in
      Rattle.std.proofs.Common.subst (FirstFound n align bytes) is found
  | inr some ↦
      let more : length bytes ≡ n + 4 = len ∙ rw (ne_eqb n 0 some) refl in
      let not_empty : (length bytes == 0) ≡ false = ne_eqb (length bytes) 0 (λ e. omega arith) in
      let k : length bytes - 4 ≡ n = omega arith in
      let body : List ℕ = take (length bytes - 4) bytes in
      let stored : List ℕ = drop (length bytes - 4) bytes in
      let made : Segment = record { align = align; bytes = body } in
      let ok = passed (is_four_bytes stored (check_sum body)) made s (sym (rw not_empty refl) ∙ read) in
      let body_len : length body ≡ n = omega (arith, length-take (length bytes - 4) bytes) in
      let body_some : (length body == 0) ≡ false = ne_eqb (length body) 0 (λ e. some (sym body_len ∙ e)) in
      let text : bytes ≡ first_text body =
      sym (take-append-drop (length bytes - 4) bytes) ∙ ap (λ t. body ++ t) (four_bytes stored (check_sum body) ok.0) ∙ sym (rw body_some refl)
      in
      let found : FirstFound n align bytes made = record { len = body_len; same = refl; text = text } in
      Rattle.std.proofs.Common.subst (FirstFound n align bytes) ok.1 found
]

pub length-first_text : (bytes : List ℕ) → length (first_text bytes) ≡ first_len (length bytes)
unfolding first_text first_len
length-first_text bytes = elim (cases_eq (length bytes) 0) [
  | inl none ↦ rw (eq-eqb (length bytes) 0 none) refl
  | inr some ↦ rw (ne_eqb (length bytes) 0 some) (length-append bytes (to_le_bytes w32 (check_sum bytes)))
]

pub first_again : (s : Segment) → first_at s.align (first_text s.bytes) ≡ Ok s
unfolding first_at first_text
first_again s = elim (cases_eq (length s.bytes) 0) [
  | inl none ↦
      let made : List ℕ → Result Segment FrameRefusal = λ b. Ok (record { align = s.align; bytes = b }) in
      rw (eq-eqb (length s.bytes) 0 none) (ap made (sym (nil_from_length s.bytes none)))
  | inr some ↦
      let tail : List ℕ = to_le_bytes w32 (check_sum s.bytes) in
      let len : length (s.bytes ++ tail) ≡ length s.bytes + 4 = length-append s.bytes tail in
      let k : length (s.bytes ++ tail) - 4 ≡ length s.bytes = omega arith in
      let text_some : (length (s.bytes ++ tail) == 0) ≡ false = ne_eqb (length (s.bytes ++ tail)) 0 (λ e. some (omega arith)) in
      let body : take (length (s.bytes ++ tail) - 4) (s.bytes ++ tail) ≡ s.bytes = ap (λ j. take j (s.bytes ++ tail)) k ∙ take_at s.bytes tail (length s.bytes) refl in
      let stored : drop (length (s.bytes ++ tail) - 4) (s.bytes ++ tail) ≡ tail = ap (λ j. drop j (s.bytes ++ tail)) k ∙ drop_at s.bytes tail (length s.bytes) refl in
      rw (ne_eqb (length s.bytes) 0 some, text_some, body, stored, is_four tail (check_sum s.bytes) refl) refl
]

-- ---- the epilogue

none_of : (a b : Option FrameRefusal) → or_next a b ≡ None → (a ≡ None) × (b ≡ None)
none_of None b e = (refl, e)
none_of (Some f) b e = absurd cc

sum_found : (s : Option Segment) (bytes : List ℕ) → sum_fault s bytes ≡ None → bytes ≡ sum_text s
unfolding sum_fault sum_text
sum_found (Some s) bytes e = four_bytes bytes (check_sum s.bytes) (tested (is_four_bytes bytes (check_sum s.bytes)) BadCrc e)
  where
    tested : (b : Bool) (f : FrameRefusal) → (let r : Option FrameRefusal = (if b then None else Some f) in r ≡ None) → b ≡ true
    tested true f e = refl
    tested false f e = absurd cc
sum_found None bytes e = four_bytes bytes 0 (tested (is_four_bytes bytes 0) BadShape e)
  where
    tested : (b : Bool) (f : FrameRefusal) → (let r : Option FrameRefusal = (if b then None else Some f) in r ≡ None) → b ≡ true
    tested true f e = refl
    tested false f e = absurd cc

sum_again : (s : Option Segment) → sum_fault s (sum_text s) ≡ None
unfolding sum_fault sum_text
sum_again (Some s) = rw (is_four (to_le_bytes w32 (check_sum s.bytes)) (check_sum s.bytes) refl) refl
sum_again None = rw (is_four (to_le_bytes w32 0) 0 refl) refl

thirteen : (b : List ℕ) → length b ≡ 13 → b ≡ slice_index b 0 ∷ slice_range b 1 5 ++ (slice_range b 5 9 ++ slice_range b 9 13)
thirteen (a ∷ b ∷ c ∷ d ∷ e ∷ f ∷ g ∷ h ∷ i ∷ j ∷ k ∷ l ∷ m ∷ []) len = refl
thirteen _ len = absurd (omega arith)

late_ok : (b c : Bool) (f : Option FrameRefusal) → (let r : Option FrameRefusal = (if b then f else if c then Some Aborted else Some BadShape) in r ≡ None) → (b ≡ true) × (f ≡ None)
late_ok true c f e = (refl, e)
late_ok false true f e = absurd cc
late_ok false false f e = absurd cc

four_joined : (n : ℕ) (a b c x y z : List ℕ) → a ≡ x → b ≡ y → c ≡ z → n ∷ a ++ (b ++ c) ≡ n ∷ x ++ (y ++ z)
four_joined n a b c x y z e f g = cc

pub epilogue_found : (others : List Segment) (end : List ℕ) → length end ≡ 13 → epilogue_fault others end ≡ None → end ≡ epilogue others
unfolding epilogue_fault epilogue
epilogue_found others end len e =
    let late = late_ok (slice_index end 0 == 0x0e) (slice_index end 0 == 0x01) _ e in
    let one = none_of _ _ late.1 in
    let two = none_of _ _ one.1 in
    thirteen end len
    ∙ four_joined (slice_index end 0) _ _ _ _ _ _ (sum_found (slice_get others 0) (slice_range end 1 5) one.0) (sum_found (slice_get others 1) (slice_range end 5 9) two.0) (sum_found (slice_get others 2) (slice_range end 9 13) two.1)
    ∙ ap (λ n. n ∷ sum_text (slice_get others 0) ++ (sum_text (slice_get others 1) ++ sum_text (slice_get others 2))) (eqb-true (slice_index end 0) 0x0e late.0)

length-sum_text : (s : Option Segment) → length (sum_text s) ≡ 4
unfolding sum_text
length-sum_text (Some s) = refl
length-sum_text None = refl

cut_sums : (a b c : List ℕ) → length a ≡ 4 → length b ≡ 4 → length c ≡ 4
    → let t : List ℕ = 0x0e ∷ a ++ (b ++ c) in (slice_range t 1 5 ≡ a) × (slice_range t 5 9 ≡ b) × (slice_range t 9 13 ≡ c) × (length t ≡ 13)
cut_sums (p ∷ q ∷ r ∷ s ∷ []) (t ∷ u ∷ v ∷ w ∷ []) (x ∷ y ∷ z ∷ o ∷ []) ea eb ec = (refl, refl, refl, refl)
cut_sums _ _ _ ea eb ec = absurd (omega arith)

pub length-epilogue : (others : List Segment) → length (epilogue others) ≡ 13
unfolding epilogue
length-epilogue others =
    (cut_sums (sum_text (slice_get others 0)) (sum_text (slice_get others 1)) (sum_text (slice_get others 2)) (length-sum_text _) (length-sum_text _) (length-sum_text _)).3

no_faults : (a b c x y z : List ℕ) (k l m : Option Segment) → a ≡ x → b ≡ y → c ≡ z → sum_fault k x ≡ None → sum_fault l y ≡ None → sum_fault m z ≡ None
    → or_next (sum_fault k a) (or_next (sum_fault l b) (sum_fault m c)) ≡ None
no_faults a b c x y z k l m ea eb ec fk fl fm = rw (ea, eb, ec, fk, fl) fm

pub epilogue_again : (others : List Segment) → epilogue_fault others (epilogue others) ≡ None
unfolding epilogue_fault epilogue
epilogue_again others =
    let cut = cut_sums (sum_text (slice_get others 0)) (sum_text (slice_get others 1)) (sum_text (slice_get others 2)) (length-sum_text _) (length-sum_text _) (length-sum_text _) in
    no_faults _ _ _ _ _ _ _ _ _ cut.0 cut.1 cut.2 (sum_again (slice_get others 0)) (sum_again (slice_get others 1)) (sum_again (slice_get others 2))

-- ---- four numbers

zero_of : (a : ℕ) → (a == 0) ≡ true → a ≡ 0
zero_of a e = eqb-true a 0 e

-- four numbers, of which those behind the count are 0, are those up to the count
pub four_back : (ns : List ℕ) (count : ℕ) → length ns ≡ 4 → 1 ≤ count → count ≤ 4 → list_all (λ n. n == 0) (drop count ns) ≡ true
    → four (slice_index ns 0 ∷ slice_range ns 1 count) ≡ ns
four_back (a ∷ b ∷ c ∷ d ∷ []) zero len low high zeros = absurd (omega arith)
four_back (a ∷ b ∷ c ∷ d ∷ []) (suc zero) len low high zeros =
    let p = and_parts (b == 0) _ zeros in
    let q = and_parts (c == 0) _ p.1 in
    let r = and_parts (d == 0) _ q.1 in
    rw (zero_of b p.0, zero_of c q.0, zero_of d r.0) refl
four_back (a ∷ b ∷ c ∷ d ∷ []) (suc (suc zero)) len low high zeros =
    let q = and_parts (c == 0) _ zeros in
    let r = and_parts (d == 0) _ q.1 in
    rw (zero_of c q.0, zero_of d r.0) refl
four_back (a ∷ b ∷ c ∷ d ∷ []) (suc (suc (suc zero))) len low high zeros =
    let r = and_parts (d == 0) _ zeros in
    rw (zero_of d r.0) refl
four_back (a ∷ b ∷ c ∷ d ∷ []) (suc (suc (suc (suc zero)))) len low high zeros = refl
four_back (a ∷ b ∷ c ∷ d ∷ []) (suc (suc (suc (suc (suc n))))) len low high zeros = absurd (omega arith)
four_back _ count len low high zeros = absurd (omega arith)

-- of four numbers, those behind the first, up to the count
pub range_back : (n : ℕ) (ns : List ℕ) → length ns ≤ 3 → slice_range (four (n ∷ ns)) 1 (suc (length ns)) ≡ ns
range_back n [] le = refl
range_back n (a ∷ []) le = refl
range_back n (a ∷ b ∷ []) le = refl
range_back n (a ∷ b ∷ c ∷ []) le = refl
range_back n _ le = absurd (omega arith)

pub length-range : (ns : List ℕ) (count : ℕ) → length ns ≡ 4 → 1 ≤ count → count ≤ 4 → length (slice_range ns 1 count) + 1 ≡ count
length-range ns count len low high = omega (arith, length-take (count - 1) (drop 1 ns), length-drop 1 ns)

-- ---- a frame

-- the preamble of a first segment and others
pub announced : (limit : ℕ) (p : Preamble) (first : Segment) (others : List Segment) → IsAllowed limit p
    → length first.bytes ≡ slice_index p.lengths 0 → first.align ≡ slice_index p.aligns 0
    → map length_of others ≡ slice_range p.lengths 1 p.count → map align_of others ≡ slice_range p.aligns 1 p.count
    → (let f : Frame = record { tag = p.tag; segments = first ∷ others } in preamble_of f ≡ p)
unfolding preamble_of
announced limit p first others fine len align lens aligns =
    let lengths : four (length first.bytes ∷ map length_of others) ≡ p.lengths =
    ap (λ n. four (n ∷ map length_of others)) len ∙ ap (λ ns. four (slice_index p.lengths 0 ∷ ns)) lens
    ∙ four_back p.lengths p.count fine.four_lengths fine.count_low fine.count_high fine.no_lengths
    in
    let as_aligns : four (first.align ∷ map align_of others) ≡ p.aligns =
    ap (λ n. four (n ∷ map align_of others)) align ∙ ap (λ ns. four (slice_index p.aligns 0 ∷ ns)) aligns
    ∙ four_back p.aligns p.count fine.four_aligns fine.count_low fine.count_high fine.no_aligns
    in
    let count : suc (length others) ≡ p.count =
    omega (arith, length-map others length_of, ap length lens, length-range p.lengths p.count fine.four_lengths fine.count_low fine.count_high)
    in
    same_preamble p.tag (suc (length others)) p.count _ _ _ _ count lengths as_aligns
  where
    same_preamble : (t m n : ℕ) (k l a b : List ℕ) → m ≡ n → k ≡ l → a ≡ b
        → (let x : Preamble = record { tag = t; count = m; lengths = k; aligns = a } in let y : Preamble = record { tag = t; count = n; lengths = l; aligns = b } in x ≡ y)
    same_preamble t m n k l a b e f g = cc

frame_is : (f g : Frame) → (let r : Result Frame FrameRefusal = Ok f in let s : Result Frame FrameRefusal = Ok g in r ≡ s) → f ≡ g
frame_is f g e = cc

unless_ok : (fault : Option FrameRefusal) (f g : Frame) → unless fault f ≡ Ok g → (fault ≡ None) × (f ≡ g)
unless_ok None f g e = (refl, frame_is f g e)
unless_ok (Some e) f g is = absurd cc

-- behind the first segment
behind_found : (limit : ℕ) (p : Preamble) (left : List ℕ) (first : Segment) (f : Frame) → IsAllowed limit p → length left ≡ others_len p
    → length first.bytes ≡ slice_index p.lengths 0 → first.align ≡ slice_index p.aligns 0
    → behind_first p left (Ok first) ≡ Ok f → (preamble_of f ≡ p) × (others : List Segment) × (f ≡ (let g : Frame = record { tag = p.tag; segments = first ∷ others } in g)) × (left ≡ others_text others)
unfolding behind_first others_len others_text
behind_found limit p left first f fine len first_len first_align read = elim (cases_eq p.count 1) [
  | inl one ↦
      let single : Frame = record { tag = p.tag; segments = first ∷ [] } in
      let is : single ≡ f = frame_is single f (sym (rw (eq-eqb p.count 1 one) refl) ∙ read) in
      let empty : length left ≡ 0 = len ∙ rw (eq-eqb p.count 1 one) refl in
      let no_lengths : [] ≡ slice_range p.lengths 1 p.count = sym (nil_from_length (slice_range p.lengths 1 p.count) (omega (arith, length-range p.lengths p.count fine.four_lengths fine.count_low fine.count_high))) in
      let no_aligns : [] ≡ slice_range p.aligns 1 p.count = sym (nil_from_length (slice_range p.aligns 1 p.count) (omega (arith, length-range p.aligns p.count fine.four_aligns fine.count_low fine.count_high))) in
      (ap preamble_of (sym is) ∙ announced limit p first [] fine first_len first_align no_lengths no_aligns, [], sym is, nil_from_length left empty)
  | inr several ↦
      let ns : List ℕ = slice_range p.lengths 1 p.count in
      let aligns : List ℕ = slice_range p.aligns 1 p.count in
      let more : length left ≡ sum ns + 13 = len ∙ rw (ne_eqb p.count 1 several) refl in
      let bodies : List ℕ = take (length left - 13) left in
      let end : List ℕ = drop (length left - 13) left in
      let others : List Segment = segments_of ns aligns bodies in
      let made : Frame = record { tag = p.tag; segments = first ∷ others } in
      let ok = unless_ok (epilogue_fault others end) made f (sym (rw (ne_eqb p.count 1 several) refl) ∙ read) in
      let many : length ns + 1 ≡ p.count = length-range p.lengths p.count fine.four_lengths fine.count_low fine.count_high in
      let same : length aligns ≡ length ns = omega (arith, length-range p.aligns p.count fine.four_aligns fine.count_low fine.count_high) in
      let all : sum ns ≡ length bodies = omega (arith, length-take (length left - 13) left) in
      let lens : map length_of others ≡ ns = cut_lengths ns aligns bodies same (omega arith) in
      let end_len : length end ≡ 13 = omega (arith, length-drop (length left - 13) left) in
      let some : (length others == 0) ≡ false = ne_eqb (length others) 0 (λ e. several (omega (arith, length-map others length_of, ap length lens))) in
      let text : left ≡ flat_map bytes_of others ++ epilogue others =
      sym (take-append-drop (length left - 13) left)
      ∙ ap (λ t. t ++ end) (sym (cut_found ns aligns bodies same all))
      ∙ ap (λ t. flat_map bytes_of others ++ t) (epilogue_found others end end_len ok.0)
      in
      (ap preamble_of (sym ok.1) ∙ announced limit p first others fine first_len first_align lens (cut_aligns ns aligns bodies same), others, sym ok.1, text ∙ sym (rw some refl))
]

first_ok : (limit : ℕ) (p : Preamble) (bytes : List ℕ) (f : Frame) (first : Segment) → IsAllowed limit p → length bytes ≡ rest_len p
    → first_at (slice_index p.aligns 0) (take (first_len (slice_index p.lengths 0)) bytes) ≡ Ok first
    → behind_first p (drop (first_len (slice_index p.lengths 0)) bytes) (Ok first) ≡ Ok f → IsRest p bytes f
unfolding rest_len rest_text
first_ok limit p bytes f first fine len read_first read =
    let n : ℕ = first_len (slice_index p.lengths 0) in
    let front_len : length (take n bytes) ≡ first_len (slice_index p.lengths 0) = omega (arith, length-take n bytes) in
    let left_len : length (drop n bytes) ≡ others_len p = omega (arith, length-drop n bytes) in
    let found = first_found (slice_index p.lengths 0) (slice_index p.aligns 0) (take n bytes) first front_len read_first in
    let behind = behind_found limit p (drop n bytes) first f fine left_len found.len found.same read in
    let text : bytes ≡ first_text first.bytes ++ others_text behind.1 =
    sym (take-append-drop n bytes) ∙ ap (λ t. t ++ drop n bytes) found.text ∙ ap (λ t. first_text first.bytes ++ t) behind.3
    in
    record { head = behind.0; text = text ∙ ap (λ (g : Frame). rest_text g.segments) (sym behind.2) }

by_first : (limit : ℕ) (p : Preamble) (bytes : List ℕ) (f : Frame) (r : Result Segment FrameRefusal) → IsAllowed limit p → length bytes ≡ rest_len p
    → first_at (slice_index p.aligns 0) (take (first_len (slice_index p.lengths 0)) bytes) ≡ r
    → behind_first p (drop (first_len (slice_index p.lengths 0)) bytes) r ≡ Ok f → IsRest p bytes f
unfolding behind_first
by_first limit p bytes f (Ok first) fine len read_first read = first_ok limit p bytes f first fine len read_first read
by_first limit p bytes f (Err e) fine len read_first read = absurd cc

pub rest_found : (limit : ℕ) (p : Preamble) (bytes : List ℕ) (f : Frame) → IsAllowed limit p → length bytes ≡ rest_len p → rest_at p bytes ≡ Ok f → IsRest p bytes f
unfolding rest_at
rest_found limit p bytes f fine len read =
    by_first limit p bytes f (first_at (slice_index p.aligns 0) (take (first_len (slice_index p.lengths 0)) bytes)) fine len refl read

-- ---- again

pub length-bodies : (ss : List Segment) → length (flat_map bytes_of ss) ≡ sum (map length_of ss)
length-bodies [] = refl
length-bodies (s ∷ ss) = length-append s.bytes (flat_map bytes_of ss) ∙ ap (λ n. length s.bytes + n) (length-bodies ss) ∙ sym (sum-cons (length s.bytes) (map length_of ss))

-- the preamble of a frame with a first segment and others
pub announces : (t : ℕ) (s : Segment) (ss : List Segment) → length ss ≤ 3 → let f : Frame = record { tag = t; segments = s ∷ ss } in
    (slice_range (preamble_of f).lengths 1 (preamble_of f).count ≡ map length_of ss) × (slice_range (preamble_of f).aligns 1 (preamble_of f).count ≡ map align_of ss)
unfolding preamble_of
announces t s ss few =
    let of_lengths : suc (length ss) ≡ suc (length (map length_of ss)) = ap suc (sym (length-map ss length_of)) in
    let of_aligns : suc (length ss) ≡ suc (length (map align_of ss)) = ap suc (sym (length-map ss align_of)) in (
      ap (λ n. slice_range (four (length s.bytes ∷ map length_of ss)) 1 n) of_lengths ∙ range_back (length s.bytes) (map length_of ss) (omega (arith, length-map ss length_of)),
      ap (λ n. slice_range (four (s.align ∷ map align_of ss)) 1 n) of_aligns ∙ range_back s.align (map align_of ss) (omega (arith, length-map ss align_of)),
    )

-- bytes that are cut, and an epilogue with no fault
joined : (p : Preamble) (left : List ℕ) (first : Segment) (ss : List Segment) (ns aligns bodies end : List ℕ) → (p.count == 1) ≡ false
    → left ≡ bodies ++ end → length end ≡ 13 → slice_range p.lengths 1 p.count ≡ ns → slice_range p.aligns 1 p.count ≡ aligns
    → segments_of ns aligns bodies ≡ ss → epilogue_fault ss end ≡ None
    → behind_first p left (Ok first) ≡ (let f : Frame = record { tag = p.tag; segments = first ∷ ss } in let r : Result Frame FrameRefusal = Ok f in r)
unfolding behind_first
joined p left first ss ns aligns bodies end several is end_len are_lengths are_aligns cut none =
    let made : List Segment → Frame = λ t. record { tag = p.tag; segments = first ∷ t } in
    let read : List Segment → List ℕ → Result Frame FrameRefusal = λ t e. unless (epilogue_fault t e) (made t) in
    let k : length left - 13 ≡ length bodies = omega (arith, ap length is, length-append bodies end) in
    let front : take (length left - 13) left ≡ bodies = ap (λ j. take j left) k ∙ ap (λ t. take (length bodies) t) is ∙ take_at bodies end (length bodies) refl in
    let behind : drop (length left - 13) left ≡ end = ap (λ j. drop j left) k ∙ ap (λ t. drop (length bodies) t) is ∙ drop_at bodies end (length bodies) refl in
    rw several refl
    ∙ ap (λ b. read (segments_of (slice_range p.lengths 1 p.count) (slice_range p.aligns 1 p.count) b) (drop (length left - 13) left)) front
    ∙ ap (λ e. read (segments_of (slice_range p.lengths 1 p.count) (slice_range p.aligns 1 p.count) bodies) e) behind
    ∙ ap (λ n. read (segments_of n (slice_range p.aligns 1 p.count) bodies) end) are_lengths
    ∙ ap (λ a. read (segments_of ns a bodies) end) are_aligns
    ∙ ap (λ t. read t end) cut ∙ ap (λ x. unless x (made ss)) none

-- a frame with a first segment and others
abbrev pub framed : ℕ → Segment → List Segment → Frame
framed t s ss = record { tag = t; segments = s ∷ ss }

none_behind : (t : ℕ) (s : Segment) → length (others_text []) ≡ others_len (preamble_of (framed t s []))
unfolding others_len others_text preamble_of
none_behind t s = refl

one_again : (t : ℕ) (s : Segment) → behind_first (preamble_of (framed t s [])) (others_text []) (Ok s) ≡ Ok (framed t s [])
unfolding behind_first preamble_of
one_again t s = refl

text_of : (o : Segment) (os : List Segment) → others_text (o ∷ os) ≡ flat_map bytes_of (o ∷ os) ++ epilogue (o ∷ os)
unfolding others_text
text_of o os = let some : (length (o ∷ os) == 0) ≡ false = ne_eqb (length (o ∷ os)) 0 (λ e. omega arith) in rw some refl

count_of : (t : ℕ) (s o : Segment) (os : List Segment) → ((preamble_of (framed t s (o ∷ os))).count == 1) ≡ false
unfolding preamble_of
count_of t s o os = ne_eqb (length (s ∷ o ∷ os)) 1 (λ e. omega arith)

len_of : (t : ℕ) (s o : Segment) (os : List Segment) → let p : Preamble = preamble_of (framed t s (o ∷ os)) in others_len p ≡ sum (slice_range p.lengths 1 p.count) + 13
unfolding others_len
len_of t s o os = rw (count_of t s o os) refl

tag_of : (t : ℕ) (s : Segment) (ss : List Segment) → framed (preamble_of (framed t s ss)).tag s ss ≡ framed t s ss
unfolding preamble_of
tag_of t s ss = refl

first_of : (t : ℕ) (s : Segment) (ss : List Segment) → let p : Preamble = preamble_of (framed t s ss) in (slice_index p.lengths 0 ≡ length s.bytes) × (slice_index p.aligns 0 ≡ s.align)
unfolding preamble_of
first_of t s ss = (refl, refl)

pub no_frame : (limit t : ℕ) → let f : Frame = record { tag = t; segments = [] } in IsAllowed limit (preamble_of f) → ⊥
unfolding preamble_of
no_frame limit t fine = let low : 1 ≤ 0 = fine.count_low in omega arith

pub few_others : (limit t : ℕ) (s : Segment) (ss : List Segment) → IsAllowed limit (preamble_of (framed t s ss)) → length ss ≤ 3
unfolding preamble_of
few_others limit t s ss fine = let high : suc (length ss) ≤ 4 = fine.count_high in omega arith

-- what stands behind the first segment is as long as the preamble says, and is read again
behind_again : (t : ℕ) (s : Segment) (ss : List Segment) → length ss ≤ 3
    → (length (others_text ss) ≡ others_len (preamble_of (framed t s ss))) × (behind_first (preamble_of (framed t s ss)) (others_text ss) (Ok s) ≡ Ok (framed t s ss))
behind_again t s [] few = (none_behind t s, one_again t s)
behind_again t s (o ∷ os) few =
    let ss : List Segment = o ∷ os in
    let ranges = announces t s ss few in
    let end_len : length (epilogue ss) ≡ 13 = length-epilogue ss in
    let all : length (flat_map bytes_of ss ++ epilogue ss) ≡ sum (map length_of ss) + 13 = length-append (flat_map bytes_of ss) (epilogue ss) ∙ omega (arith, length-bodies ss) in
    let ok : Frame → Result Frame FrameRefusal = λ g. Ok g in (
      ap length (text_of o os) ∙ all ∙ ap (λ ns. sum ns + 13) (sym ranges.0) ∙ sym (len_of t s o os),
      joined (preamble_of (framed t s ss)) (others_text ss) s ss (map length_of ss) (map align_of ss) (flat_map bytes_of ss) (epilogue ss)
          (count_of t s o os) (text_of o os) end_len ranges.0 ranges.1 (cut_again ss) (epilogue_again ss)
          ∙ ap ok (tag_of t s ss),
    )

-- a frame's rest is as long as its preamble says, and is read again
again_of : (t : ℕ) (s : Segment) (ss : List Segment) → length ss ≤ 3
    → (length (rest_text (s ∷ ss)) ≡ rest_len (preamble_of (framed t s ss))) × (rest_at (preamble_of (framed t s ss)) (rest_text (s ∷ ss)) ≡ Ok (framed t s ss))
unfolding rest_at rest_len rest_text
again_of t s ss few =
    let p : Preamble = preamble_of (framed t s ss) in
    let first : List ℕ = first_text s.bytes in
    let others : List ℕ = others_text ss in
    let behind = behind_again t s ss few in
    let n : ℕ = first_len (slice_index p.lengths 0) in
    let n_is : n ≡ length first = ap first_len (first_of t s ss).0 ∙ sym (length-first_text s.bytes) in
    let front : take n (first ++ others) ≡ first = ap (λ k. take k (first ++ others)) n_is ∙ take_at first others (length first) refl in
    let left : drop n (first ++ others) ≡ others = ap (λ k. drop k (first ++ others)) n_is ∙ drop_at first others (length first) refl in
    let read : first_at (slice_index p.aligns 0) (take n (first ++ others)) ≡ Ok s =
    ap (λ b. first_at (slice_index p.aligns 0) b) front ∙ ap (λ a. first_at a first) (first_of t s ss).1 ∙ first_again s
    in (
      length-append first others ∙ ap (λ k. k + length others) (sym n_is) ∙ ap (λ k. n + k) behind.0,
      ap (λ b. behind_first p b (first_at (slice_index p.aligns 0) (take n (first ++ others)))) left
          ∙ ap (λ (r : Result Segment FrameRefusal). behind_first p others r) read ∙ behind.1,
    )

by_segments : (limit t : ℕ) (ss : List Segment) → let f : Frame = record { tag = t; segments = ss } in IsAllowed limit (preamble_of f)
    → (length (rest_text ss) ≡ rest_len (preamble_of f)) × (rest_at (preamble_of f) (rest_text ss) ≡ Ok f)
by_segments limit t [] fine = absurd (no_frame limit t fine)
by_segments limit t (s ∷ ss) fine = again_of t s ss (few_others limit t s ss fine)

pub length-rest_text : (limit : ℕ) (f : Frame) → IsAllowed limit (preamble_of f) → length (rest_text f.segments) ≡ rest_len (preamble_of f)
length-rest_text limit f fine = (by_segments limit f.tag f.segments fine).0

pub rest_again : (limit : ℕ) (p : Preamble) (bytes : List ℕ) (f : Frame) → IsAllowed limit p → IsRest p bytes f → rest_at p bytes ≡ Ok f
rest_again limit p bytes f fine is =
    let allowed : IsAllowed limit (preamble_of f) = Rattle.std.proofs.Common.subst (IsAllowed limit) (sym is.head) fine in
    ap (λ b. rest_at p b) is.text ∙ ap (λ q. rest_at q (rest_text f.segments)) (sym is.head) ∙ (by_segments limit f.tag f.segments allowed).1
