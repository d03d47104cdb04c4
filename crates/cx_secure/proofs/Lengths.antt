-- How long parts are.
use Rattle.std.proofs.Common.{◌≡◌, ℕ, ◌+◌, ◌-◌, ◌*◌, ◌<◌, ◌≤◌, List, [], ◌∷◌, length, slice_index, take, drop, sum, sum_by, refl, sym, ap, ◌∙◌, arith, length-take, length-drop}
use Rattle.std.specs.List.{slice_range}
use Rattle.std.proofs.lemmas.List.Sums.{sum_by-cons}
use Rattle.cx_frame.specs.declared.preamble.Preamble.{Preamble}
use Rattle.cx_frame.specs.Preambles.{IsAllowed}
use Rattle.cx_frame.proofs.Cutting.{range_le, sum-cons}
use Rattle.std.proofs.Math.Seq.{drop-cons}
use Rattle.std.specs.Prelude.{◌&&◌, true, ◌++◌}
use Rattle.std.proofs.Common.{add-one}
use Rattle.std.proofs.Common.{Bool, false, ◌≢◌, inl, inr, append_assoc}
use Rattle.std.specs.Prelude.{◌==◌, if◌then◌else◌}
use Rattle.std.proofs.lemmas.Bool.{cases_eq, ne_eqb}
use Rattle.std.proofs.lemmas.List.{append-nil, at_drop_all, take-take}
use Rattle.cx_frame.specs.declared.frame.Segment.{Segment}
use Rattle.cx_secure.specs.Plains.{are_zeros, cut_of, have_zero_fills, last_len, one_if, rest_len, rest_parts, second_len, tagged, up16}

pub up16_most : (n : ℕ) → up16 n ≤ n + 15
unfolding up16
up16_most n = omega arith

pub up16_least : (n : ℕ) → n ≤ up16 n
unfolding up16
up16_least n = omega arith

sum_most : (ns : List ℕ) → sum_by up16 ns ≤ sum ns + 15 * length ns
sum_most [] = omega arith
sum_most (n ∷ ns) = omega (arith, sum_by-cons up16 n ns, sum-cons n ns, up16_most n, sum_most ns)

-- the segments from the second on take up few bytes
pub few_last : (p : Preamble) → IsAllowed 1048576 p → sum_by up16 (slice_range p.lengths 1 p.count) ≤ 1048621
few_last p fine =
    omega (arith, sum_most (slice_range p.lengths 1 p.count), range_le p.lengths p.count, fine.total, length-take (p.count - 1) (drop 1 p.lengths), length-drop 1 p.lengths, fine.four_lengths)

-- what is left, one room later
pub room_more : (ns : List ℕ) (i : ℕ) → i < length ns → sum_by up16 (drop i ns) ≡ up16 (slice_index ns i) + sum_by up16 (drop (i + 1) ns)
room_more ns i lt = ap (sum_by up16) (drop_next ns i lt) ∙ sum_by-cons up16 (slice_index ns i) (drop (i + 1) ns)
  where
    drop_next : (ns : List ℕ) (i : ℕ) → i < length ns → drop i ns ≡ slice_index ns i ∷ drop (i + 1) ns
    drop_next ns i lt = drop-cons ns i 0 lt ∙ ap (λ j. slice_index ns i ∷ drop j ns) (sym (add-one i))

pub fills_more : (ns bytes : List ℕ) (i : ℕ) → i < length ns
    → have_zero_fills (drop i ns) bytes ≡ (are_zeros (drop (slice_index ns i) (take (up16 (slice_index ns i)) bytes)) && have_zero_fills (drop (i + 1) ns) (drop (up16 (slice_index ns i)) bytes))
unfolding have_zero_fills
fills_more ns bytes i lt = rw (drop-cons ns i 0, add-one) refl

pub cut_more : (ns aligns bytes : List ℕ) (i : ℕ) → i < length ns → length aligns ≡ length ns
    → cut_of (drop i ns) (drop i aligns) bytes
    ≡ (let s : Segment = record { align = slice_index aligns i; bytes = take (slice_index ns i) bytes } in s) ∷ cut_of (drop (i + 1) ns) (drop (i + 1) aligns) (drop (up16 (slice_index ns i)) bytes)
unfolding cut_of
cut_more ns aligns bytes i lt same = let too : i < length aligns = omega arith in rw (drop-cons ns i 0, drop-cons aligns i 0, add-one) refl

pub all_cut : (ns aligns left : List ℕ) (i : ℕ) (now whole : List Segment) → length ns ≤ i → now ++ cut_of (drop i ns) (drop i aligns) left ≡ whole → now ≡ whole
unfolding cut_of
all_cut ns aligns left i now whole le so_far =
    sym (append-nil now) ∙ sym (at_drop_all (λ (xs : List ℕ). now ++ cut_of xs (drop i aligns) left) ns i le) ∙ so_far

pub all_filled : (ns left : List ℕ) (i : ℕ) → length ns ≤ i → have_zero_fills (drop i ns) left ≡ true
unfolding have_zero_fills
all_filled ns left i le = at_drop_all (λ (xs : List ℕ). have_zero_fills xs left) ns i le

-- one fill more is zeros
pub fill_on : (ns left room behind : List ℕ) (i : ℕ) (whole good : Bool) → i < length ns → good ≡ true → good ≡ are_zeros (drop (slice_index ns i) room)
    → room ≡ take (up16 (slice_index ns i)) left → behind ≡ drop (up16 (slice_index ns i)) left
    → have_zero_fills (drop i ns) left ≡ whole → have_zero_fills (drop (i + 1) ns) behind ≡ whole
fill_on ns left room behind i whole good lt is_good is cut back so_far =
    let head : are_zeros (drop (slice_index ns i) (take (up16 (slice_index ns i)) left)) ≡ true = ap (λ r. are_zeros (drop (slice_index ns i) r)) (sym cut) ∙ sym is ∙ is_good in
    ap (λ b. have_zero_fills (drop (i + 1) ns) b) back ∙ ap (λ h. h && have_zero_fills (drop (i + 1) ns) (drop (up16 (slice_index ns i)) left)) (sym head)
    ∙ sym (fills_more ns left i lt) ∙ so_far

pub fill_stops : (ns left room : List ℕ) (i : ℕ) (whole good : Bool) → i < length ns → good ≡ false → good ≡ are_zeros (drop (slice_index ns i) room)
    → room ≡ take (up16 (slice_index ns i)) left → have_zero_fills (drop i ns) left ≡ whole → false ≡ whole
fill_stops ns left room i whole good lt is_bad is cut so_far =
    let head : are_zeros (drop (slice_index ns i) (take (up16 (slice_index ns i)) left)) ≡ false = ap (λ r. are_zeros (drop (slice_index ns i) r)) (sym cut) ∙ sym is ∙ is_bad in
    ap (λ h. h && have_zero_fills (drop (i + 1) ns) (drop (up16 (slice_index ns i)) left)) (sym head) ∙ sym (fills_more ns left i lt) ∙ so_far

-- one segment more was cut out of its room
pub segment_on : (ns aligns left room behind body : List ℕ) (i : ℕ) (before now whole : List Segment) → i < length ns → length aligns ≡ length ns
    → room ≡ take (up16 (slice_index ns i)) left → behind ≡ drop (up16 (slice_index ns i)) left → body ≡ take (slice_index ns i) room
    → (let s : Segment = record { align = slice_index aligns i; bytes = body } in now ≡ before ++ s ∷ [])
    → before ++ cut_of (drop i ns) (drop i aligns) left ≡ whole → now ++ cut_of (drop (i + 1) ns) (drop (i + 1) aligns) behind ≡ whole
segment_on ns aligns left room behind body i before now whole lt same cut back inside pushed so_far =
    let n : ℕ = slice_index ns i in
    let made : List ℕ → Segment = λ b. record { align = slice_index aligns i; bytes = b } in
    let rest : List ℕ → List Segment = λ b. cut_of (drop (i + 1) ns) (drop (i + 1) aligns) b in
    let text : body ≡ take n left = inside ∙ ap (take n) cut ∙ take-take n (up16 n) left (up16_least n) in
    ap (λ b. now ++ rest b) back ∙ ap (λ (t : List Segment). t ++ rest (drop (up16 n) left)) (pushed ∙ ap (λ b. before ++ made b ∷ []) text)
    ∙ append_assoc before (made (take n left) ∷ []) (rest (drop (up16 n) left))
    ∙ ap (λ (t : List Segment). before ++ t) (sym (cut_more ns aligns left i lt same)) ∙ so_far

-- ---- parts

pub tagged_large : (n : ℕ) → tagged n ≢ 0 → 16 ≤ tagged n
unfolding tagged
tagged_large n some = elim (cases_eq n 0) [ inl e ↦ absurd (some (rw e refl)) | inr ne ↦ rw (ne_eqb n 0 ne) (omega arith) ]

pub tagged_text : (n : ℕ) → tagged n - 16 ≡ n
unfolding tagged
tagged_text n = elim (cases_eq n 0) [ inl e ↦ rw e refl | inr ne ↦ rw (ne_eqb n 0 ne) (omega arith) ]

pub tagged_most : (n : ℕ) → tagged n ≤ n + 16
unfolding tagged
tagged_most n = elim (cases_eq n 0) [ inl e ↦ rw e (omega arith) | inr ne ↦ rw (ne_eqb n 0 ne) (omega arith) ]

pub parts_front : (p : Preamble) → one_if (second_len p) ≤ rest_parts p
unfolding rest_parts
parts_front p = omega arith

pub behind_len : (p : Preamble) (all k : ℕ) → all ≡ rest_len p → k ≡ all - tagged (second_len p) → k ≡ tagged (last_len p)
unfolding rest_len
behind_len p all k e f = omega arith

pub last_small : (p : Preamble) → IsAllowed 1048576 p → last_len p ≤ 1048637
unfolding last_len
last_small p fine =
    elim (p.count == 1) as (λ (b : Bool). (if b then 0 else sum_by up16 (slice_range p.lengths 1 p.count) + 16) ≤ 1048637) [ true ↦ omega arith | false ↦ omega (arith, few_last p fine) ]

pub second_room : (p : Preamble) → slice_index p.lengths 0 ≤ 48 + second_len p
unfolding second_len
second_room p = omega (arith, up16_least (slice_index p.lengths 0 - 48))
