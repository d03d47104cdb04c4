-- Fills: what is read in filled bytes was filled so, and what was filled is read again.
use Rattle.std.proofs.Common.{◌≡◌, ℕ, zero, suc, ◌+◌, ◌-◌, ◌≤◌, Bool, true, false, List, [], ◌∷◌, ◌++◌, length, slice_index, take, drop, map, sum_by, Result, Ok, Err, refl, sym, ap, subst, ◌∙◌, arith, inl, inr, append_assoc, length-append, length-take, length-drop}
use Rattle.std.specs.Prelude.{replicate, ◌==◌, if◌then◌else◌}
use Rattle.std.specs.List.{list_all}
use Rattle.std.proofs.Math.Seq.{take-append-add, drop-append-add}
use Rattle.std.proofs.lemmas.Bool.{and_parts, and_from, cases_lt, eqb-true}
use Rattle.std.proofs.lemmas.List.{append-nil, length-replicate, nil_from_length, take_all, take_at, drop_at, take-append-drop, take-take}
use Rattle.std.proofs.lemmas.List.Sums.{sum_by-cons}
use Rattle.cx_frame.specs.declared.frame.Segment.{Segment}
use Rattle.cx_frame.specs.Preambles.{align_of, length_of}
use Rattle.cx_secure.specs.declared.refusals.SecureRefusal.{SecureRefusal}
use Rattle.cx_secure.specs.declared.refusals.SecureRefusal.TheVariants.{Aborted, BadShape}
use Rattle.cx_secure.specs.Plains.{are_zeros, bodies, by_late, cut_of, filled, have_zero_fills, inline_of, padded, second_plain, up16}
use Rattle.cx_secure.proofs.Lengths.{up16_least}
use Rattle.cx_secure.proofs.Lists.{nothing_filled}

pub zeros_found : (b : List ℕ) → are_zeros b ≡ true → b ≡ replicate (length b) 0
unfolding are_zeros
zeros_found [] e = refl
zeros_found (x ∷ xs) e =
    let both = and_parts (x == 0) (list_all (λ b. b == 0) xs) e in
    cc (eqb-true x 0 both.0, zeros_found xs both.1)

pub zeros_again : (n : ℕ) → are_zeros (replicate n 0) ≡ true
unfolding are_zeros
zeros_again zero = refl
zeros_again (suc n) = zeros_again n

-- ---- one fill

pub filled_found : (n : ℕ) (b : List ℕ) → n ≤ length b → are_zeros (drop n b) ≡ true → b ≡ filled (length b) (take n b)
unfolding filled
filled_found n b le zeros =
    let k : length (drop n b) ≡ length b - length (take n b) = omega (arith, length-drop n b, length-take n b) in
    sym (take-append-drop n b) ∙ ap (λ t. take n b ++ t) (zeros_found (drop n b) zeros ∙ ap (λ (m : ℕ). replicate {A = ℕ} m 0) k)

pub filled_front : (k : ℕ) (bytes : List ℕ) → take (length bytes) (filled k bytes) ≡ bytes
unfolding filled
filled_front k bytes = take_at bytes (replicate (k - length bytes) 0) (length bytes) refl

pub filled_behind : (k : ℕ) (bytes : List ℕ) → are_zeros (drop (length bytes) (filled k bytes)) ≡ true
unfolding filled
filled_behind k bytes = ap are_zeros (drop_at bytes (replicate (k - length bytes) 0) (length bytes) refl) ∙ zeros_again (k - length bytes)

filled_full : (k : ℕ) (bytes : List ℕ) → length bytes ≡ k → filled k bytes ≡ bytes
unfolding filled
filled_full k bytes len = let none : k - length bytes ≡ 0 = omega arith in ap (λ (m : ℕ). bytes ++ replicate m 0) none ∙ append-nil bytes

-- ---- the first segment

pub record RoomFound (n : ℕ) (inline second : List ℕ) : Type 0 where
  pub len : length (take n (inline ++ second)) ≡ n
  pub inline_is : inline ≡ inline_of (take n (inline ++ second))
  pub second_is : second ≡ second_plain (take n (inline ++ second))

short_room : (n : ℕ) (inline : List ℕ) → length inline ≡ 48 → n ≤ 48 → are_zeros (drop n (inline ++ [])) ≡ true → RoomFound n inline []
unfolding inline_of second_plain
short_room n inline len le zeros =
    let room : inline ++ [] ≡ inline = append-nil inline in
    let zero_behind : are_zeros (drop n inline) ≡ true = ap (λ r. are_zeros (drop n r)) (sym room) ∙ zeros in
    let text : List ℕ = take n (inline ++ []) in
    let text_is : text ≡ take n inline = ap (take n) room in
    let text_len : length text ≡ n = ap length text_is ∙ omega (arith, length-take n inline) in
    let all : take 48 text ≡ text = take_all 48 text (omega arith) in
    record {
      len = text_len;
      inline_is = filled_found n inline (omega arith) zero_behind ∙ ap (λ k. filled k (take n inline)) len ∙ ap (filled 48) (sym text_is ∙ sym all);
      second_is = sym (nothing_filled text (omega arith));
    }

long_room : (n : ℕ) (inline second : List ℕ) → length inline ≡ 48 → 48 ≤ n → length second ≡ up16 (n - 48) → are_zeros (drop n (inline ++ second)) ≡ true → RoomFound n inline second
unfolding inline_of second_plain
long_room n inline second len le second_len zeros =
    let k : ℕ = n - 48 in
    let n_is : n ≡ length inline + k = omega arith in
    let enough : k ≤ length second = omega (arith, up16_least k) in
    let text : List ℕ = take n (inline ++ second) in
    let text_is : text ≡ inline ++ take k second = ap (λ m. take m (inline ++ second)) n_is ∙ take-append-add inline second k in
    let behind : drop n (inline ++ second) ≡ drop k second = ap (λ m. drop m (inline ++ second)) n_is ∙ drop-append-add inline second k in
    let text_len : length text ≡ n = ap length text_is ∙ length-append inline (take k second) ∙ omega (arith, length-take k second) in
    let front : take 48 text ≡ inline = ap (take 48) text_is ∙ take_at inline (take k second) 48 len in
    let rest : drop 48 text ≡ take k second = ap (drop 48) text_is ∙ drop_at inline (take k second) 48 len in
    let size : length second ≡ up16 (length text - 48) = second_len ∙ ap (λ m. up16 (m - 48)) (sym text_len) in
    record {
      len = text_len;
      inline_is = sym (filled_full 48 inline len) ∙ ap (filled 48) (sym front);
      second_is = filled_found k second enough (ap are_zeros (sym behind) ∙ zeros) ∙ ap (λ m. filled m (take k second)) size ∙ ap (filled (up16 (length text - 48))) (sym rest);
    }

no_room : up16 0 ≡ 0
unfolding up16
no_room = refl

pub room_found : (n : ℕ) (inline second : List ℕ) → length inline ≡ 48 → length second ≡ up16 (n - 48) → are_zeros (drop n (inline ++ second)) ≡ true → RoomFound n inline second
room_found n inline second len second_len zeros = elim (cases_lt n 48) [
  | inl short ↦
      let k : n - 48 ≡ 0 = omega arith in
      let none : second ≡ [] = nil_from_length second (second_len ∙ ap up16 k ∙ no_room) in
      subst (RoomFound n inline) (sym none) (short_room n inline len (omega arith) (ap (λ s. are_zeros (drop n (inline ++ s))) (sym none) ∙ zeros))
  | inr long ↦ long_room n inline second len long second_len zeros
]

same_room : (bytes room fill : List ℕ) → room ≡ bytes ++ fill → are_zeros fill ≡ true → (take (length bytes) room ≡ bytes) × (are_zeros (drop (length bytes) room) ≡ true)
same_room bytes room fill is zeros =
    (ap (take (length bytes)) is ∙ take_at bytes fill (length bytes) refl, ap (λ r. are_zeros (drop (length bytes) r)) is ∙ ap are_zeros (drop_at bytes fill (length bytes) refl) ∙ zeros)

pub room_again : (bytes : List ℕ) → (take (length bytes) (inline_of bytes ++ second_plain bytes) ≡ bytes) × (are_zeros (drop (length bytes) (inline_of bytes ++ second_plain bytes)) ≡ true)
unfolding inline_of second_plain filled
room_again bytes = elim (cases_lt (length bytes) 48) [
  | inl short ↦
      let fill : List ℕ = replicate (48 - length bytes) 0 in
      let none : second_plain bytes ≡ [] = nothing_filled bytes (omega arith) in
      let all : inline_of bytes ≡ bytes ++ fill = ap (filled 48) (take_all 48 bytes (omega arith)) in
      same_room bytes (inline_of bytes ++ second_plain bytes) fill (ap (λ t. inline_of bytes ++ t) none ∙ append-nil (inline_of bytes) ∙ all) (zeros_again (48 - length bytes))
  | inr long ↦
      let rest : List ℕ = drop 48 bytes in
      let k : ℕ = up16 (length bytes - 48) - length rest in
      let fill : List ℕ = replicate k 0 in
      let front : inline_of bytes ≡ take 48 bytes = filled_full 48 (take 48 bytes) (omega (arith, length-take 48 bytes)) in
      let text : inline_of bytes ++ second_plain bytes ≡ bytes ++ fill =
      ap (λ t. t ++ (rest ++ fill)) front ∙ sym (append_assoc (take 48 bytes) rest fill) ∙ ap (λ t. t ++ fill) (take-append-drop 48 bytes)
      in
      same_room bytes (inline_of bytes ++ second_plain bytes) fill text (zeros_again k)
]

-- ---- the other segments

pub fills_found : (ns aligns b : List ℕ) → length aligns ≡ length ns → sum_by up16 ns ≡ length b → have_zero_fills ns b ≡ true → bodies (cut_of ns aligns b) ≡ b
unfolding cut_of have_zero_fills padded
fills_found [] aligns b same all zeros = sym (nil_from_length b (sym all))
fills_found (n ∷ ns) [] b same all zeros = absurd (omega arith)
fills_found (n ∷ ns) (a ∷ more) b same all zeros =
    let both = and_parts (are_zeros (drop n (take (up16 n) b))) (have_zero_fills ns (drop (up16 n) b)) zeros in
    let room : List ℕ = take (up16 n) b in
    let room_len : length room ≡ up16 n = omega (arith, sum_by-cons up16 n ns, length-take (up16 n) b) in
    let inside : take n room ≡ take n b = take-take n (up16 n) b (up16_least n) in
    let len : length (take n b) ≡ n = omega (arith, sum_by-cons up16 n ns, up16_least n, length-take n b) in
    let first : filled (up16 (length (take n b))) (take n b) ≡ room =
    ap (λ k. filled (up16 k) (take n b)) len ∙ ap (λ k. filled k (take n b)) (sym room_len) ∙ ap (filled (length room)) (sym inside)
    ∙ sym (filled_found n room (omega (arith, up16_least n)) both.0)
    in
    let rest : sum_by up16 ns ≡ length (drop (up16 n) b) = omega (arith, sum_by-cons up16 n ns, length-drop (up16 n) b) in
    ap (λ t. t ++ bodies (cut_of ns more (drop (up16 n) b))) first ∙ ap (λ t. room ++ t) (fills_found ns more (drop (up16 n) b) (omega arith) rest both.1) ∙ take-append-drop (up16 n) b

pub cut_lengths : (ns aligns b : List ℕ) → length aligns ≡ length ns → sum_by up16 ns ≤ length b → map length_of (cut_of ns aligns b) ≡ ns
unfolding cut_of
cut_lengths [] aligns b same all = refl
cut_lengths (n ∷ ns) [] b same all = absurd (omega arith)
cut_lengths (n ∷ ns) (a ∷ more) b same all =
    let first : length (take n b) ≡ n = omega (arith, sum_by-cons up16 n ns, up16_least n, length-take n b) in
    let rest : sum_by up16 ns ≤ length (drop (up16 n) b) = omega (arith, sum_by-cons up16 n ns, length-drop (up16 n) b) in
    cc (first, cut_lengths ns more (drop (up16 n) b) (omega arith) rest)

pub cut_aligns : (ns aligns b : List ℕ) → length aligns ≡ length ns → map align_of (cut_of ns aligns b) ≡ aligns
unfolding cut_of
cut_aligns [] [] b same = refl
cut_aligns [] (a ∷ more) b same = absurd (omega arith)
cut_aligns (n ∷ ns) [] b same = absurd (omega arith)
cut_aligns (n ∷ ns) (a ∷ more) b same = cc (cut_aligns ns more (drop (up16 n) b) (omega arith))

length-padded : (s : Segment) → length (padded s) ≡ up16 (length s.bytes)
unfolding padded filled
length-padded s = length-append s.bytes (replicate (up16 (length s.bytes) - length s.bytes) 0) ∙ omega (arith, length-replicate {A = ℕ} (up16 (length s.bytes) - length s.bytes) 0, up16_least (length s.bytes))

fill : (s : Segment) → are_zeros (drop (length s.bytes) (padded s)) ≡ true
unfolding padded
fill s = filled_behind (up16 (length s.bytes)) s.bytes

text : (s : Segment) → take (length s.bytes) (padded s) ≡ s.bytes
unfolding padded
text s = filled_front (up16 (length s.bytes)) s.bytes

pub fills_again : (ss : List Segment) → have_zero_fills (map length_of ss) (bodies ss) ≡ true
unfolding have_zero_fills
fills_again [] = refl
fills_again (s ∷ ss) =
    let n : ℕ = up16 (length s.bytes) in
    let front : take n (padded s ++ bodies ss) ≡ padded s = take_at (padded s) (bodies ss) n (length-padded s) in
    let behind : drop n (padded s ++ bodies ss) ≡ bodies ss = drop_at (padded s) (bodies ss) n (length-padded s) in
    and_from _ _ (ap (λ r. are_zeros (drop (length s.bytes) r)) front ∙ fill s) (ap (have_zero_fills (map length_of ss)) behind ∙ fills_again ss)

pub cut_again : (ss : List Segment) → cut_of (map length_of ss) (map align_of ss) (bodies ss) ≡ ss
unfolding cut_of
cut_again [] = refl
cut_again (s ∷ ss) =
    let n : ℕ = up16 (length s.bytes) in
    let whole : List ℕ = padded s ++ bodies ss in
    let front : take (length s.bytes) whole ≡ s.bytes =
    sym (take-take (length s.bytes) n whole (up16_least (length s.bytes))) ∙ ap (take (length s.bytes)) (take_at (padded s) (bodies ss) n (length-padded s)) ∙ text s
    in
    let behind : drop n whole ≡ bodies ss = drop_at (padded s) (bodies ss) n (length-padded s) in
    let made : List ℕ → Segment = λ b. record { align = s.align; bytes = b } in
    ap (λ b. made b ∷ cut_of (map length_of ss) (map align_of ss) (drop n whole)) front
    ∙ ap (λ b. s ∷ cut_of (map length_of ss) (map align_of ss) b) behind
    ∙ ap (λ (t : List Segment). s ∷ t) (cut_again ss)

-- ---- the late status

ok_is : {X : Type 0} (x y : X) → (let r : Result X SecureRefusal = Ok x in let q : Result X SecureRefusal = Ok y in r ≡ q) → x ≡ y
ok_is x y e = cc

pub late_found : {X : Type 0} (late : ℕ) (x y : X) → by_late late x ≡ Ok y → (late ≡ 0x0e) × (x ≡ y)
unfolding by_late
late_found {X} late x y e = let both = by_tests (late == 0x0e) (late == 0x01) x y e in (eqb-true late 0x0e both.0, both.1)
  where
    by_tests : {X : Type 0} (a b : Bool) (x y : X) → (let r : Result X SecureRefusal = (if a then Ok x else if b then Err Aborted else Err BadShape) in r ≡ Ok y) → (a ≡ true) × (x ≡ y)
    by_tests true b x y e = (refl, ok_is x y e)
    by_tests false true x y e = absurd cc
    by_tests false false x y e = absurd cc

pub end_found : (end : List ℕ) → length end ≡ 16 → slice_index end 0 ≡ 0x0e → are_zeros (drop 1 end) ≡ true → end ≡ filled 16 (0x0e ∷ [])
unfolding filled
end_found [] len late zeros = absurd (omega arith)
end_found (x ∷ xs) len late zeros =
    let k : length xs ≡ 15 = omega arith in
    ap (λ b. b ∷ xs) late ∙ ap (λ t. 0x0e ∷ t) (zeros_found xs zeros ∙ ap (λ (m : ℕ). replicate {A = ℕ} m 0) k)
