-- The plain texts of a frame's parts.
use Rattle.std.proofs.Common.{◌≡◌, ◌≢◌, ℕ, suc, ◌+◌, ◌-◌, ◌*◌, ◌/◌, ◌<◌, ◌≤◌, false, List, [], ◌∷◌, ◌++◌, length, get_or, take, drop, refl, sym, ap, ◌∙◌, arith, inl, inr, sum_by, append_assoc, append-nil, length-append, length-take, length-drop}
use Rattle.std.specs.Prelude.{replicate, ◌==◌}
use Rattle.std.proofs.lemmas.Bool.{cases_eq, ne_eqb}
use Rattle.std.proofs.lemmas.List.{length-replicate}
use Rattle.std.proofs.lemmas.List.Sums.{sum_by-cons}
use Rattle.cx_frame.specs.declared.frame.Segment.{Segment}
use Rattle.cx_frame.specs.declared.frame.Frame.{Frame}
use Rattle.cx_frame.specs.Preambles.{length_of, preamble_of, preamble_text}
use Rattle.cx_frame.proofs.FrameLaws.{length-preamble_text}
use Rattle.cx_secure.specs.Contents.{sealed_contents}
use Rattle.cx_secure.specs.Parts.{nonce_at, part, sealed_parts}
use Rattle.cx_secure.proofs.PartLaws.{sealed-append}
use Rattle.cx_secure.specs.Plains.{bodies, filled, inline_of, last_plain, nonempty, one_if, padded, parts_of, plains, plains_of, second_plain, up16}
use Rattle.cx_secure.proofs.Lengths.{up16_least, up16_most}
use Rattle.cx_secure.proofs.Lists.{nothing_filled}

pub length-nonempty : (t : List ℕ) → length (nonempty t) ≡ one_if (length t)
length-nonempty [] = refl
length-nonempty (b ∷ bs) = let some : (length (b ∷ bs) == 0) ≡ false = ne_eqb (length (b ∷ bs)) 0 (λ e. omega arith) in rw some refl

pub length-filled : (n : ℕ) (bytes : List ℕ) → length bytes ≤ n → length (filled n bytes) ≡ n
unfolding filled
length-filled n bytes le = length-append bytes (replicate (n - length bytes) 0) ∙ omega (arith, length-replicate {A = ℕ} (n - length bytes) 0)

pub length-second_plain : (bytes : List ℕ) → length (second_plain bytes) ≡ up16 (length bytes - 48)
unfolding second_plain
length-second_plain bytes = length-filled (up16 (length bytes - 48)) (drop 48 bytes) (omega (arith, length-drop 48 bytes, up16_least (length bytes - 48)))

one_if_up16 : (n : ℕ) → one_if (up16 n) ≡ one_if n
unfolding up16
one_if_up16 n = elim (cases_eq n 0) [
  | inl e ↦ rw e refl
  | inr ne ↦ let big : ((n + 15) / 16 * 16 == 0) ≡ false = ne_eqb ((n + 15) / 16 * 16) 0 (λ e. ne (omega arith)) in rw (ne_eqb n 0 ne, big) refl
]

one_if_last : (others : List Segment) → one_if (length (last_plain others)) ≡ one_if (length others)
unfolding last_plain
one_if_last others = elim (cases_eq (length others) 0) [
  | inl e ↦ rw e refl
  | inr ne ↦
      let tail : List ℕ = filled 16 (0x0e ∷ []) in
      let tail_len : length tail ≡ 16 = length-filled 16 (0x0e ∷ []) (omega arith) in
      let some : (length others == 0) ≡ false = ne_eqb (length others) 0 ne in
      let big : (length (bodies others ++ tail) == 0) ≡ false = ne_eqb (length (bodies others ++ tail)) 0 (λ e. omega (arith, length-append (bodies others) tail)) in
      rw (some, big) refl
]

counted : (front : List ℕ) (first : Segment) (others : List Segment) → length (plains_of front (first ∷ others)) ≡ 1 + one_if (length first.bytes - 48) + one_if (length others)
unfolding plains_of parts_of
counted front first others =
    ap suc (length-append (nonempty (second_plain first.bytes)) (nonempty (last_plain others)))
    ∙ omega (arith, length-nonempty (second_plain first.bytes), length-nonempty (last_plain others), ap (λ n. one_if n) (length-second_plain first.bytes), one_if_up16 (length first.bytes - 48), one_if_last others)

by_segments : (front : List ℕ) (ss : List Segment) (first : Segment) → 1 ≤ length ss → first ≡ get_or ss 0 first
    → length (plains_of front ss) ≡ 1 + one_if (length first.bytes - 48) + one_if (length ss - 1)
by_segments front [] first some is = absurd (omega arith)
by_segments front (s ∷ ss) first some is =
    let behind : length (s ∷ ss) - 1 ≡ length ss = omega arith in
    counted front s ss ∙ ap (λ (t : Segment). 1 + one_if (length t.bytes - 48) + one_if (length ss)) (sym is) ∙ ap (λ n. 1 + one_if (length first.bytes - 48) + one_if n) (sym behind)

-- how many parts a frame has, told from its segments as they are seen
pub parts_counted : (f : Frame) (seen : List Segment) (first : Segment) (a b : ℕ) → seen ≡ f.segments → 1 ≤ length seen → first ≡ get_or seen 0 first
    → a ≡ one_if (length first.bytes - 48) → b ≡ one_if (length seen - 1) → 1 + a + b ≡ length (plains f)
unfolding plains
parts_counted f seen first a b is some at ea eb =
    let front : List ℕ = preamble_text (preamble_of f) in
    let counts : length (plains_of front seen) ≡ 1 + one_if (length first.bytes - 48) + one_if (length seen - 1) = by_segments front seen first some at in
    omega (arith, ea, eb) ∙ sym counts ∙ ap (λ ss. length (plains_of front ss)) is

-- the parts that stand before the last one
pub second_counted : (first : List ℕ) → length (nonempty (second_plain first)) ≡ one_if (length first - 48)
second_counted first = length-nonempty (second_plain first) ∙ ap (λ n. one_if n) (length-second_plain first) ∙ one_if_up16 (length first - 48)

pub parts_before : (preamble first : List ℕ) (others : List Segment) → 1 + one_if (length first - 48) ≤ length (parts_of preamble first others)
unfolding parts_of
parts_before preamble first others =
    omega (arith, length-append (nonempty (second_plain first)) (nonempty (last_plain others)), second_counted first)

-- three parts, one behind the other
pub three_sealed : (key fixed : List ℕ) (counter behind : ℕ) (preamble first : List ℕ) (others : List Segment) (t u v : List ℕ)
    → t ≡ part key (nonce_at fixed counter) (preamble ++ inline_of first)
    → u ≡ t ++ sealed_parts key fixed (counter + 1) (nonempty (second_plain first))
    → v ≡ u ++ sealed_parts key fixed behind (nonempty (last_plain others))
    → behind ≡ counter + 1 + one_if (length first - 48) → v ≡ sealed_parts key fixed counter (parts_of preamble first others)
unfolding parts_of sealed_parts
three_sealed key fixed counter behind preamble first others t u v et eu ev eb =
    let second : List (List ℕ) = nonempty (second_plain first) in
    let last : List (List ℕ) = nonempty (last_plain others) in
    let head : List ℕ = part key (nonce_at fixed counter) (preamble ++ inline_of first) in
    let count : behind ≡ counter + 1 + length second = eb ∙ ap (λ n. counter + 1 + n) (sym (second_counted first)) in
    ev ∙ ap (λ s. s ++ sealed_parts key fixed behind last) (eu ∙ ap (λ s. s ++ sealed_parts key fixed (counter + 1) second) et)
    ∙ ap (λ n. (head ++ sealed_parts key fixed (counter + 1) second) ++ sealed_parts key fixed n last) count
    ∙ append_assoc head (sealed_parts key fixed (counter + 1) second) (sealed_parts key fixed (counter + 1 + length second) last)
    ∙ ap (λ s. head ++ s) (sym (sealed-append key fixed (counter + 1) second last))

contents-append : (fixed : List ℕ) (counter : ℕ) (ps qs : List (List ℕ))
    → sealed_contents fixed counter (ps ++ qs) ≡ sealed_contents fixed counter ps ++ sealed_contents fixed (counter + length ps) qs
unfolding sealed_contents
contents-append fixed counter [] qs = let same : counter + length {A = List ℕ} [] ≡ counter = omega arith in rw same refl
contents-append fixed counter (p ∷ ps) qs =
    let same : counter + 1 + length ps ≡ counter + length (p ∷ ps) = omega arith in
    ap (λ cs. (nonce_at fixed counter ++ p) ∷ cs) (contents-append fixed (counter + 1) ps qs ∙ ap (λ n. sealed_contents fixed (counter + 1) ps ++ sealed_contents fixed n qs) same)

-- the contents of three parts, one behind the other
pub three_contents : (fixed : List ℕ) (counter behind : ℕ) (preamble first : List ℕ) (others : List Segment) (t u v : List (List ℕ))
    → t ≡ (nonce_at fixed counter ++ (preamble ++ inline_of first)) ∷ []
    → u ≡ t ++ sealed_contents fixed (counter + 1) (nonempty (second_plain first))
    → v ≡ u ++ sealed_contents fixed behind (nonempty (last_plain others))
    → behind ≡ counter + 1 + one_if (length first - 48) → v ≡ sealed_contents fixed counter (parts_of preamble first others)
unfolding parts_of sealed_contents
three_contents fixed counter behind preamble first others t u v et eu ev eb =
    let second : List (List ℕ) = nonempty (second_plain first) in
    let last : List (List ℕ) = nonempty (last_plain others) in
    let head : List ℕ = nonce_at fixed counter ++ (preamble ++ inline_of first) in
    let count : behind ≡ counter + 1 + length second = eb ∙ ap (λ n. counter + 1 + n) (sym (second_counted first)) in
    ev ∙ ap (λ s. s ++ sealed_contents fixed behind last) (eu ∙ ap (λ s. s ++ sealed_contents fixed (counter + 1) second) et)
    ∙ ap (λ n. (head ∷ sealed_contents fixed (counter + 1) second) ++ sealed_contents fixed n last) count
    ∙ ap (λ s. head ∷ s) (sym (contents-append fixed (counter + 1) second last))

-- the contents of a second part and of a last one, where there are such
of_some : (fixed : List ℕ) (counter : ℕ) (t : List ℕ) → 1 ≤ length t → sealed_contents fixed counter (nonempty t) ≡ (nonce_at fixed counter ++ t) ∷ []
unfolding sealed_contents
of_some fixed counter [] some = absurd (omega arith)
of_some fixed counter (b ∷ bs) some = refl

of_none : (cs : List (List ℕ)) (fixed : List ℕ) (counter : ℕ) (t : List ℕ) → length t ≡ 0 → cs ≡ cs ++ sealed_contents fixed counter (nonempty t)
unfolding sealed_contents
of_none cs fixed counter [] none = sym (append-nil cs)
of_none cs fixed counter (b ∷ bs) none = absurd (omega arith)

pub no_second : (cs : List (List ℕ)) (fixed : List ℕ) (counter : ℕ) (first : List ℕ) → length first ≤ 48 → cs ≡ cs ++ sealed_contents fixed counter (nonempty (second_plain first))
unfolding second_plain
no_second cs fixed counter first le = of_none cs fixed counter (second_plain first) (ap length (nothing_filled first le))

pub second_content : (fixed : List ℕ) (counter : ℕ) (first : List ℕ) → 48 < length first
    → sealed_contents fixed counter (nonempty (second_plain first)) ≡ (nonce_at fixed counter ++ second_plain first) ∷ []
second_content fixed counter first lt = of_some fixed counter (second_plain first) (omega (arith, length-second_plain first, up16_least (length first - 48)))

pub no_last : (cs : List (List ℕ)) (fixed : List ℕ) (counter : ℕ) (others : List Segment) → length others ≡ 0 → cs ≡ cs ++ sealed_contents fixed counter (nonempty (last_plain others))
unfolding last_plain
no_last cs fixed counter others none = of_none cs fixed counter (last_plain others) (rw none refl)

last_some : (others : List Segment) → length others ≢ 0 → 1 ≤ length (last_plain others)
unfolding last_plain
last_some others some =
    let is : (length others == 0) ≡ false = ne_eqb (length others) 0 some in
    let tail : length (filled 16 (0x0e ∷ [])) ≡ 16 = length-filled 16 (0x0e ∷ []) (omega arith) in
    let long : 1 ≤ length (bodies others ++ filled 16 (0x0e ∷ [])) = omega (arith, length-append (bodies others) (filled 16 (0x0e ∷ []))) in
    rw is long

pub last_content : (fixed : List ℕ) (counter : ℕ) (others : List Segment) → length others ≢ 0
    → sealed_contents fixed counter (nonempty (last_plain others)) ≡ (nonce_at fixed counter ++ last_plain others) ∷ []
last_content fixed counter others some = of_some fixed counter (last_plain others) (last_some others some)

pub inline_len : (bytes : List ℕ) → length (inline_of bytes) ≡ 48
unfolding inline_of
inline_len bytes = length-filled 48 (take 48 bytes) (omega (arith, length-take 48 bytes))

pub length-padded : (s : Segment) → length (padded s) ≡ up16 (length s.bytes)
unfolding padded
length-padded s = length-filled (up16 (length s.bytes)) s.bytes (up16_least (length s.bytes))

pub length-bodies : (ss : List Segment) → length (bodies ss) ≤ sum_by length_of ss + 15 * length ss
length-bodies [] = omega arith
length-bodies (s ∷ ss) =
    omega (arith, length-append (padded s) (bodies ss), length-padded s, up16_most (length s.bytes), length-bodies ss, sum_by-cons length_of s ss)

pub last_short : (others : List Segment) → sum_by length_of others ≤ 1048576 → length others ≤ 3 → length (last_plain others) ≤ 2097152
unfolding last_plain
last_short others short few = elim (cases_eq (length others) 0) [
  | inl e ↦ rw e (omega arith)
  | inr ne ↦
      let some : (length others == 0) ≡ false = ne_eqb (length others) 0 ne in
      let tail : length (filled 16 (0x0e ∷ [])) ≡ 16 = length-filled 16 (0x0e ∷ []) (omega arith) in
      let all : length (bodies others ++ filled 16 (0x0e ∷ [])) ≤ 2097152 = omega (arith, length-append (bodies others) (filled 16 (0x0e ∷ [])), length-bodies others) in
      rw some all
]

pub second_short : (first : List ℕ) → length first ≤ 1048576 → length (second_plain first) ≤ 2097152
second_short first short = omega (arith, length-second_plain first, up16_most (length first - 48))

pub preamble_len : (f : Frame) → length (preamble_text (preamble_of f)) ≡ 32
unfolding preamble_of
preamble_len f = length-preamble_text (preamble_of f) refl refl
