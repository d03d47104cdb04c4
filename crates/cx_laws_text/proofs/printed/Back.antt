-- What is printed of a value is read again.
use Rattle.std.proofs.Common.{◌≡◌, ℕ, zero, suc, ◌+◌, ◌-◌, ◌*◌, ◌/◌, ◌%◌, ◌<◌, ◌^◌, inr, Bool, true, false, cond, List, [], ◌∷◌, ◌++◌, length, take, drop, replicate, codes, Option, Some, None, refl, sym, ap, subst, ◌∙◌, ◌==◌, ◌&&◌, nat_lt, nat_le, arith, lit<, eqb-true, length-append}
use Rattle.std.specs.Prelude.{option_and_then}
use Rattle.std.specs.Fmt.{decimal}
use Rattle.std.specs.List.{AllByRecursion, list_all, list_any, position_from}
use Rattle.std.specs.Str.{bytes_eq}
use Rattle.std.specs.Str.Parse.{digits_value}
use Rattle.std.proofs.lemmas.Bool.Decides.{nat_tests}
use Rattle.std.proofs.lemmas.Fmt.{decimal-digits_value, decimal_nonempty, digits_decimal, digits_value-decimal, length-decimal-le}
use Rattle.std.proofs.lemmas.List.{length-replicate}
use Rattle.std.proofs.lemmas.List.Folds.{list_all-append}
use Rattle.std.proofs.lemmas.Slice.Eq.{bytes_eq-Decides}
use Rattle.std.proofs.Math.Seq.{take-append_seam, drop-append-add}
use Rattle.hex.specs.Hex.{IsBytes}
use Rattle.cx_base.specs.Joined.{◌<>◌}
use Rattle.cx_base.specs.Names.{Name, name_text}
use Rattle.cx_base.specs.Nodes.{node_text}
use Rattle.cx_base.specs.declared.kinds.EntityType.{EntityType}
use Rattle.cx_base.specs.declared.kinds.EntityType.TheVariants as kind
use Rattle.cx_base.specs.declared.nodes.NodeName.{NodeName}
use Rattle.cx_base.specs.declared.nodes.NodeName.TheVariants as node
use Rattle.cx_words.specs.Words.{hex_of, hex_word, is_comma, is_digit, is_nine, is_point, number_of, reading_of}
use Rattle.cx_words.proofs.FirstPlace.{finds, finds_none}
use Rattle.cx_words.proofs.HexWords.{hex_of-lower}
use Rattle.cx_words.proofs.NameWords.{name_of-text}
use Rattle.cx_words.proofs.NumberWords.{number_of-decimal, own, reading_of-word}
use Rattle.cx_words.specs.lines.Values.{IsWritable}
use Rattle.cx_rotate.specs.declared.generations.Generation.{Generation}
use Rattle.cx_journal.specs.Words.{asked_text, data_text, ids_text, nine_digits, reading_text}
use Rattle.cx_audit_text.specs.words.Items.{AreTold, IsAsked}
use Rattle.cx_audit_text.specs.words.Readings.{asked_of, behind, byte_of, cookie_of, data_of, ids_of, instant_at, node_of, printed, printed_reading_of, short_of, three_from, ticket_of, with_digits, with_part}
use Rattle.cx_laws_text.proofs.printed.Plain.{all-none}

same-bytes : (w : List ℕ) → bytes_eq w w ≡ true
same-bytes w = (bytes_eq-Decides w w).1 refl

-- ---- bounded numbers

pub short_of-decimal : (n : ℕ) → n < 4294967296 → short_of (decimal n) ≡ Some n
unfolding short_of
short_of-decimal n lt =
    let low : nat_lt n 4294967296 ≡ true = grind (arith, nat_tests, lt) in
    rw (number_of-decimal n (omega (arith, lt)), low) refl

pub byte_of-decimal : (n : ℕ) → n < 256 → byte_of (decimal n) ≡ Some n
unfolding byte_of
byte_of-decimal n lt =
    let low : nat_lt n 256 ≡ true = grind (arith, nat_tests, lt) in
    rw (number_of-decimal n (omega (arith, lt)), low) refl

-- ---- readings

no-point : (b : ℕ) → is_digit b ≡ true → is_point b ≡ false
no-point b h = grind (arith, nat_tests, h)

decimal-no-point : (n : ℕ) → n < 2 ^ 64 → list_any is_point (decimal n) ≡ false
decimal-no-point n lt = all-none is_digit is_point no-point (decimal n) (digits_decimal own n lt)

zeros-digits : (k : ℕ) → list_all is_digit (replicate k 48) ≡ true
zeros-digits zero = refl
zeros-digits (suc k) = zeros-digits k

zeros-value : (k : ℕ) (ds : List ℕ) → digits_value 10 (replicate k 48 ++ ds) ≡ digits_value 10 ds
zeros-value zero ds = refl
zeros-value (suc k) ds = zeros-value k ds

nine-length : (n : ℕ) → n < 1000000000 → length (nine_digits n) ≡ 9
nine-length n lt =
    let short = length-decimal-le 9 n (lit< tt) lt (omega (arith, lt)) in
    omega (arith, short, length-append (replicate (9 - length (decimal n)) 48) (decimal n), length-replicate {A = ℕ} (9 - length (decimal n)) 48)

nine-is : (n : ℕ) → n < 1000000000 → is_nine (nine_digits n) ≡ true
nine-is n lt =
    let long : (length (nine_digits n) == 9) ≡ true = grind (arith, nat_tests, nine-length n lt) in
    let digits : list_all is_digit (nine_digits n) ≡ true =
    rw (list_all-append is_digit (replicate (9 - length (decimal n)) 48) (decimal n), zeros-digits (9 - length (decimal n)), digits_decimal own n (omega (arith, lt))) refl in
    rw (long, digits) refl

nine-value : (n : ℕ) → n < 1000000000 → digits_value 10 (nine_digits n) ≡ n
nine-value n lt = zeros-value (9 - length (decimal n)) (decimal n) ∙ digits_value-decimal own n (omega (arith, lt))

zero-text : decimal 0 ≡ codes "0"
zero-text = decimal-digits_value own (48 ∷ []) refl (omega arith) (λ first. refl) (omega arith)

part-read : (n : ℕ) → n < 1000000000 → reading_of (codes "0." ++ nine_digits n) ≡ Some n
part-read n lt =
    reading_of-word (codes "0." ++ nine_digits n) n
    (inr (0, nine_digits n, omega arith, nine-is n lt, ap (λ w. w <> codes "." <> nine_digits n) (sym zero-text), (let same : n ≡ 0 * 1000000000 + digits_value 10 (nine_digits n) = omega (arith, nine-value n lt) in same)))

whole-read : (q : ℕ) → q < 18446744073 → instant_at (decimal q) (position_from is_point 0 (decimal q)) ≡ Some (q * 1000000000)
whole-read q lt =
    let low : nat_lt q 18446744073 ≡ true = grind (arith, nat_tests, lt) in
    rw (finds_none is_point (decimal q) 0 (decimal-no-point q (omega (arith, lt))), number_of-decimal q (omega (arith, lt)), low) refl

pointed-read : (q m : ℕ) → q < 18446744073 → m < 1000000000
    → instant_at (decimal q ++ 46 ∷ nine_digits m) (position_from is_point 0 (decimal q ++ 46 ∷ nine_digits m)) ≡ Some (q * 1000000000 + m)
pointed-read q m lt small =
    let here : position_from is_point 0 (decimal q ++ 46 ∷ nine_digits m) ≡ Some (length (decimal q)) =
    finds is_point (decimal q) 46 (nine_digits m) 0 (decimal-no-point q (omega (arith, lt))) refl ∙ ap Some (omega arith) in
    let front : take (length (decimal q)) (decimal q ++ 46 ∷ nine_digits m) ≡ decimal q = take-append_seam (decimal q) (46 ∷ nine_digits m) in
    let behind : drop (length (decimal q)) (decimal q ++ 46 ∷ nine_digits m) ≡ 46 ∷ nine_digits m =
    ap (λ k. drop k (decimal q ++ 46 ∷ nine_digits m)) (let e : length (decimal q) ≡ length (decimal q) + 0 = omega arith in e) ∙ drop-append-add (decimal q) (46 ∷ nine_digits m) 0 in
    let low : nat_lt q 18446744073 ≡ true = grind (arith, nat_tests, lt) in
    let part : nat_lt m 1000000000 ≡ true = grind (arith, nat_tests, small) in
    let read : reading_of (codes "0." ++ nine_digits m) ≡ Some m = part-read m small in
    ap (instant_at (decimal q ++ 46 ∷ nine_digits m)) here
    ∙ ap (λ f. with_digits (drop 1 (drop (length (decimal q)) (decimal q ++ 46 ∷ nine_digits m))) (number_of f)) front
    ∙ ap (λ b. with_digits (drop 1 b) (number_of (decimal q))) behind
    ∙ ap (with_digits (nine_digits m)) (number_of-decimal q (omega (arith, lt)))
    ∙ ap (option_and_then (with_part q)) read
    ∙ (rw (low, part) refl)

instant-read : (r : ℕ) (b : Bool) → (r % 1000000000 == 0) ≡ b → r < 18446744073000000000
    → let w = cond b (decimal (r / 1000000000)) (decimal (r / 1000000000) ++ 46 ∷ nine_digits (r % 1000000000)) in
    instant_at w (position_from is_point 0 w) ≡ Some r
instant-read r true none lt =
    let same : r % 1000000000 ≡ 0 = eqb-true (r % 1000000000) 0 none in
    whole-read (r / 1000000000) (omega (arith, lt)) ∙ ap Some (let e : r / 1000000000 * 1000000000 ≡ r = omega (arith, same) in e)
instant-read r false some lt =
    pointed-read (r / 1000000000) (r % 1000000000) (omega (arith, lt)) (omega arith)
    ∙ ap Some (let e : r / 1000000000 * 1000000000 + r % 1000000000 ≡ r = omega arith in e)

pub printed_reading_of-text : (r : ℕ) → r < 18446744073000000000 → printed_reading_of (reading_text r) ≡ Some r
unfolding printed_reading_of
printed_reading_of-text r lt =
    ap (printed reading_text (reading_text r)) (instant-read r (r % 1000000000 == 0) refl lt) ∙ ap (λ b. cond b (Some r) None) (same-bytes (reading_text r))

dash-none : printed_reading_of (codes "-") ≡ None
unfolding printed_reading_of number_of
dash-none = refl

not-dash : (r : ℕ) → r < 18446744073000000000 → bytes_eq (reading_text r) (codes "-") ≡ false
not-dash r lt = by_test (bytes_eq (reading_text r) (codes "-")) refl
  where
    by_test : (b : Bool) → bytes_eq (reading_text r) (codes "-") ≡ b → b ≡ false
    by_test false e = refl
    by_test true e =
        let same : reading_text r ≡ codes "-" = (bytes_eq-Decides (reading_text r) (codes "-")).0 e in
        let read : printed_reading_of (codes "-") ≡ Some r = ap printed_reading_of (sym same) ∙ printed_reading_of-text r lt in
        absurd (let x : None ≡ Some r = sym dash-none ∙ read in cc)

pub asked_of-text : (asked : Option ℕ) → IsAsked asked → asked_of (asked_text asked) ≡ Some asked
unfolding asked_of
asked_of-text None h = refl
asked_of-text (Some r) h = rw (not-dash r h, printed_reading_of-text r h) refl

-- ---- ids

no-comma : (b : ℕ) → is_digit b ≡ true → is_comma b ≡ false
no-comma b h = grind (arith, nat_tests, h)

dash-apart : (id : ℕ) (rest : List ℕ) → id < 2 ^ 64 → bytes_eq (decimal id ++ 44 ∷ rest) (codes "-") ≡ false
dash-apart id rest lt = digits-apart (decimal id) (digits_decimal own id lt) (decimal_nonempty id lt)
  where
    digits-apart : (ds : List ℕ) → list_all is_digit ds ≡ true → 0 < length ds → bytes_eq (ds ++ 44 ∷ rest) (codes "-") ≡ false
    digits-apart [] h some = absurd (omega (arith, some))
    digits-apart (d ∷ ds) h some =
        let apart : (d == 45) ≡ false = grind (arith, nat_tests, h) in
        rw apart refl

three-read : (id : ℕ) → id < 18446744073709551614 → ids_of (ids_text (three_from id)) ≡ Some (three_from id)
unfolding ids_of
three-read id lt =
    let low : id < 2 ^ 64 = omega (arith, lt) in
    let rest = decimal (id + 1) ++ 44 ∷ decimal (id + 2) in
    let here : position_from is_comma 0 (decimal id ++ 44 ∷ rest) ≡ Some (length (decimal id)) =
    finds is_comma (decimal id) 44 rest 0 (all-none is_digit is_comma no-comma (decimal id) (digits_decimal own id low)) refl ∙ ap Some (omega arith) in
    let front : take (length (decimal id)) (decimal id ++ 44 ∷ rest) ≡ decimal id = take-append_seam (decimal id) (44 ∷ rest) in
    let small : nat_lt id 18446744073709551614 ≡ true = grind (arith, nat_tests, lt) in
    let same : bytes_eq (ids_text (three_from id)) (ids_text (three_from id)) ≡ true = same-bytes (ids_text (three_from id)) in
    rw (dash-apart id rest low, here, front, number_of-decimal id low, small, same) refl

pub ids_of-text : (generations : List Generation) → AreTold generations → ids_of (ids_text generations) ≡ Some generations
unfolding ids_of
ids_of-text [] h = refl
ids_of-text (g ∷ gs) h = subst (λ (l : List Generation). ids_of (ids_text l) ≡ Some l) (sym h.1) (three-read g.id h.0)

-- ---- cookies and tickets

behind-front : (front rest : List ℕ) → behind front (front ++ rest) ≡ Some rest
behind-front front rest =
    let long : nat_le (length front) (length (front ++ rest)) ≡ true = grind (arith, nat_tests, length-append front rest) in
    let taken : bytes_eq (take (length front) (front ++ rest)) front ≡ true = ap (λ w. bytes_eq w front) (take-append_seam front rest) ∙ same-bytes front in
    let test : (nat_le (length front) (length (front ++ rest)) && bytes_eq (take (length front) (front ++ rest)) front) ≡ true = rw (long, taken) refl in
    let left : drop (length front) (front ++ rest) ≡ rest =
    ap (λ k. drop k (front ++ rest)) (let e : length front ≡ length front + 0 = omega arith in e) ∙ drop-append-add front rest 0 in
    ap (λ b. cond b (Some (drop (length front) (front ++ rest))) None) test ∙ ap Some left

pub cookie_of-word : (rank : ℕ) → rank < 2 ^ 64 → cookie_of (codes "c" <> decimal rank) ≡ Some rank
unfolding cookie_of
cookie_of-word rank lt = ap (option_and_then number_of) (behind-front (codes "c") (decimal rank)) ∙ number_of-decimal rank lt

pub ticket_of-word : (k : ℕ) → k < 2 ^ 64 → ticket_of (codes "ticket=" <> decimal k) ≡ Some k
unfolding ticket_of
ticket_of-word k lt = ap (option_and_then number_of) (behind-front (codes "ticket=") (decimal k)) ∙ number_of-decimal k lt

-- ---- nodes

not-mon : (name : Name) → bytes_eq (name_text name) (codes "mon") ≡ false
not-mon name = kinds name.kind name.id
  where
    kinds : (k : EntityType) (id : List ℕ) → bytes_eq (name_text (record { kind = k; id = id })) (codes "mon") ≡ false
    kinds kind.Mon id = refl
    kinds kind.Mds id = refl
    kinds kind.Osd id = refl
    kinds kind.Client id = refl
    kinds kind.Mgr id = refl
    kinds kind.Auth id = refl

pub node_of-text : (n : NodeName) → IsWritable n → node_of (node_text n) ≡ Some n
unfolding node_of
node_of-text node.Monitor h = refl
node_of-text (node.Entity name) h = rw (not-mon name, name_of-text name h) refl

-- ---- data

bytes-at : (xs : List ℕ) → AllByRecursion (λ (b : ℕ). b < 256) xs → IsBytes xs
bytes-at [] h i = omega arith
bytes-at (x ∷ xs) h zero = h.0
bytes-at (x ∷ xs) h (suc i) = bytes-at xs h.1 i

pub hex-word : (bytes : List ℕ) → data_text bytes ≡ hex_word bytes
hex-word [] = refl
hex-word (b ∷ bytes) = refl

pub data_of-text : (bytes : List ℕ) → AllByRecursion (λ (b : ℕ). b < 256) bytes → data_of (data_text bytes) ≡ Some bytes
unfolding data_of
data_of-text bytes h =
    ap (printed data_text (data_text bytes)) (ap hex_of (hex-word bytes) ∙ hex_of-lower bytes (bytes-at bytes h)) ∙ ap (λ b. cond b (Some bytes) None) (same-bytes (data_text bytes))
