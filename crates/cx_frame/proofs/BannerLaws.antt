-- What is read as a banner stands there, and what stands there is read.
use Rattle.std.proofs.Common.{◌≡◌, ℕ, ◌+◌, ◌-◌, ◌<◌, ◌≤◌, ◌^◌, Bool, true, false, List, [], ◌∷◌, ◌++◌, length, slice_index, take, drop, map, Option, Some, None, Result, Ok, Err, refl, sym, ap, subst, ◌∙◌, ◌⊎◌, inl, inr, arith, length-take, length-drop}
use Rattle.std.specs.Prelude.{◌||◌, ◌==◌, ◌%◌, not, nat_lt, if◌then◌else◌, IfSome}
use Rattle.std.specs.List.{position_from, zip, range_with_len}
use Rattle.std.specs.Int.{w16, w64, to_le_bytes}
use Rattle.std.proofs.Math.Seq.{take-add}
use Rattle.std.proofs.lemmas.Bool.{eqb-true, ltb-false, le-ltb}
use Rattle.std.proofs.lemmas.List.{get_or-take, take-append-drop}
use Rattle.std.proofs.lemmas.List.FromFn.{fill_by_all}
use Rattle.std.proofs.lemmas.Nat.{from_le_bytes-to_le_bytes_2, from_le_bytes-to_le_bytes_8}
use Rattle.cx_frame.specs.declared.banner.Banner.{Banner}
use Rattle.cx_frame.specs.declared.refusals.BannerRefusal.{BannerRefusal}
use Rattle.cx_frame.specs.declared.refusals.BannerRefusal.TheVariants.{BadBanner, Features}
use Rattle.cx_frame.specs.Preambles.{number16}
use Rattle.cx_frame.specs.Banners.{IsBanner, bad_place, banner_at, banner_text, banner_word, behind_word, by_features, number64, sized}
use Rattle.cx_frame.proofs.Fours.{AreBytes, spelled16, spelled64}

-- ---- the word

-- where no byte differs, the bytes begin with the text
same_front : (i : ℕ) (ts bs : List ℕ) → length ts ≤ length bs → position_from (λ x. not (x.0 == x.1)) i (zip ts bs) ≡ None → take (length ts) bs ≡ ts
same_front i [] bs le none = refl
same_front i (t ∷ ts) [] le none = absurd (omega arith)
same_front i (t ∷ ts) (b ∷ bs) le none =
    let here = one_same (t == b) i (position_from (λ x. not (x.0 == x.1)) (i + 1) (zip ts bs)) none in
    cc (eqb-true t b here.0, same_front (i + 1) ts bs (omega arith) here.1)
  where
    one_same : (e : Bool) (i : ℕ) (rest : Option ℕ) → (let r : Option ℕ = (if not e then Some i else rest) in r ≡ None) → (e ≡ true) × (rest ≡ None)
    one_same true i rest none = (refl, none)
    one_same false i rest none = absurd cc

begins : (bytes : List ℕ) → 8 ≤ length bytes → bad_place bytes ≡ None → take 8 bytes ≡ banner_word
unfolding bad_place
begins bytes le none = same_front 0 banner_word bytes le none

-- ---- found

abbrev pub Read : Type 0
Read = Result (Option (Banner × ℕ)) BannerRefusal

ok_is : (o p : Option (Banner × ℕ)) → (let r : Read = Ok o in let q : Read = Ok p in r ≡ q) → o ≡ p
ok_is o p e = cc

by_features_found : (b : Banner) (n : ℕ) (o : Option (Banner × ℕ)) → by_features b n ≡ Ok o → o ≡ Some (b, n)
unfolding by_features
by_features_found b n o e = cases (nat_lt 1 b.required) (b.supported % 2 == 0) (b.required - b.required % 2) (Some (b, n)) o e
  where
    cases : (s t : Bool) (m : ℕ) (p o : Option (Banner × ℕ)) → (let r : Read = (if s then Err (Features m) else if t then Err (Features 1) else Ok p) in r ≡ Ok o) → o ≡ p
    cases true t m p o e = absurd cc
    cases false true m p o e = absurd cc
    cases false false m p o e = sym (ok_is p o e)

there : (short wrong cut : Bool) (j : Read) (o : Option (Banner × ℕ))
    → (let r : Read = (if short then Ok None else if wrong then Err (BadBanner 8) else if cut then Ok None else j) in r ≡ Ok o)
    → (o ≡ None) ⊎ ((short ≡ false) × (wrong ≡ false) × (cut ≡ false) × (j ≡ Ok o))
there true wrong cut j o e = inl (sym (ok_is None o e))
there false true cut j o e = absurd cc
there false false true j o e = inl (sym (ok_is None o e))
there false false false j o e = inr (refl, refl, refl, e)

or_false : (a b : Bool) → (a || b) ≡ false → (a ≡ false) × (b ≡ false)
or_false false b e = (refl, e)
or_false true b e = absurd cc

joined : (w a b c x y z s : List ℕ) → a ≡ x → b ≡ y → c ≡ z → w ++ (a ++ (b ++ (c ++ s))) ≡ w ++ (x ++ (y ++ (z ++ s)))
joined w a b c x y z s ea eb ec = cc

-- the front of 26 bytes, cell by cell
front_cells : (b : List ℕ) → 26 ≤ length b → take 26 b ≡ map (slice_index b) (range_with_len 0 26)
front_cells b le = fill_by_all (slice_index b) (take 26 b) 26 0 (omega (arith, length-take 26 b)) (λ k lt. get_or-take 26 b k 0 lt)

front_found : (b : List ℕ) → AreBytes b → 26 ≤ length b → bad_place b ≡ None → (m : ℕ) → m ≡ number16 b 8
    → take 26 b ≡ banner_word ++ (to_le_bytes w16 m ++ (to_le_bytes w64 (number64 b 10) ++ (to_le_bytes w64 (number64 b 18) ++ [])))
front_found b are le none m m_is =
    let word : take 8 b ≡ banner_word = begins b (omega arith) none in
    let cell : (i : ℕ) → i < 8 → slice_index b i ≡ slice_index banner_word i = λ i lt. sym (get_or-take 8 b i 0 lt) ∙ ap (λ l. slice_index l i) word in
    let z : 0 < 8 = omega arith in
    front_cells b le
    ∙ rw (cell 0 (omega arith), cell 1 (omega arith), cell 2 (omega arith), cell 3 (omega arith), cell 4 (omega arith), cell 5 (omega arith), cell 6 (omega arith), cell 7 (omega arith)) refl
    ∙ sym (joined banner_word _ _ _ _ _ _ [] (ap (λ n. to_le_bytes w16 n) m_is ∙ spelled16 b are 8) (spelled64 b are 10) (spelled64 b are 18))

read_found : (b : List ℕ) → AreBytes b → bad_place b ≡ None → (10 ≤ length b) → (16 ≤ number16 b 8) → number16 b 8 ≤ 256 → 10 + number16 b 8 ≤ length b
    → IsBanner b (record { supported = number64 b 10; required = number64 b 18 }) (10 + number16 b 8)
unfolding banner_text
read_found b are none long low high all =
    let n : ℕ = number16 b 8 in
    let skipped : List ℕ = take (n - 16) (drop 26 b) in
    let skipped_len : length skipped ≡ n - 16 = omega (arith, length-take (n - 16) (drop 26 b), length-drop 26 b) in
    let m_is : 16 + length skipped ≡ n = omega arith in
    let split : 10 + n ≡ 26 + (n - 16) = omega arith in
    record {
      skipped = skipped;
      few = omega arith;
      len = omega arith;
      there = all;
      text = ap (λ k. take k b) split ∙ take-add 26 (n - 16) b ∙ ap (λ t. t ++ skipped) (front_found b are (omega arith) none (16 + length skipped) m_is);
    }

by_place : (b : List ℕ) (o : Option (Banner × ℕ)) (place : Option ℕ) → AreBytes b → bad_place b ≡ place → behind_word b place ≡ Ok o → IfSome o (λ x. IsBanner b x.0 x.1)
unfolding behind_word sized
by_place b o (Some p) are is read = absurd cc
by_place b o None are is read =
    let n : ℕ = number16 b 8 in
    let value : Banner = record { supported = number64 b 10; required = number64 b 18 } in
    let Held : Option (Banner × ℕ) → Type 0 = λ p. IfSome p (λ x. IsBanner b x.0 x.1) in
    elim (there (nat_lt (length b) 10) (nat_lt n 16 || nat_lt 256 n) (nat_lt (length b) (10 + n)) (by_features value (10 + n)) o read) [
      | inl none ↦ subst Held (sym none) tt
      | inr all ↦
          let size = or_false (nat_lt n 16) (nat_lt 256 n) all.1 in
          subst Held (sym (by_features_found value (10 + n) o all.3))
          (read_found b are is (ltb-false (length b) 10 all.0) (ltb-false n 16 size.0) (ltb-false 256 n size.1) (ltb-false (length b) (10 + n) all.2))
    ]

pub banner_found : (b : List ℕ) (o : Option (Banner × ℕ)) → AreBytes b → banner_at b ≡ Ok o → IfSome o (λ x. IsBanner b x.0 x.1)
unfolding banner_at
banner_found b o are read = by_place b o (bad_place b) are refl read

-- ---- again

no_bad_place : (b : Banner) (skipped more : List ℕ) → bad_place (banner_text b skipped ++ more) ≡ None
unfolding bad_place banner_text
no_bad_place b skipped more = refl

fields_again : (b : Banner) (skipped more : List ℕ) → length skipped ≤ 240 → b.supported < 2 ^ 64 → b.required < 2 ^ 64
    → let t : List ℕ = banner_text b skipped ++ more in
    (number16 t 8 ≡ 16 + length skipped) × (number64 t 10 ≡ b.supported) × (number64 t 18 ≡ b.required)
unfolding banner_text
fields_again b skipped more few hs hr =
    (from_le_bytes-to_le_bytes_2 (16 + length skipped) (omega arith), from_le_bytes-to_le_bytes_8 b.supported hs, from_le_bytes-to_le_bytes_8 b.required hr)

all_there : (short wrong cut : Bool) (j k : Read) → short ≡ false → wrong ≡ false → cut ≡ false → j ≡ k
    → (let r : Read = (if short then Ok None else if wrong then Err (BadBanner 8) else if cut then Ok None else j) in r ≡ k)
all_there short wrong cut j k a b c e = rw (a, b, c) e

or_none : (a b : Bool) → a ≡ false → b ≡ false → (a || b) ≡ false
or_none a b e f = rw (e, f) refl

same_banner : (b : Banner) (s r : ℕ) → s ≡ b.supported → r ≡ b.required → (let x : Banner = record { supported = s; required = r } in x) ≡ b
same_banner b s r e f =
    let made : ℕ → ℕ → Banner = λ x y. record { supported = x; required = y } in
    ap (λ x. made x r) e ∙ ap (λ y. made b.supported y) f

pub banner_again : (bytes : List ℕ) (b : Banner) (n : ℕ) → b.supported < 2 ^ 64 → b.required < 2 ^ 64 → IsBanner bytes b n → banner_at bytes ≡ by_features b n
unfolding banner_at behind_word sized
banner_again bytes b n hs hr is =
    let more : List ℕ = drop n bytes in
    let text : bytes ≡ banner_text b is.skipped ++ more = sym (take-append-drop n bytes) ∙ ap (λ t. t ++ more) is.text in
    let place : bad_place bytes ≡ None = ap bad_place text ∙ no_bad_place b is.skipped more in
    let fields = fields_again b is.skipped more is.few hs hr in
    let size : number16 bytes 8 ≡ 16 + length is.skipped = ap (λ t. number16 t 8) text ∙ fields.0 in
    let supported : number64 bytes 10 ≡ b.supported = ap (λ t. number64 t 10) text ∙ fields.1 in
    let required : number64 bytes 18 ≡ b.required = ap (λ t. number64 t 18) text ∙ fields.2 in
    let end : 10 + number16 bytes 8 ≡ n = ap (λ k. 10 + k) size ∙ omega (arith, is.len) in
    let long : 16 ≤ number16 bytes 8 = subst (λ k. 16 ≤ k) (sym size) (omega arith) in
    let short : number16 bytes 8 ≤ 256 = subst (λ k. k ≤ 256) (sym size) (omega (arith, is.few)) in
    let all : 10 + number16 bytes 8 ≤ length bytes = subst (λ k. k ≤ length bytes) (sym end) is.there in
    let value : Banner = record { supported = number64 bytes 10; required = number64 bytes 18 } in
    ap (behind_word bytes) place
    ∙ all_there _ _ _ (by_features value (10 + number16 bytes 8)) (by_features b n)
    (le-ltb (length bytes) 10 (omega (arith, is.len, is.there)))
    (or_none _ _ (le-ltb (number16 bytes 8) 16 long) (le-ltb 256 (number16 bytes 8) short))
    (le-ltb (length bytes) (10 + number16 bytes 8) all)
    (ap (λ (x : Banner). by_features x (10 + number16 bytes 8)) (same_banner b _ _ supported required) ∙ ap (by_features b) end)
