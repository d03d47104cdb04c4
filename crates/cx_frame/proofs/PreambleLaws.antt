-- What is read as a preamble was spelled so, and what is spelled is read again.
use Rattle.std.proofs.Common.{◌≡◌, ℕ, zero, suc, ◌+◌, ◌<◌, ◌≤◌, ◌^◌, Bool, true, false, IsTrue, List, [], ◌∷◌, ◌++◌, length, slice_index, get_or, take, drop, map, sum, Result, Ok, Err, refl, sym, ap, ◌∙◌, arith, length-take, eq-eqb}
use Rattle.std.specs.Prelude.{◌==◌, nat_lt, if◌then◌else◌}
use Rattle.std.specs.List.{list_all}
use Rattle.std.specs.Int.{w16, w32, to_le_bytes, from_le_bytes}
use Rattle.std.specs.Str.{bytes_eq}
use Rattle.std.proofs.lemmas.Bool.{and_parts, and_from, eqb-true, leb-true, le-leb, le-ltb, ltb-false}
use Rattle.std.proofs.lemmas.List.{get_or-take, take-append-drop}
use Rattle.std.proofs.lemmas.List.FromFn.{fill_by_all}
use Rattle.std.proofs.lemmas.Nat.{from_le_bytes-to_le_bytes_2, from_le_bytes-to_le_bytes_4}
use Rattle.std.proofs.lemmas.Slice.Eq.{bytes_eq-Decides}
use Rattle.cx_digest.specs.Checksum.{crc32c}
use Rattle.cx_frame.specs.declared.preamble.Preamble.{Preamble}
use Rattle.cx_frame.specs.declared.refusals.FrameRefusal.{FrameRefusal}
use Rattle.cx_frame.specs.declared.refusals.FrameRefusal.TheVariants.{BadCrc, BadShape, TooLong}
use Rattle.cx_frame.specs.Preambles.{IsAllowed, descriptors, front_text, preamble_text, fields_of, is_four_bytes, has_sum, is_shaped, ends_in_zeros, preamble_at}
use Rattle.cx_frame.proofs.Fours.{AreBytes, spelled16, spelled32, below16, below32, each_below}

-- these bytes are this number exactly where they are its spelling
pub four_bytes : (bytes : List ℕ) (n : ℕ) → is_four_bytes bytes n ≡ true → bytes ≡ to_le_bytes w32 n
unfolding is_four_bytes
four_bytes bytes n e = (bytes_eq-Decides bytes (to_le_bytes w32 n)).0 e

pub is_four : (bytes : List ℕ) (n : ℕ) → bytes ≡ to_le_bytes w32 n → is_four_bytes bytes n ≡ true
unfolding is_four_bytes
is_four bytes n e = (bytes_eq-Decides bytes (to_le_bytes w32 n)).1 e

-- ---- found

ok_is : (q p : Preamble) → (let r : Result Preamble FrameRefusal = Ok q in let s : Result Preamble FrameRefusal = Ok p in r ≡ s) → q ≡ p
ok_is q p e = cc

passed : (s h l : Bool) (n : ℕ) (q p : Preamble)
    → (let r : Result Preamble FrameRefusal = (if s then (if h then (if l then Err (TooLong n) else Ok q) else Err BadShape) else Err BadCrc) in r ≡ Ok p)
    → (s ≡ true) × (h ≡ true) × (l ≡ false) × (q ≡ p)
passed true true false n q p e = (refl, refl, refl, ok_is q p e)
passed true true true n q p e = absurd cc
passed true false l n q p e = absurd cc
passed false h l n q p e = absurd cc

front_cells : (b : List ℕ) → length b ≡ 32 → take 28 b ≡ map (slice_index b) (Rattle.std.specs.List.range_with_len 0 28)
front_cells b len = fill_by_all (slice_index b) (take 28 b) 28 0 (omega (arith, length-take 28 b)) (λ k lt. get_or-take 28 b k 0 lt)

abbrev pub joined : ℕ → ℕ → List ℕ → List ℕ → List ℕ → List ℕ → List ℕ → List ℕ → List ℕ → List ℕ → List ℕ
joined t n a b c d e f g h = t ∷ n ∷ (a ++ (b ++ (c ++ (d ++ (e ++ (f ++ (g ++ (h ++ [])))))))) ++ 0 ∷ 0 ∷ []

eight : (t n : ℕ) (a b c d e f g h i j k l m o p q : List ℕ) → a ≡ i → b ≡ j → c ≡ k → d ≡ l → e ≡ m → f ≡ o → g ≡ p → h ≡ q
    → joined t n a b c d e f g h ≡ joined t n i j k l m o p q
eight t n a b c d e f g h i j k l m o p q ea eb ec ed ee ef eg eh = cc

front_found : (b : List ℕ) → AreBytes b → length b ≡ 32 → slice_index b 26 ≡ 0 → slice_index b 27 ≡ 0 → front_text (fields_of b) ≡ take 28 b
unfolding front_text fields_of descriptors
front_found b are len flags reserved =
    eight (slice_index b 0) (slice_index b 1) _ _ _ _ _ _ _ _ _ _ _ _ _ _ _ _
    (spelled32 b are 2) (spelled16 b are 6) (spelled32 b are 8) (spelled16 b are 12) (spelled32 b are 14) (spelled16 b are 18) (spelled32 b are 20) (spelled16 b are 24)
    ∙ rw (front_cells b len, flags, reserved) refl

allowed : (limit : ℕ) (b : List ℕ) → AreBytes b → is_shaped (fields_of b) ≡ true → nat_lt limit (sum (fields_of b).lengths) ≡ false → IsAllowed limit (fields_of b)
unfolding is_shaped fields_of
allowed limit b are shaped within =
    let p : Preamble = fields_of b in
    let a = and_parts _ _ shaped in
    let c = and_parts _ _ a.1 in
    let d = and_parts _ _ c.1 in
    let e = and_parts _ _ d.1 in
    let f = and_parts _ _ e.1 in
    record {
      tag_low = leb-true 1 (slice_index b 0) a.0;
      tag_high = leb-true (slice_index b 0) 20 c.0;
      count_low = leb-true 1 (slice_index b 1) d.0;
      count_high = leb-true (slice_index b 1) 4 e.0;
      no_lengths = f.0;
      no_aligns = f.1;
      total = ltb-false limit _ within;
      four_lengths = refl;
      four_aligns = refl;
      each_length = each_below (2 ^ 32) _ _ _ _ (omega arith) (below32 b are 2) (below32 b are 8) (below32 b are 14) (below32 b are 20);
      each_align = each_below (2 ^ 16) _ _ _ _ (omega arith) (below16 b are 6) (below16 b are 12) (below16 b are 18) (below16 b are 24);
    }

pub preamble_found : (limit : ℕ) (b : List ℕ) (p : Preamble) → AreBytes b → length b ≡ 32 → preamble_at limit b ≡ Ok p → IsAllowed limit p × (b ≡ preamble_text p)
unfolding preamble_at has_sum ends_in_zeros preamble_text
preamble_found limit b p are len e =
    let parts = passed _ _ _ _ (fields_of b) p e in
    let shape = and_parts (is_shaped (fields_of b)) (ends_in_zeros b) parts.1 in
    let zeros = and_parts (slice_index b 26 == 0) (slice_index b 27 == 0) shape.1 in
    let front : front_text (fields_of b) ≡ take 28 b = front_found b are len (eqb-true (slice_index b 26) 0 zeros.0) (eqb-true (slice_index b 27) 0 zeros.1) in
    let stored : drop 28 b ≡ to_le_bytes w32 (crc32c 0 (take 28 b)) = four_bytes (drop 28 b) (crc32c 0 (take 28 b)) parts.0 in
    let text : b ≡ preamble_text (fields_of b) = sym (take-append-drop 28 b) ∙ ap (λ s. take 28 b ++ s) stored ∙ ap (λ t. t ++ to_le_bytes w32 (crc32c 0 t)) (sym front) in
    (Rattle.std.proofs.Common.subst (IsAllowed limit) parts.3 (allowed limit b are shape.0 parts.2), text ∙ ap preamble_text parts.3)

-- ---- again

front_again : (t c : ℕ) (k l m n p q r s : ℕ) (more : List ℕ) → k < 2 ^ 32 → l < 2 ^ 32 → m < 2 ^ 32 → n < 2 ^ 32 → p < 2 ^ 16 → q < 2 ^ 16 → r < 2 ^ 16 → s < 2 ^ 16
    → let h : Preamble = record { tag = t; count = c; lengths = k ∷ l ∷ m ∷ n ∷ []; aligns = p ∷ q ∷ r ∷ s ∷ [] } in
    fields_of (front_text h ++ more) ≡ h
unfolding front_text fields_of descriptors
front_again t c k l m n p q r s more hk hl hm hn hp hq hr hs =
    rw (
      from_le_bytes-to_le_bytes_4 k hk,
      from_le_bytes-to_le_bytes_4 l hl,
      from_le_bytes-to_le_bytes_4 m hm,
      from_le_bytes-to_le_bytes_4 n hn,
      from_le_bytes-to_le_bytes_2 p hp,
      from_le_bytes-to_le_bytes_2 q hq,
      from_le_bytes-to_le_bytes_2 r hr,
      from_le_bytes-to_le_bytes_2 s hs,
    ) refl

shaped : (limit : ℕ) (p : Preamble) → IsAllowed limit p → is_shaped p ≡ true
unfolding is_shaped
shaped limit p fine =
    and_from _ _ (le-leb 1 p.tag fine.tag_low)
    (and_from _ _ (le-leb p.tag 20 fine.tag_high)
    (and_from _ _ (le-leb 1 p.count fine.count_low)
    (and_from _ _ (le-leb p.count 4 fine.count_high) (and_from _ _ fine.no_lengths fine.no_aligns))))

all_pass : (s h l : Bool) (n : ℕ) (q p : Preamble) → s ≡ true → h ≡ true → l ≡ false → q ≡ p
    → (let r : Result Preamble FrameRefusal = (if s then (if h then (if l then Err (TooLong n) else Ok q) else Err BadShape) else Err BadCrc) in r ≡ Ok p)
all_pass s h l n q p es eh el e = rw (es, eh, el, e) refl

again_of : (limit t c : ℕ) (ns aligns : List ℕ) → let h : Preamble = record { tag = t; count = c; lengths = ns; aligns = aligns } in
    IsAllowed limit h → preamble_at limit (preamble_text h) ≡ Ok h
unfolding preamble_at preamble_text has_sum ends_in_zeros front_text descriptors
again_of limit t c (k ∷ l ∷ m ∷ n ∷ []) (p ∷ q ∷ r ∷ s ∷ []) fine =
    let h : Preamble = record { tag = t; count = c; lengths = k ∷ l ∷ m ∷ n ∷ []; aligns = p ∷ q ∷ r ∷ s ∷ [] } in
    let tail : List ℕ = to_le_bytes w32 (crc32c 0 (front_text h)) in
    let fields : fields_of (front_text h ++ tail) ≡ h =
    front_again t c k l m n p q r s tail (fine.each_length 0) (fine.each_length 1) (fine.each_length 2) (fine.each_length 3) (fine.each_align 0) (fine.each_align 1) (fine.each_align 2) (fine.each_align 3)
    in
    all_pass _ _ _ _ (fields_of (front_text h ++ tail)) h
    (is_four tail (crc32c 0 (front_text h)) refl)
    (and_from _ _ (ap is_shaped fields ∙ shaped limit h fine) refl)
    (ap (λ (x : Preamble). nat_lt limit (sum x.lengths)) fields ∙ le-ltb _ _ fine.total)
    fields
again_of limit t c _ _ fine = absurd (omega (arith, fine.four_lengths, fine.four_aligns))

pub preamble_again : (limit : ℕ) (b : List ℕ) (p : Preamble) → IsAllowed limit p → b ≡ preamble_text p → preamble_at limit b ≡ Ok p
preamble_again limit b p fine e = ap (preamble_at limit) e ∙ again_of limit p.tag p.count p.lengths p.aligns fine
