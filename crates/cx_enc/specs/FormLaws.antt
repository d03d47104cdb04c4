-- The laws of the forms: what is read was spelled so, and what is spelled is read again.
use Rattle.std.proofs.Common.{◌≡◌, ℕ, zero, suc, ◌+◌, ◌^◌, ◌<◌, ◌≤◌, Bool, true, false, cond, ltb, List, [], ◌∷◌, ◌++◌, length, take, drop, Option, Some, None, Result, Ok, Err, refl, sym, ap, subst, ◌∙◌, append_assoc, arith, inl, inr}
use Rattle.std.specs.List.{AllByRecursion, flat_map}
use Rattle.std.specs.Int.{Width, w8, w16, w32, w64, byte_len, to_le_bytes, from_le_bytes}
use Rattle.std.proofs.lemmas.Bool.{cases_lt, ltb-false, le-ltb}
use Rattle.std.proofs.lemmas.List.{take_at, drop_at, take-append-drop, length-append, length-take, get_or-drop, get_or-take, get_or_past}
use Rattle.std.proofs.lemmas.List.Concat.{flat_map-cons}
use Rattle.std.proofs.lemmas.Nat.{le_bytes_2, le_bytes_4, le_bytes_8, from_le_bytes-to_le_bytes_2, from_le_bytes-to_le_bytes_4, from_le_bytes-to_le_bytes_8}
use Rattle.cx_enc.specs.declared.faults.ReadFault.{ReadFault}
use Rattle.cx_enc.specs.declared.faults.ReadFault.TheVariants.{Short}
use Rattle.cx_enc.specs.Forms.{Spot, ◌>>=◌, Form, bytes_at, bytes_form, little, number_at, u8_form, u16_form, u32_form, u64_form, pair, seen, short_at, field, or_bad, checked, blob_at, blob_form, times_at, times, after, passed, judged, with_count, many, counted, chain_at, chain_text, ChainFits, chain, IsBytes, Took, IsLawful}

-- ---- steps

-- the value of a step that did not fail
bind_ok : {A B : Type 0} (r : Result A ReadFault) (f : A → Result B ReadFault) (y : B) → (r >>= f) ≡ Ok y → (x : A) × (r ≡ Ok x) × (f x ≡ Ok y)
bind_ok (Ok x) f y e = (x, refl, e)
bind_ok (Err d) f y e = absurd cc

abbrev done : {A : Type 0} → A → Result A ReadFault
done x = Ok x

ok_is : {A : Type 0} (x y : A) → done x ≡ done y → x ≡ y
ok_is x y e = cc

-- a test that did not fail
guard_ok : {A : Type 0} (b : Bool) (d : ReadFault) (x y : A) → cond b (Err d) (Ok x) ≡ Ok y → (b ≡ false) × (x ≡ y)
guard_ok true d x y e = absurd cc
guard_ok false d x y e = (refl, cc)

-- ---- bytes

pub IsBytes-drop : (n : ℕ) (bytes : List ℕ) → IsBytes bytes → IsBytes (drop n bytes)
IsBytes-drop n bytes h i = rw get_or-drop (h (n + i))

IsBytes-take : (n : ℕ) (bytes : List ℕ) → IsBytes bytes → IsBytes (take n bytes)
IsBytes-take n bytes h i =
    elim (cases_lt i n) [
      | inl lt ↦ rw (get_or-take n bytes i 0 lt) (h i)
      | inr le ↦ rw (get_or_past (take n bytes) i 0 (omega (arith, length-take n bytes))) (omega arith)
    ]

-- one part behind the other
Took-then : (a : Spot) (x : List ℕ) (b : Spot) (y : List ℕ) (c : Spot) → Took a x b → Took b y c → Took a (x ++ y) c
Took-then a x b y c p q = record {
  whole = p.whole ∙ ap (λ (t : List ℕ). x ++ t) q.whole ∙ sym (append_assoc x y c.left);
  place = q.place ∙ ap (λ (n : ℕ). n + length y) p.place ∙ omega (arith, length-append x y);
  bytes = q.bytes;
}

bytes_takes : (n : ℕ) (s : Spot) (x : List ℕ × Spot) → IsBytes s.left → bytes_at n s ≡ Ok x → Took s x.0 x.1 × (length x.0 ≡ n) × IsBytes x.0
unfolding bytes_at
bytes_takes n s x fits e =
    let made : List ℕ × Spot = (take n s.left, record { place = s.place + n; left = drop n s.left }) in
    let g = guard_ok (ltb (length s.left) n) (Short s.place) made x e in
    let enough : n ≤ length s.left = ltb-false (length s.left) n g.0 in
    let len : length (take n s.left) ≡ n = omega (arith, length-take n s.left) in
    subst (λ (y : List ℕ × Spot). Took s y.0 y.1 × (length y.0 ≡ n) × IsBytes y.0) g.1
    (record { whole = sym (take-append-drop n s.left); place = ap (λ (k : ℕ). s.place + k) (sym len); bytes = IsBytes-drop n s.left fits }, len, IsBytes-take n s.left fits)

bytes_again : (bytes : List ℕ) (n place : ℕ) (more : List ℕ) → length bytes ≡ n → bytes_at n (record { place = place; left = bytes ++ more }) ≡ Ok (bytes, record { place = place + n; left = more })
unfolding bytes_at
bytes_again bytes n place more len =
    let enough : ltb (length (bytes ++ more)) n ≡ false = le-ltb _ n (omega (arith, length-append bytes more)) in
    rw (enough, take_at bytes more n len, drop_at bytes more n len) refl

pub bytes-lawful : (n : ℕ) → IsLawful (bytes_form n)
bytes-lawful n = record {
  takes = λ s x fits e. let t = bytes_takes n s x fits e in (t.0, t.1);
  again = λ bytes place more len. bytes_again bytes n place more len ∙ ap (λ (k : ℕ). done (bytes, record { place = place + k; left = more })) (sym len);
}

-- ---- numbers

pub record IsWide (w : Width) (limit : ℕ) : Type 0 where
  pub len : (n : ℕ) → length (to_le_bytes w n) ≡ byte_len w
  pub back : (bytes : List ℕ) → length bytes ≡ byte_len w → IsBytes bytes → to_le_bytes w (from_le_bytes w bytes) ≡ bytes
  pub again : (n : ℕ) → n < limit → from_le_bytes w (to_le_bytes w n) ≡ n
  pub below : (bytes : List ℕ) → IsBytes bytes → from_le_bytes w bytes < limit

one_back : (bytes : List ℕ) → length bytes ≡ 1 → IsBytes bytes → to_le_bytes w8 (from_le_bytes w8 bytes) ≡ bytes
one_back (b ∷ []) len fits = let small : b < 256 = fits 0 in ap (λ (x : ℕ). x ∷ []) (omega arith)
one_back [] len fits = absurd (omega arith)
one_back (a ∷ b ∷ bytes) len fits = absurd (omega arith)

pub wide8 : IsWide w8 (2 ^ 8)
wide8 = record { len = λ n. refl; back = one_back; again = λ n lt. omega arith; below = λ bytes fits. omega (arith, fits 0) }

pub wide16 : IsWide w16 (2 ^ 16)
wide16 = record {
  len = λ n. refl;
  back = λ bytes len fits. le_bytes_2 bytes _ len fits refl;
  again = λ n lt. from_le_bytes-to_le_bytes_2 n lt;
  below = λ bytes fits. omega (arith, fits 0, fits 1);
}

pub wide32 : IsWide w32 (2 ^ 32)
wide32 = record {
  len = λ n. refl;
  back = λ bytes len fits. le_bytes_4 bytes _ len fits refl;
  again = λ n lt. from_le_bytes-to_le_bytes_4 n lt;
  below = λ bytes fits. omega (arith, fits 0, fits 1, fits 2, fits 3);
}

pub wide64 : IsWide w64 (2 ^ 64)
wide64 = record {
  len = λ n. refl;
  back = λ bytes len fits. le_bytes_8 bytes _ len fits refl;
  again = λ n lt. from_le_bytes-to_le_bytes_8 n lt;
  below = λ bytes fits. omega (arith, fits 0, fits 1, fits 2, fits 3, fits 4, fits 5, fits 6, fits 7);
}

number_takes : (w : Width) (limit : ℕ) → IsWide w limit → (s : Spot) (x : ℕ × Spot) → IsBytes s.left → number_at w s ≡ Ok x → Took s (little w x.0) x.1 × (x.0 < limit)
unfolding number_at little
number_takes w limit wide s x fits e =
    let a = bind_ok (bytes_at (byte_len w) s) (λ b. Ok (from_le_bytes w b.0, b.1)) x e in
    let t = bytes_takes (byte_len w) s a.0 fits a.1 in
    let made : ℕ × Spot = (from_le_bytes w a.0.0, a.0.1) in
    subst (λ (y : ℕ × Spot). Took s (to_le_bytes w y.0) y.1 × (y.0 < limit)) (ok_is made x a.2)
    (subst (λ (t : List ℕ). Took s t a.0.1) (sym (wide.back a.0.0 t.1 t.2)) t.0, wide.below a.0.0 t.2)

number_again : (w : Width) (limit : ℕ) → IsWide w limit → (n place : ℕ) (more : List ℕ) → n < limit
    → number_at w (record { place = place; left = little w n ++ more }) ≡ Ok (n, record { place = place + length (little w n); left = more })
unfolding number_at little
number_again w limit wide n place more lt =
    rw (bytes_again (to_le_bytes w n) (byte_len w) place more (wide.len n), wide.again n lt, wide.len n) refl

number-lawful : (w : Width) (limit : ℕ) → IsWide w limit → IsLawful (record { at = number_at w; text = little w; Fits = λ n. n < limit })
number-lawful w limit wide = record { takes = number_takes w limit wide; again = number_again w limit wide }

pub u8-lawful : IsLawful u8_form
u8-lawful = number-lawful w8 (2 ^ 8) wide8

pub u16-lawful : IsLawful u16_form
u16-lawful = number-lawful w16 (2 ^ 16) wide16

pub u32-lawful : IsLawful u32_form
u32-lawful = number-lawful w32 (2 ^ 32) wide32

pub u64-lawful : IsLawful u64_form
u64-lawful = number-lawful w64 (2 ^ 64) wide64

-- ---- forms of forms

pub after-lawful : {A B : Type 0} (f : Form A) (g : A → Form B) → IsLawful f → ((a : A) → IsLawful (g a)) → IsLawful (after f g)
after-lawful {A} {B} f g hf hg = record {
  takes = λ s x fits e.
      let a = bind_ok (f.at s) (λ a. (g a.0).at a.1 >>= λ b. Ok ((a.0, b.0), b.1)) x e in
      let b = bind_ok ((g a.0.0).at a.0.1) (λ b. Ok ((a.0.0, b.0), b.1)) x a.2 in
      let first = hf.takes s a.0 fits a.1 in
      let second = (hg a.0.0).takes a.0.1 b.0 first.0.bytes b.1 in
      let made : (A × B) × Spot = ((a.0.0, b.0.0), b.0.1) in
      subst (λ (y : (A × B) × Spot). Took s (f.text y.0.0 ++ (g y.0.0).text y.0.1) y.1 × (f.Fits y.0.0 × (g y.0.0).Fits y.0.1)) (ok_is made x b.2)
      (Took-then s (f.text a.0.0) a.0.1 ((g a.0.0).text b.0.0) b.0.1 first.0 second.0, (first.1, second.1));
  again = λ x place more fits.
      let text : List ℕ = (g x.0).text x.1 in
      let end : place + length (f.text x.0) + length text ≡ place + length (f.text x.0 ++ text) = omega (arith, length-append (f.text x.0) text) in
      rw (append_assoc (f.text x.0) text more, hf.again x.0 place (text ++ more) fits.0, (hg x.0).again x.1 (place + length (f.text x.0)) more fits.1, end) refl;
}

pub pair-lawful : {A B : Type 0} (f : Form A) (g : Form B) → IsLawful f → IsLawful g → IsLawful (pair f g)
pair-lawful f g hf hg = after-lawful f (λ _. g) hf (λ _. hg)

pub seen-lawful : {A X : Type 0} (made : A → X) (parts : X → A) (f : Form A) → IsLawful f → ((a : A) → f.Fits a → parts (made a) ≡ a) → ((x : X) → f.Fits (parts x) → made (parts x) ≡ x) → IsLawful (seen made parts f)
seen-lawful {A} {X} made parts f h back again = record {
  takes = λ s x fits e.
      let a = bind_ok (f.at s) (λ a. Ok (made a.0, a.1)) x e in
      let t = h.takes s a.0 fits a.1 in
      let value : X × Spot = (made a.0.0, a.0.1) in
      subst (λ (y : X × Spot). Took s (f.text (parts y.0)) y.1 × f.Fits (parts y.0)) (ok_is value x a.2)
      (subst (λ (b : A). Took s (f.text b) a.0.1 × f.Fits b) (sym (back a.0.0 t.1)) t);
  again = λ x place more fits. rw (h.again (parts x) place more fits, again x fits) refl;
}

short_ok : {A : Type 0} (place : ℕ) (r : Result A ReadFault) (x : A) → short_at place r ≡ Ok x → r ≡ Ok x
short_ok place (Ok y) x e = e
short_ok place (Err d) x e = absurd cc

pub field-lawful : {A : Type 0} (f : Form A) → IsLawful f → IsLawful (field f)
field-lawful f h = record {
  takes = λ s x fits e. h.takes s x fits (short_ok s.place (f.at s) x e);
  again = λ x place more fits. rw (h.again x place more fits) refl;
}

or_bad_ok : {X : Type 0} (place : ℕ) (o : Option X) (next : Spot) (x : X × Spot) → or_bad place o next ≡ Ok x → (o ≡ Some x.0) × (next ≡ x.1)
or_bad_ok {X} place (Some y) next x e = let made : (y, next) ≡ x = ok_is (y, next) x e in (ap (λ (z : X × Spot). Some z.0) made, ap (λ (z : X × Spot). z.1) made)
or_bad_ok place None next x e = absurd cc

pub checked-lawful : {A X : Type 0} (made : A → Option X) (parts : X → A) (f : Form A) → IsLawful f → ((a : A) (x : X) → f.Fits a → made a ≡ Some x → parts x ≡ a) → IsLawful (checked made parts f)
checked-lawful {A} {X} made parts f h back = record {
  takes = λ s x fits e.
      let a = bind_ok (f.at s) (λ a. or_bad s.place (made a.0) a.1) x e in
      let good = or_bad_ok s.place (made a.0.0) a.0.1 x a.2 in
      let t = h.takes s a.0 fits a.1 in
      let is : parts x.0 ≡ a.0.0 = back a.0.0 x.0 t.1 good.0 in
      let again : made (parts x.0) ≡ Some x.0 = ap made is ∙ good.0 in
      let moved : Took s (f.text a.0.0) x.1 × f.Fits a.0.0 = subst (λ (next : Spot). Took s (f.text a.0.0) next × f.Fits a.0.0) good.1 t in
      let named : Took s (f.text (parts x.0)) x.1 × f.Fits (parts x.0) = subst (λ (b : A). Took s (f.text b) x.1 × f.Fits b) (sym is) moved in
      (named.0, (named.1, again));
  again = λ x place more fits. rw (h.again (parts x) place more fits.0, fits.1) refl;
}

-- ---- blobs

blob_takes : (s : Spot) (x : List ℕ × Spot) → IsBytes s.left → blob_at s ≡ Ok x → Took s (little w32 (length x.0) ++ x.0) x.1 × (length x.0 < 2 ^ 32)
unfolding blob_at
blob_takes s x fits e =
    let a = bind_ok (number_at w32 s) (λ n. bytes_at n.0 n.1) x (short_ok s.place (number_at w32 s >>= λ n. bytes_at n.0 n.1) x e) in
    let first = u32-lawful.takes s a.0 fits a.1 in
    let second = bytes_takes a.0.0 a.0.1 x first.0.bytes a.2 in
    let len : length x.0 ≡ a.0.0 = second.1 in
    let counted : Took s (little w32 (length x.0)) a.0.1 = subst (λ (n : ℕ). Took s (little w32 n) a.0.1) (sym len) first.0 in
    (Took-then s (little w32 (length x.0)) a.0.1 x.0 x.1 counted second.0, omega (arith, first.1))

blob_again : (bytes : List ℕ) (place : ℕ) (more : List ℕ) → length bytes < 2 ^ 32
    → blob_at (record { place = place; left = (little w32 (length bytes) ++ bytes) ++ more }) ≡ Ok (bytes, record { place = place + length (little w32 (length bytes) ++ bytes); left = more })
unfolding blob_at
blob_again bytes place more fits =
    let end : place + length (little w32 (length bytes)) + length bytes ≡ place + length (little w32 (length bytes) ++ bytes) = omega (arith, length-append (little w32 (length bytes)) bytes) in
    rw (append_assoc (little w32 (length bytes)) bytes more, u32-lawful.again (length bytes) place (bytes ++ more) fits, bytes_again bytes (length bytes) (place + length (little w32 (length bytes))) more refl, end) refl

pub blob-lawful : IsLawful blob_form
blob-lawful = record { takes = blob_takes; again = blob_again }

-- ---- lists

times_takes : {X : Type 0} (f : Form X) → IsLawful f → (n : ℕ) (s : Spot) (xs : List X × Spot) → IsBytes s.left → times_at f.at n s ≡ Ok xs
    → Took s (flat_map f.text xs.0) xs.1 × (length xs.0 ≡ n) × AllByRecursion f.Fits xs.0
unfolding times_at
times_takes {X} f h zero s xs fits e =
    subst (λ (y : List X × Spot). Took s (flat_map f.text y.0) y.1 × (length y.0 ≡ 0) × AllByRecursion f.Fits y.0) (ok_is ([], s) xs e)
    (record { whole = refl; place = omega arith; bytes = fits }, refl, tt)
times_takes {X} f h (suc n) s xs fits e =
    let a = bind_ok (f.at s) (λ x. times_at f.at n x.1 >>= λ ys. Ok (x.0 ∷ ys.0, ys.1)) xs e in
    let b = bind_ok (times_at f.at n a.0.1) (λ ys. Ok (a.0.0 ∷ ys.0, ys.1)) xs a.2 in
    let first = h.takes s a.0 fits a.1 in
    let second = times_takes f h n a.0.1 b.0 first.0.bytes b.1 in
    let both = Took-then s (f.text a.0.0) a.0.1 (flat_map f.text b.0.0) b.0.1 first.0 second.0 in
    let made : List X × Spot = (a.0.0 ∷ b.0.0, b.0.1) in
    subst (λ (y : List X × Spot). Took s (flat_map f.text y.0) y.1 × (length y.0 ≡ suc n) × AllByRecursion f.Fits y.0) (ok_is made xs b.2)
    (rw flat_map-cons both, ap suc second.1, (first.1, second.2))

times_again : {X : Type 0} (f : Form X) → IsLawful f → (xs : List X) (place : ℕ) (more : List ℕ) → AllByRecursion f.Fits xs
    → times_at f.at (length xs) (record { place = place; left = flat_map f.text xs ++ more }) ≡ Ok (xs, record { place = place + length (flat_map f.text xs); left = more })
unfolding times_at
times_again f h [] place more fits = let e : place ≡ place + 0 = omega arith in ap (λ (p : ℕ). done ([], record { place = p; left = more })) e
times_again f h (x ∷ xs) place more fits =
    let regrouped : flat_map f.text (x ∷ xs) ++ more ≡ f.text x ++ (flat_map f.text xs ++ more) = ap (λ (t : List ℕ). t ++ more) (flat_map-cons f.text x xs) ∙ append_assoc (f.text x) (flat_map f.text xs) more in
    let end : place + length (f.text x) + length (flat_map f.text xs) ≡ place + length (flat_map f.text (x ∷ xs)) = omega (arith, ap length (flat_map-cons f.text x xs), length-append (f.text x) (flat_map f.text xs)) in
    ap (λ (t : List ℕ). times_at f.at (suc (length xs)) (record { place = place; left = t })) regrouped
    ∙ rw (h.again x place (flat_map f.text xs ++ more) fits.0, times_again f h xs (place + length (f.text x)) more fits.1, end) refl

pub times-lawful : {X : Type 0} (n : ℕ) (f : Form X) → IsLawful f → IsLawful (times n f)
times-lawful n f h = record {
  takes = λ s xs fits e. let t = times_takes f h n s xs fits e in (t.0, (t.1, t.2));
  again = λ xs place more fits.
      ap (λ (k : ℕ). times_at f.at k (record { place = place; left = flat_map f.text xs ++ more })) (sym fits.0) ∙ times_again f h xs place more fits.1;
}

passed_is : {A : Type 0} (good : A → Bool) (a x : A) → passed good a ≡ Some x → x ≡ a
passed_is {A} good a x e = by_test (good a) a x e
  where
    by_test : {A : Type 0} (t : Bool) (a x : A) → cond t (Some a) None ≡ Some x → x ≡ a
    by_test true a x e = cc
    by_test false a x e = absurd cc

pub judged-lawful : {A : Type 0} (good : A → Bool) (f : Form A) → IsLawful f → IsLawful (judged good f)
judged-lawful good f h = checked-lawful (passed good) (λ a. a) f h (λ a x fits e. passed_is good a x e)

pub with_count-lawful : {X : Type 0} (count : Form ℕ) (list : ℕ → Form (List X)) → IsLawful count → ((n : ℕ) → IsLawful (list n)) → ((n : ℕ) (xs : List X) → (list n).Fits xs → length xs ≡ n) → IsLawful (with_count count list)
with_count-lawful {X} count list hc hl counts =
    seen-lawful (λ a. a.1) (λ xs. (length xs, xs)) (after count list) (after-lawful count list hc hl)
    (λ a fits. ap (λ (n : ℕ). let counted : ℕ × List X = (n, a.1) in counted) (counts a.0 a.1 fits.1)) (λ xs fits. refl)

pub list-lawful : {X : Type 0} (count : Form ℕ) (f : Form X) → IsLawful count → IsLawful f → IsLawful (with_count count (λ n. times n f))
list-lawful count f hc hf = with_count-lawful count (λ n. times n f) hc (λ n. times-lawful n f hf) (λ n xs fits. fits.0)

pub many-lawful : {X : Type 0} (f : Form X) → IsLawful f → IsLawful (many f)
many-lawful f h = list-lawful u32_form f u32-lawful h

-- ---- lists whose form goes on from item to item

chain_takes : {S X : Type 0} (f : S → Form X) (next : S → X → S) → ((b : S) → IsLawful (f b)) → (n : ℕ) (before : S) (s : Spot) (xs : List X × Spot) → IsBytes s.left
    → chain_at (λ b. (f b).at) next n before s ≡ Ok xs → Took s (chain_text (λ b. (f b).text) next before xs.0) xs.1 × (length xs.0 ≡ n) × ChainFits (λ b. (f b).Fits) next before xs.0
unfolding chain_at chain_text
chain_takes {S} {X} f next h zero before s xs fits e =
    subst (λ (y : List X × Spot). Took s (chain_text (λ b. (f b).text) next before y.0) y.1 × (length y.0 ≡ 0) × ChainFits (λ b. (f b).Fits) next before y.0) (ok_is ([], s) xs e)
    (record { whole = refl; place = omega arith; bytes = fits }, refl, tt)
chain_takes {S} {X} f next h (suc n) before s xs fits e =
    let a = bind_ok ((f before).at s) (λ x. chain_at (λ b. (f b).at) next n (next before x.0) x.1 >>= λ ys. Ok (x.0 ∷ ys.0, ys.1)) xs e in
    let b = bind_ok (chain_at (λ b. (f b).at) next n (next before a.0.0) a.0.1) (λ ys. Ok (a.0.0 ∷ ys.0, ys.1)) xs a.2 in
    let first = (h before).takes s a.0 fits a.1 in
    let second = chain_takes f next h n (next before a.0.0) a.0.1 b.0 first.0.bytes b.1 in
    let both = Took-then s ((f before).text a.0.0) a.0.1 (chain_text (λ b. (f b).text) next (next before a.0.0) b.0.0) b.0.1 first.0 second.0 in
    let made : List X × Spot = (a.0.0 ∷ b.0.0, b.0.1) in
    subst (λ (y : List X × Spot). Took s (chain_text (λ b. (f b).text) next before y.0) y.1 × (length y.0 ≡ suc n) × ChainFits (λ b. (f b).Fits) next before y.0) (ok_is made xs b.2)
    (both, ap suc second.1, (first.1, second.2))

chain_again : {S X : Type 0} (f : S → Form X) (next : S → X → S) → ((b : S) → IsLawful (f b)) → (xs : List X) (before : S) (place : ℕ) (more : List ℕ) → ChainFits (λ b. (f b).Fits) next before xs
    → chain_at (λ b. (f b).at) next (length xs) before (record { place = place; left = chain_text (λ b. (f b).text) next before xs ++ more })
    ≡ Ok (xs, record { place = place + length (chain_text (λ b. (f b).text) next before xs); left = more })
unfolding chain_at chain_text
chain_again f next h [] before place more fits = let e : place ≡ place + 0 = omega arith in ap (λ (p : ℕ). done ([], record { place = p; left = more })) e
chain_again f next h (x ∷ xs) before place more fits =
    let text : List ℕ = (f before).text x in
    let rest : List ℕ = chain_text (λ b. (f b).text) next (next before x) xs in
    let end : place + length text + length rest ≡ place + length (text ++ rest) = omega (arith, length-append text rest) in
    rw (append_assoc text rest more, (h before).again x place (rest ++ more) fits.0, chain_again f next h xs (next before x) (place + length text) more fits.1, end) refl

pub chain-lawful : {S X : Type 0} (f : S → Form X) (next : S → X → S) → ((b : S) → IsLawful (f b)) → (before : S) (n : ℕ) → IsLawful (chain f next before n)
chain-lawful f next h before n = record {
  takes = λ s xs fits e. let t = chain_takes f next h n before s xs fits e in (t.0, (t.1, t.2));
  again = λ xs place more fits.
      ap (λ (k : ℕ). chain_at (λ b. (f b).at) next k before (record { place = place; left = chain_text (λ b. (f b).text) next before xs ++ more })) (sym fits.0)
      ∙ chain_again f next h xs before place more fits.1;
}
