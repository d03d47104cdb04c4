-- Which fault each primitive field has.
use Rattle.std.proofs.Common.{◌≡◌, ℕ, ◌+◌, ◌<◌, ◌≤◌, List, length, take, drop, Option, Some, None, ap, ◌==◌, Result, Ok, Err, refl, sym, ◌∙◌, arith, length-drop, inl, inr}
use Rattle.std.specs.Int.{Width, w8, w16, w32, w64, byte_len, from_le_bytes}
use Rattle.std.proofs.lemmas.Bool.{cases_lt, lt-ltb, le-ltb}
use Rattle.std.proofs.lemmas.List.{drop-drop}
use Rattle.cx_enc.specs.declared.faults.ReadFault.{ReadFault}
use Rattle.cx_enc.specs.declared.faults.ReadFault.TheVariants.{Short, BadField}
use Rattle.cx_enc.specs.Forms.{Spot, ◌>>=◌, Form, bytes_at, bytes_form, number_at, u8_form, u16_form, u32_form, u64_form, pair, short_at, field, or_bad, checked, passed, blob_at, blob_form}
use Rattle.cx_enc.specs.Values.{moment_of, moment_parts, time_form, reading_of, reading_form, secret_of, secret_key, secret_form, sized_form, ticket_of, ticket_parts, ticket_form, key_of, key_parts, key_form, addr_of, addr_parts, addr_form, number_of, kind_of, kind_form, name_of, name_parts, name_form, flag_of, flag_number, flag_form}
use Rattle.cx_enc.specs.Needs.{IsField, blob_needs, name_needs, ticket_needs}

-- a form of so many bytes: it can't be read where fewer are left, and is read where they are there
record IsSized {X : Type 0} (f : Form X) (n : ℕ) : Type 0 where
  short : (s : Spot) → length s.left < n → (e : ReadFault) × (f.at s ≡ Err e)
  there : (s : Spot) → n ≤ length s.left → (x : X × Spot) × (f.at s ≡ Ok x) × (x.1.left ≡ drop n s.left)

bytes_short : (n : ℕ) (s : Spot) → length s.left < n → bytes_at n s ≡ Err (Short s.place)
unfolding bytes_at
bytes_short n s lt = rw (lt-ltb (length s.left) n lt) refl

bytes_there : (n : ℕ) (s : Spot) → n ≤ length s.left → bytes_at n s ≡ Ok (take n s.left, record { place = s.place + n; left = drop n s.left })
unfolding bytes_at
bytes_there n s le = rw (le-ltb (length s.left) n le) refl

number_short : (w : Width) (s : Spot) → length s.left < byte_len w → number_at w s ≡ Err (Short s.place)
unfolding number_at
number_short w s lt = rw (bytes_short (byte_len w) s lt) refl

number_there : (w : Width) (s : Spot) → byte_len w ≤ length s.left → number_at w s ≡ Ok (from_le_bytes w (take (byte_len w) s.left), record { place = s.place + byte_len w; left = drop (byte_len w) s.left })
unfolding number_at
number_there w s le = rw (bytes_there (byte_len w) s le) refl

bytes_sized : (n : ℕ) → IsSized (bytes_form n) n
bytes_sized n = record { short = λ s lt. (Short s.place, bytes_short n s lt); there = λ s le. (_, bytes_there n s le, refl) }

u8_sized : IsSized u8_form 1
u8_sized = record { short = λ s lt. (Short s.place, number_short w8 s lt); there = λ s le. (_, number_there w8 s le, refl) }

u16_sized : IsSized u16_form 2
u16_sized = record { short = λ s lt. (Short s.place, number_short w16 s lt); there = λ s le. (_, number_there w16 s le, refl) }

u32_sized : IsSized u32_form 4
u32_sized = record { short = λ s lt. (Short s.place, number_short w32 s lt); there = λ s le. (_, number_there w32 s le, refl) }

u64_sized : IsSized u64_form 8
u64_sized = record { short = λ s lt. (Short s.place, number_short w64 s lt); there = λ s le. (_, number_there w64 s le, refl) }

drop_both : (n m : ℕ) (a b : List ℕ) → a ≡ drop n b → drop m a ≡ drop (n + m) b
drop_both n m a b e = rw e (drop-drop m n b)

pair_sized : {A B : Type 0} (f : Form A) (g : Form B) (n m : ℕ) → IsSized f n → IsSized g m → IsSized (pair f g) (n + m)
pair_sized {A} {B} f g n m hf hg = record {
  short = λ s lt. elim (cases_lt (length s.left) n) as (λ _. (e : ReadFault) × ((pair f g).at s ≡ Err e)) [
    | inl less ↦ let first = hf.short s less in (first.0, rw first.1 refl)
    | inr enough ↦
        let first = hf.there s enough in
        let fewer : length first.0.1.left < m = rw first.2 (omega (arith, length-drop n s.left)) in
        let second = hg.short first.0.1 fewer in
        (second.0, rw (first.1, second.1) refl)
  ];
  there = λ s le.
      let first = hf.there s (omega arith) in
      let enough : m ≤ length first.0.1.left = rw first.2 (omega (arith, length-drop n s.left)) in
      let second = hg.there first.0.1 enough in
      let made : (A × B) × Spot = ((first.0.0, second.0.0), second.0.1) in
      (made, rw (first.1, second.1) refl, second.2 ∙ drop_both n m first.0.1.left s.left first.2);
}

no_fault : {X : Type 0} (r : Result X ReadFault) (x : X) (e : ReadFault) → r ≡ Ok x → r ≡ Err e → ⊥
no_fault r x e good bad = cc

IsField-sized : {X : Type 0} (f : Form X) (n : ℕ) → IsSized f n → IsField (field f) (λ _. n)
IsField-sized f n h = record {
  short = λ s lt. let bad = h.short s lt in rw bad.1 refl;
  there = λ s e le bad. let good = h.there s le in absurd (no_fault (short_at s.place (f.at s)) good.0 e (rw good.1 refl) bad);
}

IsField-number : (w : Width) (f : Form ℕ) → f.at ≡ number_at w → IsField f (λ _. byte_len w)
IsField-number w f is = record {
  short = λ s lt. rw is (number_short w s lt);
  there = λ s e le bad.
      let made : ℕ × Spot = (from_le_bytes w (take (byte_len w) s.left), record { place = s.place + byte_len w; left = drop (byte_len w) s.left }) in
      absurd (no_fault (f.at s) made e (rw is (number_there w s le)) bad);
}

bad_only : {X : Type 0} (place : ℕ) (o : Option X) (next : Spot) (e : ReadFault) → or_bad place o next ≡ Err e → e ≡ BadField place
bad_only place (Some x) next e bad = absurd cc
bad_only place None next e bad = cc

checked_there : {A X : Type 0} (made : A → Option X) (place : ℕ) (r : Result (A × Spot) ReadFault) (e : ReadFault) → ((d : ReadFault) → r ≡ Err d → d ≡ BadField place) → (r >>= λ a. or_bad place (made a.0) a.1) ≡ Err e → e ≡ BadField place
checked_there made place (Ok a) e h bad = bad_only place (made a.0) a.1 e bad
checked_there made place (Err d) e h bad = let same : d ≡ e = cc in sym same ∙ h d refl

IsField-checked : {A X : Type 0} (made : A → Option X) (parts : X → A) (f : Form A) (needs : List ℕ → ℕ) → IsField f needs → IsField (checked made parts f) needs
IsField-checked made parts f needs h = record {
  short = λ s lt. rw (h.short s lt) refl;
  there = λ s e le bad. checked_there made s.place (f.at s) e (λ d is. h.there s d le is) bad;
}

pub IsField-u8 : IsField u8_form (λ _. 1)
IsField-u8 = IsField-number w8 u8_form refl

pub IsField-u16 : IsField u16_form (λ _. 2)
IsField-u16 = IsField-number w16 u16_form refl

pub IsField-u32 : IsField u32_form (λ _. 4)
IsField-u32 = IsField-number w32 u32_form refl

pub IsField-u64 : IsField u64_form (λ _. 8)
IsField-u64 = IsField-number w64 u64_form refl

pub IsField-bytes : (n : ℕ) → IsField (bytes_form n) (λ _. n)
IsField-bytes n = record {
  short = bytes_short n;
  there = λ s e le bad. absurd (no_fault (bytes_at n s) _ e (bytes_there n s le) bad);
}

pub IsField-kind : IsField kind_form (λ _. 4)
unfolding kind_form
IsField-kind = IsField-checked kind_of number_of u32_form (λ _. 4) IsField-u32

pub IsField-flag : IsField flag_form (λ _. 1)
unfolding flag_form
IsField-flag = IsField-checked flag_of flag_number u8_form (λ _. 1) IsField-u8

pub IsField-time : IsField time_form (λ _. 8)
unfolding time_form
IsField-time = IsField-checked moment_of moment_parts (field (pair u32_form u32_form)) (λ _. 8) (IsField-sized (pair u32_form u32_form) 8 (pair_sized u32_form u32_form 4 4 u32_sized u32_sized))

pub IsField-key : IsField key_form (λ _. 28)
unfolding key_form
IsField-key =
    IsField-checked key_of key_parts (field (pair u16_form (pair u32_form (pair u32_form (pair u16_form (bytes_form 16)))))) (λ _. 28)
    (IsField-sized (pair u16_form (pair u32_form (pair u32_form (pair u16_form (bytes_form 16))))) 28
    (pair_sized u16_form (pair u32_form (pair u32_form (pair u16_form (bytes_form 16)))) 2 26 u16_sized
    (pair_sized u32_form (pair u32_form (pair u16_form (bytes_form 16))) 4 22 u32_sized
    (pair_sized u32_form (pair u16_form (bytes_form 16)) 4 18 u32_sized
    (pair_sized u16_form (bytes_form 16) 2 16 u16_sized (bytes_sized 16))))))

pub IsField-secret : IsField secret_form (λ _. 28)
unfolding secret_form
IsField-secret = IsField-checked secret_of secret_key key_form (λ _. 28) IsField-key

seen_there : {A X : Type 0} (made : A → X) (r : Result (A × Spot) ReadFault) (e : ReadFault) → ◌>>=◌ {B = X × Spot} r (λ a. Ok (made a.0, a.1)) ≡ Err e → r ≡ Err e
seen_there made (Ok a) e bad = absurd cc
seen_there made (Err d) e bad = let same : d ≡ e = cc in ap (λ (f : ReadFault). Err f) same

pub IsField-reading : IsField reading_form (λ _. 8)
unfolding reading_form
IsField-reading = record {
  short = λ s lt. rw (IsField-time.short s lt) refl;
  there = λ s e le bad. IsField-time.there s e le (seen_there reading_of (time_form.at s) e bad);
}

pub IsField-addr : IsField addr_form (λ _. 15)
unfolding addr_form
IsField-addr =
    IsField-checked addr_of addr_parts (field (pair u8_form (pair u32_form (pair u32_form (pair (bytes_form 4) u16_form))))) (λ _. 15)
    (IsField-sized (pair u8_form (pair u32_form (pair u32_form (pair (bytes_form 4) u16_form)))) 15
    (pair_sized u8_form (pair u32_form (pair u32_form (pair (bytes_form 4) u16_form))) 1 14 u8_sized
    (pair_sized u32_form (pair u32_form (pair (bytes_form 4) u16_form)) 4 10 u32_sized
    (pair_sized u32_form (pair (bytes_form 4) u16_form) 4 6 u32_sized
    (pair_sized (bytes_form 4) u16_form 4 2 (bytes_sized 4) u16_sized)))))

-- ---- blobs and names

blob_needs_four : (bytes : List ℕ) → length bytes < 4 → blob_needs bytes ≡ 4
blob_needs_four bytes lt = rw (lt-ltb (length bytes) 4 lt) refl

blob_needs_more : (bytes : List ℕ) → 4 ≤ length bytes → blob_needs bytes ≡ 4 + from_le_bytes w32 (take 4 bytes)
blob_needs_more bytes le = rw (le-ltb (length bytes) 4 le) refl

blob_short : (s : Spot) → length s.left < blob_needs s.left → blob_at s ≡ Err (Short s.place)
unfolding blob_at
blob_short s lt =
    elim (cases_lt (length s.left) 4) as (λ _. short_at s.place (number_at w32 s >>= λ n. bytes_at n.0 n.1) ≡ Err (Short s.place)) [
      | inl less ↦ rw (number_short w32 s less) refl
      | inr enough ↦
          let count : ℕ = from_le_bytes w32 (take 4 s.left) in
          let next : Spot = record { place = s.place + 4; left = drop 4 s.left } in
          let fewer : length next.left < count = omega (arith, length-drop 4 s.left, blob_needs_more s.left enough) in
          rw (number_there w32 s enough, bytes_short count next fewer) refl
    ]

blob_there : (s : Spot) → blob_needs s.left ≤ length s.left → (x : List ℕ × Spot) × (blob_at s ≡ Ok x)
unfolding blob_at
blob_there s le =
    elim (cases_lt (length s.left) 4) as (λ _. (x : List ℕ × Spot) × (short_at s.place (number_at w32 s >>= λ n. bytes_at n.0 n.1) ≡ Ok x)) [
      | inl less ↦ absurd (omega (arith, blob_needs_four s.left less))
      | inr enough ↦
          let count : ℕ = from_le_bytes w32 (take 4 s.left) in
          let next : Spot = record { place = s.place + 4; left = drop 4 s.left } in
          let there : count ≤ length next.left = omega (arith, length-drop 4 s.left, blob_needs_more s.left enough) in
          let made : List ℕ × Spot = (take count next.left, record { place = next.place + count; left = drop count next.left }) in
          (made, rw (number_there w32 s enough, bytes_there count next there) refl)
    ]

pub IsField-blob : IsField blob_form blob_needs
IsField-blob = record {
  short = blob_short;
  there = λ s e le bad. let good = blob_there s le in absurd (no_fault (blob_at s) good.0 e good.1 bad);
}

-- a blob behind a form of so many bytes, as one field
headed_short : {A : Type 0} (f : Form A) (n : ℕ) → IsSized f n → (s : Spot) → length s.left < n + blob_needs (drop n s.left) → (field (pair f blob_form)).at s ≡ Err (Short s.place)
headed_short {A} f n h s lt =
    elim (cases_lt (length s.left) n) as (λ _. (field (pair f blob_form)).at s ≡ Err (Short s.place)) [
      | inl less ↦ let bad = h.short s less in rw bad.1 refl
      | inr enough ↦
          let first = h.there s enough in
          let same : first.0.1.left ≡ drop n s.left = first.2 in
          let fewer : length first.0.1.left < blob_needs first.0.1.left = rw same (omega (arith, length-drop n s.left)) in
          rw (first.1, blob_short first.0.1 fewer) refl
    ]

at_least_four : (bytes : List ℕ) → 4 ≤ blob_needs bytes
at_least_four bytes =
    elim (cases_lt (length bytes) 4) as (λ _. 4 ≤ blob_needs bytes) [
      | inl less ↦ omega (arith, blob_needs_four bytes less)
      | inr enough ↦ omega (arith, blob_needs_more bytes enough)
    ]

headed_there : {A : Type 0} (f : Form A) (n : ℕ) → IsSized f n → (s : Spot) → n + blob_needs (drop n s.left) ≤ length s.left → (x : (A × List ℕ) × Spot) × ((field (pair f blob_form)).at s ≡ Ok x)
headed_there {A} f n h s le =
    let least = at_least_four (drop n s.left) in
    let first = h.there s (omega (arith, least)) in
    let same : first.0.1.left ≡ drop n s.left = first.2 in
    let enough : blob_needs first.0.1.left ≤ length first.0.1.left = rw same (omega (arith, length-drop n s.left)) in
    let second = blob_there first.0.1 enough in
    let made : (A × List ℕ) × Spot = ((first.0.0, second.0.0), second.0.1) in
    (made, rw (first.1, second.1) refl)

IsField-headed : {A : Type 0} (f : Form A) (n : ℕ) → IsSized f n → IsField (field (pair f blob_form)) (λ bytes. n + blob_needs (drop n bytes))
IsField-headed f n h = record {
  short = headed_short f n h;
  there = λ s e le bad. let good = headed_there f n h s le in absurd (no_fault ((field (pair f blob_form)).at s) good.0 e good.1 bad);
}

pub IsField-name : IsField name_form name_needs
unfolding name_form
IsField-name = IsField-checked name_of name_parts (field (pair u32_form blob_form)) name_needs (IsField-headed u32_form 4 u32_sized)

pub IsField-ticket : IsField ticket_form ticket_needs
unfolding ticket_form
IsField-ticket = IsField-checked ticket_of ticket_parts (field (pair (pair u8_form u64_form) blob_form)) ticket_needs (IsField-headed (pair u8_form u64_form) 9 (pair_sized u8_form u64_form 1 8 u8_sized u64_sized))

pub IsField-sized_blob : (n : ℕ) → IsField (sized_form n) blob_needs
unfolding sized_form
IsField-sized_blob n = IsField-checked (passed (λ bytes. length bytes == n)) (λ a. a) blob_form blob_needs IsField-blob
