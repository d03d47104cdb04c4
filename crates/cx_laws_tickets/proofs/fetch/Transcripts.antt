-- What was read of some bytes, behind a banner: plain frames, in their order. What an end of a link read of the bytes that the other one wrote are the
-- frames that this one wrote.
use Rattle.std.proofs.Common.{◌≡◌, ◌+◌, ◌-◌, ◌≤◌, ℕ, Bool, true, false, List, [], ◌∷◌, ◌++◌, length, take, drop, Option, Some, None, Result, Ok, Err, refl, sym, ap, ◌∙◌, subst, arith, append_assoc, length-append, length-drop}
use Rattle.std.specs.Prelude.{nat_lt, if◌then◌else◌}
use Rattle.std.specs.List.{flat_map, AllByRecursion}
use Rattle.std.proofs.lemmas.Bool.{ltb-false}
use Rattle.std.proofs.lemmas.List.{drop_at, drop-append-le, drop-drop}
use Rattle.cx_frame.specs.Frames.{frame_text, rest_at, rest_len}
use Rattle.cx_frame.specs.Preambles.{preamble_at}
use Rattle.cx_frame.specs.declared.frame.Frame.{Frame}
use Rattle.cx_frame.specs.declared.preamble.Preamble.{Preamble}
use Rattle.cx_frame.specs.declared.refusals.FrameRefusal.{FrameRefusal}
use Rattle.cx_laws_keys.specs.cx_stream.proofs.PlainFronts.{plain_again, settled}
use Rattle.cx_laws_keys.specs.cx_stream.specs.Fronts.{with_length}
use Rattle.cx_laws_keys.specs.cx_stream.specs.PlainStreams.{IsPlain, behind_preamble, plain_frame_at}

-- these frames were read, one behind the other, and have so many bytes together
abbrev pub ReadsFrom : List ℕ → List Frame → ℕ → Type 0
ReadsFrom bytes [] n = n ≡ 0
ReadsFrom bytes (f ∷ fs) n = (k : ℕ) × (m : ℕ) × (plain_frame_at bytes ≡ Ok (Some (f, k))) × ReadsFrom (drop k bytes) fs m × (n ≡ k + m)

-- ---- one frame

-- how long what was read is, and which frame; this one where none was
abbrev len_in : Result (Option (Frame × ℕ)) FrameRefusal → ℕ
len_in (Ok (Some x)) = x.1
len_in (Ok None) = 0
len_in (Err e) = 0

abbrev frame_or : Frame → Result (Option (Frame × ℕ)) FrameRefusal → Frame
frame_or g (Ok (Some x)) = x.0
frame_or g (Ok None) = g
frame_or g (Err e) = g

-- a frame that is read has 32 bytes at least, and is all there
record IsThere (bytes : List ℕ) (n : ℕ) : Type 0 where
  long : 32 ≤ n
  all : n ≤ length bytes

there-rest : (bytes left : List ℕ) (p : Preamble) (f : Frame) (n : ℕ) → length bytes ≡ 32 + length left → (r : Result Frame FrameRefusal) → rest_len p ≤ length left
    → with_length (32 + rest_len p) r ≡ Ok (Some (f, n)) → IsThere bytes n
unfolding with_length
there-rest bytes left p f n size (Ok g) le is = let same : 32 + rest_len p ≡ n = ap len_in is in record { long = omega arith; all = omega arith }
there-rest bytes left p f n size (Err e) le is = absurd cc

there-behind : (bytes left : List ℕ) (f : Frame) (n : ℕ) → length bytes ≡ 32 + length left → (r : Result Preamble FrameRefusal) → behind_preamble left r ≡ Ok (Some (f, n)) → IsThere bytes n
unfolding behind_preamble
there-behind bytes left f n size (Err e) is = absurd cc
there-behind bytes left f n size (Ok p) is = by_test (nat_lt (length left) (rest_len p)) refl is
  where
    by_test : (t : Bool) → nat_lt (length left) (rest_len p) ≡ t → (if t then Ok None else with_length (32 + rest_len p) (rest_at p (take (rest_len p) left))) ≡ Ok (Some (f, n)) → IsThere bytes n
    by_test true _ none = absurd cc
    by_test false long found = there-rest bytes left p f n size (rest_at p (take (rest_len p) left)) (ltb-false (length left) (rest_len p) long) found

plain-there : (bytes : List ℕ) (f : Frame) (n : ℕ) → plain_frame_at bytes ≡ Ok (Some (f, n)) → IsThere bytes n
unfolding plain_frame_at
plain-there bytes f n is = by_test (nat_lt (length bytes) 32) refl is
  where
    by_test : (t : Bool) → nat_lt (length bytes) 32 ≡ t → (if t then Ok None else behind_preamble (drop 32 bytes) (preamble_at 65536 (take 32 bytes))) ≡ Ok (Some (f, n)) → IsThere bytes n
    by_test true _ none = absurd cc
    by_test false long found =
        let le : 32 ≤ length bytes = ltb-false (length bytes) 32 long in
        let size : length bytes ≡ 32 + length (drop 32 bytes) = omega (arith, length-drop 32 bytes) in
        there-behind bytes (drop 32 bytes) f n size (preamble_at 65536 (take 32 bytes)) found

-- it is read again, whatever comes later
plain-grows : (bytes more : List ℕ) (f : Frame) (n : ℕ) → plain_frame_at bytes ≡ Ok (Some (f, n)) → plain_frame_at (bytes ++ more) ≡ Ok (Some (f, n))
plain-grows bytes more f n is = settled bytes more (λ none. absurd (let both : Ok (Some (f, n)) ≡ Ok None = sym is ∙ none in cc)) ∙ is

-- ---- several

-- what was read stays read
pub reads-grow : (bytes more : List ℕ) (fs : List Frame) (n : ℕ) → ReadsFrom bytes fs n → ReadsFrom (bytes ++ more) fs n
reads-grow bytes more [] n h = h
reads-grow bytes more (f ∷ fs) n (k, m, read, rest, size) =
    let t : IsThere bytes k = plain-there bytes f k read in
    (k, m, plain-grows bytes more f k read, subst (λ (l : List ℕ). ReadsFrom l fs m) (sym (drop-append-le k bytes more t.all)) (reads-grow (drop k bytes) more fs m rest), size)

-- one more is read
pub reads-one : (bytes : List ℕ) (fs : List Frame) (n : ℕ) (f : Frame) (k : ℕ) → ReadsFrom bytes fs n → plain_frame_at (drop n bytes) ≡ Ok (Some (f, k)) → ReadsFrom bytes (fs ++ f ∷ []) (n + k)
reads-one bytes [] n f k h read =
    let here : plain_frame_at bytes ≡ Ok (Some (f, k)) = subst (λ (i : ℕ). plain_frame_at (drop i bytes) ≡ Ok (Some (f, k))) h read in
    (k, 0, here, refl, omega arith)
reads-one bytes (g ∷ fs) n f k (i, m, first, rest, size) read =
    let there : drop n bytes ≡ drop m (drop i bytes) = ap (λ (j : ℕ). drop j bytes) size ∙ sym (drop-drop m i bytes) in
    (i, m + k, first, reads-one (drop i bytes) fs m f k rest (subst (λ (l : List ℕ). plain_frame_at l ≡ Ok (Some (f, k))) there read), omega arith)

text-long : (g : Frame) → IsPlain g → 32 ≤ length (frame_text g)
text-long g fine = (plain-there (frame_text g ++ []) g (length (frame_text g)) (plain_again g [] fine)).long

-- what was read of bytes that begin with these frames, and no more than them, are they
pub reads-written : (bytes more : List ℕ) (fs gs : List Frame) (n : ℕ) → AllByRecursion IsPlain gs → bytes ≡ flat_map frame_text gs ++ more → n ≡ length (flat_map frame_text gs)
    → ReadsFrom bytes fs n → fs ≡ gs
reads-written bytes more [] [] n plain text size h = refl
reads-written bytes more (f ∷ fs) [] n plain text size (k, m, read, rest, sum) =
    let t : IsThere bytes k = plain-there bytes f k read in
    let long : 32 ≤ k = t.long in
    let none : n ≡ 0 = size in
    absurd (omega arith)
reads-written bytes more [] (g ∷ gs) n plain text size h =
    let long : 32 ≤ length (frame_text g) = text-long g plain.0 in
    let sum : length (frame_text g ++ flat_map frame_text gs) ≡ length (frame_text g) + length (flat_map frame_text gs) = length-append (frame_text g) (flat_map frame_text gs) in
    let whole : n ≡ length (frame_text g ++ flat_map frame_text gs) = size in
    let none : n ≡ 0 = h in
    absurd (omega arith)
reads-written bytes more (f ∷ fs) (g ∷ gs) n plain text size (k, m, read, rest, sum) =
    let behind : List ℕ = flat_map frame_text gs ++ more in
    let split : bytes ≡ frame_text g ++ behind = text ∙ append_assoc (frame_text g) (flat_map frame_text gs) more in
    let again : plain_frame_at bytes ≡ Ok (Some (g, length (frame_text g))) = ap plain_frame_at split ∙ plain_again g behind plain.0 in
    let same : f ≡ g = ap (frame_or g) (sym read ∙ again) in
    let end : k ≡ length (frame_text g) = ap len_in (sym read ∙ again) in
    let left : drop k bytes ≡ behind = ap (λ (i : ℕ). drop i bytes) end ∙ ap (λ (l : List ℕ). drop (length (frame_text g)) l) split ∙ drop_at (frame_text g) behind (length (frame_text g)) refl in
    let whole : n ≡ length (frame_text g ++ flat_map frame_text gs) = size in
    let parts : length (frame_text g ++ flat_map frame_text gs) ≡ length (frame_text g) + length (flat_map frame_text gs) = length-append (frame_text g) (flat_map frame_text gs) in
    let later : m ≡ length (flat_map frame_text gs) = omega arith in
    ap (λ (x : Frame). x ∷ fs) same ∙ ap (λ (l : List Frame). g ∷ l) (reads-written (drop k bytes) more fs gs m plain.1 left later rest)

-- it is all there
pub reads-all : (bytes : List ℕ) (fs : List Frame) (n : ℕ) → ReadsFrom bytes fs n → n ≤ length bytes
reads-all bytes [] n h = let none : n ≡ 0 = h in omega arith
reads-all bytes (f ∷ fs) n (k, m, read, rest, size) =
    let here : k ≤ length bytes = (plain-there bytes f k read).all in
    let later : m ≤ length (drop k bytes) = reads-all (drop k bytes) fs m rest in
    let left : length (drop k bytes) ≡ length bytes - k = length-drop k bytes in
    let sum : n ≡ k + m = size in
    omega arith
