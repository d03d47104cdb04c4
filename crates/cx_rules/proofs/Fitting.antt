-- A banner or a frame that is read is no longer than the bytes in which it is read.
use Rattle.std.proofs.Common.{◌≡◌, ℕ, ◌+◌, ◌≤◌, Bool, true, false, List, length, take, drop, Option, Some, None, Result, Ok, Err, refl, arith, length-drop}
use Rattle.std.specs.Prelude.{◌||◌, ◌==◌, ◌-◌, ◌%◌, nat_lt, if◌then◌else◌}
use Rattle.std.proofs.lemmas.Bool.{ltb-false}
use Rattle.cx_stream.specs.cx_frame.specs.declared.banner.Banner.{Banner}
use Rattle.cx_stream.specs.cx_frame.specs.declared.frame.Frame.{Frame}
use Rattle.cx_stream.specs.cx_frame.specs.declared.preamble.Preamble.{Preamble}
use Rattle.cx_stream.specs.cx_frame.specs.declared.refusals.BannerRefusal.{BannerRefusal}
use Rattle.cx_stream.specs.cx_frame.specs.declared.refusals.BannerRefusal.TheVariants.{BadBanner, Features}
use Rattle.cx_stream.specs.cx_frame.specs.declared.refusals.FrameRefusal.{FrameRefusal}
use Rattle.cx_stream.specs.cx_frame.specs.Banners.{bad_place, banner_at, behind_word, by_features, number64, sized}
use Rattle.cx_stream.specs.cx_frame.specs.Frames.{rest_at, rest_len}
use Rattle.cx_stream.specs.cx_frame.specs.Preambles.{number16, preamble_at}
use Rattle.cx_stream.specs.cx_secure.specs.Opening.{head_step, rest_step}
use Rattle.cx_stream.specs.cx_secure.specs.Plains as secure
use Rattle.cx_stream.specs.cx_secure.specs.declared.refusals.SecureRefusal.{SecureRefusal}
use Rattle.cx_stream.specs.cx_secure.specs.declared.sealing.Head.{Head}
use Rattle.cx_stream.specs.Fronts.{with_length}
use Rattle.cx_stream.specs.PlainStreams.{behind_preamble, plain_frame_at}
use Rattle.cx_stream.specs.SecureStreams.{Ahead, behind_head, secure_frame_at}

-- what was read has at most so many bytes
abbrev pub Fits : {X E : Type 0} → ℕ → Result (Option (X × ℕ)) E → Type 0
Fits most (Ok (Some (x, n))) = n ≤ most
Fits most (Ok None) = Unit {0}
Fits most (Err e) = Unit {0}

-- ---- a banner

features-fit : (most : ℕ) (b : Banner) (n : ℕ) → n ≤ most → Fits most (by_features b n)
unfolding by_features
features-fit most b n le = by_tests (nat_lt 1 b.required) (b.supported % 2 == 0)
  where
    by_tests : (more none : Bool)
        → Fits most (let r : Result (Option (Banner × ℕ)) BannerRefusal = (if more then Err (Features (b.required - b.required % 2)) else if none then Err (Features 1) else Ok (Some (b, n))) in r)
    by_tests true none = tt
    by_tests false true = tt
    by_tests false false = le

sized-fits : (bytes : List ℕ) (n : ℕ) → Fits (length bytes) (sized bytes n)
unfolding sized
sized-fits bytes n = by_tests (nat_lt n 16 || nat_lt 256 n) (nat_lt (length bytes) (10 + n)) refl
  where
    by_tests : (wrong short : Bool) → nat_lt (length bytes) (10 + n) ≡ short
        → Fits (length bytes) (let r : Result (Option (Banner × ℕ)) BannerRefusal = (if wrong then Err (BadBanner 8) else if short then Ok None
        else by_features (record { supported = number64 bytes 10; required = number64 bytes 18 }) (10 + n)) in r)
    by_tests true short e = tt
    by_tests false true e = tt
    by_tests false false e = features-fit (length bytes) (record { supported = number64 bytes 10; required = number64 bytes 18 }) (10 + n) (ltb-false (length bytes) (10 + n) e)

word-fits : (bytes : List ℕ) (place : Option ℕ) → Fits (length bytes) (behind_word bytes place)
unfolding behind_word
word-fits bytes (Some place) = tt
word-fits bytes None = by_test (nat_lt (length bytes) 10)
  where
    by_test : (short : Bool)
        → Fits (length bytes) (let r : Result (Option (Banner × ℕ)) BannerRefusal = (if short then Ok None else sized bytes (number16 bytes 8)) in r)
    by_test true = tt
    by_test false = sized-fits bytes (number16 bytes 8)

pub banner-fits : (bytes : List ℕ) → Fits (length bytes) (banner_at bytes)
unfolding banner_at
banner-fits bytes = word-fits bytes (bad_place bytes)

-- ---- frames

length-fits : {E : Type 0} (most n : ℕ) (r : Result Frame E) → n ≤ most → Fits most (with_length n r)
unfolding with_length
length-fits most n (Ok f) le = le
length-fits most n (Err e) le = tt

preamble-fits : (bytes : List ℕ) (read : Result Preamble FrameRefusal) → 32 ≤ length bytes → Fits (length bytes) (behind_preamble (drop 32 bytes) read)
unfolding behind_preamble
preamble-fits bytes (Err e) le = tt
preamble-fits bytes (Ok p) le = by_test (nat_lt (length (drop 32 bytes)) (rest_len p)) refl
  where
    by_test : (short : Bool) → nat_lt (length (drop 32 bytes)) (rest_len p) ≡ short
        → Fits (length bytes) (let r : Result (Option (Frame × ℕ)) FrameRefusal = (if short then Ok None
        else with_length (32 + rest_len p) (rest_at p (take (rest_len p) (drop 32 bytes)))) in r)
    by_test true e = tt
    by_test false e =
        let there = ltb-false (length (drop 32 bytes)) (rest_len p) e in
        length-fits (length bytes) (32 + rest_len p) (rest_at p (take (rest_len p) (drop 32 bytes))) (omega (arith, length-drop 32 bytes))

pub plain-fits : (bytes : List ℕ) → Fits (length bytes) (plain_frame_at bytes)
unfolding plain_frame_at
plain-fits bytes = by_test (nat_lt (length bytes) 32) refl
  where
    by_test : (short : Bool) → nat_lt (length bytes) 32 ≡ short
        → Fits (length bytes) (let r : Result (Option (Frame × ℕ)) FrameRefusal = (if short then Ok None
        else behind_preamble (drop 32 bytes) (preamble_at 65536 (take 32 bytes))) in r)
    by_test true e = tt
    by_test false e = preamble-fits bytes (preamble_at 65536 (take 32 bytes)) (ltb-false (length bytes) 32 e)

head-fits : (a : Ahead) (most : ℕ) (read : Result Head SecureRefusal) → 96 + length a.bytes ≤ most → Fits most (behind_head a read)
unfolding behind_head
head-fits a most (Err e) le = tt
head-fits a most (Ok h) le = by_test (nat_lt (length a.bytes) (secure.rest_len h.preamble)) refl
  where
    by_test : (short : Bool) → nat_lt (length a.bytes) (secure.rest_len h.preamble) ≡ short
        → Fits most (let r : Result (Option (Frame × ℕ)) SecureRefusal = (if short then Ok None
        else with_length (96 + secure.rest_len h.preamble) (rest_step a.key a.fixed a.counter h (take (secure.rest_len h.preamble) a.bytes))) in r)
    by_test true e = tt
    by_test false e =
        let there = ltb-false (length a.bytes) (secure.rest_len h.preamble) e in
        length-fits most (96 + secure.rest_len h.preamble) (rest_step a.key a.fixed a.counter h (take (secure.rest_len h.preamble) a.bytes)) (omega arith)

pub secure-fits : (a : Ahead) → Fits (length a.bytes) (secure_frame_at a)
unfolding secure_frame_at
secure-fits a = by_test (nat_lt (length a.bytes) 96) refl
  where
    by_test : (short : Bool) → nat_lt (length a.bytes) 96 ≡ short
        → Fits (length a.bytes) (let r : Result (Option (Frame × ℕ)) SecureRefusal = (if short then Ok None
        else behind_head (record a { counter = a.counter + 1; bytes = drop 96 a.bytes }) (head_step a.key a.fixed a.counter (take 96 a.bytes))) in r)
    by_test true e = tt
    by_test false e =
        let there = ltb-false (length a.bytes) 96 e in
        head-fits (record a { counter = a.counter + 1; bytes = drop 96 a.bytes }) (length a.bytes) (head_step a.key a.fixed a.counter (take 96 a.bytes))
        (omega (arith, length-drop 96 a.bytes))
