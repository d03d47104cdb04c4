-- What was read of some bytes: a banner, and plain frames behind it.
use Rattle.std.proofs.Common.{◌≡◌, ◌+◌, ◌-◌, ◌%◌, ◌≤◌, ◌<◌, ℕ, Bool, true, false, List, [], ◌∷◌, ◌++◌, length, slice_index, take, drop, Option, Some, None, Result, Ok, Err, refl, sym, ap, ◌∙◌, subst, arith, append_assoc, length-append, length-drop}
use Rattle.std.specs.Prelude.{◌||◌, ◌==◌, nat_lt, if◌then◌else◌}
use Rattle.std.specs.List.{flat_map, AllByRecursion}
use Rattle.std.proofs.Math.ListN.{get_or-append}
use Rattle.std.proofs.lemmas.Bool.{le-ltb, ltb-false}
use Rattle.std.proofs.lemmas.List.{drop_at, drop-append-le, drop-drop, length-take-le, take_at, take-append-drop}
use Rattle.cx_frame.proofs.BannerLaws.{banner_again}
use Rattle.cx_frame.specs.Banners.{bad_place, banner_at, banner_text, behind_word, by_features, number64, sized}
use Rattle.cx_frame.specs.Frames.{frame_text}
use Rattle.cx_frame.specs.Preambles.{number16}
use Rattle.cx_frame.specs.declared.banner.Banner.{Banner}
use Rattle.cx_frame.specs.declared.frame.Frame.{Frame}
use Rattle.cx_frame.specs.declared.refusals.BannerRefusal.{BannerRefusal}
use Rattle.cx_frame.specs.declared.refusals.BannerRefusal.TheVariants.{BadBanner, Features}
use Rattle.cx_laws_keys.specs.cx_stream.specs.PlainStreams.{IsPlain, plain_frame_at}
use Rattle.cx_laws_tickets.proofs.fetch.Transcripts.{ReadsFrom, reads-all, reads-grow, reads-one, reads-written}

abbrev BannerRead : Type 0
BannerRead = Result (Option (Banner × ℕ)) BannerRefusal

-- ---- a banner

-- these tests let the banner through
there : (short wrong cut : Bool) (j : BannerRead) (x : Banner × ℕ)
    → (let r : BannerRead = (if short then Ok None else if wrong then Err (BadBanner 8) else if cut then Ok None else j) in r ≡ Ok (Some x))
    → (short ≡ false) × (wrong ≡ false) × (cut ≡ false) × (j ≡ Ok (Some x))
there true wrong cut j x e = absurd cc
there false true cut j x e = absurd cc
there false false true j x e = absurd cc
there false false false j x e = (refl, refl, refl, e)

all_there : (short wrong cut : Bool) (j k : BannerRead) → short ≡ false → wrong ≡ false → cut ≡ false → j ≡ k
    → (let r : BannerRead = (if short then Ok None else if wrong then Err (BadBanner 8) else if cut then Ok None else j) in r ≡ k)
all_there short wrong cut j k a b c e = rw (a, b, c) e

or_false : (a b : Bool) → (a || b) ≡ false → (a ≡ false) × (b ≡ false)
or_false false b e = (refl, e)
or_false true b e = absurd cc

-- the length of what is read by its features
abbrev len_in : BannerRead → ℕ
len_in (Ok (Some x)) = x.1
len_in (Ok None) = 0
len_in (Err e) = 0

by_features_len : (b : Banner) (n : ℕ) (x : Banner × ℕ) → by_features b n ≡ Ok (Some x) → n ≡ x.1
unfolding by_features
by_features_len b n x e = cases (nat_lt 1 b.required) (b.supported % 2 == 0) (b.required - b.required % 2) e
  where
    cases : (s t : Bool) (m : ℕ) → (let r : BannerRead = (if s then Err (Features m) else if t then Err (Features 1) else Ok (Some (b, n))) in r ≡ Ok (Some x)) → n ≡ x.1
    cases true t m e = absurd cc
    cases false true m e = absurd cc
    cases false false m e = ap len_in e

-- what of a banner stands there
record IsBannerThere (bytes : List ℕ) (x : Banner × ℕ) : Type 0 where
  place : bad_place bytes ≡ None
  wrong : (nat_lt (number16 bytes 8) 16 || nat_lt 256 (number16 bytes 8)) ≡ false
  long : 26 ≤ length bytes
  all : 10 + number16 bytes 8 ≤ length bytes
  features : by_features (record { supported = number64 bytes 10; required = number64 bytes 18 }) (10 + number16 bytes 8) ≡ Ok (Some x)

banner-there : (bytes : List ℕ) (x : Banner × ℕ) → banner_at bytes ≡ Ok (Some x) → IsBannerThere bytes x
unfolding banner_at behind_word sized
banner-there bytes x is = by_place (bad_place bytes) refl is
  where
    by_place : (o : Option ℕ) → bad_place bytes ≡ o → behind_word bytes o ≡ Ok (Some x) → IsBannerThere bytes x
    by_place (Some place) _ found = absurd cc
    by_place None place found =
        let n : ℕ = number16 bytes 8 in
        let t = there (nat_lt (length bytes) 10) (nat_lt n 16 || nat_lt 256 n) (nat_lt (length bytes) (10 + n)) (by_features (record { supported = number64 bytes 10; required = number64 bytes 18 }) (10 + n)) x found in
        let all : 10 + n ≤ length bytes = ltb-false (length bytes) (10 + n) t.2 in
        let few : 16 ≤ n = ltb-false n 16 (or_false (nat_lt n 16) (nat_lt 256 n) t.1).0 in
        record { place = place; wrong = t.1; long = omega arith; all = all; features = t.3 }

place-grows : (bytes more : List ℕ) → 8 ≤ length bytes → bad_place (bytes ++ more) ≡ bad_place bytes
unfolding bad_place
place-grows (a ∷ b ∷ c ∷ d ∷ e ∷ f ∷ g ∷ h ∷ rest) more long = refl
place-grows (a ∷ b ∷ c ∷ d ∷ e ∷ f ∷ g ∷ []) more long = absurd (omega arith)
place-grows (a ∷ b ∷ c ∷ d ∷ e ∷ f ∷ []) more long = absurd (omega arith)
place-grows (a ∷ b ∷ c ∷ d ∷ e ∷ []) more long = absurd (omega arith)
place-grows (a ∷ b ∷ c ∷ d ∷ []) more long = absurd (omega arith)
place-grows (a ∷ b ∷ c ∷ []) more long = absurd (omega arith)
place-grows (a ∷ b ∷ []) more long = absurd (omega arith)
place-grows (a ∷ []) more long = absurd (omega arith)
place-grows [] more long = absurd (omega arith)

module _ (bytes more : List ℕ) (long : 26 ≤ length bytes) where
  byte : (i : ℕ) → i < 26 → slice_index (bytes ++ more) i ≡ slice_index bytes i
  byte i few = get_or-append bytes more 0 i (omega arith)

  size-grows : number16 (bytes ++ more) 8 ≡ number16 bytes 8
  size-grows = rw (byte 8 (omega arith), byte 9 (omega arith)) refl

  first-grows : number64 (bytes ++ more) 10 ≡ number64 bytes 10
  first-grows = rw (byte 10 (omega arith), byte 11 (omega arith), byte 12 (omega arith), byte 13 (omega arith), byte 14 (omega arith), byte 15 (omega arith), byte 16 (omega arith), byte 17 (omega arith)) refl

  second-grows : number64 (bytes ++ more) 18 ≡ number64 bytes 18
  second-grows = rw (byte 18 (omega arith), byte 19 (omega arith), byte 20 (omega arith), byte 21 (omega arith), byte 22 (omega arith), byte 23 (omega arith), byte 24 (omega arith), byte 25 (omega arith)) refl

-- it is read again, whatever comes later
banner-grows : (bytes more : List ℕ) (x : Banner × ℕ) → banner_at bytes ≡ Ok (Some x) → banner_at (bytes ++ more) ≡ Ok (Some x)
unfolding banner_at behind_word sized
banner-grows bytes more x is =
    let t : IsBannerThere bytes x = banner-there bytes x is in
    let size : number16 (bytes ++ more) 8 ≡ number16 bytes 8 = size-grows bytes more t.long in
    let made : ℕ → ℕ → Banner = λ s r. record { supported = s; required = r } in
    let value : made (number64 (bytes ++ more) 10) (number64 (bytes ++ more) 18) ≡ made (number64 bytes 10) (number64 bytes 18) =
    ap (λ s. made s (number64 (bytes ++ more) 18)) (first-grows bytes more t.long) ∙ ap (λ r. made (number64 bytes 10) r) (second-grows bytes more t.long) in
    let place : bad_place (bytes ++ more) ≡ None = place-grows bytes more (let l : 26 ≤ length bytes = t.long in omega arith) ∙ t.place in
    let longer : length (bytes ++ more) ≡ length bytes + length more = length-append bytes more in
    let enough : 10 ≤ length (bytes ++ more) = (let l : 26 ≤ length bytes = t.long in omega arith) in
    let whole : 10 + number16 (bytes ++ more) 8 ≤ length (bytes ++ more) = (let l : 10 + number16 bytes 8 ≤ length bytes = t.all in omega arith) in
    ap (behind_word (bytes ++ more)) place
    ∙ all_there _ _ _ (by_features (made (number64 (bytes ++ more) 10) (number64 (bytes ++ more) 18)) (10 + number16 (bytes ++ more) 8)) (Ok (Some x))
    (le-ltb (length (bytes ++ more)) 10 enough)
    (ap (λ (n : ℕ). nat_lt n 16 || nat_lt 256 n) size ∙ t.wrong)
    (le-ltb (length (bytes ++ more)) (10 + number16 (bytes ++ more) 8) whole)
    (ap (λ (b : Banner). by_features b (10 + number16 (bytes ++ more) 8)) value ∙ ap (λ (n : ℕ). by_features (made (number64 bytes 10) (number64 bytes 18)) (10 + n)) size ∙ t.features)

-- ---- a banner and frames

-- a banner and these frames were read, in so many bytes
pub record IsRead (bytes : List ℕ) (frames : List Frame) (taken : ℕ) : Type 0 where
  pub banner : Banner
  pub first : ℕ
  pub rest : ℕ
  pub begins : banner_at bytes ≡ Ok (Some (banner, first))
  pub goes_on : ReadsFrom (drop first bytes) frames rest
  pub taken_is : taken ≡ first + rest

first-all : (bytes : List ℕ) (b : Banner) (k : ℕ) → banner_at bytes ≡ Ok (Some (b, k)) → k ≤ length bytes
first-all bytes b k is =
    let t : IsBannerThere bytes (b, k) = banner-there bytes (b, k) is in
    let size : 10 + number16 bytes 8 ≡ k = by_features_len (record { supported = number64 bytes 10; required = number64 bytes 18 }) (10 + number16 bytes 8) (b, k) t.features in
    let all : 10 + number16 bytes 8 ≤ length bytes = t.all in
    omega arith

-- a banner is read
pub read-banner : (bytes : List ℕ) (b : Banner) (k : ℕ) → banner_at bytes ≡ Ok (Some (b, k)) → IsRead bytes [] k
read-banner bytes b k is = record { banner = b; first = k; rest = 0; begins = is; goes_on = refl; taken_is = omega arith }

-- what was read stays read, whatever comes
pub read-grows : (bytes more : List ℕ) (fs : List Frame) (taken : ℕ) → IsRead bytes fs taken → IsRead (bytes ++ more) fs taken
read-grows bytes more fs taken r = record {
  banner = r.banner;
  first = r.first;
  rest = r.rest;
  begins = banner-grows bytes more (r.banner, r.first) r.begins;
  goes_on = subst (λ (l : List ℕ). ReadsFrom l fs r.rest) (sym (drop-append-le r.first bytes more (first-all bytes r.banner r.first r.begins))) (reads-grow (drop r.first bytes) more fs r.rest r.goes_on);
  taken_is = r.taken_is;
}

-- one more frame is read
pub read-frame : (bytes : List ℕ) (fs : List Frame) (taken : ℕ) (f : Frame) (k : ℕ) → IsRead bytes fs taken → plain_frame_at (drop taken bytes) ≡ Ok (Some (f, k)) → IsRead bytes (fs ++ f ∷ []) (taken + k)
read-frame bytes fs taken f k r read =
    let there_is : drop taken bytes ≡ drop r.rest (drop r.first bytes) = ap (λ (j : ℕ). drop j bytes) r.taken_is ∙ sym (drop-drop r.rest r.first bytes) in
    let size : taken ≡ r.first + r.rest = r.taken_is in
    record {
      banner = r.banner;
      first = r.first;
      rest = r.rest + k;
      begins = r.begins;
      goes_on = reads-one (drop r.first bytes) fs r.rest f k r.goes_on (subst (λ (l : List ℕ). plain_frame_at l ≡ Ok (Some (f, k))) there_is read);
      taken_is = omega arith;
    }

-- ---- what was read of what was written

-- the banner that each end writes
abbrev own : Banner
own = record { supported = 1; required = 1 }

own-text : (more : List ℕ) → banner_at (banner_text own [] ++ more) ≡ Ok (Some (own, 26))
unfolding banner_text by_features
own-text more =
    banner_again (banner_text own [] ++ more) own 26 (omega arith) (omega arith) (record {
      skipped = [];
      few = omega arith;
      len = refl;
      there = (let size : length (banner_text own [] ++ more) ≡ 26 + length more = length-append (banner_text own []) more in omega arith);
      text = take_at (banner_text own []) more 26 refl;
    })

own-long : length (banner_text own []) ≡ 26
unfolding banner_text
own-long = refl

-- where what was read is that banner and these frames as they are written, the frames that were read are they
pub read-written : (bytes : List ℕ) (fs gs : List Frame) (taken : ℕ) → AllByRecursion IsPlain gs → IsRead bytes fs taken
    → take taken bytes ≡ banner_text own [] ++ flat_map frame_text gs → fs ≡ gs
read-written bytes fs gs taken plain r same =
    let flat : List ℕ = flat_map frame_text gs in
    let more : List ℕ = drop taken bytes in
    let split : bytes ≡ banner_text own [] ++ (flat ++ more) =
    sym (take-append-drop taken bytes) ∙ ap (λ (l : List ℕ). l ++ more) same ∙ append_assoc (banner_text own []) flat more in
    let begins : banner_at bytes ≡ Ok (Some (own, 26)) = ap banner_at split ∙ own-text (flat ++ more) in
    let first : r.first ≡ 26 = ap len_in (sym r.begins ∙ begins) in
    let left : drop r.first bytes ≡ flat ++ more =
    ap (λ (i : ℕ). drop i bytes) first ∙ ap (λ (l : List ℕ). drop 26 l) split ∙ drop_at (banner_text own []) (flat ++ more) 26 own-long in
    let in_first : r.first ≤ length bytes = first-all bytes r.banner r.first r.begins in
    let in_rest : r.rest ≤ length (drop r.first bytes) = reads-all (drop r.first bytes) fs r.rest r.goes_on in
    let dropped : length (drop r.first bytes) ≡ length bytes - r.first = length-drop r.first bytes in
    let sum : taken ≡ r.first + r.rest = r.taken_is in
    let whole : taken ≤ length bytes = omega arith in
    let long : length (take taken bytes) ≡ taken = length-take-le taken bytes whole in
    let parts : length (banner_text own [] ++ flat) ≡ length (banner_text own []) + length flat = length-append (banner_text own []) flat in
    let size : length (take taken bytes) ≡ length (banner_text own [] ++ flat) = ap (λ (l : List ℕ). length l) same in
    let begun : length (banner_text own []) ≡ 26 = own-long in
    let rest : r.rest ≡ length flat = omega arith in
    reads-written (drop r.first bytes) more fs gs r.rest plain left rest r.goes_on
