-- What is counted of the lines of entries are their tickets and their different cookies.
use Rattle.std.proofs.Common.{◌≡◌, ℕ, suc, ◌+◌, ◌<◌, ◌≤◌, ◌^◌, Bool, true, false, cond, not, List, [], ◌∷◌, ◌++◌, length, filter, Some, None, is_some, refl, sym, ap, ◌∙◌, ◌==◌, ltb, arith, length-append}
use Rattle.std.specs.Prelude.{max}
use Rattle.std.specs.List.{filter_map, list_any, position_or_len}
use Rattle.std.specs.Option.{option_map_or}
use Rattle.std.specs.Str.{bytes_eq}
use Rattle.std.proofs.lemmas.Bool.Decides.{nat_tests}
use Rattle.std.proofs.lemmas.List.Sums.{prefix_len-le-length}
use Rattle.cx_journal.specs.Places.{blob_of, blobs_of, cookie_of, cookies_of, different, rank, ticket_number}
use Rattle.cx_journal.specs.declared.entries.Entry.{Entry}
use Rattle.cx_journal.specs.declared.entries.Entry.TheVariants as entry
use Rattle.cx_journal.proofs.CountsLemmas.{filter_map_push, filter_map_same, no_more}
use Rattle.cx_journal.proofs.Positions.{any_is_position, different_push}
use Rattle.cx_audit_text.specs.declared.words_places.CountedAbove.{CountedAbove}
use Rattle.cx_audit_text.specs.lines.Reading.{behind_entry, with_cookie}
use Rattle.cx_laws_text.specs.told.Told.{entry_told}
use Rattle.cx_laws_text.proofs.printed.Good.{Counts}

abbrev pub counted_of : List Entry → CountedAbove
counted_of earlier = record { issued = length (blobs_of earlier); cookies = length (cookies_of earlier) }

-- ---- bounds

keeps-few : (p : ℕ → Bool) (xs : List ℕ) → length (filter p xs) ≤ length xs
keeps-few p [] = omega arith
keeps-few p (x ∷ xs) = either (p x) (keeps-few p xs)
  where
    either : (b : Bool) → length (filter p xs) ≤ length xs → length (cond b (x ∷ filter p xs) (filter p xs)) ≤ suc (length xs)
    either true few = omega (arith, few)
    either false few = omega (arith, few)

different-few : (cs : List ℕ) → length (different cs) ≤ length cs
different-few [] = omega arith
different-few (c ∷ cs) = omega (arith, keeps-few (λ d. not (d == c)) (different cs), different-few cs)

pub counts-of : (earlier : List Entry) → length earlier + 1 < 2 ^ 64 → Counts (counted_of earlier)
counts-of earlier low = record {
  issued = let few = no_more blob_of earlier in omega (arith, low, few);
  cookies =
      let few = different-few (filter_map cookie_of earlier) in
      let printed = no_more cookie_of earlier in
      omega (arith, low, few, printed);
}

place-in : (p : ℕ → Bool) (xs : List ℕ) → position_or_len p xs ≤ length xs
place-in p xs = prefix_len-le-length (λ x. not (p x)) xs

pub rank-low : (earlier : List Entry) (cookie : ℕ) → 1 ≤ rank earlier cookie
rank-low earlier cookie = omega arith

pub rank-high : (earlier : List Entry) (cookie : ℕ) → rank earlier cookie ≤ (counted_of earlier).cookies + 1
rank-high earlier cookie = let low = place-in (λ c. cookie == c) (cookies_of earlier) in omega (arith, low)

place-number : (n len : ℕ) (b : Bool) → ltb n len ≡ b → option_map_or (λ place. place + 1) (cond b (Some n) None) 0 ≤ len
place-number n len true low = grind (arith, nat_tests, low)
place-number n len false high = omega arith

pub ticket-high : (earlier : List Entry) (blob : List ℕ) → ticket_number earlier blob ≤ (counted_of earlier).issued
ticket-high earlier blob =
    let n = position_or_len (bytes_eq blob) (blobs_of earlier) in
    place-number n (length (blobs_of earlier)) (ltb n (length (blobs_of earlier))) refl

-- ---- one entry more

same-cookies : (earlier : List Entry) (e : Entry) → cookie_of e ≡ None → cookies_of (earlier ++ e ∷ []) ≡ cookies_of earlier
same-cookies earlier e none = ap different (filter_map_same cookie_of earlier e none)

same-blobs : (earlier : List Entry) (e : Entry) → blob_of e ≡ None → blobs_of (earlier ++ e ∷ []) ≡ blobs_of earlier
same-blobs earlier e none = filter_map_same blob_of earlier e none

neither : (earlier : List Entry) (e : Entry) → blob_of e ≡ None → cookie_of e ≡ None → counted_of earlier ≡ counted_of (earlier ++ e ∷ [])
neither earlier e blob cookie = rw (same-blobs earlier e blob, same-cookies earlier e cookie) refl

is-in : (n len : ℕ) (b : Bool) → ltb n len ≡ b → is_some (cond b (Some n) None) ≡ true → n < len
is-in n len true low some = grind (arith, nat_tests, low)
is-in n len false high some = absurd (let x : false ≡ true = some in cc)

is-out : (n len : ℕ) (b : Bool) → ltb n len ≡ b → is_some (cond b (Some n) None) ≡ false → len ≤ n
is-out n len true low none = absurd (let x : true ≡ false = none in cc)
is-out n len false high none = grind (arith, nat_tests, high)

grows-to : (cookie : ℕ) (among : List ℕ) (b : Bool) → list_any (λ d. cookie == d) among ≡ b
    → max (length among) (position_or_len (λ d. cookie == d) among + 1) ≡ length (cond b among (among ++ cookie ∷ []))
grows-to cookie among true has =
    let n = position_or_len (λ d. cookie == d) among in
    let low = is-in n (length among) (ltb n (length among)) refl (any_is_position (λ d. cookie == d) among ∙ has) in
    omega (arith, low)
grows-to cookie among false none =
    let n = position_or_len (λ d. cookie == d) among in
    let high = is-out n (length among) (ltb n (length among)) refl (any_is_position (λ d. cookie == d) among ∙ none) in
    let within = place-in (λ d. cookie == d) among in
    omega (arith, high, within, length-append among (cookie ∷ []))

one-cookie : (earlier : List Entry) (e : Entry) (cookie : ℕ) → blob_of e ≡ None → cookie_of e ≡ Some cookie → with_cookie (counted_of earlier) (rank earlier cookie) ≡ counted_of (earlier ++ e ∷ [])
one-cookie earlier e cookie blob is =
    let among = cookies_of earlier in
    let pushed : cookies_of (earlier ++ e ∷ []) ≡ cond (list_any (λ d. cookie == d) among) among (among ++ cookie ∷ []) =
    ap different (filter_map_push cookie_of earlier e cookie is) ∙ different_push (filter_map cookie_of earlier) cookie in
    let grown : max (length among) (rank earlier cookie) ≡ length (cookies_of (earlier ++ e ∷ [])) = grows-to cookie among (list_any (λ d. cookie == d) among) refl ∙ ap length (sym pushed) in
    rw (same-blobs earlier e blob, grown) refl

one-ticket : (earlier : List Entry) (e : Entry) (blob : List ℕ) → blob_of e ≡ Some blob → cookie_of e ≡ None
    → let counted : CountedAbove = record { issued = length (blobs_of earlier) + 1; cookies = length (cookies_of earlier) } in counted ≡ counted_of (earlier ++ e ∷ [])
one-ticket earlier e blob is cookie =
    let more : length (blobs_of (earlier ++ e ∷ [])) ≡ length (blobs_of earlier) + 1 = ap length (filter_map_push blob_of earlier e blob is) ∙ omega (arith, length-append (blobs_of earlier) (blob ∷ [])) in
    rw (more, same-cookies earlier e cookie) refl

pub counted-more : (earlier : List Entry) (e : Entry) → behind_entry (counted_of earlier) (entry_told earlier e) ≡ counted_of (earlier ++ e ∷ [])
counted-more earlier (entry.Issued t) = one-ticket earlier (entry.Issued t) t.blob refl refl
counted-more earlier (entry.Admitted a) = one-cookie earlier (entry.Admitted a) a.cookie refl refl
counted-more earlier (entry.Resumed a) = one-cookie earlier (entry.Resumed a) a.cookie refl refl
counted-more earlier (entry.Sent s) = one-cookie earlier (entry.Sent s) s.cookie refl refl
counted-more earlier (entry.Handled h) = one-cookie earlier (entry.Handled h) h.cookie refl refl
counted-more earlier (entry.Saved x) = neither earlier (entry.Saved x) refl refl
counted-more earlier (entry.Fetched x) = neither earlier (entry.Fetched x) refl refl
counted-more earlier (entry.Looked x) = neither earlier (entry.Looked x) refl refl
counted-more earlier (entry.Answered x) = neither earlier (entry.Answered x) refl refl
counted-more earlier (entry.Refused x) = neither earlier (entry.Refused x) refl refl
counted-more earlier (entry.Ended x) = neither earlier (entry.Ended x) refl refl
counted-more earlier (entry.Restarted x) = neither earlier (entry.Restarted x) refl refl
counted-more earlier (entry.Broken x) = neither earlier (entry.Broken x) refl refl
counted-more earlier (entry.Leaked x) = neither earlier (entry.Leaked x) refl refl
