-- The counts behind an entry give what its line says.
use Rattle.std.proofs.Common.{◌≡◌, ℕ, ◌+◌, List, [], ◌∷◌, ◌++◌, length, cond, position, Option, Some, None, unwrap_or, refl, sym, ◌∙◌, ap, arith, ◌==◌, length-append, eq-eqb}
use Rattle.std.specs.List.{list_any, filter_map}
use Rattle.std.specs.Option.{option_map, option_map_or}
use Rattle.std.specs.Ordering.{nat_cmp}
use Rattle.std.specs.Str.{bytes_eq}
use Rattle.std.specs.Cmp.Lexicographic.{slice_cmp}
use Rattle.std.specs.BTreeMap.{get}
use Rattle.cx_journal.specs.Places.{different, cookie_of, cookies_of, blob_of, blobs_of, rank, next_number, ticket_number, ticket_of}
use Rattle.cx_journal.specs.Counted.{IsCountOf}
use Rattle.cx_journal.specs.JournalText.{line, issued_line, admitted_line, resumed_line, sent_line, handled_line, refused_line}
use Rattle.cx_journal.specs.declared.counts.Counts.{Counts}
use Rattle.cx_journal.specs.declared.entries.Entry.{Entry}
use Rattle.cx_journal.specs.declared.entries.Entry.TheVariants as entry
use Rattle.cx_journal.specs.declared.entries.Issued.{Issued}
use Rattle.cx_journal.specs.declared.entries.Admitted.{Admitted}
use Rattle.cx_journal.specs.declared.entries.Sent.{Sent}
use Rattle.cx_journal.specs.declared.entries.Handled.{Handled}
use Rattle.cx_journal.specs.declared.entries.Refused.{Refused}
use Rattle.cx_journal.proofs.Positions.{different_push, place_in_pushed, any_is_position}
use Rattle.cx_journal.proofs.CountsLemmas.{filter_map_push, filter_map_same}

rank_is : (counts : Counts) (earlier : List Entry) (e : Entry) (cookie : ℕ) → cookie_of e ≡ Some cookie → IsCountOf counts (earlier ++ e ∷ []) → unwrap_or (get nat_cmp counts.ranks.ranks cookie) 0 ≡ rank earlier cookie
rank_is counts earlier e cookie tells h =
    let among = cookies_of earlier in
    let pushed : cookies_of (earlier ++ e ∷ []) ≡ cond (list_any (λ d. cookie == d) among) among (among ++ cookie ∷ []) =
    ap different (filter_map_push cookie_of earlier e cookie tells) ∙ different_push (filter_map cookie_of earlier) cookie in
    let place = place_in_pushed (λ d. cookie == d) among cookie (list_any (λ d. cookie == d) among) (eq-eqb cookie cookie refl) (any_is_position (λ d. cookie == d) among) in
    ap (λ o. unwrap_or o 0) (h.cookies.place cookie ∙ ap (λ ks. option_map (λ n. n + 1) (position (λ d. cookie == d) ks)) pushed ∙ ap (option_map (λ n. n + 1)) place)

number_is : (counts : Counts) (earlier : List Entry) (e : Entry) (blob : List ℕ) → blob_of e ≡ Some blob → IsCountOf counts (earlier ++ e ∷ []) → counts.numbers.issued ≡ next_number earlier
number_is counts earlier e blob has h = h.tickets.count ∙ ap length (filter_map_push blob_of earlier e blob has) ∙ omega (arith, length-append (blobs_of earlier) (blob ∷ []))

none_is_zero : (o : Option ℕ) → unwrap_or (option_map (λ n. n + 1) o) 0 ≡ option_map_or (λ n. n + 1) o 0
none_is_zero None = refl
none_is_zero (Some n) = refl

ticket_is : (counts : Counts) (earlier : List Entry) (e : Entry) (blob : List ℕ) → blob_of e ≡ None → IsCountOf counts (earlier ++ e ∷ []) → unwrap_or (get (slice_cmp nat_cmp) counts.numbers.numbers blob) 0 ≡ ticket_number earlier blob
ticket_is counts earlier e blob has h =
    ap (λ o. unwrap_or o 0) (h.tickets.place blob ∙ ap (λ bs. option_map (λ n. n + 1) (position (bytes_eq blob) bs)) (filter_map_same blob_of earlier e has))
    ∙ none_is_zero (position (bytes_eq blob) (blobs_of earlier))

pub issued_as : (counts : Counts) (earlier : List Entry) (e : Entry) (t : Issued) (n : ℕ) → e ≡ entry.Issued t → n ≡ counts.numbers.issued → IsCountOf counts (earlier ++ e ∷ []) → line earlier e ≡ issued_line n t
issued_as counts earlier e t n is told h = ap (line earlier) is ∙ ap (λ k. issued_line k t) (sym (told ∙ number_is counts earlier e t.blob (ap blob_of is) h))

pub admitted_as : (counts : Counts) (earlier : List Entry) (e : Entry) (a : Admitted) (n : ℕ) → e ≡ entry.Admitted a → n ≡ unwrap_or (get nat_cmp counts.ranks.ranks a.cookie) 0 → IsCountOf counts (earlier ++ e ∷ []) → line earlier e ≡ admitted_line n a
admitted_as counts earlier e a n is told h = ap (line earlier) is ∙ ap (λ k. admitted_line k a) (sym (told ∙ rank_is counts earlier e a.cookie (ap cookie_of is) h))

pub resumed_as : (counts : Counts) (earlier : List Entry) (e : Entry) (a : Admitted) (n : ℕ) → e ≡ entry.Resumed a → n ≡ unwrap_or (get nat_cmp counts.ranks.ranks a.cookie) 0 → IsCountOf counts (earlier ++ e ∷ []) → line earlier e ≡ resumed_line n a
resumed_as counts earlier e a n is told h = ap (line earlier) is ∙ ap (λ k. resumed_line k a) (sym (told ∙ rank_is counts earlier e a.cookie (ap cookie_of is) h))

pub sent_as : (counts : Counts) (earlier : List Entry) (e : Entry) (s : Sent) (n : ℕ) → e ≡ entry.Sent s → n ≡ unwrap_or (get nat_cmp counts.ranks.ranks s.cookie) 0 → IsCountOf counts (earlier ++ e ∷ []) → line earlier e ≡ sent_line n s
sent_as counts earlier e s n is told h = ap (line earlier) is ∙ ap (λ k. sent_line k s) (sym (told ∙ rank_is counts earlier e s.cookie (ap cookie_of is) h))

pub handled_as : (counts : Counts) (earlier : List Entry) (e : Entry) (a : Handled) (n : ℕ) → e ≡ entry.Handled a → n ≡ unwrap_or (get nat_cmp counts.ranks.ranks a.cookie) 0 → IsCountOf counts (earlier ++ e ∷ []) → line earlier e ≡ handled_line n a
handled_as counts earlier e a n is told h = ap (line earlier) is ∙ ap (λ k. handled_line k a) (sym (told ∙ rank_is counts earlier e a.cookie (ap cookie_of is) h))

numbers_as : (counts : Counts) (earlier : List Entry) (e : Entry) (ticket : Option (List ℕ)) → blob_of e ≡ None → IsCountOf counts (earlier ++ e ∷ []) → option_map (λ blob. unwrap_or (get (slice_cmp nat_cmp) counts.numbers.numbers blob) 0) ticket ≡ option_map (ticket_number earlier) ticket
numbers_as counts earlier e None has h = refl
numbers_as counts earlier e (Some blob) has h = ap Some (ticket_is counts earlier e blob has h)

pub refused_as : (counts : Counts) (earlier : List Entry) (e : Entry) (r : Refused) (n : Option ℕ) → e ≡ entry.Refused r → n ≡ option_map (λ blob. unwrap_or (get (slice_cmp nat_cmp) counts.numbers.numbers blob) 0) (ticket_of r.reason) → IsCountOf counts (earlier ++ e ∷ []) → line earlier e ≡ refused_line n r
refused_as counts earlier e r n is told h = ap (line earlier) is ∙ ap (λ k. refused_line k r) (sym (told ∙ numbers_as counts earlier e (ticket_of r.reason) (ap blob_of is) h))
