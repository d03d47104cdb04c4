-- What is known of the entries, behind one more.
use Rattle.std.proofs.Common.{◌≡◌, ℕ, ◌+◌, Bool, true, false, cond, List, [], ◌∷◌, ◌++◌, take, length, Option, Some, None, refl, sym, ap, ◌∙◌, ◌==◌, append-nil}
use Rattle.std.specs.Prelude.{◌&&◌}
use Rattle.std.specs.List.{cons_option, list_any}
use Rattle.std.specs.Option.{option_map, option_map_or}
use Rattle.std.proofs.lemmas.List.{length-append}
use Rattle.std.proofs.Math.Seq.{take-length}
use Rattle.cx_base.specs.Names.{Name, same_name}
use Rattle.cx_base.specs.declared.operations.Operation.{Operation}
use Rattle.cx_journal.specs.KeepsKeys.{is_look}
use Rattle.cx_journal.specs.Leaks.{is_leak}
use Rattle.cx_journal.specs.PrefixOfSent.{all_handled_under, handled_under}
use Rattle.cx_journal.specs.Sessions.{session_at}
use Rattle.cx_journal.specs.declared.entries.Admitted.{Admitted}
use Rattle.cx_journal.specs.declared.entries.Entry.{Entry}
use Rattle.cx_journal.specs.declared.entries.Entry.TheVariants as entry
use Rattle.cx_journal.specs.declared.entries.Handled.{Handled}
use Rattle.cx_audit.specs.indexed.Keyed.{Puts, bytes_key, is_under, name_key, number_key, put_of, under}
use Rattle.cx_audit.specs.declared.index.Index.{Index}
use Rattle.cx_audit.specs.declared.key.Key.{Key}
use Rattle.cx_audit.proofs.indexed.Filed.{filed_more, same_bytes}
use Rattle.cx_audit.specs.ruled.Tests.{AreLeaks, Knows, Starts, blob_key, differs, found_session, gid_key, gives, handled_key, has_gid, is_blob, is_of_client, leak_key, look_key, owner_key, restart_key, rounds, sent_key, turn_key}
use Rattle.cx_audit.specs.declared.known.Known.{Known}
use Rattle.cx_audit.proofs.ruled.Open.{fresh_more, open_more}
use Rattle.cx_audit.proofs.ruled.Order.{handled_push, pair_of}
use Rattle.cx_audit.proofs.ruled.Owners.{given_more, taken_more}

-- ---- an entry is put under a key exactly where it passes the test

and_true : (b : Bool) → (b && true) ≡ b
and_true true = refl
and_true false = refl

gid_same : (e : Entry) (gid : ℕ) → is_under (gid_key e) (number_key gid) ≡ gives gid e
gid_same (entry.Issued t) gid = refl
gid_same _ gid = refl

blob_same : (e : Entry) (blob : List ℕ) (g : ℕ) → is_under (blob_key e) (bytes_key blob g) ≡ is_blob blob g e
blob_same (entry.Issued t) blob g = refl
blob_same _ blob g = refl

look_same : (e : Entry) (d : Name) (link : ℕ) → is_under (look_key e) (name_key d link 0) ≡ is_look d link e
look_same (entry.Looked look) d link = ap (λ b. b && (look.link == link)) (same_bytes look.daemon d)
look_same _ d link = refl

sent_same : (e : Entry) (n : Name) (c : ℕ) → is_under (sent_key e) (name_key n c 0) ≡ is_of_client n c e
sent_same (entry.Sent s) n c = ap (λ b. b && (s.cookie == c)) (same_bytes s.client n)
sent_same _ n c = refl

leak_same : (e : Entry) (n : Name) → is_under (leak_key e) (name_key n 0 0) ≡ is_leak n e
leak_same (entry.Leaked client) n = ap (λ b. b && true) (same_bytes client n) ∙ and_true (same_name client n)
leak_same _ n = refl

-- ---- leaks

pub leaks_more : (earlier : List Entry) (e : Entry) (old new : Index) → AreLeaks earlier old → Puts (leak_key e) e old new → AreLeaks (earlier ++ e ∷ []) new
leaks_more earlier e old new are puts name =
    puts (name_key name 0 0) ∙ filed_more (is_leak name) (under old) (name_key name 0 0) (leak_key e) e earlier (are name) (leak_same e name)

pub all_leaks : (whole : List Entry) (place : ℕ) (leaks : Index) → place ≡ length whole → AreLeaks (take place whole) leaks → AreLeaks whole leaks
all_leaks whole place leaks end are =
    let all : take place whole ≡ whole = ap (λ k. take k whole) end ∙ take-length whole in
    rw all at are

-- ---- what was handled

grown : (a b : Bool) (xs : List Entry) (ys : List (ℕ × Operation)) (e : Entry) (x : ℕ × Operation) → length xs ≡ length ys
    → length (cond (a && b) (xs ++ e ∷ []) xs) ≡ length (ys ++ cons_option (cond (b && a) (Some x) None) [])
grown true true xs ys e x same = length-append xs (e ∷ []) ∙ ap (λ k. k + 1) same ∙ sym (length-append ys (x ∷ []))
grown true false xs ys e x same = same ∙ ap length (sym (append-nil ys))
grown false true xs ys e x same = same ∙ ap length (sym (append-nil ys))
grown false false xs ys e x same = same ∙ ap length (sym (append-nil ys))

no_more : (b : Bool) (xs : List Entry) (ys : List (ℕ × Operation)) (x : ℕ × Operation) → length xs ≡ length ys → length xs ≡ length (ys ++ cons_option (cond (b && false) (Some x) None) [])
no_more true xs ys x same = same ∙ ap length (sym (append-nil ys))
no_more false xs ys x same = same ∙ ap length (sym (append-nil ys))

module _ (lists : Key → List Entry) (earlier : List Entry) (n : Name) (c : ℕ) (same : length (lists (name_key n c 0)) ≡ length (all_handled_under c n [] earlier)) where
  by_session : (h : Handled) (o : Option Admitted) → length (put_of (option_map (λ s. name_key s.entity h.cookie 0) o) (entry.Handled h) lists (name_key n c 0))
      ≡ length (all_handled_under c n [] earlier ++ cons_option (cond ((h.cookie == c) && option_map_or (λ s. same_name s.entity n) o false) (Some (pair_of h)) None) [])
  by_session h None = no_more (h.cookie == c) (lists (name_key n c 0)) (all_handled_under c n [] earlier) (pair_of h) same
  by_session h (Some s) =
      ap (λ b. length (cond (b && (h.cookie == c)) (lists (name_key n c 0) ++ entry.Handled h ∷ []) (lists (name_key n c 0)))) (same_bytes s.entity n)
      ∙ grown (same_name s.entity n) (h.cookie == c) (lists (name_key n c 0)) (all_handled_under c n [] earlier) (entry.Handled h) (pair_of h) same

  handled_last : (known : Known) (e : Entry) → ((h : Handled) → found_session known h ≡ session_at earlier h)
      → length (put_of (handled_key known e) e lists (name_key n c 0)) ≡ length (all_handled_under c n [] earlier ++ cons_option (handled_under c n earlier e) [])
  handled_last known (entry.Handled h) stands =
      ap (λ o. length (put_of (option_map (λ s. name_key s.entity h.cookie 0) o) (entry.Handled h) lists (name_key n c 0))) (stands h) ∙ by_session h (session_at earlier h)
  handled_last known e stands = same ∙ ap length (sym (append-nil (all_handled_under c n [] earlier)))

  handled_more : (known : Known) (e : Entry) → ((h : Handled) → found_session known h ≡ session_at earlier h)
      → length (put_of (handled_key known e) e lists (name_key n c 0)) ≡ length (all_handled_under c n [] (earlier ++ e ∷ []))
  handled_more known e stands = handled_last known e stands ∙ ap length (sym (handled_push c n [] earlier e))

-- ---- all of it

pub knows_none : (whole : List Entry) (leaks : Index) (known : Known) → AreLeaks whole leaks → Starts leaks known → Knows whole [] known
knows_none whole leaks known are starts = record {
  leaked = λ name. ap (λ index. under index (name_key name 0 0)) starts.leaks ∙ are name;
  taken = λ t. ap (list_any (differs t)) (starts.owners (number_key t.gid));
  given = λ t. ap (list_any (has_gid t)) (starts.owners (number_key t.gid));
  tickets = λ gid. starts.tickets (number_key gid);
  blobs = λ blob generation. starts.blobs (bytes_key blob generation);
  looks = λ daemon link. starts.looks (name_key daemon link 0);
  sent = λ client cookie. starts.sent (name_key client cookie 0);
  handled = λ entity cookie. ap length (starts.handled (name_key entity cookie 0));
  stands = λ h. ap (λ es. session_at es h) (starts.turns (name_key h.daemon h.session (rounds known h.daemon)));
  fresh = λ daemon session round low. starts.turns (name_key daemon session round);
}

-- what an entry changes of what is known
pub record Notes (e : Entry) (old new : Known) : Type 0 where
  pub leaks : new.leaks ≡ old.leaks
  pub owners : Puts (owner_key old e) e old.owners new.owners
  pub tickets : Puts (gid_key e) e old.tickets new.tickets
  pub blobs : Puts (blob_key e) e old.blobs new.blobs
  pub looks : Puts (look_key e) e old.looks new.looks
  pub sent : Puts (sent_key e) e old.sent new.sent
  pub handled : Puts (handled_key old e) e old.handled new.handled
  pub restarts : Puts (restart_key e) e old.restarts new.restarts
  pub turns : Puts (turn_key old e) e old.turns new.turns

pub knows_more : (whole earlier : List Entry) (old new : Known) (e : Entry) → Knows whole earlier old → Notes e old new → Knows whole (earlier ++ e ∷ []) new
knows_more whole earlier old new e knows notes = record {
  leaked = λ name. ap (λ index. under index (name_key name 0 0)) notes.leaks ∙ knows.leaked name;
  taken = taken_more earlier old new e knows.taken notes.owners;
  given = given_more earlier old new e knows.given notes.owners;
  tickets = λ gid. notes.tickets (number_key gid) ∙ filed_more (gives gid) (under old.tickets) (number_key gid) (gid_key e) e earlier (knows.tickets gid) (gid_same e gid);
  blobs = λ blob generation.
      notes.blobs (bytes_key blob generation)
      ∙ filed_more (is_blob blob generation) (under old.blobs) (bytes_key blob generation) (blob_key e) e earlier (knows.blobs blob generation) (blob_same e blob generation);
  looks = λ daemon link.
      notes.looks (name_key daemon link 0) ∙ filed_more (is_look daemon link) (under old.looks) (name_key daemon link 0) (look_key e) e earlier (knows.looks daemon link) (look_same e daemon link);
  sent = λ client cookie.
      notes.sent (name_key client cookie 0)
      ∙ filed_more (is_of_client client cookie) (under old.sent) (name_key client cookie 0) (sent_key e) e earlier (knows.sent client cookie) (sent_same e client cookie);
  handled = λ entity cookie.
      ap length (notes.handled (name_key entity cookie 0))
      ∙ handled_more (under old.handled) earlier entity cookie (knows.handled entity cookie) old e knows.stands;
  stands = open_more earlier old new knows.stands knows.fresh e notes.restarts notes.turns;
  fresh = fresh_more earlier old new knows.stands knows.fresh e notes.restarts notes.turns;
}
