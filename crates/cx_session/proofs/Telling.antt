-- A book of what its owners tell is answered and changed as the book is.
use Rattle.std.proofs.Common.{ℕ, ◌≡◌, ◌==◌, ◌&&◌, Bool, true, false, List, [], ◌∷◌, length, map, filter, not, Option, Some, None, Result, Ok, Err, is_some, refl, ap, if◌then◌else◌}
use Rattle.std.specs.List.{find}
use Rattle.std.specs.Option.{option_map}
use Rattle.std.proofs.lemmas.List.{length-map, map-append}
use Rattle.cx_base.specs.Names.{Name}
use Rattle.cx_session.specs.declared.session.Session.{Session}
use Rattle.cx_session.specs.declared.call.BookCall.{BookCall}
use Rattle.cx_session.specs.declared.call.BookCall.TheVariants.{Admit, Resume, Check, Take, End}
use Rattle.cx_session.specs.Book.{Book, with_number, with_client_cookie, with_cookies, admission, admit_reply, opened, admitted, taking, take_reply, raised, changed, renewed, resumption, resume_reply}
use Rattle.cx_session.specs.Answers.{admission_reply, resumption_reply, message_reply, behind, replied, after}
use Rattle.cx_session.specs.Told.{told_session, told_book, told_call, told, AnswersAsTold, ChangesAsTold}

module _ {O P : Type 0} (tell : O → P) where
  -- what is found
  found_step : (p : Session P → Bool) (s : Session O) (live : List (Session O)) (b : Bool) → p (told_session tell s) ≡ b → find p (map (told_session tell) live) ≡ option_map (told_session tell) (find (λ t. p (told_session tell t)) live) → find p (map (told_session tell) (s ∷ live)) ≡ option_map (told_session tell) (find (λ t. p (told_session tell t)) (s ∷ live))
  found_step p s live true is rest = rw is refl
  found_step p s live false is rest = rw is rest

  found_told : (p : Session P → Bool) (live : List (Session O)) → find p (map (told_session tell) live) ≡ option_map (told_session tell) (find (λ t. p (told_session tell t)) live)
  found_told p [] = refl
  found_told p (s ∷ live) = found_step p s live (p (told_session tell s)) refl (found_told p live)

  -- what is changed
  changed_step : (n : ℕ) (into : Session P → Session P) (from : Session O → Session O) (s : Session O) → into (told_session tell s) ≡ told_session tell (from s) → (b : Bool) → (s.number == n) ≡ b → (if s.number == n then into (told_session tell s) else told_session tell s) ≡ told_session tell (if s.number == n then from s else s)
  changed_step n into from s same true is = rw is same
  changed_step n into from s same false is = rw is refl

  changed_told : (n : ℕ) (into : Session P → Session P) (from : Session O → Session O) → ((s : Session O) → into (told_session tell s) ≡ told_session tell (from s)) → (live : List (Session O)) → changed n into (map (told_session tell) live) ≡ map (told_session tell) (changed n from live)
  changed_told n into from same [] = refl
  changed_told n into from same (s ∷ live) =
      let here = changed_step n into from s (same s) (s.number == n) refl in
      let rest = changed_told n into from same live in
      cc

  -- what is ended
  ended_step : (n : ℕ) (s : Session O) (live : List (Session O)) (b : Bool) → (s.number == n) ≡ b → filter (λ t. not (t.number == n)) (map (told_session tell) live) ≡ map (told_session tell) (filter (λ t. not (t.number == n)) live) → filter (λ t. not (t.number == n)) (map (told_session tell) (s ∷ live)) ≡ map (told_session tell) (filter (λ t. not (t.number == n)) (s ∷ live))
  ended_step n s live true is rest = rw is rest
  ended_step n s live false is rest = rw is (ap (λ (all : List (Session P)). told_session tell s ∷ all) rest)

  ended_told : (n : ℕ) (live : List (Session O)) → filter (λ t. not (t.number == n)) (map (told_session tell) live) ≡ map (told_session tell) (filter (λ t. not (t.number == n)) live)
  ended_told n [] = refl
  ended_told n (s ∷ live) = ended_step n s live (s.number == n) refl (ended_told n live)

  -- what is answered
  admission_told : (holder : Option (Session O)) (count next : ℕ) → admission (option_map (told_session tell) holder) count next ≡ admission holder count next
  admission_told None count next = refl
  admission_told (Some s) count next = refl

  taking_told : (holder : Option (Session O)) (epoch seq : ℕ) → taking (option_map (told_session tell) holder) epoch seq ≡ taking holder epoch seq
  taking_told None epoch seq = refl
  taking_told (Some s) epoch seq = refl

  lives_told : (holder : Option (Session O)) → is_some (option_map (told_session tell) holder) ≡ is_some holder
  lives_told None = refl
  lives_told (Some s) = refl

  admit_told : (book : Book O) (client : ℕ) → admit_reply (told_book tell book) client ≡ admit_reply book client
  admit_told book client =
      rw (found_told (λ s. s.client_cookie == client) book.live, length-map book.live (told_session tell)) (admission_told (with_client_cookie client book.live) (length book.live) book.next)

  take_told : (book : Book O) (number epoch seq : ℕ) → take_reply (told_book tell book) number epoch seq ≡ take_reply book number epoch seq
  take_told book number epoch seq =
      rw (found_told (λ s. s.number == number) book.live) (taking_told (with_number number book.live) epoch seq)

  -- what stands behind an answer
  behind_told : {X E : Type 0} → (r : Result X E) (into : X → Book P) (from : X → Book O) (old : Book O) → ((x : X) → into x ≡ told_book tell (from x)) → behind r into (told_book tell old) ≡ told_book tell (behind r from old)
  behind_told (Ok x) into from old same = same x
  behind_told (Err e) into from old same = refl

  admitted_told : (book : Book O) (owner : O) (client server global : ℕ) (lossy : Bool) → admitted (told_book tell book) (tell owner) client server global lossy ≡ told_book tell (admitted book owner client server global lossy)
  admitted_told book owner client server global lossy =
      rw (map-append (told_session tell) book.live (opened book.next owner client server global lossy ∷ [])) refl

  module _ (entity_in : P → Name) (gid_in : P → ℕ) where
    resumption_told : (holder : Option (Session O)) (owner : O) (global connect : ℕ) → resumption entity_in gid_in (option_map (told_session tell) holder) (tell owner) global connect ≡ resumption (λ o. entity_in (tell o)) (λ o. gid_in (tell o)) holder owner global connect
    resumption_told None owner global connect = refl
    resumption_told (Some s) owner global connect = refl

    resume_told : (book : Book O) (owner : O) (client server global connect : ℕ) → resume_reply entity_in gid_in (told_book tell book) (tell owner) client server global connect ≡ resume_reply (λ o. entity_in (tell o)) (λ o. gid_in (tell o)) book owner client server global connect
    resume_told book owner client server global connect =
        rw (found_told (λ s. (s.client_cookie == client) && (s.server_cookie == server)) book.live) (resumption_told (with_cookies client server book.live) owner global connect)

    pub reply_told : (book : Book O) (call : BookCall O) → replied entity_in gid_in (told_book tell book) (told_call tell call) ≡ replied (λ o. entity_in (tell o)) (λ o. gid_in (tell o)) book call
    reply_told book (Admit owner client server global lossy) = ap admission_reply (admit_told book client)
    reply_told book (Resume owner client server global connect) =
        ap resumption_reply (resume_told book owner client server global connect)
    reply_told book (Check number epoch seq) = ap message_reply (take_told book number epoch seq)
    reply_told book (Take number epoch seq) = ap message_reply (take_told book number epoch seq)
    reply_told book (End number) =
        rw (found_told (λ s. s.number == number) book.live, lives_told (with_number number book.live)) refl

    pub after_told : (book : Book O) (call : BookCall O) → after entity_in gid_in (told_book tell book) (told_call tell call) ≡ told_book tell (after (λ o. entity_in (tell o)) (λ o. gid_in (tell o)) book call)
    after_told book (Admit owner client server global lossy) =
        rw (admit_told book client) (behind_told (admit_reply book client) _ _ book (λ given. admitted_told book owner client server global lossy))
    after_told book (Resume owner client server global connect) =
        rw (resume_told book owner client server global connect) (behind_told (resume_reply (λ o. entity_in (tell o)) (λ o. gid_in (tell o)) book owner client server global connect) _ _ book (λ given. rw (changed_told given.0 (renewed (tell owner) global connect) (renewed owner global connect) (λ s. refl) book.live) refl))
    after_told book (Check number epoch seq) = refl
    after_told book (Take number epoch seq) =
        rw (take_told book number epoch seq) (behind_told (take_reply book number epoch seq) _ _ book (λ given. rw (changed_told number (raised seq) (raised seq) (λ s. refl) book.live) refl))
    after_told book (End number) = rw (ended_told number book.live) refl

module _ {O : Type 0} (entity_of : O → Name) (gid_of : O → ℕ) (caps_of : O → List ℕ) (reading_of : O → ℕ) where
  pub answers_as_told : AnswersAsTold entity_of gid_of caps_of reading_of
  answers_as_told book call = reply_told (told entity_of gid_of caps_of reading_of) (λ t. t.entity) (λ t. t.gid) book call

  pub changes_as_told : ChangesAsTold entity_of gid_of caps_of reading_of
  changes_as_told book call = after_told (told entity_of gid_of caps_of reading_of) (λ t. t.entity) (λ t. t.gid) book call
