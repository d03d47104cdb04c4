-- What each turn of an incoming link comes to for a daemon's sessions, with the replies of its book.
use Rattle.std.proofs.Common.{◌≡◌, ℕ, ◌==◌, Bool, true, false, List, [], ◌∷◌, Result, Ok, Err, inl, inr, refl, subst, sym}
use Rattle.std.specs.Prelude.{if◌then◌else◌}
use Rattle.std.specs.List.{AllByRecursion}
use Rattle.cx_base.specs.Names.{Name}
use Rattle.cx_control.specs.Auth.{auth_request_layout, auth_request_more_layout, auth_signature_layout}
use Rattle.cx_control.specs.Hello.{hello_layout}
use Rattle.cx_control.specs.Idents.{client_ident_layout, ident_missing_features_layout}
use Rattle.cx_control.specs.Reconnects.{session_reconnect_layout}
use Rattle.cx_control.specs.Upkeep.{keepalive2_layout, keepalive2_ack_layout}
use Rattle.cx_control.specs.declared.idents.ClientIdent.{ClientIdent}
use Rattle.cx_control.specs.declared.reconnects.SessionReconnect.{SessionReconnect}
use Rattle.cx_control.specs.declared.upkeep.Keepalive2.{Keepalive2}
use Rattle.cx_control.specs.declared.upkeep.Keepalive2Ack.{Keepalive2Ack}
use Rattle.cx_desk.specs.Handlers.{Handlers}
use Rattle.cx_dice.specs.Draws.{cookie_of}
use Rattle.cx_frame.specs.declared.frame.Frame.{Frame}
use Rattle.cx_journal.specs.declared.faults.BytesFault.{BytesFault}
use Rattle.cx_journal.specs.declared.faults.BytesFault.TheVariants.{Unexpected}
use Rattle.cx_journal.specs.declared.faults.SessionFault.TheVariants as session
use Rattle.cx_journal.specs.declared.outcomes.Outcome.{Outcome}
use Rattle.cx_journal.specs.declared.outcomes.Reason.{Reason}
use Rattle.cx_journal.specs.declared.outcomes.Reason.TheVariants as reason
use Rattle.cx_laws_sessions.proofs.session.Books.{admit-given, admitted-lasts, admitted-lives, resume-given, resumed-lasts, resumed-lives, take-given, taken-lasts, taken-same}
use Rattle.cx_laws_sessions.proofs.session.Keeping.{still-book}
use Rattle.cx_laws_sessions.proofs.session.Lists.{all-map}
use Rattle.cx_laws_sessions.proofs.session.Moves.{Admitting, Comes, HasServed, IsQuiet, IsRight, IsServedAs, LinkServes, Rested, Resuming, StillBook, quiet-right}
use Rattle.cx_run.proofs.IncomingWalk.{ClosesEarly, banner-so, hello-so, more-so, request-so, signature-so}
use Rattle.cx_run.proofs.Taking.{EachRow, each-turned}
use Rattle.cx_run.specs.cx_authorize.specs.Daemon.{Authority}
use Rattle.cx_run.specs.cx_rules.specs.Acceptor.{AwaitsBanner, AwaitsHello, AwaitsRequest, AwaitsProof, AwaitsSignature, AwaitsIdent, Open, missing_told, misses, on_auth_request, on_banner, on_hello, on_signature, server_ident}
use Rattle.cx_run.specs.cx_rules.specs.Fronts.{Front, NotYet, Broken, Next, banner_next, plain_next, secure_next}
use Rattle.cx_run.specs.cx_rules.specs.Holdings.{MonClient}
use Rattle.cx_run.specs.cx_rules.specs.Messages.{acknowledgement, message_in, secure_frames}
use Rattle.cx_run.specs.cx_rules.specs.MonitorRule.{session_reset}
use Rattle.cx_run.specs.cx_rules.specs.Payloads.{control, due, payload}
use Rattle.cx_run.specs.cx_rules.specs.Rows.{Turned, Waits, Refuses, Handles, at, refused_entry, refuses, refuses_bytes, secure_sent, sends_secure, turned_by, with_opened}
use Rattle.cx_run.specs.cx_rules.specs.Secured.{SealedFrame, Secured, secure_frame, under}
use Rattle.cx_run.specs.cx_rules.specs.Upkeep.{on_keepalive, on_keepalive_ack}
use Rattle.cx_run.specs.cx_rules_session.specs.Asks.{Asks, Finished, Asking, asks_map, with_book}
use Rattle.cx_run.specs.cx_rules_session.specs.DaemonRule.{book_after, book_reply, owner_entity, owner_gid}
use Rattle.cx_run.specs.cx_rules_session.specs.IncomingLinks.{IncomingArrival, IncomingRow, IncomingStage, Served, on_auth_request_more, on_first}
use Rattle.cx_run.specs.cx_rules_session.specs.Hosting.{Deciding, Hosted, Instruction, answer_message, admission_of, admits, asks_admission, comes_to, cookie_drawn, decided_by, incoming_turned, handles, hosted_behind, instruction_of, on_admission, on_checked, on_client_ident, on_ident, on_message, on_open, on_reconnect, on_resumption, on_taken, on_untaken, outcome_of, reconnect_ok, resumes, served_as, session_retry, session_retry_global, tells_why, turned_behind}
use Rattle.cx_run.specs.cx_rules_session.specs.Kinds.{entered_before}
use Rattle.cx_run.specs.cx_rules_session.specs.Lossy.{is_lossy, lossy_flags}
use Rattle.cx_run.specs.cx_steps.specs.declared.seals.SealEntry.{SealEntry}
use Rattle.cx_session.specs.Answers.{admission_reply, behind, message_reply, refused_message, resumption_reply}
use Rattle.cx_session.specs.Book.{Book, admit_reply, admitted, resume_reply, resumed, take_reply, taken}
use Rattle.cx_session.specs.declared.call.BookCall.{BookCall}
use Rattle.cx_session.specs.declared.call.BookReply.{BookReply}
use Rattle.cx_session.specs.declared.faults.AdmitFault.{AdmitFault}
use Rattle.cx_session.specs.declared.faults.AdmitFault.TheVariants as admit
use Rattle.cx_session.specs.declared.faults.ResumeFault.{ResumeFault}
use Rattle.cx_session.specs.declared.faults.ResumeFault.TheVariants as resume
use Rattle.cx_session.specs.declared.faults.TakeRefusal.{TakeRefusal}
use Rattle.cx_session.specs.declared.faults.TakeRefusal.TheVariants as message

-- ---- rows

-- a row enters nothing of sessions, and its link keeps what it had of them
abbrev pub StillRow : (Served → Type 0) → IncomingRow → Type 0
StillRow had row = AllByRecursion IsQuiet row.entries × ((x : Served) → LinkServes row.link x → had x)

-- it has none of them
abbrev IsBare : IncomingRow → Type 0
IsBare row = StillRow (λ (x : Served). ⊥) row

secure-still : (had : Served → Type 0) (a : IncomingArrival) (s : Secured) (stage : Secured → IncomingStage) → ((k : Secured) (x : Served) → HasServed (stage k) x → had x)
    → (seals : List SealEntry) (r : Result SealedFrame BytesFault) → StillRow had (secure_sent a s stage seals r)
secure-still had a s stage has seals (Ok sealed) = (tt, λ x here. has (record s { keys = sealed.keys }) x here)
secure-still had a s stage has seals (Err why) = ((tt, tt), λ x here. absurd here)

-- until the daemon signs, a link has none of them
abbrev Bare : IncomingArrival → IncomingRow → Type 0
Bare a row = IsBare row

closes-bare : ClosesEarly Bare
closes-bare = record {
  shut = λ a why seals. ((tt, tt), λ x here. absurd here);
  denied = λ a code why seals. ((tt, tt), λ x here. absurd here);
  greeted = λ a bytes. (tt, λ x here. absurd here);
  heard = λ a. (tt, λ x here. absurd here);
  challenged = λ a awaited bytes seals. (tt, λ x here. absurd here);
  authorized = λ a s owner bytes seals. (tt, λ x here. absurd here);
  looked = λ a row h. ((tt, h.0), h.1);
}

signature-bare : (a : IncomingArrival) (s : Secured) (owner : Authority) (f : Frame) → IsBare (on_signature a s owner (due 7 auth_signature_layout.form f))
signature-bare a s owner f =
    signature-so a s owner f IsBare (record { shut = λ why by. ((tt, tt), λ x here. absurd here); waits = λ tag. (tt, λ x here. absurd here) })

-- ---- with a book

abbrev pub TurnComes : Handlers → Name → Book Authority → (Served → Type 0) → Turned MonClient IncomingStage → Book Authority → Type 0
TurnComes handlers name book had Waits new = StillBook book new
TurnComes handlers name book had (Refuses why opened) new = StillBook book new
TurnComes handlers name book had (Handles row) new = Comes handlers name book had (LinkServes row.link) row.entries new

abbrev pub HostedComes : Handlers → Name → Book Authority → (Served → Type 0) → Hosted × Book Authority → Type 0
HostedComes handlers name book had (hosted, new) = TurnComes handlers name book had hosted.turned new

-- what is made of what a rule comes to
pub with-map : {X Y : Type 0} (f : X → Y) (book : Book Authority) (rule : Asks (BookCall Authority) BookReply X) →
    let p = with_book book_reply book_after book rule in with_book book_reply book_after book (asks_map f rule) ≡ (f p.0, p.1)
with-map f book (Finished x) = refl
with-map f book (Asking call next) = with-map f (book_after book call) (next (book_reply book call))

module _ (handlers : Handlers) (name : Name) (book : Book Authority) (had : Served → Type 0) where
  abbrev RuleComes : Deciding Hosted → Type 0
  RuleComes rule = HostedComes handlers name book had (with_book book_reply book_after book rule)

  -- a row that opens and ends no session
  still-comes : (new : Book Authority) → StillBook book new → (row : IncomingRow) → StillRow had row → TurnComes handlers name book had (Handles row) new
  still-comes new same row h =
      Rested (record {
        book_is = same.0;
        keeps = h.1;
        right = all-map IsQuiet (IsRight handlers name book had) (quiet-right handlers name book had) row.entries h.0;
        takes = inl (record { quiet = h.0; lasts = same.1 });
      })

  each-comes : (turned : Turned MonClient IncomingStage) → EachRow (StillRow had) turned → TurnComes handlers name book had turned book
  each-comes Waits h = still-book book
  each-comes (Refuses why opened) h = still-book book
  each-comes (Handles row) h = still-comes book (still-book book) row h

  behind-comes : (opened : List SealEntry) (p : Hosted × Book Authority) → HostedComes handlers name book had p → HostedComes handlers name book had (hosted_behind opened p.0, p.1)
  behind-comes opened (hosted, new) = by_turned hosted.turned
    where
      by_turned : (turned : Turned MonClient IncomingStage) → TurnComes handlers name book had turned new → TurnComes handlers name book had (turned_behind opened turned) new
      by_turned Waits h = h
      by_turned (Refuses why broken) h = h
      by_turned (Handles row) h = h

  decided-comes : {X : Type 0} (decide : X → Deciding Hosted) → ((x : X) → RuleComes (decide x)) → (front : Front X) → RuleComes (decided_by decide front)
  decided-comes decide each NotYet = still-book book
  decided-comes decide each (Broken why opened) = still-book book
  decided-comes decide each (Next x opened) =
      subst (HostedComes handlers name book had) (sym (with-map (hosted_behind opened) book (decide x)))
      (behind-comes opened (with_book book_reply book_after book (decide x)) (each x))

-- ---- idents and reconnections

module _ (handlers : Handlers) (book : Book Authority) (a : IncomingArrival) (s : Secured) (owner : Authority) where
  abbrev none_had : Served → Type 0
  none_had x = ⊥

  abbrev Becomes : Hosted × Book Authority → Type 0
  Becomes p = HostedComes handlers a.own.name book none_had p

  abbrev Decides : Deciding Hosted → Type 0
  Decides rule = Becomes (with_book book_reply book_after book rule)

  bare-comes : (row : IncomingRow) → IsBare row → TurnComes handlers a.own.name book none_had (Handles row) book
  bare-comes row h = still-comes handlers a.own.name book none_had book (still-book book) row h

  refused-comes : (why : Reason) (seals : List SealEntry) → TurnComes handlers a.own.name book none_had (Handles (refuses a why seals)) book
  refused-comes why seals = bare-comes (refuses a why seals) ((tt, tt), λ x here. absurd here)

  -- what is kept of a session that opens on its link
  served-opens : (number epoch cookie : ℕ) (lossy : Bool) (seals : List SealEntry) (r : Result SealedFrame BytesFault)
      → StillRow (λ (x : Served). served_as owner number epoch cookie lossy ≡ x) (secure_sent a s (λ behind. Open behind (served_as owner number epoch cookie lossy)) seals r)
  served-opens number epoch cookie lossy seals r =
      secure-still (λ (x : Served). served_as owner number epoch cookie lossy ≡ x) a s (λ behind. Open behind (served_as owner number epoch cookie lossy)) (λ k x is. is) seals r

  is-served : (number epoch cookie : ℕ) (lossy : Bool) (x : Served) → served_as owner number epoch cookie lossy ≡ x → IsServedAs (admission_of a owner number epoch cookie) x
  is-served number epoch cookie lossy x is =
      subst (IsServedAs (admission_of a owner number epoch cookie)) is (record { number = refl; epoch = refl; cookie = refl; caps = refl })

  module _ (ident : ClientIdent) where
    abbrev book_admitted : Book Authority
    book_admitted = admitted book owner ident.cookie (cookie_of a.draw) ident.global_seq (is_lossy ident.flags)

    admits-comes : (number epoch : ℕ) → number ≡ book.next → epoch ≡ 1 → TurnComes handlers a.own.name book none_had (Handles (admits a s owner ident number epoch)) book_admitted
    admits-comes number epoch next first =
        let r = secure_frame s.keys (server_ident a.own.address (lossy_flags (is_lossy ident.flags)) (cookie_of a.draw)) in
        let h = served-opens number epoch ident.cookie (is_lossy ident.flags) (cookie_drawn a ∷ []) r in
        Admitting (record {
          admitted = admission_of a owner number epoch ident.cookie;
          rest = _;
          entries_are = refl;
          quiet = h.0;
          daemon = refl;
          session = next;
          next = refl;
          lives = admitted-lives book owner ident.cookie (cookie_of a.draw) ident.global_seq (is_lossy ident.flags) (admission_of a owner number epoch ident.cookie)
              (record { epoch = first; cookie = refl; entity = refl; gid = refl; caps = refl });
          lasts = admitted-lasts book owner ident.cookie (cookie_of a.draw) ident.global_seq (is_lossy ident.flags);
          keeps = λ x here. inr (is-served number epoch ident.cookie (is_lossy ident.flags) x (h.1 x here));
        })

    admission-comes : Decides (asks_admission a s owner ident)
    admission-comes = by_reply (admit_reply book ident.cookie) refl
      where
        by_reply : (r : Result (ℕ × ℕ) AdmitFault) → admit_reply book ident.cookie ≡ r
            → Becomes (with_book book_reply book_after (behind r (λ _. book_admitted) book) (on_admission a s owner ident (admission_reply r)))
        by_reply (Ok given) is = let g = admit-given book ident.cookie given is in admits-comes given.0 given.1 g.0 g.1
        by_reply (Err (admit.CookieInUse number)) is = refused-comes (reason.Session (session.CookieInUse number)) (cookie_drawn a ∷ [])
        by_reply (Err (admit.BookFull limit)) is = refused-comes (reason.Session session.BookFull) (cookie_drawn a ∷ [])
        by_reply (Err admit.Spent) is = refused-comes reason.Spent (cookie_drawn a ∷ [])
        by_reply (Err admit.OutOfMemory) is = still-book book

  missing-comes : (features : ℕ) (r : Result SealedFrame BytesFault) → TurnComes handlers a.own.name book none_had (Handles (missing_told a features r)) book
  missing-comes features (Err why) = bare-comes (missing_told a features (Err why)) ((tt, tt), λ x here. absurd here)
  missing-comes features (Ok sealed) = bare-comes (missing_told a features (Ok sealed)) ((tt, tt), λ x here. absurd here)

  client_ident-comes : (read : Result ClientIdent BytesFault) → Decides (on_client_ident a s owner read)
  client_ident-comes (Err why) = refused-comes (reason.Bytes why) []
  client_ident-comes (Ok ident) = by_test (ident.required == 0)
    where
      by_test : (plain : Bool) → Decides (if plain then asks_admission a s owner ident else comes_to (misses a s ident.required))
      by_test true = admission-comes ident
      by_test false = missing-comes ident.required (secure_frame s.keys (control 10 ident_missing_features_layout.form (record { features = ident.required })))

  told-comes : (why : Reason) (f : Frame) → Decides (tells_why a s owner why f)
  told-comes why f =
      let h = secure-still none_had a s (λ behind. AwaitsIdent behind owner) (λ k x here. here) [] (secure_frame s.keys f) in
      bare-comes (entered_before (refused_entry a.me a.link.number why) (sends_secure a s (λ behind. AwaitsIdent behind owner) [] f)) ((tt, h.0), h.1)

  module _ (reconnect : SessionReconnect) where
    resumes-comes : (given : ℕ × ℕ × ℕ × Bool)
        → resume_reply owner_entity owner_gid book owner reconnect.client_cookie reconnect.server_cookie reconnect.global_seq reconnect.connect_seq ≡ Ok given
        → TurnComes handlers a.own.name book none_had (Handles (resumes a s owner reconnect given.0 given.1 given.2 given.3))
        (resumed book given.0 owner reconnect.global_seq reconnect.connect_seq)
    resumes-comes given is =
        let h = served-opens given.0 given.1 reconnect.client_cookie given.3 [] (secure_frame s.keys (reconnect_ok given.2)) in
        let g = resume-given owner_entity owner_gid book owner reconnect.client_cookie reconnect.server_cookie reconnect.global_seq reconnect.connect_seq given is in
        Resuming (record {
          resumed = admission_of a owner given.0 given.1 reconnect.client_cookie;
          rest = _;
          entries_are = refl;
          quiet = h.0;
          daemon = refl;
          old = g.old;
          lived = g.lived;
          number = g.number;
          cookie = g.cookie;
          entity = sym g.entity;
          epoch = g.epoch;
          next = refl;
          lives = resumed-lives book given.0 owner reconnect.global_seq reconnect.connect_seq (admission_of a owner given.0 given.1 reconnect.client_cookie) refl refl refl refl;
          lasts = resumed-lasts book given.0 owner reconnect.global_seq reconnect.connect_seq;
          keeps = λ x here. inr (is-served given.0 given.1 reconnect.client_cookie given.3 x (h.1 x here));
        })

    resumption-comes : Decides (on_reconnect a s owner (Ok reconnect))
    resumption-comes = by_reply (resume_reply owner_entity owner_gid book owner reconnect.client_cookie reconnect.server_cookie reconnect.global_seq reconnect.connect_seq) refl
      where
        by_reply : (r : Result (ℕ × ℕ × ℕ × Bool) ResumeFault)
            → resume_reply owner_entity owner_gid book owner reconnect.client_cookie reconnect.server_cookie reconnect.global_seq reconnect.connect_seq ≡ r
            → Becomes (with_book book_reply book_after (behind r (λ given. resumed book given.0 owner reconnect.global_seq reconnect.connect_seq) book)
            (on_resumption a s owner reconnect (resumption_reply r)))
        by_reply (Ok given) is = resumes-comes given is
        by_reply (Err resume.Unknown) is = told-comes (reason.Session session.UnknownSession) session_reset
        by_reply (Err (resume.OwnerDiffers entity gid)) is = told-comes (reason.Session (session.OwnerDiffers entity gid)) session_reset
        by_reply (Err (resume.StaleConnect kept)) is = told-comes (reason.Session (session.StaleConnect kept)) (session_retry kept)
        by_reply (Err (resume.StaleGlobal kept)) is = told-comes (reason.Session (session.StaleGlobal kept)) (session_retry_global kept)
        by_reply (Err resume.Spent) is = told-comes reason.Spent session_reset
        by_reply (Err resume.OutOfMemory) is = still-book book

  reconnect-comes : (read : Result SessionReconnect BytesFault) → Decides (on_reconnect a s owner read)
  reconnect-comes (Err why) = refused-comes (reason.Bytes why) []
  reconnect-comes (Ok reconnect) = resumption-comes reconnect

  ident-comes : (f : Frame) → Decides (on_ident a s owner f)
  ident-comes f = by_tests (f.tag == 8) (f.tag == 11)
    where
      by_tests : (client again : Bool) → Decides (if client then on_client_ident a s owner (payload client_ident_layout.form f)
          else if again then on_reconnect a s owner (payload session_reconnect_layout.form f) else comes_to (refuses_bytes a (Unexpected f.tag) []))
      by_tests true again = client_ident-comes (payload client_ident_layout.form f)
      by_tests false true = reconnect-comes (payload session_reconnect_layout.form f)
      by_tests false false = refused-comes (reason.Bytes (Unexpected f.tag)) []

-- ---- messages

module _ (handlers : Handlers) (book : Book Authority) (a : IncomingArrival) (s : Secured) (served : Served) where
  abbrev served_had : Served → Type 0
  served_had x = served ≡ x

  abbrev BecomesOpen : Hosted × Book Authority → Type 0
  BecomesOpen p = HostedComes handlers a.own.name book served_had p

  abbrev DecidesOpen : Deciding Hosted → Type 0
  DecidesOpen rule = BecomesOpen (with_book book_reply book_after book rule)

  open-comes : (row : IncomingRow) → StillRow served_had row → TurnComes handlers a.own.name book served_had (Handles row) book
  open-comes row h = still-comes handlers a.own.name book served_had book (still-book book) row h

  shut-comes : (why : Reason) (seals : List SealEntry) → TurnComes handlers a.own.name book served_had (Handles (refuses a why seals)) book
  shut-comes why seals = open-comes (refuses a why seals) ((tt, tt), λ x here. absurd here)

  sends-still : (seals : List SealEntry) (r : Result SealedFrame BytesFault) → StillRow served_had (secure_sent a s (λ behind. Open behind served) seals r)
  sends-still seals r = secure-still served_had a s (λ behind. Open behind served) (λ k x is. is) seals r

  module _ (i : Instruction) where
    handles-comes : (u : Unit {0}) → take_reply book served.number served.epoch i.seq ≡ Ok u
        → TurnComes handlers a.own.name book served_had (Handles (handles a s served i (outcome_of handlers served.caps i.operation))) (taken book served.number i.seq)
    handles-comes u is =
        let outcome : Outcome = outcome_of handlers served.caps i.operation in
        let g = take-given book served.number served.epoch i.seq u is in
        let h = sends-still [] (secure_frames s.keys (answer_message i outcome ∷ acknowledgement i.seq ∷ [])) in
        Rested (record {
          book_is = taken-same book served.number i.seq;
          keeps = h.1;
          right = (
            record {
              served = served;
              had_it = refl;
              live = g.live;
              lives = g.lives;
              number = g.number;
              epoch = g.epoch;
              daemon = refl;
              session = refl;
              epoch_is = refl;
              cookie = refl;
              outcome = refl;
            },
            all-map IsQuiet (IsRight handlers a.own.name book served_had) (quiet-right handlers a.own.name book served_had) _ h.0,
          );
          takes = inr (record {
            handled = _;
            rest = _;
            entries_are = refl;
            quiet = h.0;
            daemon = refl;
            live = g.live;
            lives = g.lives;
            number = g.number;
            seq = g.next;
            lasts = taken-lasts book served.number i.seq;
          });
        })

    untaken-comes : (why : TakeRefusal) → BecomesOpen (with_book book_reply book_after book (on_untaken a s served (refused_message why)))
    untaken-comes (message.Stale epoch) = shut-comes (reason.Session (session.Stale epoch)) []
    untaken-comes (message.Repeat last) =
        open-comes (sends_secure a s (λ behind. Open behind served) [] (acknowledgement last)) (sends-still [] (secure_frame s.keys (acknowledgement last)))
    untaken-comes (message.Gap expected) = shut-comes (reason.Session (session.Gap expected)) []

    -- what is checked is taken, since the book is the same
    checked-comes : DecidesOpen (on_message handlers a s served (Ok i))
    checked-comes = by_reply (take_reply book served.number served.epoch i.seq) refl
      where
        by_reply : (r : Result (Unit {0}) TakeRefusal) → take_reply book served.number served.epoch i.seq ≡ r
            → BecomesOpen (with_book book_reply book_after book (on_checked handlers a s served i (message_reply r)))
        by_reply (Ok u) is =
            subst (λ (r : Result (Unit {0}) TakeRefusal). BecomesOpen (with_book book_reply book_after (behind r (λ _. taken book served.number i.seq) book)
            (on_taken handlers a s served i (message_reply r)))) (sym is) (handles-comes u is)
        by_reply (Err (message.Stale epoch)) is = untaken-comes (message.Stale epoch)
        by_reply (Err (message.Repeat last)) is = untaken-comes (message.Repeat last)
        by_reply (Err (message.Gap expected)) is = untaken-comes (message.Gap expected)

  message-comes : (read : Result Instruction BytesFault) → DecidesOpen (on_message handlers a s served read)
  message-comes (Err why) = shut-comes (reason.Bytes why) []
  message-comes (Ok i) = checked-comes i

  asked-still : (read : Result Keepalive2 BytesFault) → StillRow served_had (on_keepalive a s (λ behind. Open behind served) read)
  asked-still (Err why) = ((tt, tt), λ x here. absurd here)
  asked-still (Ok keepalive) = sends-still [] (secure_frame s.keys (control 19 keepalive2_ack_layout.form (record { time = keepalive.time })))

  acknowledged-still : (read : Result Keepalive2Ack BytesFault) → StillRow served_had (on_keepalive_ack a s (λ behind. Open behind served) read)
  acknowledged-still (Err why) = ((tt, tt), λ x here. absurd here)
  acknowledged-still (Ok ack) = (tt, λ x here. here)

  frame-comes : (f : Frame) → DecidesOpen (on_open handlers a s served f)
  frame-comes f = by_tests (f.tag == 18) (f.tag == 19)
    where
      by_tests : (ask ack : Bool) → DecidesOpen (if ask then comes_to (on_keepalive a s (λ behind. Open behind served) (payload keepalive2_layout.form f))
          else if ack then comes_to (on_keepalive_ack a s (λ behind. Open behind served) (payload keepalive2_ack_layout.form f))
          else on_message handlers a s served (instruction_of (message_in f)))
      by_tests true ack =
          open-comes (on_keepalive a s (λ behind. Open behind served) (payload keepalive2_layout.form f)) (asked-still (payload keepalive2_layout.form f))
      by_tests false true =
          open-comes (on_keepalive_ack a s (λ behind. Open behind served) (payload keepalive2_ack_layout.form f)) (acknowledged-still (payload keepalive2_ack_layout.form f))
      by_tests false false = message-comes (instruction_of (message_in f))

-- ---- a turn

pub incoming-comes : (handlers : Handlers) (book : Book Authority) (a : IncomingArrival) (stage : IncomingStage)
    → HostedComes handlers a.own.name book (HasServed stage) (with_book book_reply book_after book (incoming_turned handlers a stage))
incoming-comes handlers book a AwaitsBanner =
    each-comes handlers a.own.name book (λ (x : Served). ⊥) (turned_by (λ link _. on_banner a.own.name.kind (at a link)) (banner_next a.link))
    (each-turned IsBare (λ link _. on_banner a.own.name.kind (at a link)) (λ link opened. banner-so Bare closes-bare (at a link)) (banner_next a.link))
incoming-comes handlers book a AwaitsHello =
    each-comes handlers a.own.name book (λ (x : Served). ⊥) (turned_by (λ (link, f) _. on_hello (at a link) (due 1 hello_layout.form f)) (plain_next a.link))
    (each-turned IsBare (λ (link, f) _. on_hello (at a link) (due 1 hello_layout.form f)) (λ (link, f) opened. hello-so Bare closes-bare (at a link) (due 1 hello_layout.form f)) (plain_next a.link))
incoming-comes handlers book a AwaitsRequest =
    each-comes handlers a.own.name book (λ (x : Served). ⊥) (turned_by (λ (link, f) _. on_auth_request on_first (at a link) (due 2 auth_request_layout.form f)) (plain_next a.link))
    (each-turned IsBare (λ (link, f) _. on_auth_request on_first (at a link) (due 2 auth_request_layout.form f))
    (λ (link, f) opened. request-so Bare closes-bare (at a link) (due 2 auth_request_layout.form f)) (plain_next a.link))
incoming-comes handlers book a (AwaitsProof awaited) =
    each-comes handlers a.own.name book (λ (x : Served). ⊥) (turned_by (λ (link, f) _. on_auth_request_more (at a link) awaited (due 5 auth_request_more_layout.form f)) (plain_next a.link))
    (each-turned IsBare (λ (link, f) _. on_auth_request_more (at a link) awaited (due 5 auth_request_more_layout.form f))
    (λ (link, f) opened. more-so Bare closes-bare (at a link) awaited (due 5 auth_request_more_layout.form f)) (plain_next a.link))
incoming-comes handlers book a (AwaitsSignature s owner) =
    each-comes handlers a.own.name book (λ (x : Served). ⊥) (turned_by (λ (link, f, keys) opened. with_opened opened (on_signature (at a link) (under s keys) owner (due 7 auth_signature_layout.form f))) (secure_next s.keys a.link))
    (each-turned IsBare (λ (link, f, keys) opened. with_opened opened (on_signature (at a link) (under s keys) owner (due 7 auth_signature_layout.form f)))
    (λ (link, f, keys) opened. signature-bare (at a link) (under s keys) owner f) (secure_next s.keys a.link))
incoming-comes handlers book a (AwaitsIdent s owner) =
    decided-comes handlers a.own.name book (λ (x : Served). ⊥) (λ (link, f, keys). on_ident (at a link) (under s keys) owner f)
    (λ (link, f, keys). ident-comes handlers book (at a link) (under s keys) owner f) (secure_next s.keys a.link)
incoming-comes handlers book a (Open s served) =
    decided-comes handlers a.own.name book (λ (x : Served). served ≡ x) (λ (link, f, keys). on_open handlers (at a link) (under s keys) served f)
    (λ (link, f, keys). frame-comes handlers book (at a link) (under s keys) served f) (secure_next s.keys a.link)
