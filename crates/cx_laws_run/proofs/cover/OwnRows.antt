-- What each row of a link to the monitor leaves of one that asks there: its secret; and generations that it enters as fetched are those that were taken of the frame
-- that was read on the open link.
use Rattle.std.proofs.Common.{◌≡◌, ◌==◌, ℕ, Bool, true, false, List, [], ◌∷◌, ◌++◌, Option, Some, None, Result, Ok, Err, refl, ap}
use Rattle.std.specs.Prelude.{not, if◌then◌else◌}
use Rattle.std.specs.List.{AllByRecursion}
use Rattle.cx_base.specs.Names.{is_daemon_type}
use Rattle.cx_control.specs.Auth.{auth_done_layout, auth_reply_more_layout, auth_signature_layout}
use Rattle.cx_control.specs.BadMethod.{bad_method_layout}
use Rattle.cx_control.specs.Hello.{hello_layout}
use Rattle.cx_control.specs.Idents.{ident_missing_features_layout, server_ident_layout}
use Rattle.cx_control.specs.Upkeep.{keepalive2_ack_layout, keepalive2_layout}
use Rattle.cx_control.specs.declared.auth.AuthDone.{AuthDone}
use Rattle.cx_control.specs.declared.auth.AuthReplyMore.{AuthReplyMore}
use Rattle.cx_control.specs.declared.auth.AuthSignature.{AuthSignature}
use Rattle.cx_control.specs.declared.hello.Hello.{Hello}
use Rattle.cx_control.specs.declared.idents.IdentMissingFeatures.{IdentMissingFeatures}
use Rattle.cx_control.specs.declared.idents.ServerIdent.{ServerIdent}
use Rattle.cx_control.specs.declared.upkeep.Keepalive2.{Keepalive2}
use Rattle.cx_control.specs.declared.upkeep.Keepalive2Ack.{Keepalive2Ack}
use Rattle.cx_dice.specs.Draws.{cookie_of}
use Rattle.cx_frame.specs.declared.frame.Frame.{Frame}
use Rattle.cx_journal.specs.declared.entries.Entry.{Entry}
use Rattle.cx_journal.specs.declared.entries.Entry.TheVariants as journal
use Rattle.cx_journal.specs.declared.entries.Fetched.{Fetched}
use Rattle.cx_journal.specs.declared.faults.BytesFault.{BytesFault}
use Rattle.cx_journal.specs.declared.faults.LoginFault.TheVariants.{Mode, SignatureWrong}
use Rattle.cx_journal.specs.declared.outcomes.Reason.{Reason}
use Rattle.cx_journal.specs.declared.outcomes.Reason.TheVariants as reason
use Rattle.cx_laws_run.specs.cx_laws_keys.proofs.keys.Lists.{all-map}
use Rattle.cx_laws_run.specs.cx_login.specs.Unlocking.{login_in}
use Rattle.cx_laws_run.specs.cx_login.specs.declared.client.LoggedIn.{LoggedIn}
use Rattle.cx_laws_run.specs.cx_rules.specs.Connector.{MonClientArrival, MonClientRow, AwaitsBanner, AwaitsHello, AwaitsChallenge, AwaitsDone, AwaitsSignature, AwaitsIdent, Login, Open, Stage, client_ident, holding, identifies, login_request, on_bad_method, on_banner, on_challenge, on_denial, on_done, on_hello, on_login_done, on_missing_features, on_opened, on_reply_more, on_signature, proves, signs, turned_at, while_challenged, while_identified, while_proved}
use Rattle.cx_laws_run.specs.cx_rules.specs.Fronts.{banner_next, keys_behind, opened_parts, plain_next, sealed_ahead, secure_next, secure_read, taking}
use Rattle.cx_laws_run.specs.cx_rules.specs.Greetings.{own_hello}
use Rattle.cx_laws_run.specs.cx_rules.specs.Holdings.{MonClient, held_login, holds_nothing}
use Rattle.cx_laws_run.specs.cx_rules.specs.Payloads.{due, payload}
use Rattle.cx_laws_run.specs.cx_rules.specs.Requests.{Requests, asks_rotating, no_requests, on_open, on_reply, on_server_ident, sealed_request, sends_request, taken, takes}
use Rattle.cx_laws_run.specs.cx_rules.specs.Rows.{Arrival, Row, at, goes_on, plain_sent, refuses, secure_sent, turned_by, with_opened}
use Rattle.cx_laws_run.specs.cx_rules.specs.Secured.{SealedFrame, Secured, is_signed, plain_frame, secure_frame, signature_found, under}
use Rattle.cx_laws_run.specs.cx_rules.specs.Upkeep.{on_keepalive, on_keepalive_ack}
use Rattle.cx_laws_run.specs.cx_rules.specs.declared.requests.Taken.{Taken}
use Rattle.cx_laws_run.specs.cx_rules.specs.declared.requests.Taken.TheVariants as reply
use Rattle.cx_laws_run.specs.cx_rules.specs.declared.requests.Want.{Want}
use Rattle.cx_laws_run.specs.cx_rules.specs.declared.requests.Want.TheVariants as want
use Rattle.cx_laws_run.specs.cx_run.proofs.Taking.{EachRow, each-turned}
use Rattle.cx_secure.specs.declared.refusals.SecureRefusal.{SecureRefusal}
use Rattle.cx_steps.specs.declared.seals.DrawMark.TheVariants as draw
use Rattle.cx_steps.specs.declared.seals.SealEntry.{SealEntry}
use Rattle.cx_steps.specs.declared.seals.SealEntry.TheVariants as entry
use Rattle.cx_laws_run.specs.cx_stream.specs.SecureStreams.{secure_frame_at}
use Rattle.cx_laws_run.specs.cx_wire.specs.declared.bodies.Request.TheVariants as asked
use Rattle.cx_laws_run.specs.cx_wire.specs.declared.logins.LoginDone.{LoginDone}
use Rattle.cx_laws_run.specs.cx_wire.specs.declared.logins.ServerChallenge.{ServerChallenge}

-- what is entered as fetched is so
abbrev pub EntersSo : (Fetched → Type 0) → Entry → Type 0
EntersSo F (journal.Fetched f) = F f
EntersSo F _ = Unit {0}

-- nothing is
abbrev pub NoFetch : Fetched → Type 0
NoFetch f = ⊥

module _ {S : Type 0} (F : Fetched → Type 0) where
  -- a row keeps the secret, and enters nothing else as fetched
  abbrev pub OwnRow : Arrival MonClient S → Row MonClient S → Type 0
  OwnRow a row = (row.own.secret ≡ a.own.secret) × AllByRecursion (EntersSo F) row.entries

  module _ (a : Arrival MonClient S) where
    sent-own : (s : Secured) (stage : Secured → S) (before : List SealEntry) (r : Result SealedFrame BytesFault) → OwnRow a (secure_sent a s stage before r)
    sent-own s stage before (Ok sealed) = (refl, tt)
    sent-own s stage before (Err why) = (refl, (tt, tt))

    plain-own : (stage : S) (before : List SealEntry) (r : Result (List ℕ) BytesFault) → OwnRow a (plain_sent a stage before r)
    plain-own stage before (Ok bytes) = (refl, tt)
    plain-own stage before (Err why) = (refl, (tt, tt))

    pub request-own : (open_with : Secured → Requests → S) (s : Secured) (r : Requests) (wanted : Want) (made : Result SealedFrame Reason) → OwnRow a (sends_request open_with a s r wanted made)
    request-own open_with s r wanted (Ok sealed) = (refl, tt)
    request-own open_with s r wanted (Err why) = (refl, (tt, tt))

    keepalive-own : (s : Secured) (stage : Secured → S) (read : Result Keepalive2 BytesFault) → OwnRow a (on_keepalive a s stage read)
    keepalive-own s stage (Err why) = (refl, (tt, tt))
    keepalive-own s stage (Ok keepalive) = sent-own s stage [] (secure_frame s.keys _)

    ack-own : (s : Secured) (stage : Secured → S) (read : Result Keepalive2Ack BytesFault) → OwnRow a (on_keepalive_ack a s stage read)
    ack-own s stage (Err why) = (refl, (tt, tt))
    ack-own s stage (Ok ack) = (refl, tt)

-- ---- until the link is open

abbrev Own_ : MonClientArrival → MonClientRow → Type 0
Own_ a row = OwnRow NoFetch a row

module _ (a : MonClientArrival) where
  banner-own : (asked_for : ℕ) → Own_ a (on_banner a asked_for)
  banner-own asked_for = plain-own NoFetch a (AwaitsHello asked_for) [] (plain_frame (own_hello a.own.name.kind))

  hello-own : (asked_for : ℕ) (read : Result Hello BytesFault) → Own_ a (on_hello a asked_for read)
  hello-own asked_for (Err why) = (refl, (tt, tt))
  hello-own asked_for (Ok hello) = plain-own NoFetch a (AwaitsChallenge asked_for) [] (plain_frame (login_request a.own))

  denial-own : (code : ℕ) → Own_ a (on_denial a code)
  denial-own code = by_test (code == 13)
    where
      by_test : (t : Bool) → Own_ a (refuses (if t then holding a holds_nothing else a) (reason.Denied code) [])
      by_test true = (refl, (tt, tt))
      by_test false = (refl, (tt, tt))

  bad_method-own : (read : Result (ℕ × (ℕ × (List ℕ × List ℕ))) BytesFault) → Own_ a (on_bad_method a read)
  bad_method-own (Err why) = (refl, (tt, tt))
  bad_method-own (Ok fields) = denial-own _

  proves-own : (server : ℕ) (made : Result (List ℕ) BytesFault) → Own_ a (proves a server made)
  proves-own server (Err why) = (refl, (tt, tt))
  proves-own server (Ok bytes) = (refl, tt)

  challenge-own : (asked_for : ℕ) (read : Result ServerChallenge BytesFault) → Own_ a (on_challenge a asked_for read)
  challenge-own asked_for (Err why) = (refl, (tt, tt))
  challenge-own asked_for (Ok server) = proves-own _ _

  more-own : (asked_for : ℕ) (read : Result AuthReplyMore BytesFault) → Own_ a (on_reply_more a asked_for read)
  more-own asked_for (Err why) = (refl, (tt, tt))
  more-own asked_for (Ok more) = challenge-own asked_for _

  challenged-own : (asked_for : ℕ) (f : Frame) → Own_ a (while_challenged a asked_for f)
  challenged-own asked_for f = by_test (f.tag == 3)
    where
      by_test : (denied : Bool) → Own_ a (if denied then on_bad_method a (payload bad_method_layout.form f) else on_reply_more a asked_for (due 4 auth_reply_more_layout.form f))
      by_test true = bad_method-own (payload bad_method_layout.form f)
      by_test false = more-own asked_for (due 4 auth_reply_more_layout.form f)

  signs-own : (login : Login) (opened : List SealEntry) (made : Result SealedFrame BytesFault) → Own_ a (signs a login opened made)
  signs-own login opened (Err why) = (refl, (tt, tt))
  signs-own login opened (Ok sealed) = (refl, tt)

  opened-own : (gid : ℕ) (opened : List SealEntry) (value : Option LoggedIn) → Own_ a (on_opened a gid opened value)
  opened-own gid opened None = (refl, (tt, tt))
  opened-own gid opened (Some x) = signs-own _ opened _

  done-own : (read : Result AuthDone BytesFault) → Own_ a (on_done a read)
  done-own (Err why) = (refl, (tt, tt))
  done-own (Ok done) = by_test (not (done.mode == 2)) _
    where
      by_login : (read : Result LoginDone BytesFault) → Own_ a (on_login_done a done.gid read)
      by_login (Err why) = (refl, (tt, tt))
      by_login (Ok login) = opened-own done.gid (login_in a.own.secret login).seals (login_in a.own.secret login).value

      by_test : (other : Bool) (read : Result LoginDone BytesFault) → Own_ a (if other then refuses a (reason.Login Mode) [] else on_login_done a done.gid read)
      by_test true read = (refl, (tt, tt))
      by_test false read = by_login read

  proved-own : (f : Frame) → Own_ a (while_proved a f)
  proved-own f = by_test (f.tag == 3)
    where
      by_test : (denied : Bool) → Own_ a (if denied then on_bad_method a (payload bad_method_layout.form f) else on_done a (due 6 auth_done_layout.form f))
      by_test true = bad_method-own (payload bad_method_layout.form f)
      by_test false = done-own (due 6 auth_done_layout.form f)

  identifies-own : (s : Secured) (login : Login) (r : Result SealedFrame BytesFault) (holds : MonClientArrival) (stage : Secured → Stage) (before : List SealEntry) → holds.own.secret ≡ a.own.secret
      → Own_ a (secure_sent holds s stage before r)
  identifies-own s login (Ok sealed) holds stage before same = (same, tt)
  identifies-own s login (Err why) holds stage before same = (same, (tt, tt))

  signature-own : (s : Secured) (login : Login) (read : Result AuthSignature BytesFault) → Own_ a (on_signature a s login read)
  signature-own s login (Err why) = (refl, (tt, tt))
  signature-own s login (Ok found) = by_test (is_signed s found.signature)
    where
      by_test : (right : Bool) → Own_ a (if right then identifies a s login else refuses a (reason.Login SignatureWrong) [])
      by_test true =
          identifies-own s login (secure_frame s.keys (client_ident a.own login.gid 1 (cookie_of a.draw))) (holding a (held_login a.own.holdings login.gid login.opened))
          (λ behind. AwaitsIdent behind login.opened.auth.session) (signature_found s ∷ entry.Drawn (draw.Cookie (cookie_of a.draw)) ∷ []) refl
      by_test false = (refl, (tt, tt))

  ident-own : (s : Secured) (session : List ℕ) (read : Result ServerIdent BytesFault) → Own_ a (on_server_ident Open a s session read)
  ident-own s session (Err why) = (refl, (tt, tt))
  ident-own s session (Ok ident) = by_test (is_daemon_type a.own.name.kind)
    where
      by_test : (daemon : Bool) → Own_ a (if daemon then asks_rotating Open a s (no_requests session) else goes_on a (Open s (no_requests session)) [] [])
      by_test true = request-own NoFetch a Open s (no_requests session) (want.Rotating a.reading) (sealed_request s.keys (no_requests session) asked.Rotating)
      by_test false = (refl, tt)

  missing-own : (read : Result IdentMissingFeatures BytesFault) → Own_ a (on_missing_features a read)
  missing-own (Err why) = (refl, (tt, tt))
  missing-own (Ok missing) = (refl, (tt, tt))

  identified-own : (s : Secured) (session : List ℕ) (f : Frame) → Own_ a (while_identified a s session f)
  identified-own s session f = by_test (f.tag == 10)
    where
      by_test : (lacks : Bool) → Own_ a (if lacks then on_missing_features a (payload ident_missing_features_layout.form f) else on_server_ident Open a s session (due 9 server_ident_layout.form f))
      by_test true = missing-own (payload ident_missing_features_layout.form f)
      by_test false = ident-own s session (due 9 server_ident_layout.form f)

-- ---- an open link

-- these generations were taken of this frame
pub record IsTakenOf (a : MonClientArrival) (r : Requests) (g : Frame) (f : Fetched) : Type 0 where
  pub daemon : f.daemon ≡ a.own.name
  pub opened : List SealEntry
  pub views : taken a.own.secret r g ≡ reply.Views f.asked f.generations opened

takes-own : (a : MonClientArrival) (s : Secured) (r : Requests) (g : Frame) (t : Taken) → taken a.own.secret r g ≡ t → OwnRow (IsTakenOf a r g) a (takes Open a s r t)
takes-own a s r g (reply.Refuses why opened) is = (refl, (tt, tt))
takes-own a s r g (reply.Holds held opened) is = (refl, tt)
takes-own a s r g (reply.Views reading generations opened) is = (refl, (record { daemon = refl; opened = opened; views = is }, tt))

open-own : (a : MonClientArrival) (s : Secured) (r : Requests) (g : Frame) → OwnRow (IsTakenOf a r g) a (on_open Open a s r g)
open-own a s r g = by_tests (g.tag == 18) (g.tag == 19)
  where
    by_tests : (ask ack : Bool) → OwnRow (IsTakenOf a r g) a (if ask then on_keepalive a s (λ behind. Open behind r) (payload keepalive2_layout.form g)
        else if ack then on_keepalive_ack a s (λ behind. Open behind r) (payload keepalive2_ack_layout.form g) else on_reply Open a s r g)
    by_tests true ack = keepalive-own (IsTakenOf a r g) a s (λ behind. Open behind r) (payload keepalive2_layout.form g)
    by_tests false true = ack-own (IsTakenOf a r g) a s (λ behind. Open behind r) (payload keepalive2_ack_layout.form g)
    by_tests false false = takes-own a s r g (taken a.own.secret r g) refl

-- ---- a turn

-- what is fetched at a turn of a link in this stage, which logs these, was taken of the frame that stands next on it, of which each part opened first
pub record FetchedNext (a : MonClientArrival) (s : Secured) (r : Requests) (seals : List SealEntry) (f : Fetched) : Type 0 where
  pub frame : Frame
  pub size : ℕ
  pub read : secure_frame_at (sealed_ahead s.keys a.link) ≡ Ok (Some (frame, size))
  pub taken_of : IsTakenOf a r frame f
  pub rest : List SealEntry
  pub logs : seals ≡ opened_parts (sealed_ahead s.keys a.link) ++ rest

abbrev pub FetchedAt : MonClientArrival → Stage → List SealEntry → Fetched → Type 0
FetchedAt a (Open s r) seals f = FetchedNext a s r seals f
FetchedAt a stage seals f = ⊥

-- so it is of each row
abbrev pub TurnOwn : MonClientArrival → Stage → MonClientRow → Type 0
TurnOwn a stage row = OwnRow (FetchedAt a stage row.seals) a row

pub turn-own : (a : MonClientArrival) (stage : Stage) → EachRow (TurnOwn a stage) (turned_at a stage)
turn-own a (AwaitsBanner asked_for) =
    each-turned (TurnOwn a (AwaitsBanner asked_for)) (λ link _. on_banner (at a link) asked_for) (λ link opened. banner-own (at a link) asked_for) (banner_next a.link)
turn-own a (AwaitsHello asked_for) =
    each-turned (TurnOwn a (AwaitsHello asked_for)) (λ (link, f) _. on_hello (at a link) asked_for (due 1 hello_layout.form f))
    (λ (link, f) opened. hello-own (at a link) asked_for (due 1 hello_layout.form f)) (plain_next a.link)
turn-own a (AwaitsChallenge asked_for) =
    each-turned (TurnOwn a (AwaitsChallenge asked_for)) (λ (link, f) _. while_challenged (at a link) asked_for f) (λ (link, f) opened. challenged-own (at a link) asked_for f) (plain_next a.link)
turn-own a AwaitsDone = each-turned (TurnOwn a AwaitsDone) (λ (link, f) _. while_proved (at a link) f) (λ (link, f) opened. proved-own (at a link) f) (plain_next a.link)
turn-own a (AwaitsSignature s login) =
    each-turned (TurnOwn a (AwaitsSignature s login)) (λ (link, f, keys) opened. with_opened opened (on_signature (at a link) (under s keys) login (due 7 auth_signature_layout.form f)))
    (λ (link, f, keys) opened. signature-own (at a link) (under s keys) login (due 7 auth_signature_layout.form f)) (secure_next s.keys a.link)
turn-own a (AwaitsIdent s session) =
    each-turned (TurnOwn a (AwaitsIdent s session)) (λ (link, f, keys) opened. with_opened opened (while_identified (at a link) (under s keys) session f))
    (λ (link, f, keys) opened. identified-own (at a link) (under s keys) session f) (secure_next s.keys a.link)
turn-own a (Open s r) = by_read (opened_parts (sealed_ahead s.keys a.link)) refl (secure_frame_at (sealed_ahead s.keys a.link)) refl
  where
    entered : (g : Frame) (m : ℕ) → secure_frame_at (sealed_ahead s.keys a.link) ≡ Ok (Some (g, m)) → (rest seals : List SealEntry) → seals ≡ opened_parts (sealed_ahead s.keys a.link) ++ rest
        → (e : Entry) → EntersSo (IsTakenOf (at a (taking a.link m)) r g) e → EntersSo (FetchedAt a (Open s r) seals) e
    entered g m is rest seals logs (journal.Fetched f) h =
        record { frame = g; size = m; read = is; taken_of = record { daemon = h.daemon; opened = h.opened; views = h.views }; rest = rest; logs = logs }
    entered g m is rest seals logs _ h = tt

    by_read : (opened : List SealEntry) → opened ≡ opened_parts (sealed_ahead s.keys a.link) → (read : Result (Option (Frame × ℕ)) SecureRefusal) → secure_frame_at (sealed_ahead s.keys a.link) ≡ read
        → EachRow (TurnOwn a (Open s r)) (turned_by (λ (link, f, keys) before. with_opened before (on_open Open (at a link) (under s keys) r f)) (secure_read s.keys a.link opened read))
    by_read opened same (Ok None) is = tt
    by_read opened same (Ok (Some (g, m))) is =
        let b : MonClientArrival = at a (taking a.link m) in
        let row : MonClientRow = on_open Open b (under s (keys_behind s.keys g)) r g in
        let h = open-own b (under s (keys_behind s.keys g)) r g in
        let logs : opened ++ row.seals ≡ opened_parts (sealed_ahead s.keys a.link) ++ row.seals = ap (λ (es : List SealEntry). es ++ row.seals) same in (
          h.0,
          all-map (EntersSo (IsTakenOf b r g)) (EntersSo (FetchedAt a (Open s r) (opened ++ row.seals))) (entered g m is row.seals (opened ++ row.seals) logs) row.entries h.1,
        )
    by_read opened same (Err e) is = tt
