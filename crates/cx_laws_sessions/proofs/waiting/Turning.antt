-- What a turn of a client's link to a daemon makes of the session with that daemon, by what is heard on the link; and the link that goes on is for that session.
use Rattle.std.proofs.Common.{List, [], Option}
use Rattle.cx_control.specs.Auth.{auth_signature_layout}
use Rattle.cx_control.specs.Hello.{hello_layout}
use Rattle.cx_control.specs.Idents.{server_ident_layout}
use Rattle.cx_frame.specs.declared.frame.Frame.{Frame}
use Rattle.cx_laws_sessions.proofs.queues.Sessions.{HeldIs}
use Rattle.cx_laws_sessions.specs.cx_rules.specs.Fronts.{Front, NotYet, Broken, Next, banner_next, plain_next, secure_next}
use Rattle.cx_laws_sessions.specs.cx_rules.specs.Links.{Link}
use Rattle.cx_laws_sessions.specs.cx_rules.specs.Messages.{on_upkeep_or}
use Rattle.cx_laws_sessions.specs.cx_rules.specs.Payloads.{due}
use Rattle.cx_laws_sessions.specs.cx_rules.specs.Rows.{Turned, Waits, Refuses, Handles, at, turned_by, with_opened}
use Rattle.cx_laws_sessions.specs.cx_rules.specs.Secured.{Keys, under}
use Rattle.cx_laws_sessions.specs.cx_rules_session.specs.Presenter.{CallArrival, CallRow, CallStage, Caller, AwaitsBanner, AwaitsHello, AwaitsChallenge, AwaitsDone, AwaitsSignature, AwaitsIdent, AwaitsReconnect, Open, callee_of, on_answer_or_ack, on_banner, on_hello, on_signature, turned_at, while_answered, while_challenged, while_identified, while_reconnecting}
use Rattle.cx_laws_sessions.specs.cx_rules_session.specs.Sessions.{Callee, HeldSession}
use Rattle.cx_laws_sessions.proofs.waiting.Quiet.{answered-leaves, banner-leaves, challenged-leaves, hello-leaves}
use Rattle.cx_laws_sessions.proofs.waiting.Going.{IsBehind, IsInOrder, leaves-is, same-becomes}
use Rattle.cx_laws_sessions.proofs.waiting.Rows.{identified-is, open-is, reconnecting-is, signature-is}
use Rattle.cx_laws_sessions.specs.waiting.Heard.{Word, Silent, Begins, heard_in, heard_on, said, said_open, said_reconnecting, said_signed}
use Rattle.cx_laws_sessions.specs.waiting.Keeping.{Becomes}
use Rattle.cx_laws_sessions.specs.waiting.Linked.{IsFor}
use Rattle.cx_steps.specs.declared.seals.SealEntry.{SealEntry}

-- what is so behind a turn: where it has no row, all is as before
abbrev pub TurnIs : Callee → Word → Option HeldSession → Turned Caller CallStage → Type 0
TurnIs callee word was Waits = Becomes word [] was was
TurnIs callee word was (Refuses why opened) = Becomes word [] was was
TurnIs callee word was (Handles row) = IsBehind callee word was row

-- before authentication nothing is said of it
silent-turn : {X : Type 0} (callee : Callee) (was : Option HeldSession) (row : X → List SealEntry → CallRow) → ((x : X) (opened : List SealEntry) → IsBehind callee Silent was (row x opened)) → (front : Front X)
    → TurnIs callee Silent was (turned_by row front)
silent-turn callee was row each NotYet = same-becomes was
silent-turn callee was row each (Broken why opened) = same-becomes was
silent-turn callee was row each (Next x opened) = each x opened

-- behind it a frame says something of it
secure-turn : (callee : Callee) (was : Option HeldSession) (word : Frame → Word) (row : Link CallStage × Frame × Keys → List SealEntry → CallRow)
    → ((link : Link CallStage) (f : Frame) (keys : Keys) (opened : List SealEntry) → IsBehind callee (word f) was (row (link, f, keys) opened)) → (front : Front (Link CallStage × Frame × Keys))
    → TurnIs callee (heard_in word front) was (turned_by row front)
secure-turn callee was word row each NotYet = same-becomes was
secure-turn callee was word row each (Broken why opened) = same-becomes was
secure-turn callee was word row each (Next (link, f, keys) opened) = each link f keys opened

opened-is : (callee : Callee) (word : Word) (was : Option HeldSession) (opened : List SealEntry) (row : CallRow) → IsBehind callee word was row → IsBehind callee word was (with_opened opened row)
opened-is callee word was opened row h = record { becomes = h.becomes; for = h.for }

pub turn-is : (a : CallArrival) (stage : CallStage) → IsFor a.own.session stage → HeldIs IsInOrder a.own.session → TurnIs (callee_of stage) (heard_on a.link a.own.session stage) a.own.session (turned_at a stage)
turn-is a (AwaitsBanner called) fits ok =
    silent-turn called.callee a.own.session (λ link _. on_banner (at a link) called) (λ link opened. leaves-is (at a link) called.callee (on_banner (at a link) called) (banner-leaves (at a link) called)) (banner_next a.link)
turn-is a (AwaitsHello called) fits ok =
    silent-turn called.callee a.own.session (λ (link, f) _. on_hello (at a link) called (due 1 hello_layout.form f))
    (λ (link, f) opened. leaves-is (at a link) called.callee (on_hello (at a link) called (due 1 hello_layout.form f)) (hello-leaves (at a link) called (due 1 hello_layout.form f))) (plain_next a.link)
turn-is a (AwaitsChallenge callee p) fits ok =
    silent-turn callee a.own.session (λ (link, f) _. while_challenged (at a link) callee p f)
    (λ (link, f) opened. leaves-is (at a link) callee (while_challenged (at a link) callee p f) (challenged-leaves (at a link) callee p f)) (plain_next a.link)
turn-is a (AwaitsDone callee answered) fits ok =
    silent-turn callee a.own.session (λ (link, f) _. while_answered (at a link) callee answered f)
    (λ (link, f) opened. leaves-is (at a link) callee (while_answered (at a link) callee answered f) (answered-leaves (at a link) callee answered f)) (plain_next a.link)
turn-is a (AwaitsSignature s callee) fits ok =
    secure-turn callee a.own.session (λ f. said (said_signed s a.own.session) (due 7 auth_signature_layout.form f))
    (λ (link, f, keys) opened. with_opened opened (on_signature (at a link) (under s keys) callee (due 7 auth_signature_layout.form f)))
    (λ link f keys opened. opened-is callee (said (said_signed s a.own.session) (due 7 auth_signature_layout.form f)) a.own.session opened _
    (signature-is (at a link) (under s keys) callee (due 7 auth_signature_layout.form f))) (secure_next s.keys a.link)
turn-is a (AwaitsIdent s callee cookie) fits ok =
    secure-turn callee a.own.session (λ f. said (λ ident. Begins) (due 9 server_ident_layout.form f))
    (λ (link, f, keys) opened. with_opened opened (while_identified (at a link) (under s keys) callee cookie f))
    (λ link f keys opened. opened-is callee (said (λ ident. Begins) (due 9 server_ident_layout.form f)) a.own.session opened _ (identified-is (at a link) fits (under s keys) callee cookie f))
    (secure_next s.keys a.link)
turn-is a (AwaitsReconnect s callee cookie) fits ok =
    secure-turn callee a.own.session said_reconnecting
    (λ (link, f, keys) opened. with_opened opened (while_reconnecting (at a link) (under s keys) callee cookie f))
    (λ link f keys opened. opened-is callee (said_reconnecting f) a.own.session opened _ (reconnecting-is (at a link) ok (under s keys) callee cookie fits f)) (secure_next s.keys a.link)
turn-is a (Open s callee cookie) fits ok =
    secure-turn callee a.own.session said_open
    (λ (link, f, keys) opened. with_opened opened
    (on_upkeep_or (on_answer_or_ack (at a link) (under s keys) callee cookie) (at a link) (under s keys) (λ behind. Open behind callee cookie) f))
    (λ link f keys opened. opened-is callee (said_open f) a.own.session opened _ (open-is (at a link) ok (under s keys) callee cookie fits f)) (secure_next s.keys a.link)
