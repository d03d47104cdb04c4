-- A turn for which the book was asked waits for nothing: by each reply that the book gives, a row is handled.
use Rattle.std.proofs.Common.{◌≡◌, ◌∙◌, ℕ, ◌+◌, ◌==◌, Bool, true, false, List, [], Option, Some, None, Result, Ok, Err, refl, ap}
use Rattle.std.specs.Prelude.{◌-◌, ◌^◌, if◌then◌else◌, length, not, nat_le, nat_lt}
use Rattle.cx_daemon_session.specs.cx_authorize.specs.Daemon.{Authority}
use Rattle.cx_link.specs.cx_control.specs.Idents.{client_ident_layout}
use Rattle.cx_link.specs.cx_control.specs.Reconnects.{session_reconnect_layout}
use Rattle.cx_link.specs.cx_control.specs.Upkeep.{keepalive2_layout, keepalive2_ack_layout}
use Rattle.cx_link.specs.cx_control.specs.declared.idents.ClientIdent.{ClientIdent}
use Rattle.cx_link.specs.cx_control.specs.declared.reconnects.SessionReconnect.{SessionReconnect}
use Rattle.cx_desk.specs.Handlers.{Handlers}
use Rattle.cx_frame.specs.declared.frame.Frame.{Frame}
use Rattle.cx_link.specs.cx_journal.specs.declared.faults.BytesFault.{BytesFault}
use Rattle.cx_link.specs.cx_journal.specs.declared.faults.BytesFault.TheVariants.{Unexpected}
use Rattle.cx_node.specs.cx_rules.specs.Acceptor.{AwaitsBanner, AwaitsHello, AwaitsRequest, AwaitsProof, AwaitsSignature, AwaitsIdent, Open, misses}
use Rattle.cx_node.specs.cx_rules.specs.Fronts.{Front, NotYet, Broken, Next, secure_next}
use Rattle.cx_node.specs.cx_rules.specs.Holdings.{MonClient}
use Rattle.cx_node.specs.cx_rules.specs.Messages.{message_in}
use Rattle.cx_node.specs.cx_rules.specs.Payloads.{payload}
use Rattle.cx_node.specs.cx_rules.specs.Rows.{Turned, Waits, Refuses, Handles, at, refuses_bytes}
use Rattle.cx_node.specs.cx_rules.specs.Secured.{Secured, under}
use Rattle.cx_node.specs.cx_rules.specs.Upkeep.{on_keepalive, on_keepalive_ack}
use Rattle.cx_daemon_session.specs.cx_rules_session.specs.Asks.{Finished, Asking, asks_map}
use Rattle.cx_daemon_session.specs.cx_rules_session.specs.DaemonRule.{book_after, book_reply, owner_entity, owner_gid}
use Rattle.cx_daemon_session.specs.cx_rules_session.specs.IncomingLinks.{IncomingArrival, IncomingStage, Served}
use Rattle.cx_daemon_session.specs.cx_rules_session.specs.Hosting.{Deciding, Hosted, Instruction, asks_admission, comes_to, decided_by, incoming_turned, hosted_behind, instruction_of, on_admission, on_checked, on_client_ident, on_ident, on_message, on_open, on_reconnect, on_resumption, on_taken, turned_behind}
use Rattle.cx_session.specs.Answers.{admission_reply, message_reply, resumption_reply}
use Rattle.cx_session.specs.Book.{Book, admission, resumption, same_owner, take_reply, with_client_cookie, with_cookies}
use Rattle.cx_session.specs.declared.faults.AdmitFault.TheVariants as admit
use Rattle.cx_session.specs.declared.faults.ResumeFault.TheVariants as resume
use Rattle.cx_session.specs.declared.faults.TakeRefusal.{TakeRefusal}
use Rattle.cx_session.specs.declared.faults.TakeRefusal.TheVariants as message
use Rattle.cx_session.specs.declared.session.Session.{Session}
use Rattle.cx_node.specs.cx_steps.specs.declared.seals.SealEntry.{SealEntry}
use Rattle.cx_daemon_session.specs.turn.Hosting.{decided_with}
use Rattle.cx_daemon_session.proofs.turn.Booking.{with_book_map}

-- whether a turn waits
abbrev pub waits : Turned MonClient IncomingStage → Bool
waits Waits = true
waits (Refuses why opened) = false
waits (Handles row) = false

-- it doesn't, with this book
abbrev pub GoesOn : Book Authority → Deciding Hosted → Type 0
GoesOn book rule = waits (decided_with book rule).0.turned ≡ false

-- nor does one for which the book was asked
abbrev pub Asked : Book Authority → Deciding Hosted → Type 0
Asked book (Finished hosted) = Unit {0}
Asked book (Asking call next) = GoesOn book (Asking call next)

-- ---- admissions

admission-goes : (book : Book Authority) (a : IncomingArrival) (s : Secured) (owner : Authority) (ident : ClientIdent) (found : Option (Session Authority)) (count next : ℕ)
    → GoesOn book (on_admission a s owner ident (admission_reply (admission found count next)))
admission-goes book a s owner ident (Some session) count next = refl
admission-goes book a s owner ident None count next = by_tests (nat_le 4096 count) (next == 2 ^ 64 - 1)
  where
    by_tests : (full spent : Bool) → GoesOn book (on_admission a s owner ident (admission_reply
        (if full then Err (admit.BookFull 4096) else (if spent then Err admit.Spent else Ok (next, 1)))))
    by_tests true spent = refl
    by_tests false true = refl
    by_tests false false = refl

required-asked : (book : Book Authority) (a : IncomingArrival) (s : Secured) (owner : Authority) (ident : ClientIdent) (none : Bool)
    → Asked book (if none then asks_admission a s owner ident else comes_to (misses a s ident.required))
required-asked book a s owner ident true =
    admission-goes _ a s owner ident (with_client_cookie ident.cookie book.live) (length book.live) book.next
required-asked book a s owner ident false = tt

client-asked : (book : Book Authority) (a : IncomingArrival) (s : Secured) (owner : Authority) (read : Result ClientIdent BytesFault)
    → Asked book (on_client_ident a s owner read)
client-asked book a s owner (Ok ident) = required-asked book a s owner ident (ident.required == 0)
client-asked book a s owner (Err why) = tt

-- ---- resumptions

resumption-goes : (book : Book Authority) (a : IncomingArrival) (s : Secured) (owner : Authority) (reconnect : SessionReconnect) (found : Option (Session Authority))
    (who : Authority) (global connect : ℕ) → GoesOn book (on_resumption a s owner reconnect (resumption_reply (resumption owner_entity owner_gid found who global connect)))
resumption-goes book a s owner reconnect None who global connect = refl
resumption-goes book a s owner reconnect (Some kept) who global connect =
    by_tests (same_owner owner_entity owner_gid kept.owner who) (nat_le connect kept.connect_seq) (nat_lt global kept.global_seq) (kept.epoch == 2 ^ 64 - 1)
  where
    by_tests : (same stale old spent : Bool) → GoesOn book (on_resumption a s owner reconnect (resumption_reply
        (if not same
        then Err (resume.OwnerDiffers (owner_entity kept.owner) (owner_gid kept.owner))
        else (if stale
        then Err (resume.StaleConnect kept.connect_seq)
        else (if old
        then Err (resume.StaleGlobal kept.global_seq)
        else (if spent then Err resume.Spent else Ok (kept.number, kept.epoch + 1, kept.last, kept.lossy)))))))
    by_tests false stale old spent = refl
    by_tests true true old spent = refl
    by_tests true false true spent = refl
    by_tests true false false true = refl
    by_tests true false false false = refl

reconnect-asked : (book : Book Authority) (a : IncomingArrival) (s : Secured) (owner : Authority) (read : Result SessionReconnect BytesFault)
    → Asked book (on_reconnect a s owner read)
reconnect-asked book a s owner (Ok reconnect) =
    resumption-goes _ a s owner reconnect (with_cookies reconnect.client_cookie reconnect.server_cookie book.live) owner reconnect.global_seq reconnect.connect_seq
reconnect-asked book a s owner (Err why) = tt

ident-asked : (book : Book Authority) (a : IncomingArrival) (s : Secured) (owner : Authority) (f : Frame) → Asked book (on_ident a s owner f)
ident-asked book a s owner f = by_tests (f.tag == 8) (f.tag == 11)
  where
    by_tests : (client reconnect : Bool) → Asked book
        (if client then on_client_ident a s owner (payload client_ident_layout.form f)
        else if reconnect then on_reconnect a s owner (payload session_reconnect_layout.form f)
        else comes_to (refuses_bytes a (Unexpected f.tag) []))
    by_tests true reconnect = client-asked book a s owner (payload client_ident_layout.form f)
    by_tests false true = reconnect-asked book a s owner (payload session_reconnect_layout.form f)
    by_tests false false = tt

-- ---- messages

taken-goes : (book : Book Authority) (handlers : Handlers) (a : IncomingArrival) (s : Secured) (served : Served) (i : Instruction) (answer : Result (Unit {0}) TakeRefusal)
    → GoesOn book (on_taken handlers a s served i (message_reply answer))
taken-goes book handlers a s served i (Ok given) = refl
taken-goes book handlers a s served i (Err (message.Stale epoch)) = refl
taken-goes book handlers a s served i (Err (message.Repeat last)) = refl
taken-goes book handlers a s served i (Err (message.Gap expected)) = refl

checked-goes : (book : Book Authority) (handlers : Handlers) (a : IncomingArrival) (s : Secured) (served : Served) (i : Instruction) (answer : Result (Unit {0}) TakeRefusal)
    → GoesOn book (on_checked handlers a s served i (message_reply answer))
checked-goes book handlers a s served i (Ok given) = taken-goes _ handlers a s served i (take_reply book served.number served.epoch i.seq)
checked-goes book handlers a s served i (Err (message.Stale epoch)) = refl
checked-goes book handlers a s served i (Err (message.Repeat last)) = refl
checked-goes book handlers a s served i (Err (message.Gap expected)) = refl

message-asked : (book : Book Authority) (handlers : Handlers) (a : IncomingArrival) (s : Secured) (served : Served) (read : Result Instruction BytesFault)
    → Asked book (on_message handlers a s served read)
message-asked book handlers a s served (Ok i) = checked-goes book handlers a s served i (take_reply book served.number served.epoch i.seq)
message-asked book handlers a s served (Err why) = tt

open-asked : (book : Book Authority) (handlers : Handlers) (a : IncomingArrival) (s : Secured) (served : Served) (f : Frame) → Asked book (on_open handlers a s served f)
open-asked book handlers a s served f = by_tests (f.tag == 18) (f.tag == 19)
  where
    by_tests : (ask ack : Bool) → Asked book
        (if ask then comes_to (on_keepalive a s (λ behind. Open behind served) (payload keepalive2_layout.form f))
        else if ack then comes_to (on_keepalive_ack a s (λ behind. Open behind served) (payload keepalive2_ack_layout.form f))
        else on_message handlers a s served (instruction_of (message_in f)))
    by_tests true ack = tt
    by_tests false true = tt
    by_tests false false = message-asked book handlers a s served (instruction_of (message_in f))

-- ---- behind what opened

waits-behind : (opened : List SealEntry) (turned : Turned MonClient IncomingStage) → waits (turned_behind opened turned) ≡ waits turned
waits-behind opened Waits = refl
waits-behind opened (Refuses why broken) = refl
waits-behind opened (Handles row) = refl

asked-behind : (book : Book Authority) (opened : List SealEntry) (rule : Deciding Hosted) → Asked book rule → Asked book (asks_map (hosted_behind opened) rule)
asked-behind book opened (Finished hosted) h = tt
asked-behind book opened (Asking call next) h =
    let turned : Hosted × Book Authority → Bool = λ done. waits done.0.turned in
    let rule : Deciding Hosted = Asking call next in
    ap turned (with_book_map book_reply book_after (hosted_behind opened) book rule) ∙ waits-behind opened (decided_with book rule).0.turned ∙ h

decided-asked : {X : Type 0} (book : Book Authority) (decide : X → Deciding Hosted) → ((x : X) → Asked book (decide x)) → (front : Front X)
    → Asked book (decided_by decide front)
decided-asked book decide each NotYet = tt
decided-asked book decide each (Broken why opened) = tt
decided-asked book decide each (Next x opened) = asked-behind book opened (decide x) (each x)

-- ---- by the stage

pub turn-asked : (book : Book Authority) (handlers : Handlers) (a : IncomingArrival) (stage : IncomingStage) → Asked book (incoming_turned handlers a stage)
turn-asked book handlers a AwaitsBanner = tt
turn-asked book handlers a AwaitsHello = tt
turn-asked book handlers a AwaitsRequest = tt
turn-asked book handlers a (AwaitsProof awaited) = tt
turn-asked book handlers a (AwaitsSignature s owner) = tt
turn-asked book handlers a (AwaitsIdent s owner) =
    decided-asked book (λ (link, f, keys). on_ident (at a link) (under s keys) owner f) (λ (link, f, keys). ident-asked book (at a link) (under s keys) owner f) (secure_next s.keys a.link)
turn-asked book handlers a (Open s served) =
    decided-asked book (λ (link, f, keys). on_open handlers (at a link) (under s keys) served f) (λ (link, f, keys). open-asked book handlers (at a link) (under s keys) served f) (secure_next s.keys a.link)
