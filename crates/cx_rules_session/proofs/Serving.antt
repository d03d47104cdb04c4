-- What a daemon answers its clients, wherever an answer is due.
use Rattle.std.proofs.Common.{◌≡◌, ◌⊎◌, ℕ, ◌-◌, ◌^◌, ◌==◌, ◌<◌, ◌≤◌, ◌++◌, Bool, true, false, cond, List, [], ◌∷◌, length, map, Option, Some, None, Result, Ok, Err, refl, sym, ap, subst, ◌∙◌, arith, inl, inr}
use Rattle.std.specs.Prelude.{◌≢◌, ◌&&◌, filter, not, if◌then◌else◌}
use Rattle.std.specs.List.{AllByRecursion}
use Rattle.std.proofs.lemmas.Bool.{lt-leb}
use Rattle.std.proofs.lemmas.Bool.Decides.{eqb_tells}
use Rattle.cx_authorize.specs.Daemon.{Authority}
use Rattle.cx_desk.specs.cx_caps.specs.Reading.{cap_allows}
use Rattle.cx_authorize.specs.cx_control.specs.Idents.{client_ident_layout}
use Rattle.cx_authorize.specs.cx_control.specs.Reconnects.{session_reconnect_layout}
use Rattle.cx_authorize.specs.cx_control.specs.Upkeep.{keepalive2_layout, keepalive2_ack_layout}
use Rattle.cx_authorize.specs.cx_control.specs.declared.idents.ClientIdent.{ClientIdent}
use Rattle.cx_authorize.specs.cx_control.specs.declared.reconnects.SessionReconnect.{SessionReconnect}
use Rattle.cx_desk.specs.Handlers.{Handlers, answer_of, has_handler}
use Rattle.cx_rules.specs.cx_frame.specs.declared.frame.Frame.{Frame}
use Rattle.cx_rules.specs.cx_dice.specs.Draws.{cookie_of}
use Rattle.cx_authorize.specs.cx_journal.specs.declared.entries.Entry.{Entry}
use Rattle.cx_authorize.specs.cx_journal.specs.declared.entries.Entry.TheVariants as entry
use Rattle.cx_authorize.specs.cx_journal.specs.declared.faults.BytesFault.{BytesFault}
use Rattle.cx_authorize.specs.cx_journal.specs.declared.faults.BytesFault.TheVariants.{Unexpected}
use Rattle.cx_authorize.specs.cx_journal.specs.declared.outcomes.Outcome.{Outcome}
use Rattle.cx_authorize.specs.cx_journal.specs.declared.outcomes.Outcome.TheVariants.{Done, Denied, NoHandler}
use Rattle.cx_session.specs.Answers.{admission_reply, message_reply, resumption_reply}
use Rattle.cx_session.specs.Book.{Book, admission, admit_reply, with_client_cookie}
use Rattle.cx_session.specs.declared.call.BookCall.TheVariants.{Admit, Resume, Take}
use Rattle.cx_session.specs.declared.faults.AdmitFault.{AdmitFault}
use Rattle.cx_session.specs.declared.faults.AdmitFault.TheVariants.{BookFull, Spent}
use Rattle.cx_session.specs.declared.faults.ResumeFault.{ResumeFault}
use Rattle.cx_session.specs.declared.faults.TakeRefusal.{TakeRefusal}
use Rattle.cx_session.specs.declared.session.Session.{Session}
use Rattle.cx_rules.specs.cx_steps.specs.declared.seals.SealEntry.{SealEntry}
use Rattle.cx_rules.specs.Acceptor.{AwaitsIdent, Open, misses, server_ident}
use Rattle.cx_rules.specs.Fronts.{Front, keys_behind, secure_next, taking}
use Rattle.cx_rules.specs.Inputs.{Turn}
use Rattle.cx_rules.specs.Links.{Link}
use Rattle.cx_rules.specs.Messages.{acknowledgement, message_in, secure_frames}
use Rattle.cx_rules.specs.Payloads.{payload}
use Rattle.cx_rules.specs.Rows.{Arrival, Handles, Outcome as Stepped, arrival, at, piece, refuses_bytes, secure_sent, turns, with_opened}
use Rattle.cx_rules.specs.Secured.{Keys, SealedFrame, Secured, sealed_under, secure_frame, under}
use Rattle.cx_rules.specs.Upkeep.{on_keepalive, on_keepalive_ack}
use Rattle.cx_rules_session.specs.Asks.{asks_map, with_book}
use Rattle.cx_rules_session.specs.Complete.{EntersFirst, HasCounters, HasIncoming, IsAdmissible, IsResumable, IsServable, SaysAndShutsOthers, SaysAndStays, both_sealed, incoming_arrival, in_incoming_stage, sealed_bytes}
use Rattle.cx_rules_session.specs.DaemonRule.{Daemon, DaemonNode, DaemonStage, AsAcceptor, DaemonState, book_after, book_reply, daemon_step, hosts, is_in, is_older, me, state_behind, turn, with_mon_client}
use Rattle.cx_rules_session.specs.IncomingLinks.{IncomingArrival, IncomingRow, IncomingStage, Served}
use Rattle.cx_rules_session.specs.Hosting.{Deciding, Hosted, Instruction, admission_of, admits, answer_message, asks_admission, comes_to, cookie_drawn, decided_by, handled_entry, handles, hosted_behind, instruction_of, on_admission, on_checked, on_client_ident, on_ident, on_message, on_open, on_reconnect, on_resumption, on_taken, outcome_of, reconnect_ok, resumes, served_as}
use Rattle.cx_rules_session.specs.Kinds.{entered_before, of_kind, turn_of_kind}
use Rattle.cx_rules_session.specs.Lossy.{is_lossy, lossy_flags}
use Rattle.cx_rules_session.proofs.Sealable.{both-sealed, frame-sealed, short-ack, short-answer, short-reconnect_ok}
use Rattle.cx_rules.proofs.Carrying.{short-server_ident}

-- what is said of a step of a daemon by its rule
abbrev pub Steps : DaemonState → Link IncomingStage → (Stepped DaemonState → Type 0) → Deciding (Stepped DaemonNode) → Type 0
Steps d link Holds rule = Holds (state_behind (Turn link.number) (with_book book_reply book_after d.book rule))

-- a turn of an incoming link on which a frame stands next: what its row comes to is what the step comes to
framed : (handlers : Handlers) (d : DaemonState) (reading : ℕ) (draw : List ℕ) (link : Link IncomingStage) (stage : IncomingStage) (keys : Keys) (f : Frame) (n : ℕ) (opened : List SealEntry)
    (row : Link IncomingStage → Frame → Keys → Deciding Hosted) (Holds : Stepped DaemonState → Type 0)
    → (let k : Link IncomingStage = in_incoming_stage link stage in
    let a : Arrival Daemon DaemonStage = arrival (me d.node.own) d.node.own (of_kind AsAcceptor k) reading draw in
    HasIncoming d link stage → (turn handlers d.node reading draw (Some (of_kind AsAcceptor k)) ≡ asks_map (hosts d.node a) (decided_by (λ (l, g, behind). row l g behind) (secure_next keys k)))
    → secure_next keys k ≡ Front.Next (taking k n, f, keys_behind keys f) opened
    → Steps d link Holds (asks_map (hosts d.node a) (asks_map (hosted_behind opened) (row (taking k n) f (keys_behind keys f))))
    → Holds (daemon_step handlers d (Turn link.number) reading draw))
framed handlers d reading draw link stage keys f n opened row Holds incoming by_stage next holds =
    let k : Link IncomingStage = in_incoming_stage link stage in
    let a : Arrival Daemon DaemonStage = arrival (me d.node.own) d.node.own (of_kind AsAcceptor k) reading draw in
    let row_at : Link IncomingStage × Frame × Keys → Deciding Hosted = λ (l, g, behind). row l g behind in
    let decided : Front (Link IncomingStage × Frame × Keys) → Deciding (Stepped DaemonNode) = λ front. asks_map (hosts d.node a) (decided_by row_at front) in
    let found : Option (Link DaemonStage) → Deciding (Stepped DaemonNode) = λ l. turn handlers d.node reading draw l in
    subst (Steps d link Holds) (sym (ap found incoming ∙ by_stage ∙ ap decided next)) holds

-- what is said of a step of which this comes, with this book behind it
abbrev pub Behind : DaemonState → Link IncomingStage → IncomingStage → ℕ → List ℕ → List SealEntry → (Stepped DaemonState → Type 0) → Book Authority → Hosted → Type 0
Behind d link stage reading draw opened Holds book hosted =
    Holds (state_behind (Turn link.number)
    (hosts d.node (arrival (me d.node.own) d.node.own (of_kind AsAcceptor (in_incoming_stage link stage)) reading draw) (hosted_behind opened hosted), book))

-- a row that enters something and then sends enters that first, whether or not it can send
sends-behind : (d : DaemonState) (link : Link IncomingStage) (stage : IncomingStage) (reading : ℕ) (draw : List ℕ) (opened : List SealEntry) (book : Book Authority) (first : Entry) (a : IncomingArrival)
    (s : Secured) (next : Secured → IncomingStage) (seals : List SealEntry) (r : Result SealedFrame BytesFault)
    → Behind d link stage reading draw opened (λ o. EntersFirst first o.out) book (record { turned = Handles (entered_before first (secure_sent a s next seals r)); moved = None })
sends-behind d link stage reading draw opened book first a s next seals (Ok sealed) = ([], refl)
sends-behind d link stage reading draw opened book first a s next seals (Err why) = (_, refl)

-- ---- messages

done-outcome : (handlers : Handlers) (served : Served) (i : Instruction) → cap_allows served.caps i.operation ≡ true → has_handler i.operation.access handlers ≡ true
    → outcome_of handlers served.caps i.operation ≡ Done
done-outcome handlers served i allowed handler =
    let by_caps : Bool → Outcome = λ allows. if not allows then Denied else if has_handler i.operation.access handlers then Done else NoHandler in
    let by_handler : Bool → Outcome = λ has. if has then Done else NoHandler in
    ap by_caps allowed ∙ ap by_handler handler

message-tag : (handlers : Handlers) (a : IncomingArrival) (s : Secured) (served : Served) (f : Frame) (i : Instruction) → f.tag ≡ 17 → instruction_of (message_in f) ≡ Ok i
    → on_open handlers a s served f ≡ on_message handlers a s served (Ok i)
message-tag handlers a s served f i tag reads =
    let by_tag : ℕ → Deciding Hosted = λ t.
    if t == 18 then comes_to (on_keepalive a s (λ behind. Open behind served) (payload keepalive2_layout.form f))
    else if t == 19 then comes_to (on_keepalive_ack a s (λ behind. Open behind served) (payload keepalive2_ack_layout.form f))
    else on_message handlers a s served (instruction_of (message_in f))
    in
    ap by_tag tag ∙ ap (on_message handlers a s served) reads

-- how far the link is when the operation is handled
abbrev pub served_at : (handlers : Handlers) (d : DaemonState) (reading : ℕ) (draw : List ℕ) (link : Link IncomingStage) (s : Secured) (served : Served) (i : Instruction)
    → IsServable handlers d link s served i → IncomingArrival
served_at handlers d reading draw link s served i due = at (incoming_arrival d link (Open s served) reading draw) (taking (in_incoming_stage link (Open s served)) due.stands.size)

-- what comes of its row comes of the step
served-by : (handlers : Handlers) (d : DaemonState) (reading : ℕ) (draw : List ℕ) (link : Link IncomingStage) (s : Secured) (served : Served) (i : Instruction) (due : IsServable handlers d link s served i)
    (Holds : Stepped DaemonState → Type 0)
    → Behind d link (Open s served) reading draw due.stands.opened Holds (book_after d.book (Take served.number served.epoch i.seq))
    (record { turned = Handles (handles (served_at handlers d reading draw link s served i due) (under s (keys_behind s.keys due.frame)) served i Done); moved = None })
    → Holds (daemon_step handlers d (Turn link.number) reading draw)
served-by handlers d reading draw link s served i due Holds ended =
    let stage : IncomingStage = Open s served in
    let k : Link IncomingStage = in_incoming_stage link stage in
    let f : Frame = due.frame in
    let n : ℕ = due.stands.size in
    let opened : List SealEntry = due.stands.opened in
    let node : DaemonNode = d.node in
    let a : Arrival Daemon DaemonStage = arrival (me node.own) node.own (of_kind AsAcceptor k) reading draw in
    let b : IncomingArrival = incoming_arrival d link stage reading draw in
    let c : IncomingArrival = at b (taking k n) in
    let t : Secured = under s (keys_behind s.keys f) in
    let Rule : Deciding Hosted → Type 0 = λ rule. Steps d link Holds (asks_map (hosts node a) (asks_map (hosted_behind opened) rule)) in
    let With : Book Authority → Deciding Hosted → Type 0 = λ book rule.
    Holds (state_behind (Turn link.number) (with_book book_reply book_after book (asks_map (hosts node a) (asks_map (hosted_behind opened) rule))))
    in
    let taken_book : Book Authority = book_after d.book (Take served.number served.epoch i.seq) in
    let Checked : Result (Unit {0}) TakeRefusal → Type 0 = λ r. With d.book (on_checked handlers c t served i (message_reply r)) in
    let Taken : Result (Unit {0}) TakeRefusal → Type 0 = λ r. With taken_book (on_taken handlers c t served i (message_reply r)) in
    let Ended : Outcome → Type 0 = λ o. With taken_book (comes_to (handles c t served i o)) in
    let taken : Taken (Ok tt) = subst Ended (sym (done-outcome handlers served i due.allowed due.handler)) ended in
    let checked : Checked (Ok tt) = subst Taken (sym due.due) taken in
    let asked : Rule (on_message handlers c t served (Ok i)) = subst Checked (sym due.due) checked in
    framed handlers d reading draw link stage s.keys f n opened (λ l g behind. on_open handlers (at b l) (under s behind) served g) Holds due.incoming refl due.stands.next
    (subst Rule (sym (message-tag handlers c t served f i due.tag due.reads)) asked)

pub serves : (handlers : Handlers) (d : DaemonState) (reading : ℕ) (draw : List ℕ) (link : Link IncomingStage) (s : Secured) (served : Served) (i : Instruction)
    → IsServable handlers d link s served i → length (answer_of i.operation.access i.operation) ≤ 65536 → HasCounters s.keys 2
    → SaysAndStays link.number (both_sealed s.keys (answer_message i Done) (acknowledgement i.seq)) (handled_entry (incoming_arrival d link (Open s served) reading draw) served i Done ∷ [])
    (daemon_step handlers d (Turn link.number) reading draw).out
serves handlers d reading draw link s served i due short counters =
    let keys : Keys = keys_behind s.keys due.frame in
    let c : IncomingArrival = served_at handlers d reading draw link s served i due in
    let handled : Entry = handled_entry c served i Done in
    let bytes : List ℕ = both_sealed s.keys (answer_message i Done) (acknowledgement i.seq) in
    let Holds : Stepped DaemonState → Type 0 = λ o. SaysAndStays link.number bytes (handled ∷ []) o.out in
    let Sealed : Result SealedFrame BytesFault → Type 0 = λ r.
    Behind d link (Open s served) reading draw due.stands.opened Holds (book_after d.book (Take served.number served.epoch i.seq))
    (record { turned = Handles (entered_before handled (secure_sent c (under s keys) (λ behind. Open behind served) [] r)); moved = None })
    in
    let both = both-sealed keys (answer_message i Done) (acknowledgement i.seq) counters (short-answer i short) (short-ack i.seq) in
    let sent : Sealed (Ok both.0) = record { says = record { sends = ap (piece link.number) both.2; entered = refl }; shuts = refl } in
    served-by handlers d reading draw link s served i due Holds (subst Sealed (sym both.1) sent)

-- it is entered as done, whether or not the answer can be sealed
pub serves_first : (handlers : Handlers) (d : DaemonState) (reading : ℕ) (draw : List ℕ) (link : Link IncomingStage) (s : Secured) (served : Served) (i : Instruction)
    → IsServable handlers d link s served i
    → EntersFirst (handled_entry (incoming_arrival d link (Open s served) reading draw) served i Done) (daemon_step handlers d (Turn link.number) reading draw).out
serves_first handlers d reading draw link s served i due =
    let keys : Keys = keys_behind s.keys due.frame in
    let c : IncomingArrival = served_at handlers d reading draw link s served i due in
    let handled : Entry = handled_entry c served i Done in
    served-by handlers d reading draw link s served i due (λ o. EntersFirst handled o.out)
    (sends-behind d link (Open s served) reading draw due.stands.opened (book_after d.book (Take served.number served.epoch i.seq)) handled c (under s keys) (λ behind. Open behind served) []
    (secure_frames keys (answer_message i Done ∷ acknowledgement i.seq ∷ [])))

-- ---- CLIENT_IDENT

ident-read : (a : IncomingArrival) (s : Secured) (owner : Authority) (f : Frame) (ident : ClientIdent) → f.tag ≡ 8 → payload client_ident_layout.form f ≡ Ok ident → ident.required ≡ 0
    → on_ident a s owner f ≡ asks_admission a s owner ident
ident-read a s owner f ident tag reads required =
    let by_tag : ℕ → Deciding Hosted = λ t.
    if t == 8 then on_client_ident a s owner (payload client_ident_layout.form f)
    else if t == 11 then on_reconnect a s owner (payload session_reconnect_layout.form f)
    else comes_to (refuses_bytes a (Unexpected t) [])
    in
    let by_required : ℕ → Deciding Hosted = λ n. if n == 0 then asks_admission a s owner ident else comes_to (misses a s n) in
    ap by_tag tag ∙ ap (on_client_ident a s owner) reads ∙ ap by_required required

pub unequal : (a b : ℕ) → a < b → (a == b) ≡ false
unequal a b less = elim (eqb_tells a b) [ inl same ↦ absurd (omega (arith, same.1, less)) | inr other ↦ other.0 ]

admitted-reply : (book : Book Authority) (cookie : ℕ) → with_client_cookie cookie book.live ≡ None → length book.live < 4096 → book.next < 2 ^ 64 - 1
    → admit_reply book cookie ≡ Ok (book.next, 1)
admitted-reply book cookie fresh few numbered =
    let by_cookie : Option (Session Authority) → Result (ℕ × ℕ) AdmitFault = λ o. admission o (length book.live) book.next in
    let by_count : Bool → Result (ℕ × ℕ) AdmitFault = λ full. if full then Err (BookFull 4096) else (if book.next == 2 ^ 64 - 1 then Err Spent else Ok (book.next, 1)) in
    let by_next : Bool → Result (ℕ × ℕ) AdmitFault = λ last. if last then Err Spent else Ok (book.next, 1) in
    ap by_cookie fresh ∙ ap by_count (lt-leb 4096 (length book.live) few) ∙ ap by_next (unequal book.next (2 ^ 64 - 1) numbered)

abbrev pub admitted_at : (d : DaemonState) (reading : ℕ) (draw : List ℕ) (link : Link IncomingStage) (s : Secured) (owner : Authority) (ident : ClientIdent)
    → IsAdmissible d link s owner ident → IncomingArrival
admitted_at d reading draw link s owner ident due =
    at (incoming_arrival d link (AwaitsIdent s owner) reading draw) (taking (in_incoming_stage link (AwaitsIdent s owner)) due.stands.size)

admitted-by : (handlers : Handlers) (d : DaemonState) (reading : ℕ) (draw : List ℕ) (link : Link IncomingStage) (s : Secured) (owner : Authority) (ident : ClientIdent)
    (due : IsAdmissible d link s owner ident) (Holds : Stepped DaemonState → Type 0)
    → Behind d link (AwaitsIdent s owner) reading draw due.stands.opened Holds
    (book_after d.book (Admit owner ident.cookie (cookie_of draw) ident.global_seq (is_lossy ident.flags)))
    (record { turned = Handles (admits (admitted_at d reading draw link s owner ident due) (under s (keys_behind s.keys due.frame)) owner ident d.book.next 1); moved = None })
    → Holds (daemon_step handlers d (Turn link.number) reading draw)
admitted-by handlers d reading draw link s owner ident due Holds replied =
    let stage : IncomingStage = AwaitsIdent s owner in
    let k : Link IncomingStage = in_incoming_stage link stage in
    let f : Frame = due.frame in
    let n : ℕ = due.stands.size in
    let opened : List SealEntry = due.stands.opened in
    let node : DaemonNode = d.node in
    let a : Arrival Daemon DaemonStage = arrival (me node.own) node.own (of_kind AsAcceptor k) reading draw in
    let b : IncomingArrival = incoming_arrival d link stage reading draw in
    let c : IncomingArrival = at b (taking k n) in
    let t : Secured = under s (keys_behind s.keys f) in
    let Rule : Deciding Hosted → Type 0 = λ rule. Steps d link Holds (asks_map (hosts node a) (asks_map (hosted_behind opened) rule)) in
    let book : Book Authority = book_after d.book (Admit owner ident.cookie (cookie_of draw) ident.global_seq (is_lossy ident.flags)) in
    let Replied : Result (ℕ × ℕ) AdmitFault → Type 0 = λ r.
    Holds (state_behind (Turn link.number) (with_book book_reply book_after book (asks_map (hosts node a) (asks_map (hosted_behind opened) (on_admission c t owner ident (admission_reply r))))))
    in
    let asked : Rule (asks_admission c t owner ident) = subst Replied (sym (admitted-reply d.book ident.cookie due.fresh due.few due.numbered)) replied in
    framed handlers d reading draw link stage s.keys f n opened (λ l g behind. on_ident (at b l) (under s behind) owner g) Holds due.incoming refl due.stands.next
    (subst Rule (sym (ident-read c t owner f ident due.tag due.reads due.required)) asked)

pub opens : (handlers : Handlers) (d : DaemonState) (reading : ℕ) (draw : List ℕ) (link : Link IncomingStage) (s : Secured) (owner : Authority) (ident : ClientIdent)
    → IsAdmissible d link s owner ident → length d.node.own.mon_client.address.ip ≡ 4 → HasCounters s.keys 1
    → SaysAndStays link.number (sealed_bytes s.keys (server_ident d.node.own.mon_client.address (lossy_flags (is_lossy ident.flags)) (cookie_of draw)))
    (entry.Admitted (admission_of (incoming_arrival d link (AwaitsIdent s owner) reading draw) owner d.book.next 1 ident.cookie) ∷ [])
    (daemon_step handlers d (Turn link.number) reading draw).out
opens handlers d reading draw link s owner ident due four counters =
    let keys : Keys = keys_behind s.keys due.frame in
    let c : IncomingArrival = admitted_at d reading draw link s owner ident due in
    let sent_frame : Frame = server_ident d.node.own.mon_client.address (lossy_flags (is_lossy ident.flags)) (cookie_of draw) in
    let admitted : Entry = entry.Admitted (admission_of c owner d.book.next 1 ident.cookie) in
    let Holds : Stepped DaemonState → Type 0 = λ o. SaysAndStays link.number (sealed_bytes s.keys sent_frame) (admitted ∷ []) o.out in
    let Sealed : Result SealedFrame BytesFault → Type 0 = λ r.
    Behind d link (AwaitsIdent s owner) reading draw due.stands.opened Holds (book_after d.book (Admit owner ident.cookie (cookie_of draw) ident.global_seq (is_lossy ident.flags)))
    (record {
      turned = Handles (entered_before admitted (secure_sent c (under s keys) (λ behind. Open behind (served_as owner d.book.next 1 ident.cookie (is_lossy ident.flags))) (cookie_drawn c ∷ []) r));
      moved = None;
    })
    in
    let sealing = frame-sealed keys sent_frame counters (short-server_ident d.node.own.mon_client.address (lossy_flags (is_lossy ident.flags)) (cookie_of draw) four) in
    let sent : Sealed (Ok (sealed_under keys sent_frame)) = record { says = record { sends = refl; entered = refl }; shuts = refl } in
    admitted-by handlers d reading draw link s owner ident due Holds (subst Sealed (sym sealing) sent)

-- it is entered as admitted, whether or not SERVER_IDENT can be sealed
pub opens_first : (handlers : Handlers) (d : DaemonState) (reading : ℕ) (draw : List ℕ) (link : Link IncomingStage) (s : Secured) (owner : Authority) (ident : ClientIdent)
    → IsAdmissible d link s owner ident
    → EntersFirst (entry.Admitted (admission_of (incoming_arrival d link (AwaitsIdent s owner) reading draw) owner d.book.next 1 ident.cookie)) (daemon_step handlers d (Turn link.number) reading draw).out
opens_first handlers d reading draw link s owner ident due =
    let keys : Keys = keys_behind s.keys due.frame in
    let c : IncomingArrival = admitted_at d reading draw link s owner ident due in
    let admitted : Entry = entry.Admitted (admission_of c owner d.book.next 1 ident.cookie) in
    admitted-by handlers d reading draw link s owner ident due (λ o. EntersFirst admitted o.out)
    (sends-behind d link (AwaitsIdent s owner) reading draw due.stands.opened (book_after d.book (Admit owner ident.cookie (cookie_of draw) ident.global_seq (is_lossy ident.flags))) admitted c
    (under s keys) (λ behind. Open behind (served_as owner d.book.next 1 ident.cookie (is_lossy ident.flags))) (cookie_drawn c ∷ [])
    (secure_frame keys (server_ident d.node.own.mon_client.address (lossy_flags (is_lossy ident.flags)) (cookie_of draw))))

-- ---- SESSION_RECONNECT

reconnect-read : (a : IncomingArrival) (s : Secured) (owner : Authority) (f : Frame) (reconnect : SessionReconnect) → f.tag ≡ 11 → payload session_reconnect_layout.form f ≡ Ok reconnect
    → on_ident a s owner f ≡ on_reconnect a s owner (Ok reconnect)
reconnect-read a s owner f reconnect tag reads =
    let by_tag : ℕ → Deciding Hosted = λ t.
    if t == 8 then on_client_ident a s owner (payload client_ident_layout.form f)
    else if t == 11 then on_reconnect a s owner (payload session_reconnect_layout.form f)
    else comes_to (refuses_bytes a (Unexpected t) [])
    in
    ap by_tag tag ∙ ap (on_reconnect a s owner) reads

-- the older links of a session are others than this one
others-shut : (number session : ℕ) (links : List (Link DaemonStage))
    → AllByRecursion (λ n. n ≢ number) (map (λ (l : Link DaemonStage). l.number) (filter (is_older number session) links) ++ [])
others-shut number session [] = tt
others-shut number session (l ∷ links) = by_tests (is_in session l.stage) (eqb_tells l.number number) (others-shut number session links)
  where
    by_tests : (inside : Bool) → ((l.number == number) ≡ true) × (l.number ≡ number) ⊎ ((l.number == number) ≡ false) × (l.number ≢ number)
        → AllByRecursion (λ n. n ≢ number) (map (λ (k : Link DaemonStage). k.number) (filter (is_older number session) links) ++ [])
        → AllByRecursion (λ n. n ≢ number)
        (map (λ (k : Link DaemonStage). k.number) (cond (inside && not (l.number == number)) (l ∷ filter (is_older number session) links) (filter (is_older number session) links)) ++ [])
    by_tests false told rest = rest
    by_tests true (inl same) rest = rw same.0 rest
    by_tests true (inr other) rest = rw other.0 (other.1, rest)

abbrev pub resumed_at : (d : DaemonState) (reading : ℕ) (draw : List ℕ) (link : Link IncomingStage) (s : Secured) (owner : Authority) (reconnect : SessionReconnect)
    (number epoch last : ℕ) (lossy : Bool) → IsResumable d link s owner reconnect number epoch last lossy → IncomingArrival
resumed_at d reading draw link s owner reconnect number epoch last lossy due =
    at (incoming_arrival d link (AwaitsIdent s owner) reading draw) (taking (in_incoming_stage link (AwaitsIdent s owner)) due.stands.size)

resumed-by : (handlers : Handlers) (d : DaemonState) (reading : ℕ) (draw : List ℕ) (link : Link IncomingStage) (s : Secured) (owner : Authority) (reconnect : SessionReconnect)
    (number epoch last : ℕ) (lossy : Bool) (due : IsResumable d link s owner reconnect number epoch last lossy) (Holds : Stepped DaemonState → Type 0)
    → Behind d link (AwaitsIdent s owner) reading draw due.stands.opened Holds
    (book_after d.book (Resume owner reconnect.client_cookie reconnect.server_cookie reconnect.global_seq reconnect.connect_seq))
    (record {
      turned = Handles (resumes (resumed_at d reading draw link s owner reconnect number epoch last lossy due) (under s (keys_behind s.keys due.frame)) owner reconnect number epoch last lossy);
      moved = Some number;
    })
    → Holds (daemon_step handlers d (Turn link.number) reading draw)
resumed-by handlers d reading draw link s owner reconnect number epoch last lossy due Holds replied =
    let stage : IncomingStage = AwaitsIdent s owner in
    let k : Link IncomingStage = in_incoming_stage link stage in
    let f : Frame = due.frame in
    let n : ℕ = due.stands.size in
    let opened : List SealEntry = due.stands.opened in
    let node : DaemonNode = d.node in
    let a : Arrival Daemon DaemonStage = arrival (me node.own) node.own (of_kind AsAcceptor k) reading draw in
    let b : IncomingArrival = incoming_arrival d link stage reading draw in
    let c : IncomingArrival = at b (taking k n) in
    let t : Secured = under s (keys_behind s.keys f) in
    let Rule : Deciding Hosted → Type 0 = λ rule. Steps d link Holds (asks_map (hosts node a) (asks_map (hosted_behind opened) rule)) in
    let book : Book Authority = book_after d.book (Resume owner reconnect.client_cookie reconnect.server_cookie reconnect.global_seq reconnect.connect_seq) in
    let Replied : Result (ℕ × ℕ × ℕ × Bool) ResumeFault → Type 0 = λ r.
    Holds (state_behind (Turn link.number)
    (with_book book_reply book_after book (asks_map (hosts node a) (asks_map (hosted_behind opened) (on_resumption c t owner reconnect (resumption_reply r))))))
    in
    let asked : Rule (on_reconnect c t owner (Ok reconnect)) = subst Replied (sym due.resumed) replied in
    framed handlers d reading draw link stage s.keys f n opened (λ l g behind. on_ident (at b l) (under s behind) owner g) Holds due.incoming refl due.stands.next
    (subst Rule (sym (reconnect-read c t owner f reconnect due.tag due.reads)) asked)

pub takes_up : (handlers : Handlers) (d : DaemonState) (reading : ℕ) (draw : List ℕ) (link : Link IncomingStage) (s : Secured) (owner : Authority) (reconnect : SessionReconnect)
    (number epoch last : ℕ) (lossy : Bool) → IsResumable d link s owner reconnect number epoch last lossy → HasCounters s.keys 1
    → SaysAndShutsOthers link.number (sealed_bytes s.keys (reconnect_ok last))
    (entry.Resumed (admission_of (incoming_arrival d link (AwaitsIdent s owner) reading draw) owner number epoch reconnect.client_cookie) ∷ [])
    (daemon_step handlers d (Turn link.number) reading draw).out
takes_up handlers d reading draw link s owner reconnect number epoch last lossy due counters =
    let keys : Keys = keys_behind s.keys due.frame in
    let c : IncomingArrival = resumed_at d reading draw link s owner reconnect number epoch last lossy due in
    let node : DaemonNode = d.node in
    let a : Arrival Daemon DaemonStage = arrival (me node.own) node.own (of_kind AsAcceptor (in_incoming_stage link (AwaitsIdent s owner))) reading draw in
    let sent_frame : Frame = reconnect_ok last in
    let resumed : Entry = entry.Resumed (admission_of c owner number epoch reconnect.client_cookie) in
    let Holds : Stepped DaemonState → Type 0 = λ o. SaysAndShutsOthers link.number (sealed_bytes s.keys sent_frame) (resumed ∷ []) o.out in
    let row : Result SealedFrame BytesFault → IncomingRow = λ r.
    entered_before resumed (secure_sent c (under s keys) (λ behind. Open behind (served_as owner number epoch reconnect.client_cookie lossy)) [] r)
    in
    let Sealed : Result SealedFrame BytesFault → Type 0 = λ r.
    Behind d link (AwaitsIdent s owner) reading draw due.stands.opened Holds
    (book_after d.book (Resume owner reconnect.client_cookie reconnect.server_cookie reconnect.global_seq reconnect.connect_seq))
    (record { turned = Handles (row r); moved = Some number })
    in
    let sealing = frame-sealed keys sent_frame counters (short-reconnect_ok last) in
    let turned : Stepped DaemonNode = turns node a (turn_of_kind (with_mon_client node.own) AsAcceptor (Handles (with_opened due.stands.opened (row (Ok (sealed_under keys sent_frame)))))) in
    let sent : Sealed (Ok (sealed_under keys sent_frame)) = record { says = record { sends = refl; entered = refl }; shuts = others-shut link.number number turned.state.links } in
    resumed-by handlers d reading draw link s owner reconnect number epoch last lossy due Holds (subst Sealed (sym sealing) sent)

-- it is entered as resumed, whether or not SESSION_RECONNECT_OK can be sealed
pub takes_up_first : (handlers : Handlers) (d : DaemonState) (reading : ℕ) (draw : List ℕ) (link : Link IncomingStage) (s : Secured) (owner : Authority) (reconnect : SessionReconnect)
    (number epoch last : ℕ) (lossy : Bool) → IsResumable d link s owner reconnect number epoch last lossy
    → EntersFirst (entry.Resumed (admission_of (incoming_arrival d link (AwaitsIdent s owner) reading draw) owner number epoch reconnect.client_cookie))
    (daemon_step handlers d (Turn link.number) reading draw).out
takes_up_first handlers d reading draw link s owner reconnect number epoch last lossy due =
    resumed-by handlers d reading draw link s owner reconnect number epoch last lossy due
    (λ o. EntersFirst (entry.Resumed (admission_of (incoming_arrival d link (AwaitsIdent s owner) reading draw) owner number epoch reconnect.client_cookie)) o.out)
    (by_sealing (secure_frame (keys_behind s.keys due.frame) (reconnect_ok last)))
  where
    by_sealing : (r : Result SealedFrame BytesFault) → Behind d link (AwaitsIdent s owner) reading draw due.stands.opened
        (λ o. EntersFirst (entry.Resumed (admission_of (incoming_arrival d link (AwaitsIdent s owner) reading draw) owner number epoch reconnect.client_cookie)) o.out)
        (book_after d.book (Resume owner reconnect.client_cookie reconnect.server_cookie reconnect.global_seq reconnect.connect_seq))
        (record {
          turned = Handles (entered_before (entry.Resumed (admission_of (resumed_at d reading draw link s owner reconnect number epoch last lossy due) owner number epoch reconnect.client_cookie))
              (secure_sent (resumed_at d reading draw link s owner reconnect number epoch last lossy due) (under s (keys_behind s.keys due.frame))
              (λ behind. Open behind (served_as owner number epoch reconnect.client_cookie lossy)) [] r));
          moved = Some number;
        })
    by_sealing (Ok sealed) = ([], refl)
    by_sealing (Err why) = (_, refl)
