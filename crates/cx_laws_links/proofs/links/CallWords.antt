-- What each row of a client's link to a daemon says behind authentication: some words, each sealed in its order, behind what opened and was drawn; and the
-- link goes on under the keys behind them, for the session that was spoken of last.
use Rattle.std.proofs.Common.{◌≡◌, ℕ, ◌==◌, ◌+◌, ◌-◌, ◌^◌, Bool, true, false, List, [], ◌∷◌, ◌++◌, map, take, Option, Some, None, Result, Ok, Err, nat_lt, refl, sym, ap, ◌∙◌, subst, append-nil, append_assoc}
use Rattle.std.specs.Prelude.{Contains, if◌then◌else◌}
use Rattle.std.proofs.lemmas.List.Elements.{Contains-append_right, Contains-push}
use Rattle.std.specs.List.{AllByRecursion}
use Rattle.cx_base.specs.declared.operations.Operation.{Operation}
use Rattle.cx_control.specs.Auth.{auth_signature_layout}
use Rattle.cx_control.specs.Idents.{ident_missing_features_layout, server_ident_layout}
use Rattle.cx_control.specs.Reconnects.{session_reconnect_ok_layout, session_reset_layout, session_retry_layout, session_retry_global_layout}
use Rattle.cx_control.specs.Upkeep.{ack_layout, keepalive2_layout, keepalive2_ack_layout}
use Rattle.cx_control.specs.declared.auth.AuthSignature.{AuthSignature}
use Rattle.cx_control.specs.declared.idents.IdentMissingFeatures.{IdentMissingFeatures}
use Rattle.cx_control.specs.declared.idents.ServerIdent.{ServerIdent}
use Rattle.cx_control.specs.declared.reconnects.SessionReconnectOk.{SessionReconnectOk}
use Rattle.cx_control.specs.declared.reconnects.SessionReset.{SessionReset}
use Rattle.cx_control.specs.declared.reconnects.SessionRetry.{SessionRetry}
use Rattle.cx_control.specs.declared.reconnects.SessionRetryGlobal.{SessionRetryGlobal}
use Rattle.cx_control.specs.declared.upkeep.Ack.{Ack}
use Rattle.cx_control.specs.declared.upkeep.Keepalive2.{Keepalive2}
use Rattle.cx_control.specs.declared.upkeep.Keepalive2Ack.{Keepalive2Ack}
use Rattle.cx_dice.specs.Draws.{cookie_of}
use Rattle.cx_frame.specs.declared.frame.Frame.{Frame}
use Rattle.cx_journal.specs.declared.entries.Entry.{Entry}
use Rattle.cx_journal.specs.declared.faults.BytesFault.{BytesFault}
use Rattle.cx_journal.specs.declared.faults.BytesFault.TheVariants.{Features, Unexpected}
use Rattle.cx_journal.specs.declared.faults.LoginFault.TheVariants.{SignatureWrong}
use Rattle.cx_journal.specs.declared.outcomes.Reason.{Reason}
use Rattle.cx_journal.specs.declared.outcomes.Reason.TheVariants as reason
use Rattle.cx_laws_keys.specs.cx_rules.specs.Connector.{client_ident}
use Rattle.cx_laws_keys.specs.cx_rules.specs.Links.{Link}
use Rattle.cx_laws_keys.specs.cx_rules.specs.Messages.{message_in, on_upkeep_or, sealed_behind, sealed_then, secure_frames}
use Rattle.cx_laws_keys.specs.cx_rules.specs.Payloads.{due, payload}
use Rattle.cx_laws_keys.specs.cx_rules.specs.Rows.{goes_on, refused_entry, refuses, refuses_bytes, secure_sent, with_opened}
use Rattle.cx_laws_keys.specs.cx_rules.specs.Secured.{SealedFrame, Secured, is_signed, secure_frame, signature_found}
use Rattle.cx_laws_keys.specs.cx_rules.specs.Upkeep.{on_keepalive, on_keepalive_ack}
use Rattle.cx_laws_tickets.specs.cx_run.specs.cx_rules_session.specs.Kinds.{entered_before}
use Rattle.cx_laws_tickets.specs.cx_run.specs.cx_rules_session.specs.Lossy.{lossy_flags}
use Rattle.cx_laws_tickets.specs.cx_run.specs.cx_rules_session.specs.Presenter.{CallArrival, CallRow, CallStage, AwaitsBanner, AwaitsHello, AwaitsChallenge, AwaitsDone, AwaitsSignature, AwaitsIdent, AwaitsReconnect, Open, OperationEnd, callee_of, acknowledges, counting, end_in, holding_session, identifies, on_ack, on_answer, on_answer_or_ack, on_missing_features, on_reconnect_ok, on_reset, on_retry, on_retry_global, on_server_ident, on_signature, on_signed, reconnects, resets, retries, retries_global, taken_up, takes_up, while_identified, while_reconnecting}
use Rattle.cx_laws_tickets.specs.cx_run.specs.cx_rules_session.specs.Sessions.{Callee, HeldSession, acknowledged_up_to, held_gid, new_session, operation_message, session_reconnect, waiting_messages}
use Rattle.cx_steps.specs.declared.seals.DrawMark.TheVariants as draw
use Rattle.cx_steps.specs.declared.seals.SealEntry.{SealEntry}
use Rattle.cx_steps.specs.declared.seals.SealEntry.TheVariants as entry
use Rattle.cx_laws_keys.proofs.login.Rows.{all-filter}
use Rattle.cx_laws_links.proofs.links.Spoken.{Idents, KeepsUp, Orders, Reconnects, Signs, Spoken, asked, cookie_after, cookie_behind, frame_of}

-- nothing is sealed by it
abbrev pub IsQuiet : SealEntry → Type 0
IsQuiet (entry.Sealed mark) = ⊥
IsQuiet (entry.Signed mark) = Unit {0}
IsQuiet (entry.Opened mark) = Unit {0}
IsQuiet (entry.Checked mark) = Unit {0}
IsQuiet (entry.Drawn mark) = Unit {0}

abbrev pub AreQuiet : List SealEntry → Type 0
AreQuiet es = AllByRecursion IsQuiet es

pub quiet-append : (xs ys : List SealEntry) → AreQuiet xs → AreQuiet ys → AreQuiet (xs ++ ys)
quiet-append [] ys h g = g
quiet-append (x ∷ xs) ys h g = (h.0, quiet-append xs ys h.1 g)

-- the keys of a link behind authentication, and the cookie of the session that it is for
pub data KeyedStage : CallStage → Secured → Option ℕ → Type 0 where
  SignedOn : (s : Secured) (callee : Callee) → KeyedStage (AwaitsSignature s callee) s None
  Identified : (s : Secured) (callee : Callee) (cookie : ℕ) → KeyedStage (AwaitsIdent s callee cookie) s (Some cookie)
  Reconnecting : (s : Secured) (callee : Callee) (cookie : ℕ) → KeyedStage (AwaitsReconnect s callee cookie) s (Some cookie)
  Opened : (s : Secured) (callee : Callee) (cookie : ℕ) → KeyedStage (Open s callee cookie) s (Some cookie)

-- it is no order; and where it asks for a session, the cookie of that was drawn with it
abbrev pub IsDrawnIn : List SealEntry → Spoken → Type 0
IsDrawnIn quiet (Idents mon_client gid flags cookie) = Contains quiet (entry.Drawn (draw.Cookie cookie))
IsDrawnIn quiet (Orders order) = ⊥
IsDrawnIn quiet (Signs code) = Unit {0}
IsDrawnIn quiet (Reconnects mon_client session) = Unit {0}
IsDrawnIn quiet (KeepsUp ack) = Unit {0}

-- at most one word, or orders alone, in the session that was spoken of last
pub data AreWords (W : ℕ → ℕ × Operation → Type 0) (before : Option ℕ) (quiet : List SealEntry) : List Spoken → Type 0 where
  NoWord : AreWords W before quiet []
  OneWord : (x : Spoken) → IsDrawnIn quiet x → AreWords W before quiet (x ∷ [])
  SomeOrders : (cookie : ℕ) (orders : List (ℕ × Operation)) → before ≡ Some cookie → AllByRecursion (W cookie) orders → AreWords W before quiet (map Orders orders)

-- a link that takes a session up, or has it open, is that of the session that is held
abbrev pub HeldAt : Option HeldSession → CallStage → Type 0
HeldAt (Some session) (AwaitsReconnect s callee cookie) = session.client_cookie ≡ cookie
HeldAt (Some session) (Open s callee cookie) = session.client_cookie ≡ cookie
HeldAt session stage = Unit {0}

-- the session that a link waits for a reply to
abbrev pub pending_of : CallStage → List ℕ
pending_of (AwaitsIdent s callee cookie) = cookie ∷ []
pending_of (AwaitsReconnect s callee cookie) = cookie ∷ []
pending_of _ = []

-- what a row says from these keys on, where this session was spoken of last: these words, sealed in their order behind what opened and was drawn; the link
-- goes on under the keys behind them, for the session that is spoken of last then
pub record Says (W : ℕ → ℕ × Operation → Type 0) (number : ℕ) (callee : Callee) (s : Secured) (before : Option ℕ) (row : CallRow) : Type 0 where
  pub words : List Spoken
  pub quiet : List SealEntry
  pub silent : AreQuiet quiet
  pub sealed : SealedFrame
  pub made : secure_frames s.keys (map frame_of words) ≡ Ok sealed
  pub seals : row.seals ≡ quiet ++ sealed.seals
  pub link : (link : Link CallStage) → row.link ≡ Some link → (t : Secured) × KeyedStage link.stage t (cookie_behind before words) × (t.keys ≡ sealed.keys) × (link.number ≡ number)
  pub calls : (link : Link CallStage) → row.link ≡ Some link → callee_of link.stage ≡ callee
  pub held : (link : Link CallStage) → row.link ≡ Some link → HeldAt row.own.session link.stage
  pub waits : (link : Link CallStage) → row.link ≡ Some link → asked words ≡ pending_of link.stage
  pub said : AreWords W before quiet words

abbrev nothing_sealed : Secured → SealedFrame
nothing_sealed s = record { bytes = []; seals = []; keys = s.keys }

module _ (W : ℕ → ℕ × Operation → Type 0) (before : Option ℕ) where
  abbrev S : Callee → CallArrival → Secured → CallRow → Type 0
  S callee a s row = Says W a.link.number callee s before row

  refuses-says : (callee : Callee) (a : CallArrival) (s : Secured) (why : Reason) (seals : List SealEntry) → AreQuiet seals → S callee a s (refuses a why seals)
  refuses-says callee a s why seals quiet = record {
    words = [];
    quiet = seals;
    silent = quiet;
    sealed = nothing_sealed s;
    made = refl;
    seals = sym (append-nil seals);
    link = λ link is. absurd cc;
    calls = λ link is. absurd cc;
    held = λ link is. absurd cc;
    waits = λ link is. absurd cc;
    said = NoWord;
  }

  -- it goes on without a word
  goes-says : (callee : Callee) (a b : CallArrival) (s : Secured) (stage : CallStage) → KeyedStage stage s before → b.link ≡ a.link → callee_of stage ≡ callee → HeldAt b.own.session stage → [] ≡ pending_of stage
      → S callee a s (goes_on b stage [] [])
  goes-says callee a b s stage keyed same calls held waits = record {
    words = [];
    quiet = [];
    silent = tt;
    sealed = nothing_sealed s;
    made = refl;
    seals = refl;
    link = λ link is.
        let it : record b.link { stage = stage } ≡ link = cc in
        (s, subst (λ (l : Link CallStage). KeyedStage l.stage s before) it keyed, refl, ap (λ (l : Link CallStage). l.number) (sym it) ∙ ap (λ (l : Link CallStage). l.number) same);
    calls = λ link is.
        let it : record b.link { stage = stage } ≡ link = cc in
        subst (λ (l : Link CallStage). callee_of l.stage ≡ callee) it calls;
    held = λ link is.
        let it : record b.link { stage = stage } ≡ link = cc in
        subst (λ (l : Link CallStage). HeldAt b.own.session l.stage) it held;
    waits = λ link is.
        let it : record b.link { stage = stage } ≡ link = cc in
        subst (λ (l : Link CallStage). [] ≡ pending_of l.stage) it waits;
    said = NoWord;
  }

  -- one word
  one-says : (callee : Callee) (a b : CallArrival) (s : Secured) (stage : Secured → CallStage) (quiet : List SealEntry) (x : Spoken) → AreQuiet quiet → IsDrawnIn quiet x
      → ((t : Secured) → KeyedStage (stage t) t (cookie_after before x)) → b.link ≡ a.link → ((t : Secured) → callee_of (stage t) ≡ callee) → ((t : Secured) → HeldAt b.own.session (stage t)) → ((t : Secured) → asked (x ∷ []) ≡ pending_of (stage t))
      → S callee a s (secure_sent b s stage quiet (secure_frame s.keys (frame_of x)))
  one-says callee a b s stage quiet x silent drawn keyed same calls held waits = by_sealed (secure_frame s.keys (frame_of x)) refl
    where
      by_sealed : (r : Result SealedFrame BytesFault) → secure_frame s.keys (frame_of x) ≡ r → S callee a s (secure_sent b s stage quiet r)
      by_sealed (Err why) e = record {
        words = [];
        quiet = quiet;
        silent = silent;
        sealed = nothing_sealed s;
        made = refl;
        seals = sym (append-nil quiet);
        link = λ link is. absurd cc;
        calls = λ link is. absurd cc;
        held = λ link is. absurd cc;
        waits = λ link is. absurd cc;
        said = NoWord;
      }
      by_sealed (Ok one) e = record {
        words = x ∷ [];
        quiet = quiet;
        silent = silent;
        sealed = record { bytes = one.bytes ++ []; seals = one.seals ++ []; keys = one.keys };
        made = ap (λ (r : Result SealedFrame BytesFault). sealed_then r (λ first. sealed_behind first (secure_frames first.keys []))) e;
        seals = ap (λ (es : List SealEntry). quiet ++ es) (sym (append-nil one.seals));
        link = λ link is.
            let it : record b.link { stage = stage (record s { keys = one.keys }) } ≡ link = cc in (
              record s { keys = one.keys },
              subst (λ (l : Link CallStage). KeyedStage l.stage (record s { keys = one.keys }) (cookie_after before x)) it (keyed (record s { keys = one.keys })),
              refl,
              ap (λ (l : Link CallStage). l.number) (sym it) ∙ ap (λ (l : Link CallStage). l.number) same,
            );
        calls = λ link is.
            let it : record b.link { stage = stage (record s { keys = one.keys }) } ≡ link = cc in
            subst (λ (l : Link CallStage). callee_of l.stage ≡ callee) it (calls (record s { keys = one.keys }));
        held = λ link is.
            let it : record b.link { stage = stage (record s { keys = one.keys }) } ≡ link = cc in
            subst (λ (l : Link CallStage). HeldAt b.own.session l.stage) it (held (record s { keys = one.keys }));
        waits = λ link is.
            let it : record b.link { stage = stage (record s { keys = one.keys }) } ≡ link = cc in
            subst (λ (l : Link CallStage). asked (x ∷ []) ≡ pending_of l.stage) it (waits (record s { keys = one.keys }));
        said = OneWord x drawn;
      }

  -- ---- a session is asked for, or taken up again

  held-none : (session : Option HeldSession) (t : Secured) (callee : Callee) (cookie : ℕ) → HeldAt session (AwaitsIdent t callee cookie)
  held-none None t callee cookie = tt
  held-none (Some session) t callee cookie = tt

  identifies-says : (a b : CallArrival) (s : Secured) (callee : Callee) (quiet : List SealEntry) → AreQuiet quiet → b.link ≡ a.link → S callee a s (identifies b s callee quiet)
  identifies-says a b s callee quiet silent same =
      let cookie : ℕ = cookie_of b.draw in
      one-says callee a b s (λ behind. AwaitsIdent behind callee cookie) (quiet ++ entry.Drawn (draw.Cookie cookie) ∷ [])
      (Idents b.own.mon_client (held_gid b.own.mon_client.holdings) (lossy_flags callee.lossy) cookie) (quiet-append quiet (entry.Drawn (draw.Cookie cookie) ∷ []) silent (tt, tt))
      (Contains-push quiet (entry.Drawn (draw.Cookie cookie))) (λ t. Identified t callee cookie) same (λ t. refl) (λ t. held-none b.own.session t callee cookie)
      (λ t. refl)

  entered-says : (callee : Callee) (a : CallArrival) (s : Secured) (e : Entry) (row : CallRow) → S callee a s row → S callee a s (entered_before e row)
  entered-says callee a s e row h = record { words = h.words; quiet = h.quiet; silent = h.silent; sealed = h.sealed; made = h.made; seals = h.seals; link = h.link; calls = h.calls; held = h.held; waits = h.waits; said = h.said }

  resets-says : (a b : CallArrival) (s : Secured) (callee : Callee) (quiet : List SealEntry) → AreQuiet quiet → b.link ≡ a.link → S callee a s (resets b s callee quiet)
  resets-says a b s callee quiet silent same =
      entered-says callee a s (refused_entry b.me b.link.number reason.Reset) (identifies (holding_session b None) s callee quiet) (identifies-says a (holding_session b None) s callee quiet silent same)

  reconnects-says : (a b : CallArrival) (s : Secured) (callee : Callee) (quiet : List SealEntry) (session : HeldSession) → AreQuiet quiet → b.link ≡ a.link → S callee a s (reconnects b s callee quiet session)
  reconnects-says a b s callee quiet session silent same =
      one-says callee a (holding_session b (Some session)) s (λ behind. AwaitsReconnect behind callee session.client_cookie) quiet (Reconnects b.own.mon_client session) silent tt
      (λ t. Reconnecting t callee session.client_cookie) same (λ t. refl) (λ t. refl) (λ t. refl)

  takes_up-says : (a : CallArrival) (s : Secured) (callee : Callee) (quiet : List SealEntry) (session : HeldSession) → AreQuiet quiet → S callee a s (takes_up a s callee quiet session)
  takes_up-says a s callee quiet session silent = by_test (session.connect_seq == 2 ^ 64 - 1)
    where
      by_test : (last : Bool) → S callee a s (if last then resets a s callee quiet else reconnects a s callee quiet (record session { connect_seq = session.connect_seq + 1 }))
      by_test true = resets-says a a s callee quiet silent refl
      by_test false = reconnects-says a a s callee quiet (record session { connect_seq = session.connect_seq + 1 }) silent refl

  signed-says : (a : CallArrival) (s : Secured) (callee : Callee) (session : Option HeldSession) → S callee a s (on_signed a s callee session)
  signed-says a s callee None = identifies-says a a s callee (signature_found s ∷ []) (tt, tt) refl
  signed-says a s callee (Some session) = takes_up-says a s callee (signature_found s ∷ []) session (tt, tt)

  pub signature-says : (a : CallArrival) (s : Secured) (callee : Callee) (read : Result AuthSignature BytesFault) → S callee a s (on_signature a s callee read)
  signature-says a s callee (Err why) = refuses-says callee a s (reason.Bytes why) [] tt
  signature-says a s callee (Ok found) = by_test (is_signed s found.signature)
    where
      by_test : (right : Bool) → S callee a s (if right then on_signed a s callee a.own.session else refuses a (reason.Login SignatureWrong) [])
      by_test true = signed-says a s callee a.own.session
      by_test false = refuses-says callee a s (reason.Login SignatureWrong) [] tt

  -- ---- SERVER_IDENT, IDENT_MISSING_FEATURES

  pub identified-says : (a : CallArrival) (s : Secured) (callee : Callee) (cookie : ℕ) → before ≡ Some cookie → (f : Frame) → S callee a s (while_identified a s callee cookie f)
  identified-says a s callee cookie here f = by_test (f.tag == 10)
    where
      by_ident : (read : Result ServerIdent BytesFault) → S callee a s (on_server_ident a s callee cookie read)
      by_ident (Err why) = refuses-says callee a s (reason.Bytes why) [] tt
      by_ident (Ok ident) = goes-says callee a (holding_session a (Some (new_session callee cookie ident.cookie))) s (Open s callee cookie)
          (subst (λ (o : Option ℕ). KeyedStage (Open s callee cookie) s o) (sym here) (Opened s callee cookie)) refl refl refl refl

      by_lack : (read : Result IdentMissingFeatures BytesFault) → S callee a s (on_missing_features a read)
      by_lack (Err why) = refuses-says callee a s (reason.Bytes why) [] tt
      by_lack (Ok missing) = refuses-says callee a s (reason.Bytes (Features missing.features)) [] tt

      by_test : (lacks : Bool) → S callee a s (if lacks then on_missing_features a (payload ident_missing_features_layout.form f) else on_server_ident a s callee cookie (due 9 server_ident_layout.form f))
      by_test true = by_lack (payload ident_missing_features_layout.form f)
      by_test false = by_ident (due 9 server_ident_layout.form f)

  -- ---- SESSION_RECONNECT_OK and what else is answered to SESSION_RECONNECT

  opened-at : (s : Secured) (callee : Callee) (cookie : ℕ) → before ≡ Some cookie → KeyedStage (Open s callee cookie) s before
  opened-at s callee cookie here = subst (λ (o : Option ℕ). KeyedStage (Open s callee cookie) s o) (sym here) (Opened s callee cookie)

  orders-behind : (orders : List (ℕ × Operation)) → cookie_behind before (map Orders orders) ≡ before
  orders-behind [] = refl
  orders-behind (order ∷ orders) = orders-behind orders

  orders-ask : (orders : List (ℕ × Operation)) → asked (map Orders orders) ≡ []
  orders-ask [] = refl
  orders-ask (order ∷ orders) = orders-ask orders

  frames-are : (orders : List (ℕ × Operation)) → map frame_of (map Orders orders) ≡ map operation_message orders
  frames-are [] = refl
  frames-are (order ∷ orders) = ap (λ (l : List Frame). operation_message order ∷ l) (frames-are orders)

  waiting-says : (a b : CallArrival) (s : Secured) (callee : Callee) (cookie : ℕ) (orders : List (ℕ × Operation)) → before ≡ Some cookie → AllByRecursion (W cookie) orders → b.link ≡ a.link
      → ((t : Secured) → HeldAt b.own.session (Open t callee cookie)) → S callee a s (secure_sent b s (λ behind. Open behind callee cookie) [] (secure_frames s.keys (map operation_message orders)))
  waiting-says a b s callee cookie orders here were same held = by_sealed (secure_frames s.keys (map operation_message orders)) refl
    where
      by_sealed : (r : Result SealedFrame BytesFault) → secure_frames s.keys (map operation_message orders) ≡ r → S callee a s (secure_sent b s (λ behind. Open behind callee cookie) [] r)
      by_sealed (Err why) e = record {
        words = [];
        quiet = [];
        silent = tt;
        sealed = nothing_sealed s;
        made = refl;
        seals = refl;
        link = λ link is. absurd cc;
        calls = λ link is. absurd cc;
        held = λ link is. absurd cc;
        waits = λ link is. absurd cc;
        said = NoWord;
      }
      by_sealed (Ok all) e = record {
        words = map Orders orders;
        quiet = [];
        silent = tt;
        sealed = all;
        made = ap (λ (fs : List Frame). secure_frames s.keys fs) (frames-are orders) ∙ e;
        seals = refl;
        link = λ link is.
            let it : record b.link { stage = Open (record s { keys = all.keys }) callee cookie } ≡ link = cc in (
              record s { keys = all.keys },
              subst (λ (l : Link CallStage). KeyedStage l.stage (record s { keys = all.keys }) (cookie_behind before (map Orders orders))) it
                  (subst (λ (o : Option ℕ). KeyedStage (Open (record s { keys = all.keys }) callee cookie) (record s { keys = all.keys }) o) (sym (orders-behind orders ∙ here)) (Opened (record s { keys = all.keys }) callee cookie)),
              refl,
              ap (λ (l : Link CallStage). l.number) (sym it) ∙ ap (λ (l : Link CallStage). l.number) same,
            );
        calls = λ link is.
            let it : record b.link { stage = Open (record s { keys = all.keys }) callee cookie } ≡ link = cc in
            subst (λ (l : Link CallStage). callee_of l.stage ≡ callee) it refl;
        held = λ link is.
            let it : record b.link { stage = Open (record s { keys = all.keys }) callee cookie } ≡ link = cc in
            subst (λ (l : Link CallStage). HeldAt b.own.session l.stage) it (held (record s { keys = all.keys }));
        waits = λ link is.
            let it : record b.link { stage = Open (record s { keys = all.keys }) callee cookie } ≡ link = cc in
            subst (λ (l : Link CallStage). asked (map Orders orders) ≡ pending_of l.stage) it (orders-ask orders);
        said = SomeOrders cookie orders here were;
      }

  some-is : (x y : ℕ) → (let o : Option ℕ = Some x in let p : Option ℕ = Some y in o ≡ p) → x ≡ y
  some-is x y e = cc

  acknowledged-waits : (cookie seq : ℕ) (session : HeldSession) → AllByRecursion (W cookie) session.queue.waiting → AllByRecursion (W cookie) (acknowledged_up_to seq session).queue.waiting
  acknowledged-waits cookie seq session h = all-filter (W cookie) (λ (order : ℕ × Operation). nat_lt seq order.0) session.queue.waiting h

  -- the session that is held with the daemon is the one that was spoken of last, and what waits in it was sent in it
  abbrev pub IsHeldHere : Option HeldSession → Type 0
  IsHeldHere None = Unit {0}
  IsHeldHere (Some session) = (before ≡ Some session.client_cookie) × AllByRecursion (W session.client_cookie) session.queue.waiting

  held-open : (s : Secured) (callee : Callee) (cookie : ℕ) → before ≡ Some cookie → (session : Option HeldSession) → IsHeldHere session → HeldAt session (Open s callee cookie)
  held-open s callee cookie here None held = tt
  held-open s callee cookie here (Some session) held = some-is session.client_cookie cookie (sym held.0 ∙ here)

  taken_up-says : (a : CallArrival) (s : Secured) (callee : Callee) (cookie last : ℕ) (session : Option HeldSession) → before ≡ Some cookie → IsHeldHere session → IsHeldHere a.own.session → S callee a s (taken_up a s callee cookie last session)
  taken_up-says a s callee cookie last None here held own = goes-says callee a a s (Open s callee cookie) (opened-at s callee cookie here) refl refl (held-open s callee cookie here a.own.session own) refl
  taken_up-says a s callee cookie last (Some session) here held own =
      let same : session.client_cookie ≡ cookie = some-is session.client_cookie cookie (sym held.0 ∙ here) in
      waiting-says a (holding_session a (Some (acknowledged_up_to last session))) s callee cookie (acknowledged_up_to last session).queue.waiting here
      (acknowledged-waits cookie last session (subst (λ (k : ℕ). AllByRecursion (W k) session.queue.waiting) same held.1)) refl (λ t. same)

  retries-says : (a : CallArrival) (s : Secured) (callee : Callee) (kept : ℕ) (session : Option HeldSession) → S callee a s (retries a s callee kept session)
  retries-says a s callee kept None = resets-says a a s callee [] tt refl
  retries-says a s callee kept (Some session) = by_test (kept == 2 ^ 64 - 1)
    where
      by_test : (last : Bool) → S callee a s (if last then resets a s callee [] else reconnects a s callee [] (record session { connect_seq = kept + 1 }))
      by_test true = resets-says a a s callee [] tt refl
      by_test false = reconnects-says a a s callee [] (record session { connect_seq = kept + 1 }) tt refl

  retries_global-says : (a : CallArrival) (s : Secured) (callee : Callee) (kept : ℕ) (session : Option HeldSession) → S callee a s (retries_global a s callee kept session)
  retries_global-says a s callee kept None = resets-says a a s callee [] tt refl
  retries_global-says a s callee kept (Some session) = by_test (kept == 2 ^ 64 - 1)
    where
      by_test : (last : Bool) → S callee a s (if last then resets a s callee [] else reconnects (counting a (kept + 1)) s callee [] session)
      by_test true = resets-says a a s callee [] tt refl
      by_test false = reconnects-says a (counting a (kept + 1)) s callee [] session tt refl

  pub reconnecting-says : (a : CallArrival) (s : Secured) (callee : Callee) (cookie : ℕ) → before ≡ Some cookie → IsHeldHere a.own.session → (f : Frame) → S callee a s (while_reconnecting a s callee cookie f)
  reconnecting-says a s callee cookie here held f = by_tests (f.tag == 15) (f.tag == 12) (f.tag == 13) (f.tag == 14)
    where
      by_ok : (read : Result SessionReconnectOk BytesFault) → S callee a s (on_reconnect_ok a s callee cookie read)
      by_ok (Err why) = refuses-says callee a s (reason.Bytes why) [] tt
      by_ok (Ok ok) = taken_up-says a s callee cookie ok.seq a.own.session here held held

      by_reset : (read : Result SessionReset BytesFault) → S callee a s (on_reset a s callee read)
      by_reset (Err why) = refuses-says callee a s (reason.Bytes why) [] tt
      by_reset (Ok reset) = resets-says a a s callee [] tt refl

      by_retry : (read : Result SessionRetry BytesFault) → S callee a s (on_retry a s callee read)
      by_retry (Err why) = refuses-says callee a s (reason.Bytes why) [] tt
      by_retry (Ok retry) = retries-says a s callee retry.connect_seq a.own.session

      by_retry_global : (read : Result SessionRetryGlobal BytesFault) → S callee a s (on_retry_global a s callee read)
      by_retry_global (Err why) = refuses-says callee a s (reason.Bytes why) [] tt
      by_retry_global (Ok retry) = retries_global-says a s callee retry.global_seq a.own.session

      by_tests : (told reset retry global : Bool) → S callee a s
          (if told then on_reconnect_ok a s callee cookie (payload session_reconnect_ok_layout.form f)
          else if reset then on_reset a s callee (payload session_reset_layout.form f)
          else if retry then on_retry a s callee (payload session_retry_layout.form f)
          else if global then on_retry_global a s callee (payload session_retry_global_layout.form f)
          else refuses_bytes a (Unexpected f.tag) [])
      by_tests true reset retry global = by_ok (payload session_reconnect_ok_layout.form f)
      by_tests false true retry global = by_reset (payload session_reset_layout.form f)
      by_tests false false true global = by_retry (payload session_retry_layout.form f)
      by_tests false false false true = by_retry_global (payload session_retry_global_layout.form f)
      by_tests false false false false = refuses-says callee a s (reason.Bytes (Unexpected f.tag)) [] tt

  -- ---- an open link

  pub open-says : (a : CallArrival) (s : Secured) (callee : Callee) (cookie : ℕ) → before ≡ Some cookie → IsHeldHere a.own.session → (f : Frame)
      → S callee a s (on_upkeep_or (on_answer_or_ack a s callee cookie) a s (λ behind. Open behind callee cookie) f)
  open-says a s callee cookie here held f = by_tests (f.tag == 18) (f.tag == 19)
    where
      by_end : (read : Result OperationEnd BytesFault) → S callee a s (on_answer a s callee cookie read)
      by_end (Err why) = refuses-says callee a s (reason.Bytes why) [] tt
      by_end (Ok end) = entered-says callee a s _ _ (goes-says callee a a s (Open s callee cookie) (opened-at s callee cookie here) refl refl (held-open s callee cookie here a.own.session held) refl)

      by_session : (seq : ℕ) (session : Option HeldSession) → IsHeldHere session → S callee a s (acknowledges a s callee cookie seq session)
      by_session seq None is = goes-says callee a a s (Open s callee cookie) (opened-at s callee cookie here) refl refl (held-open s callee cookie here a.own.session held) refl
      by_session seq (Some session) is = goes-says callee a (holding_session a (Some (acknowledged_up_to seq session))) s (Open s callee cookie) (opened-at s callee cookie here) refl refl
          (held-open s callee cookie here (Some session) is) refl

      by_ack : (read : Result Ack BytesFault) → S callee a s (on_ack a s callee cookie read)
      by_ack (Err why) = refuses-says callee a s (reason.Bytes why) [] tt
      by_ack (Ok ack) = by_session ack.seq a.own.session held

      by_other : (ack : Bool) → S callee a s (if ack then on_ack a s callee cookie (payload ack_layout.form f) else on_answer a s callee cookie (end_in (message_in f)))
      by_other true = by_ack (payload ack_layout.form f)
      by_other false = by_end (end_in (message_in f))

      by_keepalive : (read : Result Keepalive2 BytesFault) → S callee a s (on_keepalive a s (λ behind. Open behind callee cookie) read)
      by_keepalive (Err why) = refuses-says callee a s (reason.Bytes why) [] tt
      by_keepalive (Ok keepalive) = one-says callee a a s (λ behind. Open behind callee cookie) [] (KeepsUp (record { time = keepalive.time })) tt tt
          (λ t. subst (λ (o : Option ℕ). KeyedStage (Open t callee cookie) t o) (sym here) (Opened t callee cookie)) refl (λ t. refl) (λ t. held-open t callee cookie here a.own.session held) (λ t. refl)

      by_keepalive_ack : (read : Result Keepalive2Ack BytesFault) → S callee a s (on_keepalive_ack a s (λ behind. Open behind callee cookie) read)
      by_keepalive_ack (Err why) = refuses-says callee a s (reason.Bytes why) [] tt
      by_keepalive_ack (Ok ack) = goes-says callee a a s (Open s callee cookie) (opened-at s callee cookie here) refl refl (held-open s callee cookie here a.own.session held) refl

      by_tests : (ask ack : Bool) → S callee a s
          (if ask then on_keepalive a s (λ behind. Open behind callee cookie) (payload keepalive2_layout.form f)
          else if ack then on_keepalive_ack a s (λ behind. Open behind callee cookie) (payload keepalive2_ack_layout.form f) else on_answer_or_ack a s callee cookie f)
      by_tests true ack = by_keepalive (payload keepalive2_layout.form f)
      by_tests false true = by_keepalive_ack (payload keepalive2_ack_layout.form f)
      by_tests false false = by_other (f.tag == 20)

  -- ---- what opened stands before it

  pub opened-says : (callee : Callee) (a : CallArrival) (s : Secured) (opened : List SealEntry) (row : CallRow) → AreQuiet opened → S callee a s row → S callee a s (with_opened opened row)
  opened-says callee a s opened row quiet h = record {
    words = h.words;
    quiet = opened ++ h.quiet;
    silent = quiet-append opened h.quiet quiet h.silent;
    sealed = h.sealed;
    made = h.made;
    seals = ap (λ (es : List SealEntry). opened ++ es) h.seals ∙ sym (append_assoc opened h.quiet h.sealed.seals);
    link = h.link;
    calls = h.calls;
    held = h.held;
    waits = h.waits;
    said = behind_said h.words h.said;
  }
    where
      still : (x : Spoken) → IsDrawnIn h.quiet x → IsDrawnIn (opened ++ h.quiet) x
      still (Idents mon_client gid flags cookie) has = Contains-append_right opened h.quiet (entry.Drawn (draw.Cookie cookie)) has
      still (Signs code) has = tt
      still (Reconnects mon_client session) has = tt
      still (Orders order) has = has
      still (KeepsUp ack) has = tt

      behind_said : (words : List Spoken) → AreWords W before h.quiet words → AreWords W before (opened ++ h.quiet) words
      behind_said words NoWord = NoWord
      behind_said words (OneWord x drawn) = OneWord x (still x drawn)
      behind_said words (SomeOrders cookie orders here were) = SomeOrders cookie orders here were
