-- What a daemon draws and seals on an incoming link until it has signed is as the uses of its keys allow.
use Rattle.std.proofs.Common.{◌≡◌, ◌==◌, ℕ, ◌<◌, ◌≤◌, ◌^◌, Bool, true, false, List, [], ◌∷◌, ◌++◌, length, slice_index, take, Option, Some, None, Result, Ok, Err, inl, inr, refl, sym, ap, ◌∙◌, subst, arith}
use Rattle.std.specs.Prelude.{not, if◌then◌else◌}
use Rattle.std.specs.List.{AllByRecursion, list_any}
use Rattle.cx_run.specs.cx_authorize.specs.Daemon.{Authority, Awaited}
use Rattle.cx_run.specs.cx_authorize.specs.Judging.{judged_first, judged_second}
use Rattle.cx_run.specs.cx_authorize.specs.Verdict.{raised}
use Rattle.cx_run.specs.cx_authorize.specs.declared.refusals.AuthRefusal.{AuthRefusal}
use Rattle.cx_run.specs.cx_authorize.specs.declared.refusals.AuthRefusal.TheVariants as refusal
use Rattle.cx_base.specs.Names.{Name, is_daemon_type}
use Rattle.cx_base.specs.declared.kinds.EntityType.{EntityType}
use Rattle.cx_base.specs.declared.kinds.EntityType.TheVariants.{Mon, Mds, Osd, Client, Mgr, Auth}
use Rattle.cx_base.specs.declared.nodes.NodeName.{NodeName}
use Rattle.cx_control.specs.declared.auth.AuthRequest.{AuthRequest}
use Rattle.cx_control.specs.declared.auth.AuthRequestMore.{AuthRequestMore}
use Rattle.cx_control.specs.declared.auth.AuthSignature.{AuthSignature}
use Rattle.cx_control.specs.declared.hello.Hello.{Hello}
use Rattle.cx_dice.specs.Draws.{challenge_of, connection_of}
use Rattle.cx_journal.specs.declared.entries.Entry.{Entry}
use Rattle.cx_journal.specs.declared.faults.BytesFault.{BytesFault}
use Rattle.cx_journal.specs.declared.faults.LoginFault.TheVariants.{Method, Mode, SignatureWrong}
use Rattle.cx_journal.specs.declared.outcomes.Reason.{Reason}
use Rattle.cx_journal.specs.declared.outcomes.Reason.TheVariants.{Login}
use Rattle.cx_laws_keys.specs.cx_rules.specs.Acceptor.{AwaitsHello, AwaitsProof, AwaitsSignature, AwaitsIdent, Open, Finished, denies, finished, joined, on_auth_request, on_banner, on_hello, on_signature}
use Rattle.cx_laws_keys.specs.cx_rules.specs.Greetings.{own_hello}
use Rattle.cx_laws_keys.specs.cx_rules.specs.Links.{Link}
use Rattle.cx_laws_keys.specs.cx_rules.specs.Rows.{goes_on, plain_sent, refuses, refuses_bytes, secure_sent, unless_refused}
use Rattle.cx_laws_keys.specs.cx_rules.specs.Secured.{Keys, SealedFrame, Secured, acceptor_keys, is_signed, plain_frame, secure_frame, signature_found, signed_frame, signing}
use Rattle.cx_run.specs.cx_rules_session.specs.Complete.{judged_by}
use Rattle.cx_run.specs.cx_rules_session.specs.Envelopes.{authorize_challenge_content, authorize_reply_content, session_sealed}
use Rattle.cx_run.specs.cx_rules_session.specs.IncomingLinks.{IncomingArrival, IncomingRow, IncomingStage, authority_of, authorized_frame, authorizes, challenges, done_sent, looked_entry, on_auth_request_more, on_first, sealed_challenge_frame, turns_away, unless_turned_away}
use Rattle.cx_run.specs.cx_rules_session.specs.Kinds.{entered_before}
use Rattle.cx_laws_keys.specs.cx_sealed.specs.declared.service_ticket.ServiceTicket.{ServiceTicket}
use Rattle.cx_laws_keys.specs.cx_steps.specs.declared.seals.DrawMark.TheVariants as draw
use Rattle.cx_laws_keys.specs.cx_steps.specs.declared.seals.Logged.{Logged}
use Rattle.cx_laws_keys.specs.cx_steps.specs.declared.seals.SealEntry.{SealEntry}
use Rattle.cx_laws_keys.specs.cx_steps.specs.declared.seals.SealEntry.TheVariants as seal
use Rattle.cx_laws_tickets.proofs.authorize.Backing.{opened-issued}
use Rattle.cx_laws_tickets.proofs.authorize.Opened.{IsOpening, ShowsTicket, first-all, first-opened, second-all, second-opened}
use Rattle.cx_laws_keys.proofs.keys.Journal.{IsNotIssued}
use Rattle.cx_laws_keys.proofs.keys.Known.{Inv, IsAllowed, IsOfKind, IsOfAcceptor, IsOfConnector, RepliesFor, counter_at}
use Rattle.cx_laws_keys.proofs.keys.Lists.{all-append, all-map}
use Rattle.cx_laws_keys.proofs.keys.Premises.{AreGranted, behind, behind-append, granted-first, granted-rest}
use Rattle.cx_laws_keys.proofs.keys.Reading.{challenge_no_reply, read_reply}
use Rattle.cx_laws_keys.proofs.keys.Steps.{inv-all, inv-drawn}
use Rattle.cx_laws_keys.proofs.keys.Uses.{AtDaemon, Connected, Grows, IsConnected, Means, Ticketed, Use, Uses, grows-one, session_use, stays, with_key, WholeRun}
use Rattle.cx_laws_keys.proofs.login.Facts.{IsSameWay, MaySeal}
use Rattle.cx_laws_keys.proofs.keys.Uses.{AreGenerated}
use Rattle.cx_laws_keys.proofs.login.Issuing.{acceptor-counts, acceptor-sends, connector-counts, connector-sends, short-connection}
use Rattle.cx_laws_keys.proofs.login.Rows.{Allowed, FrameOk, frame-ok}

-- ---- keys of an incoming link

-- the key of this link of this acceptor to this entity, under which the daemon seals with the nonce of an acceptor and opens with that of a connector
pub record HostKeys (us : Uses) (n : NodeName) (number : ℕ) (keys : Keys) (name : Name) : Type 0 where
  pub service : EntityType
  pub tie : ℕ
  pub means : Means us keys.key (Connected n number name (AtDaemon service tie))
  pub out : IsOfAcceptor keys.out.fixed
  pub into : IsOfConnector keys.into.fixed

-- so its key is one of a link to the entity
pub host-connected : (us : Uses) (n : NodeName) (number : ℕ) (keys : Keys) (name : Name) → HostKeys us n number keys name → IsConnected us keys.key name
host-connected us n number keys name h = record { acceptor = n; number = number; tie = AtDaemon h.service h.tie; means = h.means }

pub host-grows : (us vs : Uses) (n : NodeName) (number : ℕ) (keys : Keys) (name : Name) → Grows us vs → HostKeys us n number keys name → HostKeys vs n number keys name
host-grows us vs n number keys name f h =
    record { service = h.service; tie = h.tie; means = f.means keys.key (Connected n number name (AtDaemon h.service h.tie)) h.means; out = h.out; into = h.into }

pub host-moves : (us : Uses) (n : NodeName) (number : ℕ) (k keys : Keys) (name : Name) → IsSameWay k keys → HostKeys us n number keys name → HostKeys us n number k name
host-moves us n number k keys name same h = record {
  service = h.service;
  tie = h.tie;
  means = subst (λ (key : List ℕ). Means us key (Connected n number name (AtDaemon h.service h.tie))) (sym same.key) h.means;
  out = subst IsOfAcceptor (sym same.out) h.out;
  into = subst IsOfConnector (sym same.into) h.into;
}

pub host-seals : (us : Uses) (n : NodeName) (number : ℕ) (keys : Keys) (name : Name) → HostKeys us n number keys name → MaySeal us n keys
host-seals us n number keys name h = record {
  name = name;
  connected = record { acceptor = n; number = number; tie = AtDaemon h.service h.tie; means = h.means };
  own = inr (h.out, inl refl);
}

-- until a session is open, the entity is the one of the authority
abbrev pub StageKeys : Uses → NodeName → ℕ → IncomingStage → Type 0
StageKeys us n number (AwaitsSignature s owner) = HostKeys us n number s.keys owner.ticket.name
StageKeys us n number (AwaitsIdent s owner) = HostKeys us n number s.keys owner.ticket.name
StageKeys us n number (Open s served) = (name : Name) × HostKeys us n number s.keys name
StageKeys us n number _ = Unit {0}

abbrev pub LinkKeys : Uses → NodeName → Option (Link IncomingStage) → Type 0
LinkKeys us n (Some link) = StageKeys us n link.number link.stage
LinkKeys us n None = Unit {0}

-- the session key of a ticket for a daemon
ticketed : (name : Name) (service : EntityType) → is_daemon_type service ≡ true → session_use name service ≡ Ticketed name service
ticketed name Mds e = refl
ticketed name Osd e = refl
ticketed name Mgr e = refl
ticketed name Mon e = absurd cc
ticketed name Client e = absurd cc
ticketed name Auth e = absurd cc

raised-below : (nonce : ℕ) → raised nonce < 2 ^ 64
raised-below nonce = omega arith

-- ---- rows that draw no key

module _ (us : Uses) (J : List Entry) (n : NodeName) where
  -- what a row logs is allowed, it issues nothing, and its link goes on under good keys
  pub record KeysRow (row : IncomingRow) : Type 0 where
    pub seals : Allowed us J n row.seals
    pub entries : AllByRecursion IsNotIssued row.entries
    pub link : LinkKeys us n row.link

  pub openings-allowed : (es : List SealEntry) → AllByRecursion IsOpening es → Allowed us J n es
  openings-allowed es h = all-map IsOpening (IsAllowed us J n) opening-allowed es h
    where
      opening-allowed : (e : SealEntry) → IsOpening e → IsAllowed us J n e
      opening-allowed (seal.Opened mark) h = tt
      opening-allowed (seal.Sealed mark) h = absurd h
      opening-allowed (seal.Signed mark) h = absurd h
      opening-allowed (seal.Checked mark) h = tt
      opening-allowed (seal.Drawn mark) h = tt

  -- what is sealed under a session key of a daemon's ticket
  pub session-allowed : (name : Name) (service : EntityType) (session content : List ℕ) → is_daemon_type service ≡ true → Means us session (session_use name service)
      → RepliesFor us name service content → IsAllowed us J n (session_sealed session content)
  session-allowed name service session content of means says =
      (Ticketed name service, subst (λ (u : Use). Means us session u) (ticketed name service of) means, says, tt)

  module _ (b : IncomingArrival) where
    pub keys-plain : (stage : IncomingStage) (seals : List SealEntry) (r : Result (List ℕ) BytesFault) → StageKeys us n b.link.number stage → Allowed us J n seals → KeysRow (plain_sent b stage seals r)
    keys-plain stage seals (Ok bytes) st al = record { seals = al; entries = tt; link = st }
    keys-plain stage seals (Err why) st al = record { seals = al; entries = (tt, tt); link = tt }

    pub keys-refuses : (why : Reason) (seals : List SealEntry) → Allowed us J n seals → KeysRow (refuses b why seals)
    keys-refuses why seals al = record { seals = al; entries = (tt, tt); link = tt }

    pub keys-secure : (s : Secured) (stage : Secured → IncomingStage) (seals : List SealEntry) (r : Result SealedFrame BytesFault) → FrameOk us J n s.keys r
        → ((t : Secured) → IsSameWay t.keys s.keys → StageKeys us n b.link.number (stage t)) → Allowed us J n seals → KeysRow (secure_sent b s stage seals r)
    keys-secure s stage seals (Ok sealed) ok st al = record {
      seals = all-append (IsAllowed us J n) seals sealed.seals al ok.0;
      entries = tt;
      link = st (record s { keys = sealed.keys }) ok.1;
    }
    keys-secure s stage seals (Err why) ok st al = record { seals = al; entries = (tt, tt); link = tt }

    pub keys-entered : (e : Entry) (row : IncomingRow) → IsNotIssued e → KeysRow row → KeysRow (entered_before e row)
    keys-entered e row none h = record { seals = h.seals; entries = (none, h.entries); link = h.link }

    pub keys-banner : (kind : EntityType) → KeysRow (on_banner kind b)
    keys-banner kind = keys-plain AwaitsHello [] (plain_frame (own_hello kind)) tt tt

    pub keys-hello : (read : Result Hello BytesFault) → KeysRow (on_hello b read)
    keys-hello (Ok hello) = record { seals = tt; entries = tt; link = tt }
    keys-hello (Err why) = record { seals = tt; entries = (tt, tt); link = tt }

    pub keys-signature : (s : Secured) (owner : Authority) (found : Result AuthSignature BytesFault) → HostKeys us n b.link.number s.keys owner.ticket.name → KeysRow (on_signature b s owner found)
    keys-signature s owner (Err why) h = record { seals = tt; entries = (tt, tt); link = tt }
    keys-signature s owner (Ok found) h = by_test (is_signed s found.signature)
      where
        by_test : (right : Bool) → KeysRow (if right then goes_on b (AwaitsIdent s owner) [] (signature_found s ∷ []) else refuses b (Login SignatureWrong) [])
        by_test true = record { seals = (tt, tt); entries = tt; link = h }
        by_test false = record { seals = tt; entries = (tt, tt); link = tt }

    -- one that is turned away
    keys-away : (opened : List SealEntry) (why : AuthRefusal) → Allowed us J n opened → KeysRow (turns_away b opened why)
    keys-away opened (refusal.Malformed place) al = record { seals = al; entries = (tt, tt); link = tt }
    keys-away opened (refusal.WrongService kept got) al = record { seals = al; entries = (tt, tt); link = tt }
    keys-away opened (refusal.Ticket why blob) al = record { seals = al; entries = (tt, tt); link = tt }
    keys-away opened refusal.OutOfMemory al = record { seals = al; entries = (tt, tt); link = tt }

-- ---- the first authorizer

module _ (run : WholeRun) (whole : List Logged) (n : NodeName) (line : ℕ) (us : Uses) (log : List Logged) (J : List Entry) (b : IncomingArrival)
    (i : Inv run whole us log J) (of : is_daemon_type b.own.name.kind ≡ true) (placed : IsOfKind n b.own.name.kind) (generated : AreGenerated us b.own.name.kind b.own.view.generations) where
  abbrev Granted : List SealEntry → Type 0
  Granted es = AreGranted run.leaked whole n line log es

  -- whose the session key of a ticket is that opened first
  opened-means : (ticket : ServiceTicket) (opened : List SealEntry) → Granted opened → ShowsTicket b.own.view ticket opened → Means us ticket.session (session_use ticket.name b.own.name.kind)
  opened-means ticket opened g shown = (opened-issued run whole n line us log J b.own.name.kind b.own.view ticket opened i generated g shown).1

  keys-challenges : (opened : List SealEntry) (ticket : ServiceTicket) → AllByRecursion IsOpening opened → ShowsTicket b.own.view ticket opened
      → Granted (challenges b opened ticket).seals → KeysRow us J n (challenges b opened ticket)
  keys-challenges opened ticket all shown g = by_sent (plain_frame (sealed_challenge_frame ticket.session (challenge_of b.draw))) g
    where
      before : List SealEntry
      before = opened ++ seal.Drawn (draw.Challenge (challenge_of b.draw)) ∷ []

      drawn-allowed : Allowed us J n (opened ++ seal.Drawn (draw.Challenge (challenge_of b.draw)) ∷ [])
      drawn-allowed = all-append (IsAllowed us J n) opened (seal.Drawn (draw.Challenge (challenge_of b.draw)) ∷ []) (openings-allowed us J n opened all) (tt, tt)

      by_sent : (r : Result (List ℕ) BytesFault) → Granted (unless_refused b (opened ++ seal.Drawn (draw.Challenge (challenge_of b.draw)) ∷ []) r
          (λ bytes. goes_on b (AwaitsProof (record { service = b.own.name.kind; challenge = challenge_of b.draw })) bytes
          ((opened ++ seal.Drawn (draw.Challenge (challenge_of b.draw)) ∷ []) ++ session_sealed ticket.session (authorize_challenge_content (challenge_of b.draw)) ∷ []))).seals
          → KeysRow us J n (unless_refused b (opened ++ seal.Drawn (draw.Challenge (challenge_of b.draw)) ∷ []) r
          (λ bytes. goes_on b (AwaitsProof (record { service = b.own.name.kind; challenge = challenge_of b.draw })) bytes
          ((opened ++ seal.Drawn (draw.Challenge (challenge_of b.draw)) ∷ []) ++ session_sealed ticket.session (authorize_challenge_content (challenge_of b.draw)) ∷ [])))
      by_sent (Ok bytes) g =
          let first = granted-first run.leaked whole n line log (opened ++ seal.Drawn (draw.Challenge (challenge_of b.draw)) ∷ [])
          (session_sealed ticket.session (authorize_challenge_content (challenge_of b.draw)) ∷ []) g in
          let means = opened-means ticket opened (granted-first run.leaked whole n line log opened (seal.Drawn (draw.Challenge (challenge_of b.draw)) ∷ []) first) shown in
          record {
            seals = all-append (IsAllowed us J n) (opened ++ seal.Drawn (draw.Challenge (challenge_of b.draw)) ∷ []) _ drawn-allowed (
              session-allowed us J n ticket.name b.own.name.kind ticket.session (authorize_challenge_content (challenge_of b.draw)) of means
                  (λ x e. absurd (challenge_no_reply (record { challenge = challenge_of b.draw }) x e)),
              tt,
            );
            entries = tt;
            link = tt;
          }
      by_sent (Err why) g = record { seals = drawn-allowed; entries = (tt, tt); link = tt }

  keys-first : {X : Type 0} (opened : List SealEntry) (value : Result X AuthRefusal) (part : X → ServiceTicket) → AllByRecursion IsOpening opened
      → ((t : ServiceTicket) → judged_by part value ≡ Ok t → ShowsTicket b.own.view t opened)
      → Granted (unless_turned_away b opened value (λ x. challenges b opened (part x))).seals → KeysRow us J n (unless_turned_away b opened value (λ x. challenges b opened (part x)))
  keys-first opened (Ok x) part all shows g = keys-challenges opened (part x) all (shows (part x) refl) g
  keys-first opened (Err why) part all shows g = keys-away us J n b opened why (openings-allowed us J n opened all)

  first-keys : (payload : List ℕ) → Granted (on_first b payload).seals → KeysRow us J n (on_first b payload)
  first-keys payload g =
      let j = judged_first b.own.name.kind b.own.view b.reading payload in
      keys-entered us J n b (looked_entry b) _ tt
      (keys-first j.seals j.value (λ shown. shown.ticket) (first-all b.own.name.kind b.own.view b.reading payload) (first-opened b.own.name.kind b.own.view b.reading payload) g)

  pub request-keys : (request : Result AuthRequest BytesFault) → Granted (on_auth_request on_first b request).seals → KeysRow us J n (on_auth_request on_first b request)
  request-keys (Err why) g = record { seals = tt; entries = (tt, tt); link = tt }
  request-keys (Ok request) g = by_tests (not (request.method == 2)) (not (list_any (λ mode. mode == 2) request.modes)) g
    where
      by_tests : (other plain : Bool) → Granted (if other then denies b 95 Method [] else if plain then denies b 95 Mode [] else on_first b request.payload).seals
          → KeysRow us J n (if other then denies b 95 Method [] else if plain then denies b 95 Mode [] else on_first b request.payload)
      by_tests true plain g = record { seals = tt; entries = (tt, tt); link = tt }
      by_tests false true g = record { seals = tt; entries = (tt, tt); link = tt }
      by_tests false false g = first-keys request.payload g

  -- ---- the second authorizer, which draws the key of the link

  -- what is known behind a row
  pub record KeptKeys (row : IncomingRow) : Type 0 where
    pub uses : Uses
    pub grows : Grows us uses
    pub inv : Inv run whole uses (behind n line row.seals log) J
    pub entries : AllByRecursion IsNotIssued row.entries
    pub link : LinkKeys uses n row.link

  -- where it draws no key
  pub keys-kept : (row : IncomingRow) → KeysRow us J n row → KeptKeys row
  keys-kept row h = record { uses = us; grows = stays us; inv = inv-all run whole us log J n line row.seals i h.seals; entries = h.entries; link = h.link }

  -- a link that is finished
  abbrev FinishedKeys : Uses → Keys → Result Finished BytesFault → Type 0
  FinishedKeys vs keys (Ok done) = Allowed vs J n done.seals × IsSameWay done.secured.keys keys
  FinishedKeys vs keys (Err why) = Unit {0}

  joined-keys : (vs : Uses) (keys : Keys) (session sent : List ℕ) (done : Result (List ℕ) BytesFault) (signed : Result SealedFrame BytesFault) → FrameOk vs J n keys signed
      → FinishedKeys vs keys (joined session sent done signed)
  joined-keys vs keys session sent (Err why) signed h = tt
  joined-keys vs keys session sent (Ok done) (Err why) h = tt
  joined-keys vs keys session sent (Ok done) (Ok signed) h = h

  signing-keys : (vs : Uses) (name : Name) (service : EntityType) (keys : Keys) (session received : List ℕ) (r : Result SealedFrame BytesFault) → Means vs session (Ticketed name service)
      → IsOfKind n service → FrameOk vs J n keys r → FrameOk vs J n keys (signing session received r)
  signing-keys vs name service keys session received (Ok s) means kind h = (((Ticketed name service, means, inr kind), h.0), h.1)
  signing-keys vs name service keys session received (Err why) means kind h = tt

  module _ (drawn : length b.draw ≡ 384) (awaited : Awaited) (nonce : ℕ) (opened : List SealEntry) (ticket : ServiceTicket) (all : AllByRecursion IsOpening opened)
      (shown : ShowsTicket b.own.view ticket opened) where
    abbrev secret : List ℕ
    secret = connection_of b.draw

    abbrev purpose : Use
    purpose = Connected n b.link.number ticket.name (AtDaemon b.own.name.kind (raised nonce))

    abbrev vs : Uses
    vs = with_key us (take 16 secret) purpose

    abbrev drew : SealEntry
    drew = seal.Drawn (draw.Connection secret ticket.name)

    abbrev before : List SealEntry
    before = opened ++ drew ∷ []

    abbrev held : List SealEntry
    held = session_sealed ticket.session (authorize_reply_content nonce secret) ∷ []

    drawn-inv : Granted before → Inv run whole vs (behind n line before log) J
    drawn-inv g =
        let first = inv-all run whole us log J n line opened i (openings-allowed us J n opened all) in
        let rest = granted-rest run.leaked whole n line log opened (drew ∷ []) g in
        subst (λ (l : List Logged). Inv run whole vs l J) (sym (behind-append n line opened (drew ∷ []) log))
        (inv-drawn run whole us (behind n line opened log) J n line (draw.Connection secret ticket.name) (take 16 secret) purpose first refl refl placed (λ m e. absurd cc) rest.0)

    session-means : Granted before → Means vs ticket.session (Ticketed ticket.name b.own.name.kind)
    session-means g =
        inr (subst (λ (u : Use). Means us ticket.session u) (ticketed ticket.name b.own.name.kind of)
        (opened-means ticket opened (granted-first run.leaked whole n line log opened (drew ∷ []) g) shown))

    host : HostKeys vs n b.link.number (acceptor_keys secret) ticket.name
    host = record {
      service = b.own.name.kind;
      tie = raised nonce;
      means = inl (refl, refl);
      out = acceptor-sends b.draw drawn;
      into = connector-sends b.draw drawn;
    }

    -- the reply raises the nonce that it answers, and its secret is that of this link
    reply-says : RepliesFor vs ticket.name b.own.name.kind (authorize_reply_content nonce secret)
    reply-says = λ x e.
        let same = read_reply (record { nonce_plus_one = raised nonce; secret = secret }) x (raised-below nonce) (short-connection b.draw) e in (
          record {
            acceptor = n;
            number = b.link.number;
            service = b.own.name.kind;
            means = inl (
              ap (λ (s : List ℕ). take 16 s) (sym same.1),
              ap (λ (m : ℕ). Connected n b.link.number ticket.name (AtDaemon b.own.name.kind m)) (sym same.0),
            );
            into = subst (λ (s : List ℕ). slice_index s 16 < 128) (sym same.1) (acceptor-sends b.draw drawn);
            out = subst (λ (s : List ℕ). 128 ≤ slice_index s 28) (sym same.1) (connector-sends b.draw drawn);
            counts_into = ap (λ (s : List ℕ). counter_at s 20) same.1 ∙ acceptor-counts b.draw drawn;
            counts_out = ap (λ (s : List ℕ). counter_at s 32) same.1 ∙ connector-counts b.draw drawn;
          },
          refl,
        )

    done-keys : (r : Result Finished BytesFault) → (Means vs ticket.session (Ticketed ticket.name b.own.name.kind) → FinishedKeys vs (acceptor_keys secret) r)
        → Granted (done_sent b before held (authority_of b ticket) r).seals → KeptKeys (done_sent b before held (authority_of b ticket) r)
    done-keys (Err why) fin g = record { uses = vs; grows = grows-one us (take 16 secret) purpose; inv = drawn-inv g; entries = (tt, tt); link = tt }
    done-keys (Ok done) fin g =
        let first = granted-first run.leaked whole n line log before (held ++ done.seals) g in
        let means = session-means first in
        let f = fin means in
        let allowed : Allowed vs J n (held ++ done.seals) = all-append (IsAllowed vs J n) held done.seals ((Ticketed ticket.name b.own.name.kind, means, reply-says, tt), tt) f.0 in
        record {
          uses = vs;
          grows = grows-one us (take 16 secret) purpose;
          inv = subst (λ (l : List Logged). Inv run whole vs l J) (sym (behind-append n line before (held ++ done.seals) log))
              (inv-all run whole vs (behind n line before log) J n line (held ++ done.seals) (drawn-inv first) allowed);
          entries = tt;
          link = host-moves vs n b.link.number done.secured.keys (acceptor_keys secret) ticket.name f.1 host;
        }

    authorizes-keys : Granted (authorizes b opened ticket nonce).seals → KeptKeys (authorizes b opened ticket nonce)
    authorizes-keys g =
        done-keys (finished b.link ticket.session secret (authorized_frame ticket nonce secret))
        (λ means. joined-keys vs (acceptor_keys secret) ticket.session b.link.sent (plain_frame (authorized_frame ticket nonce secret))
        (signed_frame (acceptor_keys secret) ticket.session (take b.link.taken b.link.received))
        (signing-keys vs ticket.name b.own.name.kind (acceptor_keys secret) ticket.session (take b.link.taken b.link.received) (secure_frame (acceptor_keys secret) _) means placed
        (frame-ok vs J n (acceptor_keys secret) _ (host-seals vs n b.link.number (acceptor_keys secret) ticket.name host)))) g

  kept-looked : (row : IncomingRow) → KeptKeys row → KeptKeys (entered_before (looked_entry b) row)
  kept-looked row h = record { uses = h.uses; grows = h.grows; inv = h.inv; entries = (tt, h.entries); link = h.link }

  judged-keys : {X : Type 0} (drawn : length b.draw ≡ 384) (awaited : Awaited) (opened : List SealEntry) (value : Result X AuthRefusal) (part : X → ServiceTicket) (nonce_of : X → ℕ)
      → AllByRecursion IsOpening opened → ((t : ServiceTicket) → judged_by part value ≡ Ok t → ShowsTicket b.own.view t opened)
      → Granted (unless_turned_away b opened value (λ x. authorizes b opened (part x) (nonce_of x))).seals
      → KeptKeys (unless_turned_away b opened value (λ x. authorizes b opened (part x) (nonce_of x)))
  judged-keys drawn awaited opened (Ok x) part nonce_of all shows g = authorizes-keys drawn awaited (nonce_of x) opened (part x) all (shows (part x) refl) g
  judged-keys drawn awaited opened (Err why) part nonce_of all shows g = keys-kept (turns_away b opened why) (keys-away us J n b opened why (openings-allowed us J n opened all))

  pub more-keys : (awaited : Awaited) (more : Result AuthRequestMore BytesFault) → length b.draw ≡ 384 → Granted (on_auth_request_more b awaited more).seals
      → KeptKeys (on_auth_request_more b awaited more)
  more-keys awaited (Err why) drawn g = keys-kept (refuses_bytes b why []) (record { seals = tt; entries = (tt, tt); link = tt })
  more-keys awaited (Ok more) drawn g =
      let j = judged_second awaited b.own.view b.reading more.payload in
      kept-looked (unless_turned_away b j.seals j.value (λ shown. authorizes b j.seals shown.ticket shown.authorize.nonce))
      (judged-keys drawn awaited j.seals j.value (λ shown. shown.ticket) (λ shown. shown.authorize.nonce) (second-all awaited b.own.view b.reading more.payload)
      (second-opened awaited b.own.view b.reading more.payload) g)
