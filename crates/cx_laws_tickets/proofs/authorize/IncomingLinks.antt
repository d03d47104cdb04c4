-- What each row of an incoming link keeps, until the daemon has signed: only the second authorizer gives a link an authority.
use Rattle.std.proofs.Common.{◌≡◌, ◌⊎◌, ◌==◌, ℕ, Bool, true, false, List, [], ◌∷◌, ◌++◌, Option, Some, None, Result, Ok, Err, inl, inr, refl, subst, arith}
use Rattle.std.specs.Prelude.{not, if◌then◌else◌}
use Rattle.std.specs.List.{AllByRecursion, list_any}
use Rattle.cx_base.specs.declared.kinds.EntityType.{EntityType}
use Rattle.cx_base.specs.declared.nodes.NodeName.{NodeName}
use Rattle.cx_control.specs.declared.auth.AuthRequest.{AuthRequest}
use Rattle.cx_control.specs.declared.auth.AuthRequestMore.{AuthRequestMore}
use Rattle.cx_control.specs.declared.auth.AuthSignature.{AuthSignature}
use Rattle.cx_control.specs.declared.hello.Hello.{Hello}
use Rattle.cx_dice.specs.Draws.{challenge_of, connection_of}
use Rattle.cx_journal.specs.declared.entries.Entry.{Entry}
use Rattle.cx_journal.specs.declared.entries.Entry.TheVariants as entry
use Rattle.cx_journal.specs.declared.entries.Refused.{Refused}
use Rattle.cx_journal.specs.declared.faults.BytesFault.{BytesFault}
use Rattle.cx_journal.specs.declared.faults.LoginFault.TheVariants.{Method, Mode, SignatureWrong}
use Rattle.cx_journal.specs.declared.outcomes.Reason.{Reason}
use Rattle.cx_journal.specs.declared.outcomes.Reason.TheVariants as reason
use Rattle.cx_journal.specs.declared.outcomes.Reason.TheVariants.{Login}
use Rattle.cx_laws_tickets.proofs.authorize.Judging.{second-shows, shown-more}
use Rattle.cx_laws_tickets.proofs.authorize.Refusing.{RefusalTells, first-tells, second-tells}
use Rattle.cx_laws_tickets.specs.authorize.Admission.{IncomingHas, IsAuthorizedAt, IsOwnedIn, IsShown, IsToldAt}
use Rattle.cx_laws_keys.proofs.keys.Lists.{all-map}
use Rattle.cx_laws_keys.specs.cx_rules.specs.Acceptor.{AwaitsHello, AwaitsRequest, AwaitsProof, AwaitsSignature, AwaitsIdent, Finished, denies, finished, on_auth_request, on_banner, on_hello, on_signature}
use Rattle.cx_laws_keys.specs.cx_rules.specs.Greetings.{own_hello}
use Rattle.cx_laws_keys.specs.cx_rules.specs.Holdings.{MonClient}
use Rattle.cx_laws_keys.specs.cx_rules.specs.Links.{Link}
use Rattle.cx_laws_keys.specs.cx_rules.specs.Rows.{goes_on, plain_sent, refuses, secure_sent, unless_refused}
use Rattle.cx_laws_keys.specs.cx_rules.specs.Secured.{SealedFrame, Secured, is_signed, plain_frame, signature_found}
use Rattle.cx_laws_keys.specs.cx_sealed.specs.declared.service_ticket.ServiceTicket.{ServiceTicket}
use Rattle.cx_laws_keys.specs.cx_steps.specs.declared.seals.DrawMark.TheVariants as draw
use Rattle.cx_laws_keys.specs.cx_steps.specs.declared.seals.SealEntry.{SealEntry}
use Rattle.cx_laws_keys.specs.cx_steps.specs.declared.seals.SealEntry.TheVariants.{Drawn}
use Rattle.cx_run.proofs.Outcomes.{IsNoTicket}
use Rattle.cx_run.specs.cx_authorize.specs.Daemon.{Authority, Awaited}
use Rattle.cx_run.specs.cx_authorize.specs.Judging.{judged_first, judged_second}
use Rattle.cx_run.specs.cx_authorize.specs.declared.refusals.AuthRefusal.{AuthRefusal}
use Rattle.cx_run.specs.cx_authorize.specs.declared.refusals.AuthRefusal.TheVariants as refusal
use Rattle.cx_run.specs.cx_rules_session.specs.Complete.{judged_by}
use Rattle.cx_run.specs.cx_rules_session.specs.Envelopes.{authorize_challenge_content, authorize_reply_content, session_sealed}
use Rattle.cx_run.specs.cx_rules_session.specs.IncomingLinks.{IncomingArrival, IncomingRow, IncomingStage, authority_of, authorized_frame, authorizes, challenges, done_sent, looked_entry, on_auth_request_more, on_first, on_second, sealed_challenge_frame, turns_away, unless_turned_away}
use Rattle.cx_run.specs.cx_rules_session.specs.Kinds.{entered_before}

-- ---- rows

-- a session that is entered is owned by the link in this stage; a look is at the daemon's own view, which stays; and no ticket is refused
abbrev pub EntryOwnedIn : MonClient → IncomingStage → Entry → Type 0
EntryOwnedIn daemon stage (entry.Admitted session) = IsOwnedIn daemon stage session
EntryOwnedIn daemon stage (entry.Resumed session) = IsOwnedIn daemon stage session
EntryOwnedIn daemon stage (entry.Refused r) = IsNoTicket r.reason
EntryOwnedIn daemon stage (entry.Looked look) = (look.daemon ≡ daemon.name) × (look.view ≡ daemon.view)
EntryOwnedIn daemon stage (entry.Fetched f) = ⊥
EntryOwnedIn daemon stage (entry.Restarted at) = ⊥
EntryOwnedIn daemon stage (entry.Issued ticket) = ⊥
EntryOwnedIn daemon stage _ = Unit {0}

-- or the refusal tells what came of it
abbrev pub ReasonTold : MonClient → NodeName → ℕ → ℕ → List Entry → List SealEntry → Refused → Reason → Type 0
ReasonTold daemon me number reading entries seals r (reason.Ticket why blob) = IsToldAt daemon me number reading entries seals r why blob
ReasonTold daemon me number reading entries seals r _ = Unit {0}

abbrev pub EntryToldIn : MonClient → NodeName → ℕ → ℕ → IncomingStage → List Entry → List SealEntry → Entry → Type 0
EntryToldIn daemon me number reading stage entries seals (entry.Admitted session) = IsOwnedIn daemon stage session
EntryToldIn daemon me number reading stage entries seals (entry.Resumed session) = IsOwnedIn daemon stage session
EntryToldIn daemon me number reading stage entries seals (entry.Refused r) = ReasonTold daemon me number reading entries seals r r.reason
EntryToldIn daemon me number reading stage entries seals (entry.Looked look) = (look.daemon ≡ daemon.name) × (look.view ≡ daemon.view)
EntryToldIn daemon me number reading stage entries seals (entry.Fetched f) = ⊥
EntryToldIn daemon me number reading stage entries seals (entry.Restarted at) = ⊥
EntryToldIn daemon me number reading stage entries seals (entry.Issued ticket) = ⊥
EntryToldIn daemon me number reading stage entries seals _ = Unit {0}

reason-told : (daemon : MonClient) (me : NodeName) (number reading : ℕ) (entries : List Entry) (seals : List SealEntry) (r : Refused) (why : Reason) → IsNoTicket why
    → ReasonTold daemon me number reading entries seals r why
reason-told daemon me number reading entries seals r (reason.Ticket why blob) h = absurd h
reason-told daemon me number reading entries seals r _ h = tt

entry-told : (daemon : MonClient) (me : NodeName) (number reading : ℕ) (stage : IncomingStage) (entries : List Entry) (seals : List SealEntry) (e : Entry) → EntryOwnedIn daemon stage e
    → EntryToldIn daemon me number reading stage entries seals e
entry-told daemon me number reading stage entries seals (entry.Admitted session) h = h
entry-told daemon me number reading stage entries seals (entry.Resumed session) h = h
entry-told daemon me number reading stage entries seals (entry.Refused r) h = reason-told daemon me number reading entries seals r r.reason h
entry-told daemon me number reading stage entries seals (entry.Looked look) h = h
entry-told daemon me number reading stage entries seals (entry.Fetched f) h = absurd h
entry-told daemon me number reading stage entries seals (entry.Restarted at) h = absurd h
entry-told daemon me number reading stage entries seals (entry.Issued ticket) h = absurd h
entry-told daemon me number reading stage entries seals _ h = tt

-- a link goes on with its number, and with no authority but the one that it had
abbrev pub GoesWith : ℕ → IncomingStage → Option (Link IncomingStage) → Type 0
GoesWith number before (Some l) = (l.number ≡ number) × ((x : Authority) → IncomingHas l.stage x → IncomingHas before x)
GoesWith number before None = Unit {0}

-- or with one that it gets
abbrev pub GainsWith : MonClient → ℕ → ℕ → IncomingStage → List Entry → List SealEntry → Option (Link IncomingStage) → Type 0
GainsWith daemon number reading before entries seals (Some l) =
    (l.number ≡ number) × ((x : Authority) → IncomingHas l.stage x → IncomingHas before x ⊎ IsAuthorizedAt daemon number reading before x entries seals)
GainsWith daemon number reading before entries seals None = Unit {0}

pub record StillRow (daemon : MonClient) (number : ℕ) (before : IncomingStage) (row : IncomingRow) : Type 0 where
  pub link : GoesWith number before row.link
  pub entries : AllByRecursion (EntryOwnedIn daemon before) row.entries

pub record AuthorizedRow (daemon : MonClient) (me : NodeName) (number reading : ℕ) (before : IncomingStage) (row : IncomingRow) : Type 0 where
  pub link : GainsWith daemon number reading before row.entries row.seals row.link
  pub entries : AllByRecursion (EntryToldIn daemon me number reading before row.entries row.seals) row.entries

pub still-authorized : (daemon : MonClient) (me : NodeName) (number reading : ℕ) (before : IncomingStage) (row : IncomingRow) → StillRow daemon number before row
    → AuthorizedRow daemon me number reading before row
still-authorized daemon me number reading before row h = record {
  link = by_link row.link h.link;
  entries = all-map (EntryOwnedIn daemon before) (EntryToldIn daemon me number reading before row.entries row.seals) (entry-told daemon me number reading before row.entries row.seals) row.entries h.entries;
}
  where
    by_link : (link : Option (Link IncomingStage)) → GoesWith number before link → GainsWith daemon number reading before row.entries row.seals link
    by_link (Some l) g = (g.0, λ x has. inl (g.1 x has))
    by_link None g = tt

module _ (b : IncomingArrival) (before : IncomingStage) where
  -- a stage with no authority but the one of before
  abbrev pub Passes : IncomingStage → Type 0
  Passes stage = (x : Authority) → IncomingHas stage x → IncomingHas before x

  pub still-goes_on : (stage : IncomingStage) (bytes : List ℕ) (seals : List SealEntry) → Passes stage → StillRow b.own b.link.number before (goes_on b stage bytes seals)
  still-goes_on stage bytes seals p = record { link = (refl, p); entries = tt }

  pub still-refuses : (why : Reason) (seals : List SealEntry) → IsNoTicket why → StillRow b.own b.link.number before (refuses b why seals)
  still-refuses why seals h = record { link = tt; entries = (h, tt) }

  pub still-plain : (stage : IncomingStage) (seals : List SealEntry) (r : Result (List ℕ) BytesFault) → Passes stage → StillRow b.own b.link.number before (plain_sent b stage seals r)
  still-plain stage seals (Ok bytes) p = record { link = (refl, p); entries = tt }
  still-plain stage seals (Err why) p = record { link = tt; entries = (tt, tt) }

  pub still-secure : (s : Secured) (stage : Secured → IncomingStage) (seals : List SealEntry) (r : Result SealedFrame BytesFault) → ((t : Secured) → Passes (stage t))
      → StillRow b.own b.link.number before (secure_sent b s stage seals r)
  still-secure s stage seals (Ok sealed) p = record { link = (refl, p (record s { keys = sealed.keys })); entries = tt }
  still-secure s stage seals (Err why) p = record { link = tt; entries = (tt, tt) }

  -- behind an entry
  pub still-entered : (e : Entry) (row : IncomingRow) → EntryOwnedIn b.own before e → StillRow b.own b.link.number before row → StillRow b.own b.link.number before (entered_before e row)
  still-entered e row is h = record { link = h.link; entries = (is, h.entries) }

-- ---- until the first authorizer

module _ (b : IncomingArrival) where
  pub still-banner : (before : IncomingStage) (kind : EntityType) → StillRow b.own b.link.number before (on_banner kind b)
  still-banner before kind = still-plain b before AwaitsHello [] (plain_frame (own_hello kind)) (λ x has. absurd has)

  pub still-hello : (before : IncomingStage) (read : Result Hello BytesFault) → StillRow b.own b.link.number before (on_hello b read)
  still-hello before (Ok hello) = still-goes_on b before AwaitsRequest [] [] (λ x has. absurd has)
  still-hello before (Err why) = record { link = tt; entries = (tt, tt) }

  -- what is entered before what is judged
  abbrev looked : IncomingRow → IncomingRow
  looked row = entered_before (looked_entry b) row

  away-authorized : (before : IncomingStage) (opened : List SealEntry) (why : AuthRefusal) → RefusalTells b.own.view b.reading why opened
      → AuthorizedRow b.own b.me b.link.number b.reading before (looked (turns_away b opened why))
  away-authorized before opened (refusal.Malformed place) h = record { link = tt; entries = ((refl, refl), (tt, tt)) }
  away-authorized before opened (refusal.WrongService kept got) h = record { link = tt; entries = ((refl, refl), (tt, tt)) }
  away-authorized before opened (refusal.Ticket why blob) h =
      record { link = tt; entries = ((refl, refl), (record { node_is = refl; link = refl; entries_are = refl; tells = h }, tt)) }
  away-authorized before opened refusal.OutOfMemory h = record { link = tt; entries = ((refl, refl), (tt, tt)) }

  still-challenges : (before : IncomingStage) (opened : List SealEntry) (ticket : ServiceTicket) → StillRow b.own b.link.number before (challenges b opened ticket)
  still-challenges before opened ticket = by_sent (plain_frame (sealed_challenge_frame ticket.session (challenge_of b.draw)))
    where
      by_sent : (r : Result (List ℕ) BytesFault) → StillRow b.own b.link.number before (unless_refused b (opened ++ Drawn (draw.Challenge (challenge_of b.draw)) ∷ []) r
          (λ bytes. goes_on b (AwaitsProof (record { service = b.own.name.kind; challenge = challenge_of b.draw })) bytes
          ((opened ++ Drawn (draw.Challenge (challenge_of b.draw)) ∷ []) ++ session_sealed ticket.session (authorize_challenge_content (challenge_of b.draw)) ∷ [])))
      by_sent (Ok bytes) = record { link = (refl, λ x has. absurd has); entries = tt }
      by_sent (Err why) = record { link = tt; entries = (tt, tt) }

  -- of what is judged
  judged-still : {X : Type 0} (before : IncomingStage) (opened : List SealEntry) (value : Result X AuthRefusal) (part : X → ServiceTicket) (next : X → IncomingRow)
      → ((x : X) → StillRow b.own b.link.number before (next x)) → ((r : AuthRefusal) → judged_by part value ≡ Err r → RefusalTells b.own.view b.reading r opened)
      → AuthorizedRow b.own b.me b.link.number b.reading before (looked (unless_turned_away b opened value next))
  judged-still before opened (Ok x) part next h tells =
      still-authorized b.own b.me b.link.number b.reading before (looked (next x)) (still-entered b before (looked_entry b) (next x) (refl, refl) (h x))
  judged-still before opened (Err why) part next h tells = away-authorized before opened why (tells why refl)

  first-authorized : (before : IncomingStage) (payload : List ℕ) → AuthorizedRow b.own b.me b.link.number b.reading before (on_first b payload)
  first-authorized before payload =
      let j = judged_first b.own.name.kind b.own.view b.reading payload in
      judged-still before j.seals j.value (λ shown. shown.ticket) (λ shown. challenges b j.seals shown.ticket) (λ shown. still-challenges before j.seals shown.ticket)
      (first-tells b.own.name.kind b.own.view b.reading payload)

  pub request-authorized : (before : IncomingStage) (request : Result AuthRequest BytesFault) → AuthorizedRow b.own b.me b.link.number b.reading before (on_auth_request on_first b request)
  request-authorized before (Err why) = record { link = tt; entries = (tt, tt) }
  request-authorized before (Ok request) = by_tests (not (request.method == 2)) (not (list_any (λ mode. mode == 2) request.modes))
    where
      by_tests : (other plain : Bool) → AuthorizedRow b.own b.me b.link.number b.reading before
          (if other then denies b 95 Method [] else if plain then denies b 95 Mode [] else on_first b request.payload)
      by_tests true plain = record { link = tt; entries = (tt, tt) }
      by_tests false true = record { link = tt; entries = (tt, tt) }
      by_tests false false = first-authorized before request.payload

  -- ---- the second authorizer

  module _ (awaited : Awaited) where
    abbrev due : IncomingStage
    due = AwaitsProof awaited

    done-authorized : (opened held : List SealEntry) (ticket : ServiceTicket) (secret : List ℕ) (r : Result Finished BytesFault) → IsShown b.own.view b.reading awaited.challenge ticket opened
        → AuthorizedRow b.own b.me b.link.number b.reading due (looked (done_sent b (opened ++ Drawn (draw.Connection secret ticket.name) ∷ []) held (authority_of b ticket) r))
    done-authorized opened held ticket secret (Err why) shown = record { link = tt; entries = ((refl, refl), (tt, tt)) }
    done-authorized opened held ticket secret (Ok done) shown = record { link = (refl, λ x same. inr (gets x same)); entries = ((refl, refl), tt) }
      where
        seals : List SealEntry
        seals = (opened ++ Drawn (draw.Connection secret ticket.name) ∷ []) ++ (held ++ done.seals)

        gets : (x : Authority) → authority_of b ticket ≡ x → IsAuthorizedAt b.own b.link.number b.reading due x (looked_entry b ∷ [])
            ((opened ++ Drawn (draw.Connection secret ticket.name) ∷ []) ++ (held ++ done.seals))
        gets x same =
            subst (λ (y : Authority). IsAuthorizedAt b.own b.link.number b.reading due y (looked_entry b ∷ []) ((opened ++ Drawn (draw.Connection secret ticket.name) ∷ []) ++ (held ++ done.seals)))
            same (record {
              awaited = awaited;
              stage_is = refl;
              at = refl;
              view = refl;
              looked = (0, omega arith, refl);
              shown = shown-more b.own.view b.reading awaited.challenge ticket (opened ++ Drawn (draw.Connection secret ticket.name) ∷ []) (held ++ done.seals)
                  (shown-more b.own.view b.reading awaited.challenge ticket opened (Drawn (draw.Connection secret ticket.name) ∷ []) shown);
            })

    authorizes-authorized : (opened : List SealEntry) (ticket : ServiceTicket) (nonce : ℕ) → IsShown b.own.view b.reading awaited.challenge ticket opened
        → AuthorizedRow b.own b.me b.link.number b.reading due (looked (authorizes b opened ticket nonce))
    authorizes-authorized opened ticket nonce shown =
        let secret : List ℕ = connection_of b.draw in
        done-authorized opened (session_sealed ticket.session (authorize_reply_content nonce secret) ∷ []) ticket secret
        (finished b.link ticket.session secret (authorized_frame ticket nonce secret)) shown

    judged-authorized : {X : Type 0} (opened : List SealEntry) (value : Result X AuthRefusal) (part : X → ServiceTicket) (nonce_of : X → ℕ)
        → ((ticket : ServiceTicket) → judged_by part value ≡ Ok ticket → IsShown b.own.view b.reading awaited.challenge ticket opened)
        → ((r : AuthRefusal) → judged_by part value ≡ Err r → RefusalTells b.own.view b.reading r opened) → AuthorizedRow b.own b.me b.link.number b.reading due (looked (unless_turned_away b opened value (λ x. authorizes b opened (part x) (nonce_of x))))
    judged-authorized opened (Ok x) part nonce_of h tells = authorizes-authorized opened (part x) (nonce_of x) (h (part x) refl)
    judged-authorized opened (Err why) part nonce_of h tells = away-authorized due opened why (tells why refl)

    second-authorized : (payload : List ℕ) → AuthorizedRow b.own b.me b.link.number b.reading due (on_second b awaited payload)
    second-authorized payload =
        let j = judged_second awaited b.own.view b.reading payload in
        judged-authorized j.seals j.value (λ shown. shown.ticket) (λ shown. shown.authorize.nonce) (second-shows awaited b.own.view b.reading payload)
        (second-tells awaited b.own.view b.reading payload)

    pub more-authorized : (more : Result AuthRequestMore BytesFault) → AuthorizedRow b.own b.me b.link.number b.reading due (on_auth_request_more b awaited more)
    more-authorized (Err why) = record { link = tt; entries = (tt, tt) }
    more-authorized (Ok more) = second-authorized more.payload

  -- ---- the peer's signature

  pub still-signature : (s t : Secured) (owner : Authority) (found : Result AuthSignature BytesFault) → StillRow b.own b.link.number (AwaitsSignature t owner) (on_signature b s owner found)
  still-signature s t owner (Err why) = record { link = tt; entries = (tt, tt) }
  still-signature s t owner (Ok found) = by_test (is_signed s found.signature)
    where
      by_test : (right : Bool) → StillRow b.own b.link.number (AwaitsSignature t owner) (if right then goes_on b (AwaitsIdent s owner) [] (signature_found s ∷ []) else refuses b (Login SignatureWrong) [])
      by_test true = record { link = (refl, λ x has. has); entries = tt }
      by_test false = record { link = tt; entries = (tt, tt) }
