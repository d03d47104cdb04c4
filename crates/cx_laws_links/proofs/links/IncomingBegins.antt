-- Where a daemon answers a second authorizer, its link gets a key that is new: nothing that is spoken under it was taken yet, and no session was admitted on it.
use Rattle.std.proofs.Common.{◌≡◌, ℕ, Bool, false, List, [], ◌∷◌, ◌++◌, length, take, Option, Some, None, Result, Ok, Err, refl, sym, ap, ◌∙◌, subst}
use Rattle.std.specs.Prelude.{Contains, ◌&&◌}
use Rattle.std.specs.List.{cons_option}
use Rattle.std.specs.Str.{bytes_eq}
use Rattle.cx_laws_tickets.specs.cx_run.specs.cx_authorize.specs.Verdict.{raised}
use Rattle.cx_base.specs.Names.{Name}
use Rattle.cx_base.specs.declared.nodes.NodeName.{NodeName}
use Rattle.cx_dice.specs.Draws.{connection_of}
use Rattle.cx_journal.specs.declared.entries.Entry.{Entry}
use Rattle.cx_journal.specs.declared.faults.BytesFault.{BytesFault}
use Rattle.cx_laws_keys.proofs.keys.Known.{Inv, IsOfConnector}
use Rattle.cx_laws_keys.proofs.keys.Lists.{some-map}
use Rattle.cx_laws_keys.proofs.keys.Premises.{AreGranted, DrawsKey, behind, granted-first, granted-rest, new-key}
use Rattle.cx_laws_keys.proofs.keys.Uses.{AtDaemon, Connected, DrawnAs, Means, Use, Uses, WholeRun}
use Rattle.cx_laws_keys.proofs.login.Issuing.{acceptor-sends, connector-counts, connector-sends}
use Rattle.cx_laws_keys.proofs.series.Contents.{content_where, contents_by}
use Rattle.cx_laws_keys.specs.cx_rules.specs.Acceptor.{Finished, finished, joined}
use Rattle.cx_laws_keys.specs.cx_rules.specs.Secured.{Keys, SealedFrame, Secured, Way, acceptor_keys, plain_frame, secure_frame, signed_frame, signing}
use Rattle.cx_laws_tickets.specs.cx_run.specs.cx_rules_session.specs.Envelopes.{authorize_reply_content, session_sealed}
use Rattle.cx_laws_tickets.specs.cx_run.specs.cx_rules_session.specs.IncomingLinks.{IncomingArrival, authority_of, authorized_frame, authorizes, done_sent}
use Rattle.cx_laws_keys.specs.cx_sealed.specs.declared.service_ticket.ServiceTicket.{ServiceTicket}
use Rattle.cx_steps.specs.declared.seals.DrawMark.TheVariants as draw
use Rattle.cx_steps.specs.declared.seals.Logged.{Logged}
use Rattle.cx_steps.specs.declared.seals.SealEntry.{SealEntry}
use Rattle.cx_steps.specs.declared.seals.SealEntry.TheVariants as entry
use Rattle.cx_laws_links.proofs.links.CallTells.{by-append, quiet-none}
use Rattle.cx_laws_links.proofs.links.CallWords.{AreQuiet, quiet-append}
use Rattle.cx_laws_links.proofs.links.IncomingTakes.{IsOfNoConnector, IsSealedSo, IsTakenSo, LinkHeard, frame-so}
use Rattle.cx_laws_links.proofs.links.Known.{AreTold, HasTaken, IsIncoming, Told}
use Rattle.cx_laws_links.proofs.links.Lifting.{some-behind}
use Rattle.cx_laws_links.proofs.links.Spoken.{is_connectors, said_under}

-- ---- a link that is finished

abbrev FinishedSo : Keys → Result Finished BytesFault → Type 0
FinishedSo keys (Ok done) = IsTakenSo done.secured.keys keys × IsOfNoConnector done.seals
FinishedSo keys (Err why) = Unit {0}

signing-so : (keys : Keys) (session received : List ℕ) (r : Result SealedFrame BytesFault) → IsSealedSo keys r → IsSealedSo keys (signing session received r)
signing-so keys session received (Ok s) h = (h.0, λ key. h.1 key)
signing-so keys session received (Err why) h = tt

joined-so : (keys : Keys) (session sent : List ℕ) (done : Result (List ℕ) BytesFault) (signed : Result SealedFrame BytesFault) → IsSealedSo keys signed
    → FinishedSo keys (joined session sent done signed)
joined-so keys session sent (Err why) signed h = tt
joined-so keys session sent (Ok done) (Err why) h = tt
joined-so keys session sent (Ok done) (Ok signed) h = h

-- ---- the second authorizer

module _ (run : WholeRun) (whole : List Logged) (us : Uses) (told : Told) (log : List Logged) (J : List Entry) (i : Inv run whole us log J) (t : AreTold run us told log J)
    (n : NodeName) (line : ℕ) (b : IncomingArrival) (drawn : length b.draw ≡ 384) (opened : List SealEntry) (silent : AreQuiet opened) (ticket : ServiceTicket) (nonce : ℕ) where
  abbrev secret : List ℕ
  secret = connection_of b.draw

  abbrev key : List ℕ
  key = take 16 secret

  abbrev drew : SealEntry
  drew = entry.Drawn (draw.Connection secret ticket.name)

  abbrev before : List SealEntry
  before = opened ++ drew ∷ []

  abbrev held : List SealEntry
  held = session_sealed ticket.session (authorize_reply_content nonce secret) ∷ []

  -- what the key is for
  abbrev purpose : Use
  purpose = Connected n b.link.number ticket.name (AtDaemon b.own.name.kind (raised nonce))

  draws : (for : Option Name) (e : SealEntry) → DrawnAs for key e → DrawsKey key e
  draws for (entry.Drawn mark) h = h.0
  draws for (entry.Sealed mark) h = h
  draws for (entry.Signed mark) h = h
  draws for (entry.Opened mark) h = h
  draws for (entry.Checked mark) h = h

  -- no session was admitted under a key that is drawn now
  unjoined : AreGranted run.leaked whole n line log before → (cookie : ℕ) → Contains told.joins (key, cookie) → ⊥
  unjoined granted cookie has =
      let a = t.asked key cookie has in
      let was = i.held key (Connected a.is.acceptor a.is.number a.name (AtDaemon a.is.service a.tie)) a.is.means in
      let grant = (granted-rest run.leaked whole n line log opened (drew ∷ []) granted).0 in
      new-key key (behind n line opened log) drew grant.new refl
      (some-behind (λ (at : Logged). DrawsKey key at.entry) n line opened log
      (some-map (λ (at : Logged). DrawnAs (Some a.name) key at.entry) (λ (at : Logged). DrawsKey key at.entry) (λ at h. draws (Some a.name) at.entry h) log was))

  -- nothing was taken under it
  none-taken : (s : Secured) → IsTakenSo s.keys (acceptor_keys secret) → HasTaken told s None
  none-taken s same = record {
    taken = [];
    rest = said_under s.keys.key told.said;
    front = refl;
    counter = let into : s.keys.into.counter ≡ (acceptor_keys secret).into.counter = ap (λ (w : Way). w.counter) same.into in into ∙ connector-counts b.draw drawn;
    session = refl;
  }

  is-incoming : (vs : Uses) → Means vs key purpose → (s : Secured) → IsTakenSo s.keys (acceptor_keys secret) → IsIncoming run vs told n b.link.number s ticket.name
  is-incoming vs means s same =
      let fixed : s.keys.into.fixed ≡ (acceptor_keys secret).into.fixed = ap (λ (w : Way). w.fixed) same.into in
      record {
        service = b.own.name.kind;
        tie = raised nonce;
        means = subst (λ (k : List ℕ). Means vs k purpose) (sym same.key) means;
        connector = subst IsOfConnector (sym fixed) (connector-sends b.draw drawn);
        four = ap (λ (l : List ℕ). length l) fixed;
      }

  finished-so : FinishedSo (acceptor_keys secret) (finished b.link ticket.session secret (authorized_frame ticket nonce secret))
  finished-so =
      joined-so (acceptor_keys secret) ticket.session b.link.sent (plain_frame (authorized_frame ticket nonce secret))
      (signed_frame (acceptor_keys secret) ticket.session (take b.link.taken b.link.received))
      (signing-so (acceptor_keys secret) ticket.session (take b.link.taken b.link.received) (secure_frame (acceptor_keys secret) _)
      (frame-so (acceptor_keys secret) _ (acceptor-sends b.draw drawn)))

  -- the link begins with nothing taken, where its key is for it
  pub authorizes-begins : (vs : Uses) → Means vs key purpose → AreGranted run.leaked whole n line log (authorizes b opened ticket nonce).seals
      → LinkHeard run vs told n (authorizes b opened ticket nonce).link
  authorizes-begins vs means granted = by_done (finished b.link ticket.session secret (authorized_frame ticket nonce secret)) finished-so granted
    where
      by_done : (r : Result Finished BytesFault) → FinishedSo (acceptor_keys secret) r → AreGranted run.leaked whole n line log (done_sent b before held (authority_of b ticket) r).seals
          → LinkHeard run vs told n (done_sent b before held (authority_of b ticket) r).link
      by_done (Err why) so g = tt
      by_done (Ok done) so g =
          let first = granted-first run.leaked whole n line log before (held ++ done.seals) g in (
            is-incoming vs means done.secured so.0,
            λ free. (None, none-taken done.secured so.0),
            λ cookie has. unjoined first cookie (subst (λ (k : List ℕ). Contains told.joins (k, cookie)) so.0.key has),
          )

  -- and of a connector nothing is sealed under any key but that of the ticket
  pub authorizes-quiet : (other : List ℕ) → bytes_eq ticket.session other ≡ false → contents_by other is_connectors (authorizes b opened ticket nonce).seals ≡ []
  authorizes-quiet other apart = by_done (finished b.link ticket.session secret (authorized_frame ticket nonce secret)) finished-so
    where
      before-quiet : contents_by other is_connectors before ≡ []
      before-quiet = quiet-none other is_connectors before (quiet-append opened (drew ∷ []) silent (tt, tt))

      held-quiet : contents_by other is_connectors held ≡ []
      held-quiet =
          let content : List ℕ = authorize_reply_content nonce secret in
          ap (λ (here : Bool). cons_option (content_where (here && is_connectors content) content) []) apart

      by_done : (r : Result Finished BytesFault) → FinishedSo (acceptor_keys secret) r → contents_by other is_connectors (done_sent b before held (authority_of b ticket) r).seals ≡ []
      by_done (Err why) so = before-quiet
      by_done (Ok done) so =
          by-append other is_connectors before (held ++ done.seals) before-quiet (by-append other is_connectors held done.seals held-quiet (so.1 other))
