-- Of all that was signed under the session keys of tickets: it covers bytes in which a daemon heard an authorizer for the ticket's service, or what one that logs in
-- took. So where a client finds the signature over what it sent, the ticket whose session key signed it is for the service that it named.
use Rattle.std.proofs.Common.{◌≡◌, ℕ, ◌==◌, ◌+◌, ◌-◌, ◌^◌, Bool, true, false, List, [], ◌∷◌, ◌++◌, Option, Some, None, Result, Ok, Err, inl, inr, ◌⊎◌, refl, sym, ap, subst}
use Rattle.std.specs.Prelude.{if◌then◌else◌}
use Rattle.std.proofs.lemmas.List.Elements.{Contains-append_left, Contains-append_right, Contains-push}
use Rattle.std.specs.Prelude.{Contains}
use Rattle.std.specs.List.{AllByRecursion}
use Rattle.cx_base.specs.Names.{Name, is_daemon_type}
use Rattle.cx_base.specs.declared.kinds.EntityType.{EntityType}
use Rattle.cx_base.specs.declared.nodes.NodeName.{NodeName}
use Rattle.cx_control.specs.declared.auth.AuthSignature.{AuthSignature}
use Rattle.cx_dice.specs.Draws.{cookie_of}
use Rattle.cx_journal.specs.declared.entries.Entry.{Entry}
use Rattle.cx_journal.specs.declared.faults.BytesFault.{BytesFault}
use Rattle.cx_journal.specs.declared.faults.LoginFault.TheVariants.{SignatureWrong}
use Rattle.cx_journal.specs.declared.outcomes.Reason.TheVariants as reason
use Rattle.cx_journal.specs.declared.premises.KeyKind.TheVariants as kind
use Rattle.cx_laws_tickets.proofs.fetch.SameChallenge.{TellsReply}
use Rattle.cx_frame.specs.declared.frame.Frame.{Frame}
use Rattle.cx_laws_links.specs.cx_laws_keys.proofs.series.Frames.{frame-sealed}
use Rattle.cx_laws_links.specs.cx_laws_keys.proofs.keys.Known.{Inv, IsAllowed}
use Rattle.cx_laws_links.specs.cx_laws_keys.proofs.keys.Premises.{behind, logged}
use Rattle.cx_laws_links.specs.cx_laws_keys.proofs.keys.Uses.{Grows, Means, Ticketed, Use, Uses, WholeRun}
use Rattle.cx_laws_links.specs.cx_rules.specs.Connector.{client_ident}
use Rattle.cx_laws_links.specs.cx_rules.specs.Links.{Link}
use Rattle.cx_laws_links.specs.cx_rules.specs.Rows.{refuses, secure_sent}
use Rattle.cx_laws_links.specs.cx_rules.specs.Secured.{SealedFrame, Secured, is_signed, secure_frame, signature_found}
use Rattle.cx_laws_links.specs.cx_rules_session.specs.Lossy.{lossy_flags}
use Rattle.cx_laws_links.specs.cx_rules_session.specs.Presenter.{CallArrival, CallRow, CallStage, AwaitsIdent, AwaitsReconnect, Open, holding_session, identifies, on_signature, on_signed, reconnects, resets, takes_up}
use Rattle.cx_laws_links.specs.cx_rules_session.specs.Sessions.{Callee, HeldSession, held_gid, session_reconnect}
use Rattle.cx_steps.specs.Premises.{HasSigned, Signs}
use Rattle.cx_steps.specs.declared.seals.DrawMark.TheVariants as draw
use Rattle.cx_steps.specs.declared.seals.Logged.{Logged}
use Rattle.cx_steps.specs.declared.seals.SealEntry.{SealEntry}
use Rattle.cx_steps.specs.declared.seals.SealEntry.TheVariants as entry
use Rattle.cx_steps.specs.declared.seals.SealMark.{SealMark}
use Rattle.cx_laws_links.proofs.answers.CallSent.{SentFor, SignsReply, covers-service}
use Rattle.cx_laws_links.proofs.answers.IncomingHeard.{SignsHeard}
use Rattle.cx_laws_links.proofs.answers.SameService.{HearsService}

-- what is signed under the session key of a ticket for a service, of an entity that is no daemon
abbrev pub SignedSo : Uses → SealEntry → Type 0
SignedSo us (entry.Signed mark) =
    (name : Name) (service : EntityType) → Means us mark.key (Ticketed name service) → is_daemon_type name.kind ≡ false → HearsService service mark.content ⊎ TellsReply mark.content
SignedSo us (entry.Sealed mark) = Unit {0}
SignedSo us (entry.Opened mark) = Unit {0}
SignedSo us (entry.Checked mark) = Unit {0}
SignedSo us (entry.Drawn mark) = Unit {0}

abbrev pub AreSigned : Uses → List Logged → Type 0
AreSigned us log = AllByRecursion (λ (at : Logged). SignedSo us at.entry) log

-- ---- it stays so

module _ (us vs : Uses) (one : (k : List ℕ) (u v : Use) → Means vs k u → Means vs k v → u ≡ v) (f : Grows us vs) (J : List Entry) where
  signed-grows : (n : NodeName) (e : SealEntry) → IsAllowed us J n e → SignedSo us e → SignedSo vs e
  signed-grows n (entry.Signed mark) a h = λ name service m client.
      let same : a.0 ≡ Ticketed name service = one mark.key a.0 (Ticketed name service) (f.means mark.key a.0 a.1) m in
      h name service (subst (λ (u : Use). Means us mark.key u) same a.1) client
  signed-grows n (entry.Sealed mark) a h = tt
  signed-grows n (entry.Opened mark) a h = tt
  signed-grows n (entry.Checked mark) a h = tt
  signed-grows n (entry.Drawn mark) a h = tt

  all-grow : (log : List Logged) → AllByRecursion (λ (at : Logged). IsAllowed us J at.node at.entry) log → AreSigned us log → AreSigned vs log
  all-grow [] a h = tt
  all-grow (at ∷ log) a h = (signed-grows at.node at.entry a.0 h.0, all-grow log a.1 h.1)

  pub signed-step : (n : NodeName) (line : ℕ) (es : List SealEntry) (log : List Logged) → AreSigned vs log → AllByRecursion (SignedSo vs) es → AreSigned vs (behind n line es log)
  signed-step n line [] log h now = h
  signed-step n line (e ∷ es) log h now = signed-step n line es (logged n line e ∷ log) (now.0, h) now.1

  -- behind a step whose entries are signed so
  pub signed-behind : (run : WholeRun) (whole : List Logged) (n : NodeName) (line : ℕ) (es : List SealEntry) (log : List Logged) → Inv run whole us log J → AreSigned us log
      → AllByRecursion (SignedSo vs) es → AreSigned vs (behind n line es log)
  signed-behind run whole n line es log i h now = signed-step n line es log (all-grow log i.allowed h) now

-- what a client signs is signed so
pub reply-signed : (us : Uses) (es : List SealEntry) → AllByRecursion SignsReply es → AllByRecursion (SignedSo us) es
reply-signed us [] h = tt
reply-signed us (entry.Signed mark ∷ es) h = (λ name service m client. inr h.0, reply-signed us es h.1)
reply-signed us (entry.Sealed mark ∷ es) h = (tt, reply-signed us es h.1)
reply-signed us (entry.Opened mark ∷ es) h = (tt, reply-signed us es h.1)
reply-signed us (entry.Checked mark ∷ es) h = (tt, reply-signed us es h.1)
reply-signed us (entry.Drawn mark ∷ es) h = (tt, reply-signed us es h.1)

-- and what a daemon signs, where such keys are of its service
pub heard-signed : (us : Uses) (service : EntityType) (es : List SealEntry)
    → ((mark : SealMark) (name : Name) (other : EntityType) → Contains es (entry.Signed mark) → Means us mark.key (Ticketed name other) → is_daemon_type name.kind ≡ false → other ≡ service)
    → AllByRecursion (SignsHeard service) es
    → AllByRecursion (SignedSo us) es
heard-signed us service [] of h = tt
heard-signed us service (e ∷ es) of h = (
  by_entry e (Contains-append_left (e ∷ []) es e (Contains-push [] e)) h.0,
  heard-signed us service es (λ mark name other has m client. of mark name other (Contains-append_right (e ∷ []) es (entry.Signed mark) has) m client) h.1,
)
  where
    by_entry : (x : SealEntry) → Contains (e ∷ es) x → SignsHeard service x → SignedSo us x
    by_entry (entry.Signed mark) has so = λ name other m client. inl (subst (λ (k : EntityType). HearsService k mark.content) (sym (of mark name other has m client)) so)
    by_entry (entry.Sealed mark) has so = tt
    by_entry (entry.Opened mark) has so = tt
    by_entry (entry.Checked mark) has so = tt
    by_entry (entry.Drawn mark) has so = tt

-- ---- a signature that is found

signed-one : (us : Uses) (log : List Logged) (mark : SealMark) (name : Name) (service : EntityType) → AreSigned us log → HasSigned log mark → Means us mark.key (Ticketed name service)
    → is_daemon_type name.kind ≡ false → HearsService service mark.content ⊎ TellsReply mark.content
signed-one us [] mark name service h has m client = absurd has
signed-one us (at ∷ log) mark name service h (inr later) m client = signed-one us log mark name service h.1 later m client
signed-one us (at ∷ log) mark name service h (inl here) m client = by_entry at.entry here h.0
  where
    by_entry : (e : SealEntry) → Signs mark e → SignedSo us e → HearsService service mark.content ⊎ TellsReply mark.content
    by_entry (entry.Signed other) same so =
        subst (λ (bytes : List ℕ). HearsService service bytes ⊎ TellsReply bytes) same.content
        (so name service (subst (λ (k : List ℕ). Means us k (Ticketed name service)) (sym same.key) m) client)
    by_entry (entry.Sealed other) same so = absurd same
    by_entry (entry.Opened other) same so = absurd same
    by_entry (entry.Checked other) same so = absurd same
    by_entry (entry.Drawn other) same so = absurd same

-- the ticket whose session key signed what a client sent is for the service that it named
pub found-service : (us : Uses) (log : List Logged) (s : Secured) (name : Name) (heard service : EntityType) → AreSigned us log
    → HasSigned log (record { key = s.session; kind = kind.Signature; content = s.covered }) → Means us s.session (Ticketed name heard) → is_daemon_type name.kind ≡ false
    → SentFor service s.covered → heard ≡ service
found-service us log s name heard service h has means client sent =
    covers-service service heard s.covered sent (signed-one us log (record { key = s.session; kind = kind.Signature; content = s.covered }) name heard h has means client)

-- ---- where a client's link goes on behind it, it was found

-- behind it the link has the same key, and calls the same daemon
abbrev pub IsSignedFor : Secured → Callee → CallStage → Type 0
IsSignedFor s callee (AwaitsIdent t other cookie) = (t.keys.key ≡ s.keys.key) × (other ≡ callee)
IsSignedFor s callee (AwaitsReconnect t other cookie) = (t.keys.key ≡ s.keys.key) × (other ≡ callee)
IsSignedFor s callee (Open t other cookie) = (t.keys.key ≡ s.keys.key) × (other ≡ callee)
IsSignedFor s callee _ = ⊥

-- the row logs it first
pub record IsFound (s : Secured) (callee : Callee) (row : CallRow) (stage : CallStage) : Type 0 where
  pub rest : List SealEntry
  pub seals : row.seals ≡ signature_found s ∷ rest
  pub signed : IsSignedFor s callee stage

abbrev pub FindsFirst : Secured → Callee → CallRow → Type 0
FindsFirst s callee row = (link : Link CallStage) → row.link ≡ Some link → IsFound s callee row link.stage

module _ (a : CallArrival) (s : Secured) (callee : Callee) where
  sent-finds : (b : CallArrival) (stage : Secured → CallStage) (more : List SealEntry) (f : Frame) → ((t : Secured) → t.keys.key ≡ s.keys.key → IsSignedFor s callee (stage t))
      → FindsFirst s callee (secure_sent b s stage (signature_found s ∷ more) (secure_frame s.keys f))
  sent-finds b stage more f signed = by_sealed (secure_frame s.keys f) refl
    where
      by_sealed : (r : Result SealedFrame BytesFault) → secure_frame s.keys f ≡ r → FindsFirst s callee (secure_sent b s stage (signature_found s ∷ more) r)
      by_sealed (Ok one) made = λ link is. record {
        rest = more ++ one.seals;
        seals = refl;
        signed =
            let t : Secured = record s { keys = one.keys } in
            let it : record b.link { stage = stage t } ≡ link = cc in
            subst (λ (l : Link CallStage). IsSignedFor s callee l.stage) it (signed t (ap (λ (x : SealedFrame). x.keys.key) (frame-sealed s.keys f one made).0));
      }
      by_sealed (Err why) made = λ link is. absurd cc

  identifies-finds : (b : CallArrival) → FindsFirst s callee (identifies b s callee (signature_found s ∷ []))
  identifies-finds b =
      sent-finds b (λ behind. AwaitsIdent behind callee (cookie_of b.draw)) (entry.Drawn (draw.Cookie (cookie_of b.draw)) ∷ [])
      (client_ident b.own.mon_client (held_gid b.own.mon_client.holdings) (lossy_flags callee.lossy) (cookie_of b.draw)) (λ t same. (same, refl))

  takes_up-finds : (session : HeldSession) → FindsFirst s callee (takes_up a s callee (signature_found s ∷ []) session)
  takes_up-finds session = by_test (session.connect_seq == 2 ^ 64 - 1)
    where
      by_test : (last : Bool) → FindsFirst s callee (if last then resets a s callee (signature_found s ∷ []) else reconnects a s callee (signature_found s ∷ []) (record session { connect_seq = session.connect_seq + 1 }))
      by_test true = λ link is. let h = identifies-finds (holding_session a None) link is in record { rest = h.rest; seals = h.seals; signed = h.signed }
      by_test false =
          sent-finds (holding_session a (Some (record session { connect_seq = session.connect_seq + 1 }))) (λ behind. AwaitsReconnect behind callee session.client_cookie) []
          (session_reconnect a.own.mon_client (record session { connect_seq = session.connect_seq + 1 })) (λ t same. (same, refl))

  signed-finds : (session : Option HeldSession) → FindsFirst s callee (on_signed a s callee session)
  signed-finds None = identifies-finds a
  signed-finds (Some session) = takes_up-finds session

  pub signature-finds : (read : Result AuthSignature BytesFault) → FindsFirst s callee (on_signature a s callee read)
  signature-finds (Err why) = λ link is. absurd cc
  signature-finds (Ok found) = by_test (is_signed s found.signature)
    where
      by_test : (right : Bool) → FindsFirst s callee (if right then on_signed a s callee a.own.session else refuses a (reason.Login SignatureWrong) [])
      by_test true = signed-finds a.own.session
      by_test false = λ link is. absurd cc
