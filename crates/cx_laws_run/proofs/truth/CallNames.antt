-- A turn of a client's link to a daemon: what it signs covers what it took, so it is no authorizer; until the daemon's signature the link has sent what its stage says, with an
-- authorizer for the daemon's type; and where that signature is found, the ticket whose session key signed it is for that type, and so is the link.
use Rattle.std.proofs.Common.{◌≡◌, ℕ, ◌+◌, false, List, [], ◌∷◌, ◌++◌, drop, map, Option, Some, None, Result, Ok, Err, inl, inr, ◌⊎◌, refl, sym, ap, ◌∙◌, subst, arith}
use Rattle.cx_base.specs.Names.{Name, is_daemon_type}
use Rattle.cx_base.specs.declared.kinds.EntityType.{EntityType}
use Rattle.cx_base.specs.declared.nodes.NodeName.{NodeName}
use Rattle.cx_base.specs.declared.nodes.NodeName.TheVariants as node
use Rattle.cx_control.specs.Auth.{auth_signature_layout}
use Rattle.cx_control.specs.Hello.{hello_layout}
use Rattle.cx_control.specs.declared.auth.AuthSignature.{AuthSignature}
use Rattle.cx_control.specs.declared.hello.Hello.{Hello}
use Rattle.cx_dice.specs.Draws.{challenge_of}
use Rattle.cx_frame.specs.Banners.{banner_at}
use Rattle.cx_frame.specs.declared.banner.Banner.{Banner}
use Rattle.cx_frame.specs.declared.frame.Frame.{Frame}
use Rattle.cx_journal.specs.declared.entries.Entry.{Entry}
use Rattle.cx_journal.specs.declared.faults.BytesFault.{BytesFault}
use Rattle.cx_journal.specs.declared.outcomes.Reason.TheVariants as reason
use Rattle.cx_journal.specs.declared.premises.KeyKind.TheVariants as kind
use Rattle.cx_laws_run.specs.cx_laws_tickets.proofs.fetch.MonClientFacts.{HasHeard, heard-one, hears-one}
use Rattle.cx_laws_run.specs.cx_laws_tickets.proofs.fetch.Banners.{IsRead, read-banner}
use Rattle.cx_laws_run.specs.cx_laws_tickets.proofs.fetch.WrittenFrames.{due-tag}
use Rattle.cx_laws_run.specs.cx_laws_keys.proofs.keys.Known.{Inv}
use Rattle.cx_laws_run.specs.cx_laws_keys.proofs.keys.Lists.{all-append}
use Rattle.cx_laws_run.specs.cx_laws_keys.proofs.keys.Premises.{AreGranted, behind, granted-rest}
use Rattle.cx_laws_run.specs.cx_laws_keys.proofs.keys.Uses.{AtDaemon, Connected, Grows, Means, Ticketed, Use, Uses, WholeRun, stays}
use Rattle.cx_laws_run.specs.cx_laws_keys.proofs.login.MonClientRows.{NeverExcepted}
use Rattle.cx_laws_run.specs.cx_laws_keys.proofs.login.Facts.{HasConnection, connection-grows}
use Rattle.cx_laws_run.specs.cx_laws_tickets.proofs.calling.CallSeals.{Seals, identified-seals, open-seals, reconnecting-seals, signature-seals}
use Rattle.cx_laws_run.specs.cx_laws_tickets.proofs.calling.Sessions.{CallKeys, HeldOk, HoldingsOk, IsRepliedFor, IsShownFor, found-ticket, replied-connection, same-entity}
use Rattle.cx_laws_run.specs.cx_login.specs.Held.{Held}
use Rattle.cx_laws_run.specs.cx_rules.specs.Fronts.{ahead_of, keys_behind, opened_parts, sealed_ahead, taking}
use Rattle.cx_laws_run.specs.cx_rules.specs.Links.{Link}
use Rattle.cx_laws_run.specs.cx_rules.specs.Messages.{on_upkeep_or}
use Rattle.cx_laws_run.specs.cx_rules.specs.Payloads.{due}
use Rattle.cx_laws_run.specs.cx_rules.specs.Rows.{at, refuses, with_opened}
use Rattle.cx_laws_run.specs.cx_rules.specs.Secured.{Keys, Secured, signature_found, under}
use Rattle.cx_laws_run.specs.cx_rules_session.specs.Presenter.{CallArrival, CallRow, CallStage, AwaitsBanner, AwaitsHello, AwaitsChallenge, AwaitsDone, AwaitsSignature, AwaitsIdent, AwaitsReconnect, Open, callee_of, on_answer_or_ack, on_banner, on_hello, on_signature, presented, presented_by, turned_at, while_answered, while_challenged, while_identified, while_reconnecting}
use Rattle.cx_laws_run.specs.cx_rules_session.specs.Sessions.{Called, Callee, HeldSession, ticket_for}
use Rattle.cx_steps.specs.Premises.{HasSigned, IsExcepted}
use Rattle.cx_steps.specs.declared.seals.Logged.{Logged}
use Rattle.cx_steps.specs.declared.seals.SealEntry.{SealEntry}
use Rattle.cx_laws_run.specs.cx_stream.specs.PlainStreams.{plain_frame_at}
use Rattle.cx_laws_run.specs.cx_laws_links.proofs.links.Alone.{Anything, here-of}
use Rattle.cx_laws_run.specs.cx_laws_links.proofs.links.CallTells.{are-sealed}
use Rattle.cx_laws_run.specs.cx_laws_links.proofs.links.CallWords.{Identified, IsHeldHere, KeyedStage, Opened, Reconnecting, Says, SignedOn, identified-says, open-says, reconnecting-says}
use Rattle.cx_laws_run.specs.cx_laws_links.proofs.links.Spoken.{Idents, KeepsUp, Orders, Reconnects, Signs, Spoken, cookie_behind, frame_of}
use Rattle.cx_laws_run.specs.cx_laws_links.proofs.answers.CallSent.{CallSent, NamedFor, RowSent, SentFor, answered-sent, banner-sent, challenged-sent, hello-sent, shut-sent}
use Rattle.cx_laws_run.specs.cx_laws_links.proofs.answers.Signed.{AreSigned, IsSignedFor, SignedSo, found-service, reply-signed, signature-finds, signed-step}
use Rattle.cx_laws_run.proofs.truth.Named.{CallNamed, IsOfCalled, signed-named, unsigned-named}
use Rattle.cx_laws_run.proofs.truth.Signing.{AllSigned, TurnSigns, allowed-signed, alone, banner-turn, link-no_ticket, parts-signed, plain-turn, secure-turn}

-- what is so of the link that goes on behind a row; and of what that signs
pub record RowNamed (vs : Uses) (row : CallRow) : Type 0 where
  pub signs : AllSigned vs row.seals
  pub link : (l : Link CallStage) → row.link ≡ Some l → CallNamed vs l.received l.taken (l.sent ++ row.sends) l.stage

-- of a row until the daemon's signature
early-named : (vs : Uses) (row : CallRow) → RowSent row → RowNamed vs row
early-named vs row h = record {
  signs = reply-signed vs row.seals h.signs;
  link = λ l is. let k = h.link l is in unsigned-named vs l.received l.taken (l.sent ++ row.sends) l.stage k.0 k.1 k.2;
}

behind-named : (vs : Uses) (opened : List SealEntry) (row : CallRow) → AllSigned vs opened → RowNamed vs row → RowNamed vs (with_opened opened row)
behind-named vs opened row quiet h = record { signs = all-append (SignedSo vs) opened row.seals quiet h.signs; link = h.link }

-- ---- the ticket that is shown

-- it is named for the daemon's type
presented-named : (us : Uses) (n : NodeName) (a : CallArrival) (called : Called) (nonce : ℕ) → HoldingsOk us n a.own.mon_client.holdings → IsShownFor us n called.callee called.held
    → NamedFor called.callee (presented called a.own.mon_client nonce)
presented-named us n a called nonce holds shown = by_ticket (ticket_for called.callee.daemon.kind a.own.mon_client.holdings) (found-ticket us n a.own.mon_client.holdings called.callee.daemon.kind holds)
  where
    by_ticket : (t : Option Held) → HeldOk us n called.callee.daemon.kind t → NamedFor called.callee (presented_by called a.own.mon_client t nonce)
    by_ticket (Some held) h = h.1
    by_ticket None h = shown.1

-- ---- behind the daemon's signature

-- a session was spoken of, so one is behind all words
some-cookie : (cookie : ℕ) (words : List Spoken) → (other : ℕ) × (cookie_behind (Some cookie) words ≡ Some other)
some-cookie cookie [] = (cookie, refl)
some-cookie cookie (Signs code ∷ words) = some-cookie cookie words
some-cookie cookie (Idents mon_client gid flags other ∷ words) = some-cookie other words
some-cookie cookie (Reconnects mon_client session ∷ words) = some-cookie session.client_cookie words
some-cookie cookie (Orders order ∷ words) = some-cookie cookie words
some-cookie cookie (KeepsUp ack ∷ words) = some-cookie cookie words

keyed-signed : (stage : CallStage) (t : Secured) (before : Option ℕ) (cookie : ℕ) → KeyedStage stage t before → before ≡ Some cookie → (s : Secured) (callee : Callee) → t.keys.key ≡ s.keys.key
    → callee_of stage ≡ callee → IsSignedFor s callee stage
keyed-signed _ _ _ cookie (SignedOn t other) is s callee key calls = absurd cc
keyed-signed _ _ _ cookie (Identified t other own) is s callee key calls = (key, calls)
keyed-signed _ _ _ cookie (Reconnecting t other own) is s callee key calls = (key, calls)
keyed-signed _ _ _ cookie (Opened t other own) is s callee key calls = (key, calls)

-- so a row that says some words there leaves the link's key and the daemon that it calls
says-signed : (number : ℕ) (callee : Callee) (s : Secured) (cookie : ℕ) (row : CallRow) → Says Anything number callee s (Some cookie) row → (l : Link CallStage) → row.link ≡ Some l
    → IsSignedFor s callee l.stage
says-signed number callee s cookie row h l is =
    let k = h.link l is in
    let some = some-cookie cookie h.words in
    let key : k.0.keys.key ≡ s.keys.key =
    ap (λ (x : Keys). x.key) k.2 ∙ (are-sealed s.keys.key s.keys (map frame_of h.words) h.sealed refl h.made).key_is in
    keyed-signed l.stage k.0 (cookie_behind (Some cookie) h.words) some.0 k.1 some.1 s callee key (h.calls l is)

module _ (vs : Uses) (one : (k : List ℕ) (u v : Use) → Means vs k u → Means vs k v → u ≡ v) (n : NodeName) (J : List Entry) (s : Secured) (has : HasConnection vs n s.keys.key) where
  abbrev linked : Use
  linked = Connected has.connected.acceptor has.connected.number has.name has.connected.tie

  -- one who knows the link's key alone
  own-key : HasConnection (alone s.keys.key linked) n s.keys.key
  own-key = record {
    name = has.name;
    own = has.own;
    connected = record { acceptor = has.connected.acceptor; number = has.connected.number; tie = has.connected.tie; means = inl (refl, refl) };
  }

  seals-sign : (row : CallRow) → Seals (alone s.keys.key linked) J n row → AllSigned vs row.seals
  seals-sign row h =
      allowed-signed vs one s.keys.key linked (link-no_ticket has.connected.acceptor has.connected.number has.name has.connected.tie) has.connected.means J n row.seals h.seals

  late-named : (callee : Callee) → IsOfCalled vs s.keys.key callee → (row : CallRow) → Seals (alone s.keys.key linked) J n row
      → ((l : Link CallStage) → row.link ≡ Some l → IsSignedFor s callee l.stage) → RowNamed vs row
  late-named callee of row h signed = record {
    signs = seals-sign row h;
    link = λ l is. signed-named vs l.received l.taken (l.sent ++ row.sends) s callee l.stage (signed l is) of;
  }

  pub identified-named : (callee : Callee) → IsOfCalled vs s.keys.key callee → (a : CallArrival) (cookie : ℕ) (f : Frame) → RowNamed vs (while_identified a s callee cookie f)
  identified-named callee of a cookie f =
      late-named callee of (while_identified a s callee cookie f) (identified-seals (alone s.keys.key linked) J n s callee own-key a cookie f)
      (says-signed a.link.number callee s cookie (while_identified a s callee cookie f) (identified-says Anything (Some cookie) a s callee cookie refl f))

  pub reconnecting-named : (callee : Callee) → IsOfCalled vs s.keys.key callee → (a : CallArrival) (cookie : ℕ) → IsHeldHere Anything (Some cookie) a.own.session → (f : Frame)
      → RowNamed vs (while_reconnecting a s callee cookie f)
  reconnecting-named callee of a cookie held f =
      late-named callee of (while_reconnecting a s callee cookie f) (reconnecting-seals (alone s.keys.key linked) J n s callee own-key a cookie f)
      (says-signed a.link.number callee s cookie (while_reconnecting a s callee cookie f) (reconnecting-says Anything (Some cookie) a s callee cookie refl held f))

  pub open-named : (callee : Callee) → IsOfCalled vs s.keys.key callee → (a : CallArrival) (cookie : ℕ) → IsHeldHere Anything (Some cookie) a.own.session → (f : Frame)
      → RowNamed vs (on_upkeep_or (on_answer_or_ack a s callee cookie) a s (λ behind. Open behind callee cookie) f)
  open-named callee of a cookie held f =
      late-named callee of _ (open-seals (alone s.keys.key linked) J n s callee own-key a cookie f)
      (says-signed a.link.number callee s cookie _ (open-says Anything (Some cookie) a s callee cookie refl held f))

-- a link that takes a session up, or has it open, is that of the session that is held
abbrev pub IsHeldStage : CallStage → HeldSession → Type 0
IsHeldStage (AwaitsReconnect s callee cookie) session = session.client_cookie ≡ cookie
IsHeldStage (Open s callee cookie) session = session.client_cookie ≡ cookie
IsHeldStage stage session = Unit {0}

-- ---- a turn

module _ (run : WholeRun) (whole : List Logged) (us vs : Uses) (log : List Logged) (J : List Entry) (n : NodeName) (line : ℕ) (name : Name) (here : n ≡ node.Entity name)
    (client : is_daemon_type name.kind ≡ false) (free : NeverExcepted run whole n us name) (i : Inv run whole us log J) (f : Grows us vs)
    (one : (k : List ℕ) (u v : Use) → Means vs k u → Means vs k v → u ≡ v) (signed : AreSigned us log) where
  -- where what a row logs is granted
  abbrev pub RowIsNamed : CallRow → Type 0
  RowIsNamed row = AreGranted run.leaked whole n line log row.seals → RowNamed vs row

  -- ---- the daemon's signature

  module _ (s : Secured) (callee : Callee) (r : IsRepliedFor us n s.session s.keys.key) (sent : SentFor callee.daemon.kind s.covered) where
    named : r.name ≡ name
    named = same-entity n r.name name r.own here

    was-signed : (later : List Logged) → IsExcepted run.leaked whole n s.session ⊎ HasSigned later (record { key = s.session; kind = kind.Signature; content = s.covered })
        → HasSigned later (record { key = s.session; kind = kind.Signature; content = s.covered })
    was-signed later (inl excepted) = absurd (free s.session (Ticketed r.name r.service) r.ticketed (ap (λ (m : Name). let o : Option Name = Some m in o) named) excepted)
    was-signed later (inr there) = there

    -- the link is one of a daemon of its type
    of-called : (opened : List SealEntry) → AllSigned us opened → IsExcepted run.leaked whole n s.session ⊎ HasSigned (behind n line opened log) (record { key = s.session; kind = kind.Signature; content = s.covered })
        → IsOfCalled vs s.keys.key callee
    of-called opened quiet owes =
        let service : r.service ≡ callee.daemon.kind =
        found-service us (behind n line opened log) s r.name r.service callee.daemon.kind (signed-step us us i.one (stays us) J n line opened log signed quiet)
        (was-signed (behind n line opened log) owes) r.ticketed (subst (λ (m : Name). is_daemon_type m.kind ≡ false) (sym named) client) sent in
        record {
          acceptor = r.acceptor;
          number = r.number;
          name = r.name;
          tie = r.tie;
          means = subst (λ (k : EntityType). Means vs s.keys.key (Connected r.acceptor r.number r.name (AtDaemon k r.tie))) service
              (f.means s.keys.key (Connected r.acceptor r.number r.name (AtDaemon r.service r.tie)) r.means);
        }

    -- what it owes where it was found
    owed : (row : CallRow) (rest : List SealEntry) (later : List Logged) → row.seals ≡ signature_found s ∷ rest → AreGranted run.leaked whole n line later row.seals
        → IsExcepted run.leaked whole n s.session ⊎ HasSigned later (record { key = s.session; kind = kind.Signature; content = s.covered })
    owed row rest later is g = (subst (λ (es : List SealEntry). AreGranted run.leaked whole n line later es) is g).0.owes

  signature-named : (a b : CallArrival) (s : Secured) (k : Keys) (callee : Callee) → k.key ≡ s.keys.key → (r : IsRepliedFor us n s.session s.keys.key) → SentFor callee.daemon.kind s.covered
      → (read : Result AuthSignature BytesFault) (opened : List SealEntry) → AllSigned us opened → AllSigned vs opened → RowIsNamed (with_opened opened (on_signature b (under s k) callee read))
  signature-named a b s k callee same r sent read opened quiet quiet_now g =
      let row : CallRow = on_signature b (under s k) callee read in
      let t : Secured = under s k in
      let replied : IsRepliedFor us n t.session t.keys.key = subst (λ (key : List ℕ). IsRepliedFor us n s.session key) (sym same) r in
      let has : HasConnection vs n t.keys.key = connection-grows us vs n t.keys.key f (replied-connection us n t.session t.keys.key replied) in
      let rest = granted-rest run.leaked whole n line log opened row.seals g in
      behind-named vs opened row quiet_now (record {
        signs = seals-sign vs one n J t has row (signature-seals (alone t.keys.key (linked vs one n J t has)) J n t callee (own-key vs one n J t has) b read);
        link = λ l is.
            let found = signature-finds b t callee read l is in
            signed-named vs l.received l.taken (l.sent ++ row.sends) t callee l.stage found.signed
            (of-called t callee replied sent opened quiet (owed t callee replied sent row found.rest (behind n line opened log) found.seals rest));
      })

  -- ---- any stage

  -- what was taken before a banner or a frame was read
  first-banner : (a : CallArrival) (x : Banner) (m : ℕ) → a.link.taken ≡ 0 → banner_at (ahead_of a.link) ≡ Ok (Some (x, m)) → HasHeard a.link.received (a.link.taken + m) []
  first-banner a x m none is =
      let all : a.link.taken + m ≡ m = omega (arith, none) in
      record {
        frames = [];
        read = subst (λ (t : ℕ). IsRead a.link.received [] t) (sym all)
            (read-banner a.link.received x m (subst (λ (t : ℕ). banner_at (drop t a.link.received) ≡ Ok (Some (x, m))) none is));
        tags_are = refl;
      }

  hello-named : (a : CallArrival) (called : Called) (m : ℕ) (fr : Frame) → CallSent (AwaitsHello called) a.link.sent → NamedFor called.callee (presented called a.own.mon_client (challenge_of a.draw))
      → HasHeard a.link.received a.link.taken [] → plain_frame_at (ahead_of a.link) ≡ Ok (Some (fr, m)) → RowNamed vs (on_hello (at a (taking a.link m)) called (due 1 hello_layout.form fr))
  hello-named a called m fr sent shown heard e = by_read (due 1 hello_layout.form fr) refl
    where
      b : CallArrival
      b = at a (taking a.link m)

      by_read : (read : Result Hello BytesFault) → due 1 hello_layout.form fr ≡ read → RowNamed vs (on_hello (at a (taking a.link m)) called read)
      by_read (Err why) is = early-named vs (on_hello b called (Err why)) (shut-sent b (refuses b (reason.Bytes why) []) tt refl)
      by_read (Ok hello) is =
          early-named vs (on_hello b called (Ok hello))
          (hello-sent b called sent shown (Ok hello)
          (heard-one a.link.received (a.link.taken + m) [] fr 1 (hears-one a.link.received a.link.taken [] fr m heard e) (due-tag 1 hello_layout.form fr hello is)))

  pub call-named : (a : CallArrival) (stage : CallStage) → HoldingsOk us n a.own.mon_client.holdings → CallKeys us n stage → CallNamed vs a.link.received a.link.taken a.link.sent stage
      → ((session : HeldSession) → a.own.session ≡ Some session → IsHeldStage stage session) → TurnSigns vs RowIsNamed (turned_at a stage)
  call-named a (AwaitsBanner called) holds keys named held =
      banner-turn vs RowIsNamed a.link (λ link _. on_banner (at a link) called)
      (λ x m e g. early-named vs (on_banner (at a (taking a.link m)) called) (banner-sent (at a (taking a.link m)) called named.0 (first-banner a x m named.1 e)))
  call-named a (AwaitsHello called) holds keys named held =
      plain-turn vs RowIsNamed a.link (λ (link, fr) _. on_hello (at a link) called (due 1 hello_layout.form fr))
      (λ fr m e g. hello-named a called m fr named.0 (presented-named us n a called (challenge_of a.draw) holds keys) named.1 e)
  call-named a (AwaitsChallenge callee p) holds keys named held =
      plain-turn vs RowIsNamed a.link (λ (link, fr) _. while_challenged (at a link) callee p fr)
      (λ fr m e g. early-named vs (while_challenged (at a (taking a.link m)) callee p fr)
      (challenged-sent (at a (taking a.link m)) callee p named.0 fr
      (heard-one a.link.received (a.link.taken + m) (1 ∷ []) fr fr.tag (hears-one a.link.received a.link.taken (1 ∷ []) fr m named.1 e) refl)))
  call-named a (AwaitsDone callee answered) holds keys named held =
      plain-turn vs RowIsNamed a.link (λ (link, fr) _. while_answered (at a link) callee answered fr)
      (λ fr m e g. early-named vs (while_answered (at a (taking a.link m)) callee answered fr)
      (answered-sent (at a (taking a.link m)) callee answered named.0 fr
      (heard-one a.link.received (a.link.taken + m) (1 ∷ 4 ∷ []) fr fr.tag (hears-one a.link.received a.link.taken (1 ∷ 4 ∷ []) fr m named.1 e) refl)))
  call-named a (AwaitsSignature s callee) holds keys named held =
      secure-turn vs RowIsNamed a.link s.keys (λ (link, fr, keys) opened. with_opened opened (on_signature (at a link) (under s keys) callee (due 7 auth_signature_layout.form fr)))
      (λ fr m. signature-named a (at a (taking a.link m)) s (keys_behind s.keys fr) callee refl keys named.0 (due 7 auth_signature_layout.form fr) (opened_parts (sealed_ahead s.keys a.link))
      (parts-signed us (sealed_ahead s.keys a.link)) (parts-signed vs (sealed_ahead s.keys a.link)))
  call-named a (AwaitsIdent s callee cookie) holds keys named held =
      let has : HasConnection vs n s.keys.key = connection-grows us vs n s.keys.key f keys in
      secure-turn vs RowIsNamed a.link s.keys (λ (link, fr, keys) opened. with_opened opened (while_identified (at a link) (under s keys) callee cookie fr))
      (λ fr m g. behind-named vs (opened_parts (sealed_ahead s.keys a.link)) _ (parts-signed vs (sealed_ahead s.keys a.link))
      (identified-named vs one n J (under s (keys_behind s.keys fr)) has callee named.2 (at a (taking a.link m)) cookie fr))
  call-named a (AwaitsReconnect s callee cookie) holds keys named held =
      let has : HasConnection vs n s.keys.key = connection-grows us vs n s.keys.key f keys in
      secure-turn vs RowIsNamed a.link s.keys (λ (link, fr, keys) opened. with_opened opened (while_reconnecting (at a link) (under s keys) callee cookie fr))
      (λ fr m g. behind-named vs (opened_parts (sealed_ahead s.keys a.link)) _ (parts-signed vs (sealed_ahead s.keys a.link))
      (reconnecting-named vs one n J (under s (keys_behind s.keys fr)) has callee named.2 (at a (taking a.link m)) cookie (here-of cookie a.own.session held) fr))
  call-named a (Open s callee cookie) holds keys named held =
      let has : HasConnection vs n s.keys.key = connection-grows us vs n s.keys.key f keys in
      secure-turn vs RowIsNamed a.link s.keys
      (λ (link, fr, keys) opened. with_opened opened (on_upkeep_or (on_answer_or_ack (at a link) (under s keys) callee cookie) (at a link) (under s keys) (λ behind. Open behind callee cookie) fr))
      (λ fr m g. behind-named vs (opened_parts (sealed_ahead s.keys a.link)) _ (parts-signed vs (sealed_ahead s.keys a.link))
      (open-named vs one n J (under s (keys_behind s.keys fr)) has callee named.2 (at a (taking a.link m)) cookie (here-of cookie a.own.session held) fr))
