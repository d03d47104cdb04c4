-- The monitor's row of an Authenticate: what it draws, seals, issues and saves, and what it refuses.
use Rattle.std.proofs.Common.{◌≡◌, ℕ, ◌==◌, ◌<◌, ◌≤◌, ◌^◌, Bool, true, false, List, [], ◌∷◌, ◌++◌, length, take, Option, Some, None, Result, Ok, Err, inr, refl, sym, ap, subst, arith}
use Rattle.std.specs.Prelude.{find, if◌then◌else◌, Contains}
use Rattle.std.specs.List.{AllByRecursion, flat_map}
use Rattle.std.specs.Option.{option_map}
use Rattle.cx_base.specs.Names.{Name}
use Rattle.cx_base.specs.declared.kinds.EntityType.TheVariants.{Auth}
use Rattle.cx_rules.specs.cx_dice.specs.Draws.{connection_of, session_of}
use Rattle.cx_laws_keys.specs.cx_enc.specs.Values.{name_form}
use Rattle.cx_laws_keys.specs.cx_enc.specs.declared.keys.Key.{Key}
use Rattle.cx_rules.specs.cx_frame.specs.declared.frame.Frame.{Frame}
use Rattle.cx_laws_keys.specs.cx_journal.specs.declared.entries.Entry.{Entry}
use Rattle.cx_laws_keys.specs.cx_journal.specs.declared.faults.BytesFault.{BytesFault}
use Rattle.cx_laws_keys.specs.cx_journal.specs.declared.faults.LoginFault.{LoginFault}
use Rattle.cx_laws_keys.specs.cx_journal.specs.declared.faults.LoginFault.TheVariants as login
use Rattle.cx_base.specs.declared.nodes.NodeName.{NodeName}
use Rattle.cx_laws_keys.specs.cx_journal.specs.declared.premises.KeyKind.TheVariants as kind
use Rattle.cx_rules.specs.cx_keyring.specs.Entries.{is_named}
use Rattle.cx_rules.specs.cx_keyring.specs.declared.entries.Entry.{Entry as Principal}
use Rattle.cx_rules.specs.cx_keyserver.specs.Servers.{rotated_server, rotated_state, Server}
use Rattle.cx_rules.specs.cx_keyserver.specs.declared.tickets.Ticket.{Ticket}
use Rattle.cx_rules.specs.cx_login.specs.Monitor.{Offer, Proven, kept_gid, proof_found, proving, reclaimed}
use Rattle.cx_rules.specs.cx_login.specs.Opening.{generation_key}
use Rattle.cx_rules.specs.cx_login.specs.Proving.{due_proof}
use Rattle.cx_rules.specs.cx_login.specs.Unlocking.{old_ticket, old_under}
use Rattle.cx_rules.specs.cx_rotate.specs.declared.generations.Generation.{Generation}
use Rattle.cx_rules.specs.cx_rotate.specs.declared.states.KeptState.{KeptState}
use Rattle.cx_rules.proofs.Granting.{saved-changed}
use Rattle.cx_rules.specs.Acceptor.{Finished, denies, finished, joined}
use Rattle.cx_rules.specs.KeptStates.{changed, saved_behind}
use Rattle.cx_rules.specs.Links.{Link}
use Rattle.cx_rules.specs.Monitor.{Monitor, MonitorArrival, MonitorRow, MonitorStage, Offered}
use Rattle.cx_rules.specs.MonitorLogin.{done_frame, hands_over, occasion, on_authenticate, proves, row_of, with_server}
use Rattle.cx_rules.specs.Payloads.{whole}
use Rattle.cx_rules.specs.Rows.{refuses_bytes}
use Rattle.cx_rules.specs.Secured.{Keys, SealedFrame, acceptor_keys, plain_frame, signed_frame, secure_frame}
use Rattle.cx_rules.specs.Tickets.{issued_for, rotation_drawn, services_for, ticket_seals}
use Rattle.cx_rules.specs.Verdicts.{Entrant, Numbered, asking_for, entrant, handed_out, issues, issues_to, login_entries, numbered, numbers, rotates, Occasion}
use Rattle.cx_laws_keys.specs.cx_sealed.specs.Records.{connection_secret_layout, service_ticket_layout}
use Rattle.cx_laws_keys.specs.cx_sealed.specs.declared.service_ticket.ServiceTicket.{ServiceTicket}
use Rattle.cx_rules.specs.cx_steps.specs.declared.seals.DrawMark.TheVariants as draw
use Rattle.cx_rules.specs.cx_steps.specs.declared.seals.Logged.{Logged}
use Rattle.cx_rules.specs.cx_steps.specs.declared.seals.SealEntry.{SealEntry}
use Rattle.cx_rules.specs.cx_steps.specs.declared.seals.SealEntry.TheVariants.{Sealed, Drawn}
use Rattle.cx_rules.specs.cx_control.specs.declared.auth.AuthRequestMore.{AuthRequestMore}
use Rattle.cx_rules.specs.MonitorRule.{on_auth_request_more}
use Rattle.cx_rules.specs.cx_wire.specs.Logins.{authenticate_layout}
use Rattle.cx_rules.specs.cx_wire.specs.declared.logins.Authenticate.{Authenticate}
use Rattle.cx_laws_keys.specs.cx_journal.specs.Behind.{EachBehind}
use Rattle.cx_laws_keys.proofs.keys.Journal.{After, EntryLaw, Reached, after-then, entered, reached-then}
use Rattle.cx_laws_keys.proofs.keys.Known.{HasLogin, IsOfAcceptor, Inv}
use Rattle.cx_laws_keys.proofs.keys.Premises.{AreGranted, behind, behind-append, granted-first, granted-rest, logged}
use Rattle.cx_laws_keys.proofs.keys.Steps.{inv-all, inv-allowed}
use Rattle.cx_laws_keys.proofs.keys.Uses.{Generated, Grows, Login, Means, Secret, Uses, grows-then, stays, WholeRun}
use Rattle.cx_laws_keys.proofs.login.Entering.{login-entered}
use Rattle.cx_laws_keys.proofs.login.Facts.{acceptor-seals, AreBelow, IsSameWay, bearer-moves, OfferOk, OwnOk, own-grows, Owner, BearerOk, Keeps, keeps-with, owner_with, with-gid}
use Rattle.cx_laws_keys.proofs.login.Generations.{StateOk, rotates_all}
use Rattle.cx_laws_keys.proofs.login.Issuing.{acceptor-sends, connector-sends, AreIssued, FirstOk, all-issued}
use Rattle.cx_laws_keys.proofs.login.Keeping.{IsGiven, NumbersOk, HadTicket, numbered-ok}
use Rattle.cx_laws_keys.proofs.login.MonitorRows.{monitor_says, simple-denies}
use Rattle.cx_laws_keys.proofs.login.Named.{found_secret}
use Rattle.cx_laws_keys.proofs.login.Opens.{generation-free, generation_means, unlocked-allowed, unlocked_says}
use Rattle.cx_laws_keys.proofs.login.Rows.{AfterRow, Allowed, FrameOk, after-refuses, after-simple, frame-ok, signing-ok, simple-refuses_bytes}
use Rattle.cx_laws_keys.proofs.login.Sealing.{connection-sealed, tickets-sealed}
use Rattle.cx_laws_keys.proofs.login.Under.{AreOfCurrent, IsOfCurrent, all-under}
use Rattle.cx_laws_keys.specs.cx_journal.specs.declared.entries.Issued.{Issued}
use Rattle.cx_rules.specs.declared.verdicts.HandedOut.{HandedOut}
use Rattle.cx_laws_keys.specs.cx_journal.specs.declared.entries.Entry.TheVariants as journal

module _ (run : WholeRun) (whole_log : List Logged) (n : NodeName) (line : ℕ) (before : KeptState) (owner : Owner) (us : Uses) (log : List Logged) (J : List Entry) where
  abbrev pub AfterMonitor : MonitorRow → Type 0
  AfterMonitor row = AfterRow (monitor_says before owner) run whole_log n line us log J row

  abbrev Granted_ : List SealEntry → Type 0
  Granted_ es = AreGranted run.leaked whole_log n line log es

  -- what is reached behind what was logged so far, once that is granted
  abbrev First : List SealEntry → (Uses → Type 0) → Type 0
  First seals F = Granted_ seals → Reached run whole_log n line us log J seals F

  pub refused : (a : MonitorArrival) (why : LoginFault) (seals : List SealEntry) (F : Uses → Type 0) → First seals F → ((vs : Uses) → F vs → OwnOk before owner vs J a.own)
      → Granted_ seals → AfterMonitor (denies a 13 why seals)
  refused a why seals F first own g =
      let r = first g in
      after-refuses (monitor_says before owner) run whole_log n line us log J a (denies a 13 why seals) F ((tt, tt), tt) refl r (own r.uses r.facts)

  -- ---- what is handed out

  -- behind the proof, the rotation and the old ticket, with the key server behind the global id
  record HandsOk (a : MonitorArrival) (name : Name) (gid : ℕ) (secret : List ℕ) (vs : Uses) : Type 0 where
    own : OwnOk before owner vs J a.own
    below : gid < a.own.server.state.next_gid
    given : IsGiven J name gid a.reading
    told : Means vs secret (Secret name)
    named : name_form.Fits name
    owns : owner gid ≡ Some name

  -- a link that is finished under these keys
  abbrev FinishedOk : Uses → List Entry → Keys → Result Finished BytesFault → Type 0
  FinishedOk vs K keys (Ok done) = Allowed vs K n done.seals × IsSameWay done.secured.keys keys
  FinishedOk vs K keys (Err why) = Unit {0}

  joined-ok : (vs : Uses) (K : List Entry) (keys : Keys) (session sent : List ℕ) (done : Result (List ℕ) BytesFault) (signed : Result SealedFrame BytesFault) → FrameOk vs K n keys signed
      → FinishedOk vs K keys (joined session sent done signed)
  joined-ok vs K keys session sent (Err why) signed h = tt
  joined-ok vs K keys session sent (Ok done) (Err why) h = tt
  joined-ok vs K keys session sent (Ok done) (Ok signed) h = h

  finished-ok : (vs : Uses) (K : List Entry) (name : Name) (link : Link MonitorStage) (session secret : List ℕ) (f : Frame) → Means vs session (Login name)
      → HasLogin vs name (take 16 secret) → IsOfAcceptor (acceptor_keys secret).out.fixed → FinishedOk vs K (acceptor_keys secret) (finished link session secret f)
  finished-ok vs K name link session secret f means connection out =
      joined-ok vs K (acceptor_keys secret) session link.sent (plain_frame f) (signed_frame (acceptor_keys secret) session (take link.taken link.received))
      (signing-ok vs K n name (acceptor_keys secret) session (take link.taken link.received) (secure_frame (acceptor_keys secret) _) means
      (frame-ok vs K n (acceptor_keys secret) _ (acceptor-seals vs n (acceptor_keys secret) name connection out)))

  -- what is drawn and sealed with these tickets
  abbrev last_seals : MonitorArrival → Name → List SealEntry
  last_seals a name =
      Drawn (draw.Connection (connection_of a.draw) name)
      ∷ Sealed (record { key = session_of Auth a.draw; kind = kind.Session; content = connection_secret_layout.form.text (record { secret = connection_of a.draw }) }) ∷ []

  abbrev told_seals : MonitorArrival → List ℕ → List Ticket → List SealEntry
  told_seals a secret ts = flat_map (ticket_seals a.own.server secret (session_of Auth a.draw)) ts

  -- with what a finished link was made, its parts are allowed
  abbrev Finishes : MonitorArrival → Name → Finished → Type 0
  Finishes a name done =
      (vs : Uses) (K : List Entry) → Means vs (session_of Auth a.draw) (Login name) → HasLogin vs name (take 16 (connection_of a.draw))
      → Allowed vs K n done.seals × IsSameWay done.secured.keys (acceptor_keys (connection_of a.draw))

  -- the monitor's own behind it, and the keys of the link
  record HandedOk (a : MonitorArrival) (name : Name) (gid : ℕ) (keys : Keys) (vs : Uses) (K : List Entry) : Type 0 where
    own : OwnOk before owner vs K (record a.own { saved = saved_behind a.own.saved (changed a.own.saved a.own.server.state) })
    bearer : BearerOk owner vs keys (record { name = name; gid = gid; session = session_of Auth a.draw; last = 0 })

  pub saved-own : (a : MonitorArrival) (vs : Uses) (K : List Entry) → OwnOk before owner vs J a.own → AreBelow K a.own.server.state.next_gid
      → ((s : Issued) → Contains K (journal.Issued s) → owner s.gid ≡ Some s.entity)
      → OwnOk before owner vs K (record a.own { saved = saved_behind a.own.saved (changed a.own.saved a.own.server.state) })
  saved-own a vs K ok below owned =
      let state : KeptState = a.own.server.state in
      let saved : KeptState = saved_behind a.own.saved (changed a.own.saved state) in
      let is : saved ≡ state = saved-changed a.own.saved state in
      let before_saved : before.next_gid ≤ a.own.saved.next_gid = ok.grown in
      let saved_state : a.own.saved.next_gid ≤ state.next_gid = ok.rises in
      let same : saved.next_gid ≡ state.next_gid = ap (λ (s : KeptState). s.next_gid) is in
      record {
        ring = ok.ring;
        present = ok.present;
        saved = subst (λ (s : KeptState). StateOk vs s) (sym is) ok.present;
        before_is = ok.before_is;
        grown = omega arith;
        below = subst (λ (s : KeptState). AreBelow K s.next_gid) (sym is) below;
        rises = omega arith;
        owned = owned;
        unowned = ok.unowned;
      }

  -- behind all that is sealed but the parts of AUTH_SIGNATURE
  finishing : (a : MonitorArrival) (name : Name) (gid : ℕ) (done : Finished) (vs ws : Uses) (log1 : List Logged) (all : List SealEntry) (js : List Entry) → Finishes a name done → Grows vs ws
      → Inv run whole_log ws (behind n line all log1) (entered J js) → EachBehind (EntryLaw run) J js → OwnOk before owner ws J a.own → AreBelow (entered J js) a.own.server.state.next_gid
      → ((s : Issued) → Contains (entered J js) (journal.Issued s) → owner s.gid ≡ Some s.entity) → name_form.Fits name → owner gid ≡ Some name
      → length a.draw ≡ 384 → Means ws (session_of Auth a.draw) (Login name) → HasLogin ws name (take 16 (connection_of a.draw))
      → After run whole_log n line vs log1 J (all ++ done.seals) js (HandedOk a name gid done.secured.keys)
  finishing a name gid done vs ws log1 all js fin grows i laws own below owned named owns drawn session connection =
      let K : List Entry = entered J js in
      let f = fin ws K session connection in
      let inv : Inv run whole_log ws (behind n line done.seals (behind n line all log1)) K = inv-all run whole_log ws (behind n line all log1) K n line done.seals i f.0 in
      record {
        uses = ws;
        grows = grows;
        inv = subst (λ (l : List Logged). Inv run whole_log ws l K) (sym (behind-append n line all done.seals log1)) inv;
        laws = laws;
        good = record {
          own = saved-own a ws K own below owned;
          bearer = bearer-moves owner ws done.secured.keys (acceptor_keys (connection_of a.draw)) (record { name = name; gid = gid; session = session_of Auth a.draw; last = 0 }) f.1 (record {
            login = connection;
            out = acceptor-sends a.draw drawn;
            into = connector-sends a.draw drawn;
            named = named;
            session = session;
            owns = owns;
          });
        };
      }

  -- behind the proof, the rotation and the old ticket
  handed_behind : (a : MonitorArrival) (client : ℕ) (name : Name) (gid : ℕ) (secret : List ℕ) (t : Ticket) (ts : List Ticket) (done : Finished) (vs : Uses) (log1 : List Logged)
      → name_form.Fits name → length a.draw ≡ 384 → FirstOk name gid a.reading a.draw t ts → AllByRecursion (IsOfCurrent a.own.server a.reading a.draw) (t ∷ ts) → HandsOk a name gid secret vs → Inv run whole_log vs log1 J → Finishes a name done
      → AreGranted run.leaked whole_log n line log1 ((told_seals a secret (t ∷ ts) ++ last_seals a name) ++ done.seals)
      → After run whole_log n line vs log1 J ((told_seals a secret (t ∷ ts) ++ last_seals a name) ++ done.seals)
      (login_entries (changed a.own.saved a.own.server.state) (t ∷ ts)) (HandedOk a name gid done.secured.keys)
  handed_behind a client name gid secret t ts done vs log1 named drawn ok under h i fin g =
      let state : KeptState = a.own.server.state in
      let session : List ℕ = session_of Auth a.draw in
      let told : List SealEntry = told_seals a secret (t ∷ ts) in
      let last : List SealEntry = last_seals a name in
      let numbered = h.own.present.numbered in
      let low : gid < state.next_gid = h.below in
      let wide : gid < 2 ^ 64 = omega arith in
      let rises : a.own.saved.next_gid ≤ state.next_gid = h.own.rises in
      let below : AreBelow J state.next_gid = λ s has. let b : s.gid < a.own.saved.next_gid = h.own.below s has in omega arith in
      let js : List Entry = login_entries (changed a.own.saved state) (t ∷ ts) in
      let K : List Entry = entered J js in
      let e = login-entered run whole_log vs log1 name gid a.reading a.draw state.next_gid owner h.owns J (changed a.own.saved state) t ts ok low h.given i below h.own.owned in
      let g3 = granted-first run.leaked whole_log n line log1 (told ++ last) done.seals g in
      let s1 = tickets-sealed run whole_log n line a.own.server secret session name gid a.reading a.draw K named wide drawn vs log1 t ts e.numbered.inv ok.first ok.auth refl ok.others under e.has
      (record { generated = h.own.present.generated; told = h.told }) (granted-first run.leaked whole_log n line log1 told last g3) in
      let s2 = connection-sealed run whole_log n line a.own.server secret session name gid a.reading a.draw K named wide drawn s1.uses (behind n line told log1) a.link.number client s1.inv s1.facts
      (granted-rest run.leaked whole_log n line log1 told last g3) in
      let grows = grows-then vs s1.uses s2.uses s1.grows s2.grows in
      let inv : Inv run whole_log s2.uses (behind n line (told ++ last) log1) K =
      subst (λ (l : List Logged). Inv run whole_log s2.uses l K) (sym (behind-append n line told last log1)) s2.inv in
      finishing a name gid done vs s2.uses log1 (told ++ last) js fin grows inv e.laws (own-grows before owner vs s2.uses J a.own grows h.own) e.numbered.below e.numbered.owned h.named h.owns drawn
      s2.facts.session s2.facts.connection

  handed : (a : MonitorArrival) (client : ℕ) (e : Entrant) (secret : List ℕ) (t : Ticket) (ts : List Ticket) (r : Result Finished BytesFault)
      → name_form.Fits e.name → length a.draw ≡ 384 → FirstOk e.name e.gid a.reading a.draw t ts → AllByRecursion (IsOfCurrent a.own.server a.reading a.draw) (t ∷ ts)
      → First e.seals (HandsOk a e.name e.gid secret)
      → ((done : Finished) → r ≡ Ok done → Finishes a e.name done)
      → Granted_ (hands_over a (handed_out (occasion a) a.own.server e secret (t ∷ ts)) r).seals
      → AfterMonitor (hands_over a (handed_out (occasion a) a.own.server e secret (t ∷ ts)) r)
  handed a client e secret t ts (Err why) named drawn ok under first fin g =
      let r = first g in
      after-refuses (monitor_says before owner) run whole_log n line us log J a (refuses_bytes a why e.seals) (HandsOk a e.name e.gid secret) ((tt, tt), tt) refl r r.facts.own
  handed a client e secret t ts (Ok done) named drawn ok under first fin g =
      let name : Name = e.name in
      let all : List SealEntry = told_seals a secret (t ∷ ts) ++ last_seals a name in
      let js : List Entry = login_entries (changed a.own.saved a.own.server.state) (t ∷ ts) in
      let r1 = first (granted-first run.leaked whole_log n line log e.seals (all ++ done.seals) g) in
      let rest = granted-rest run.leaked whole_log n line log e.seals (all ++ done.seals) g in
      let h = handed_behind a client name e.gid secret t ts done r1.uses (behind n line e.seals log) named drawn ok under r1.facts r1.inv (fin done refl) rest in
      let whole_step = after-then run whole_log n line us log J e.seals (all ++ done.seals) js (HandsOk a name e.gid secret) (HandedOk a name e.gid done.secured.keys) r1 h in
      record {
        uses = whole_step.uses;
        grows = whole_step.grows;
        inv = whole_step.inv;
        laws = whole_step.laws;
        good = record { own = whole_step.good.own; link = whole_step.good.bearer };
      }

  finished-fin : (a : MonitorArrival) (name : Name) (f : Frame) (done : Finished) → length a.draw ≡ 384 → finished a.link (session_of Auth a.draw) (connection_of a.draw) f ≡ Ok done → Finishes a name done
  finished-fin a name f done drawn is = λ vs K session connection.
      subst (FinishedOk vs K (acceptor_keys (connection_of a.draw))) is
      (finished-ok vs K name a.link (session_of Auth a.draw) (connection_of a.draw) f session connection (acceptor-sends a.draw drawn))

  -- ---- issuing

  issued-after : (a : MonitorArrival) (client : ℕ) (e : Entrant) (own : List ℕ) (tickets : Result (List Ticket) LoginFault) → name_form.Fits e.name → length a.draw ≡ 384
      → AreIssued a.own.server e.name e.gid (session_of Auth a.draw) a.reading a.draw tickets → AreOfCurrent a.own.server a.reading a.draw tickets
      → First e.seals (HandsOk a e.name e.gid own)
      → Granted_ (row_of a (issues (occasion a) a.own.server e own tickets)).seals → AfterMonitor (row_of a (issues (occasion a) a.own.server e own tickets))
  issued-after a client e own (Err why) named drawn ok under first g =
      refused a why e.seals (HandsOk a e.name e.gid own) first (λ vs h. h.own) g
  issued-after a client e own (Ok []) named drawn ok under first g = absurd ok
  issued-after a client e own (Ok (t ∷ ts)) named drawn ok under first g =
      let f : Frame = done_frame (handed_out (occasion a) a.own.server e own (t ∷ ts)).payload in
      handed a client e own t ts (finished a.link (session_of Auth a.draw) (connection_of a.draw) f) named drawn ok under first (λ done is. finished-fin a e.name f done drawn is) g

  abbrev pub key_in : Option Principal → Option Key
  key_in found = option_map (λ (p : Principal). p.key) found

  pub issues_to-after : (a : MonitorArrival) (client : ℕ) (e : Entrant) (found : Option Principal) → find (is_named e.name) a.own.server.ring ≡ found
      → name_form.Fits e.name → length a.draw ≡ 384
      → owner e.gid ≡ Some e.name → First e.seals (λ vs. OwnOk before owner vs J a.own × (e.gid < a.own.server.state.next_gid) × IsGiven J e.name e.gid a.reading)
      → Granted_ (row_of a (issues_to (occasion a) a.own.server e (key_in found))).seals → AfterMonitor (row_of a (issues_to (occasion a) a.own.server e (key_in found)))
  issues_to-after a client e None is named drawn owns first g =
      refused a login.UnknownEntity e.seals (λ vs. OwnOk before owner vs J a.own × (e.gid < a.own.server.state.next_gid) × IsGiven J e.name e.gid a.reading) first (λ vs h. h.0) g
  issues_to-after a client e (Some principal) is named drawn owns first g =
      issued-after a client e principal.key.secret (issued_for a.own.server (asking_for (occasion a) e.name e.gid) (services_for e.asked)) named drawn
      (all-issued a.own.server e.name e.gid (session_of Auth a.draw) a.reading a.draw e.asked)
      (all-under a.own.server a.reading a.draw (asking_for (occasion a) e.name e.gid) (λ s. (refl, refl)) (services_for e.asked)) more g
    where
      more : First e.seals (HandsOk a e.name e.gid principal.key.secret)
      more granted =
          let r = first granted in
          record {
            uses = r.uses;
            grows = r.grows;
            inv = r.inv;
            facts = record {
              own = r.facts.0;
              below = r.facts.1;
              given = r.facts.2;
              told = found_secret r.uses e.name a.own.server.ring principal r.facts.0.ring is;
              named = named;
              owns = owns;
            };
          }

-- ---- whose the global id becomes

-- behind a row of a login: whose the global ids are then, and what is so
pub record AfterLogin (run : WholeRun) (whole_log : List Logged) (n : NodeName) (line : ℕ) (before : KeptState) (owner : Owner) (us : Uses) (log : List Logged) (J : List Entry)
    (row : MonitorRow) : Type 0 where
  pub later : Owner
  pub keeps : Keeps owner later
  pub after : AfterMonitor run whole_log n line before later us log J row

module _ (run : WholeRun) (whole_log : List Logged) (n : NodeName) (line : ℕ) (before : KeptState) (owner : Owner) (us : Uses) (log : List Logged) (J : List Entry) where
  abbrev Grants : List SealEntry → Type 0
  Grants es = AreGranted run.leaked whole_log n line log es

  abbrev Begins : List SealEntry → (Uses → Type 0) → Type 0
  Begins seals F = Grants seals → Reached run whole_log n line us log J seals F

  abbrev Becomes : MonitorRow → Type 0
  Becomes row = AfterLogin run whole_log n line before owner us log J row

  -- by the owners of before
  stays-owned : (row : MonitorRow) → AfterMonitor run whole_log n line before owner us log J row → Becomes row
  stays-owned row h = record { later = owner; keeps = λ x m is. is; after = h }

  -- what was logged first was granted
  handed-first : (a : MonitorArrival) (h : HandedOut) (done : Result Finished BytesFault) → Grants (hands_over a h done).seals → Grants h.seals
  handed-first a h (Err why) g = g
  handed-first a h (Ok done) g = granted-first run.leaked whole_log n line log h.seals (h.sealed ++ done.seals) g

  verdict-first : (a : MonitorArrival) (at : Occasion) (server : Server) (e : Entrant) (own : List ℕ) (tickets : Result (List Ticket) LoginFault)
      → Grants (row_of a (issues at server e own tickets)).seals → Grants e.seals
  verdict-first a at server e own (Err why) g = g
  verdict-first a at server e own (Ok tickets) g =
      let h : HandedOut = handed_out at server e own tickets in
      handed-first (with_server a server) h (finished a.link h.session h.secret (done_frame h.payload)) g

  issues-first : (a : MonitorArrival) (at : Occasion) (server : Server) (e : Entrant) (own : Option Key) → Grants (row_of a (issues_to at server e own)).seals → Grants e.seals
  issues-first a at server e None g = g
  issues-first a at server e (Some own) g = verdict-first a at server e own.secret (issued_for server (asking_for at e.name e.gid) (services_for e.asked)) g

  numbers-after : (a : MonitorArrival) (proven : Proven) (seals : List SealEntry) (r : Result Numbered LoginFault) → name_form.Fits proven.offer.name → length a.draw ≡ 384
      → Begins seals (λ vs. OwnOk before owner vs J a.own × NumbersOk before owner vs J a.own proven.offer.name a.reading r)
      → Grants (row_of a (numbers (occasion a) a.own.server proven seals r)).seals → Becomes (row_of a (numbers (occasion a) a.own.server proven seals r))
  numbers-after a proven seals (Err why) named drawn first g =
      stays-owned (denies a 13 why seals) (refused run whole_log n line before owner us log J a why seals (λ vs. OwnOk before owner vs J a.own × Unit {0}) first (λ vs h. h.0) g)
  numbers-after a proven seals (Ok m) named drawn first g =
      let name : Name = proven.offer.name in
      let e : Entrant = entrant name m.gid proven.ask.other_keys seals in
      let later : Owner = owner_with owner m.gid name in
      let r = first (issues-first a (occasion a) m.server e (key_in run whole_log n line before owner us log J (find (is_named name) m.server.ring)) g) in
      record {
        later = later;
        keeps = keeps-with owner m.gid name r.facts.1.free;
        after = issues_to-after run whole_log n line before later us log J (with_server a m.server) proven.ask.client_challenge e (find (is_named name) m.server.ring) refl named drawn
            (with-gid owner m.gid name) more g;
      }
    where
      more : Begins seals (λ vs. OwnOk before (owner_with owner m.gid proven.offer.name) vs J (with_server a m.server).own × (m.gid < m.server.state.next_gid) × IsGiven J proven.offer.name m.gid a.reading)
      more granted = let r = first granted in record { uses = r.uses; grows = r.grows; inv = r.inv; facts = (r.facts.1.owns, r.facts.1.below, r.facts.1.given) }

  -- ---- the proof, the rotation and the old ticket

  -- the old ticket, under a generation of AUTH
  old-reached : (vs : Uses) (log1 : List Logged) (gs : List Generation) (key : Option (List ℕ)) (blob : List ℕ) → Inv run whole_log vs log1 J
      → ((k : List ℕ) → key ≡ Some k → (id : ℕ) × Means vs k (Generated Auth id)) → AreGranted run.leaked whole_log n line log1 (old_under key blob).seals
      → Inv run whole_log vs (behind n line (old_under key blob).seals log1) J × ((x : ServiceTicket) → (old_under key blob).value ≡ Some x → HadTicket J x)
  old-reached vs log1 gs None blob i means g = (i, λ x e. absurd cc)
  old-reached vs log1 gs (Some key) blob i means g =
      let m = means key refl in
      let form = service_ticket_layout.form in (
        inv-all run whole_log vs log1 J n line (old_under (Some key) blob).seals i (unlocked-allowed run whole_log n line vs log1 J form kind.Auth key blob),
        λ x e.
            let s = unlocked_says run whole_log n line vs log1 J form kind.Auth key blob (Generated Auth m.0) i m.1
            (generation-free run whole_log n line vs log1 J key Auth m.0 i m.1) g x e in
            (m.0, key, s.0, (s.2 x s.1).0),
      )

  abbrev pub rotated_own : MonitorArrival → Monitor
  rotated_own a = record a.own { server = rotated_server a.reading a.draw a.own.server }

  pub own-rotated : (a : MonitorArrival) (vs : Uses) → Grows us vs → OwnOk before owner us J a.own → StateOk vs (rotated_state a.reading a.draw a.own.server.state) → OwnOk before owner vs J (rotated_own a)
  own-rotated a vs grows ok state =
      let more : OwnOk before owner vs J a.own = own-grows before owner us vs J a.own grows ok in
      record {
        ring = more.ring;
        present = state;
        saved = more.saved;
        before_is = more.before_is;
        grown = more.grown;
        below = more.below;
        rises = more.rises;
        owned = more.owned;
        unowned = more.unowned;
      }

  rotates-after : (a : MonitorArrival) (hello_gid : ℕ) (proven : Proven) → Inv run whole_log us log J → OwnOk before owner us J a.own → name_form.Fits proven.offer.name → length a.draw ≡ 384
      → Grants (row_of a (rotates (occasion a) a.own.server hello_gid proven)).seals → Becomes (row_of a (rotates (occasion a) a.own.server hello_gid proven))
  rotates-after a hello_gid proven i ok named drawn g =
      numbers-after (with_server a (rotated_server a.reading a.draw a.own.server)) proven
      ((proof_found proven.offer proven.ask.client_challenge ∷ rotation_drawn a.reading a.draw a.own.server.state)
      ++ (old_ticket (rotated_state a.reading a.draw a.own.server.state).auth proven.ask.old_ticket).seals)
      (numbered (rotated_server a.reading a.draw a.own.server) (reclaimed hello_gid proven.ask.version
      (kept_gid proven.offer.name a.reading (old_ticket (rotated_state a.reading a.draw a.own.server.state).auth proven.ask.old_ticket).value)))
      named drawn first g
    where
      first : Begins
          ((proof_found proven.offer proven.ask.client_challenge ∷ rotation_drawn a.reading a.draw a.own.server.state)
          ++ (old_ticket (rotated_state a.reading a.draw a.own.server.state).auth proven.ask.old_ticket).seals)
          (λ vs. OwnOk before owner vs J (rotated_own a) × NumbersOk before owner vs J (rotated_own a) proven.offer.name a.reading
          (numbered (rotated_server a.reading a.draw a.own.server) (reclaimed hello_gid proven.ask.version
          (kept_gid proven.offer.name a.reading (old_ticket (rotated_state a.reading a.draw a.own.server.state).auth proven.ask.old_ticket).value))))
      first granted =
          let proof : SealEntry = proof_found proven.offer proven.ask.client_challenge in
          let rotation : List SealEntry = rotation_drawn a.reading a.draw a.own.server.state in
          let gs : List Generation = (rotated_state a.reading a.draw a.own.server.state).auth in
          let ticket = proven.ask.old_ticket in
          let key : Option (List ℕ) = generation_key gs ticket.generation in
          let opened : List SealEntry = (old_under key ticket.blob).seals in
          let log1 : List Logged = logged n line proof ∷ log in
          let i1 : Inv run whole_log us log1 J = inv-allowed run whole_log us log J n line proof i tt in
          let r = rotates_all run whole_log n line J a.reading a.draw a.own.server.state us log1 drawn i1 ok.present (granted-first run.leaked whole_log n line log1 rotation opened granted.1) in
          let o = old-reached r.uses (behind n line rotation log1) gs key ticket.blob r.inv
          (λ k is. generation_means r.uses Auth gs ticket.generation k (r.facts.generated Auth) is) (granted-rest run.leaked whole_log n line log1 rotation opened granted.1) in
          let own : OwnOk before owner r.uses J (rotated_own a) = own-rotated a r.uses r.grows ok r.facts in
          let until : Reached run whole_log n line us log J (proof ∷ rotation) (λ vs. StateOk vs (rotated_state a.reading a.draw a.own.server.state)) =
          record { uses = r.uses; grows = r.grows; inv = r.inv; facts = r.facts } in
          reached-then run whole_log n line us log J (proof ∷ rotation) opened (λ vs. StateOk vs (rotated_state a.reading a.draw a.own.server.state)) _ until (record {
            uses = r.uses;
            grows = stays r.uses;
            inv = o.0;
            facts = (own, numbered-ok before owner r.uses J (rotated_own a) proven.offer.name a.reading hello_gid proven.ask.version (old_under key ticket.blob).value own r.inv.own o.1);
          })

  proves-after : (a : MonitorArrival) (hello_gid : ℕ) (offer : Offer) (ask : Authenticate) → Inv run whole_log us log J → OwnOk before owner us J a.own → OfferOk us offer → length a.draw ≡ 384
      → Grants (proves a hello_gid (proving offer ask)).seals → Becomes (proves a hello_gid (proving offer ask))
  proves-after a hello_gid offer ask i ok o drawn g = by_test (due_proof offer.secret offer.challenge ask.client_challenge == ask.key) g
    where
      by_test : (t : Bool)
          → Grants (proves a hello_gid (if t then Ok (record { offer = offer; ask = ask }) else Err (record { expected = due_proof offer.secret offer.challenge ask.client_challenge; got = ask.key }))).seals
          → Becomes (proves a hello_gid (if t then Ok (record { offer = offer; ask = ask }) else Err (record { expected = due_proof offer.secret offer.challenge ask.client_challenge; got = ask.key })))
      by_test true g = rotates-after a hello_gid (record { offer = offer; ask = ask }) i ok o.named drawn g
      by_test false g =
          stays-owned (denies a 13 login.WrongProof []) (after-simple (monitor_says before owner) run whole_log n line us log J (denies a 13 login.WrongProof []) i (simple-denies before owner us J n a 13 login.WrongProof [] ok tt))

  authenticate-after : (a : MonitorArrival) (offered : Offered) (ask : Result Authenticate BytesFault) → Inv run whole_log us log J → OwnOk before owner us J a.own → OfferOk us offered.offer
      → length a.draw ≡ 384 → Grants (on_authenticate a offered ask).seals → Becomes (on_authenticate a offered ask)
  authenticate-after a offered (Err why) i ok o drawn g =
      stays-owned (refuses_bytes a why []) (after-simple (monitor_says before owner) run whole_log n line us log J (refuses_bytes a why []) i (simple-refuses_bytes (monitor_says before owner) us J n a why [] ok tt))
  authenticate-after a offered (Ok ask) i ok o drawn g = proves-after a offered.gid offered.offer ask i ok o drawn g

  pub request_more-after : (a : MonitorArrival) (offered : Offered) (more : Result AuthRequestMore BytesFault) → Inv run whole_log us log J → OwnOk before owner us J a.own
      → OfferOk us offered.offer → length a.draw ≡ 384 → Grants (on_auth_request_more a offered more).seals → Becomes (on_auth_request_more a offered more)
  request_more-after a offered (Err why) i ok o drawn g =
      stays-owned (refuses_bytes a why []) (after-simple (monitor_says before owner) run whole_log n line us log J (refuses_bytes a why []) i (simple-refuses_bytes (monitor_says before owner) us J n a why [] ok tt))
  request_more-after a offered (Ok more) i ok o drawn g = authenticate-after a offered (whole authenticate_layout.form more.payload) i ok o drawn g
