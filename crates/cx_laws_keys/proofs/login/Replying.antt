-- The monitor's rows on an open link: what a request draws, seals, issues, tells and saves, and what is refused.
use Rattle.std.proofs.Common.{◌≡◌, ℕ, ◌<◌, ◌==◌, ◌+◌, ◌-◌, ◌^◌, Bool, true, false, List, [], ◌∷◌, ◌++◌, length, Option, Some, None, Result, Ok, Err, refl, sym, subst, arith, ◌≤◌, map, inr, ◌∙◌}
use Rattle.std.specs.Prelude.{find, if◌then◌else◌, is_some, ◌&&◌}
use Rattle.std.specs.List.{AllByRecursion, flat_map}
use Rattle.std.specs.Option.{option_map}
use Rattle.cx_base.specs.Names.{Name, is_daemon_type}
use Rattle.cx_base.specs.declared.nodes.NodeName.{NodeName}
use Rattle.cx_base.specs.declared.kinds.EntityType.{EntityType}
use Rattle.cx_base.specs.declared.kinds.EntityType.TheVariants.{Auth, Mds, Osd, Mgr}
use Rattle.cx_laws_keys.specs.cx_cbc.specs.Envelope.{sealed}
use Rattle.cx_rules.specs.cx_control.specs.Upkeep.{keepalive2_layout, keepalive2_ack_layout}
use Rattle.cx_rules.specs.cx_frame.specs.declared.frame.Frame.{Frame}
use Rattle.cx_laws_keys.specs.cx_journal.specs.declared.entries.Entry.{Entry}
use Rattle.cx_laws_keys.specs.cx_journal.specs.declared.faults.BytesFault.{BytesFault}
use Rattle.cx_laws_keys.specs.cx_journal.specs.declared.faults.LoginFault.{LoginFault}
use Rattle.cx_laws_keys.specs.cx_journal.specs.declared.faults.SessionFault.TheVariants.{Gap}
use Rattle.cx_laws_keys.specs.cx_journal.specs.declared.outcomes.Reason.{Reason}
use Rattle.cx_rules.specs.cx_keyring.specs.Entries.{is_named}
use Rattle.cx_rules.specs.cx_keyserver.specs.Servers.{rotated_server, secrets_of, Server, generations_of}
use Rattle.cx_rules.specs.cx_keyserver.specs.declared.refusals.NotADaemon.{NotADaemon}
use Rattle.cx_rules.specs.cx_keyserver.specs.declared.tickets.Ticket.{Ticket}
use Rattle.cx_rules.specs.cx_rotate.specs.declared.generations.Generation.{Generation}
use Rattle.cx_rules.specs.cx_rotate.specs.declared.states.KeptState.{KeptState}
use Rattle.cx_laws_keys.specs.cx_sealed.specs.declared.rotating_reply.RotatingReply.{RotatingReply}
use Rattle.cx_rules.specs.cx_steps.specs.declared.seals.Logged.{Logged}
use Rattle.cx_rules.specs.cx_steps.specs.declared.seals.SealEntry.{SealEntry}
use Rattle.cx_rules.specs.cx_wire.specs.declared.bodies.Request.{Request}
use Rattle.cx_rules.specs.Acceptor.{Open}
use Rattle.cx_rules.specs.KeptStates.{changed, saved_behind}
use Rattle.cx_rules.specs.Messages.{message_in}
use Rattle.cx_rules.specs.Monitor.{MonitorArrival, MonitorRow}
use Rattle.cx_rules.specs.MonitorRequests.{demand_of, heard, on_demand, on_message, on_open, ordered, reply_message, request_occasion, row_responding, sends_reply, serving}
use Rattle.cx_rules.specs.Payloads.{payload}
use Rattle.cx_rules.specs.Replies.{Responded, answers_by, asking_of, issues_tickets, others_for, reply_made, tells_generations, tells_tickets, told_content, told_seal}
use Rattle.cx_rules.specs.Rows.{refuses}
use Rattle.cx_rules.specs.Secured.{Keys, SealedFrame, Secured, secure_frame}
use Rattle.cx_rules.specs.Tickets.{is_asked, issued_for, rotation_drawn, ticket_part, ticket_seals}
use Rattle.cx_rules.specs.Upkeep.{on_keepalive, on_keepalive_ack}
use Rattle.cx_rules.specs.Verdicts.{Occasion, login_entries}
use Rattle.cx_rules.specs.declared.responses.Bearer.{Bearer}
use Rattle.cx_rules.specs.declared.responses.Demand.{Demand}
use Rattle.cx_rules.specs.declared.responses.ReplyMade.{ReplyMade}
use Rattle.cx_laws_keys.proofs.keys.Journal.{After, IsOfLogin, Reached, after-then, entered}
use Rattle.cx_laws_keys.proofs.keys.Known.{Inv, IsAllowed, AreToldOf}
use Rattle.cx_laws_keys.proofs.keys.Premises.{AreGranted, behind, behind-append, granted-first, granted-rest}
use Rattle.cx_laws_keys.proofs.keys.Steps.{inv-all}
use Rattle.cx_laws_keys.proofs.keys.Uses.{Grows, Login, Means, Secret, Uses, grows-then, stays, WholeRun, AreGenerated, Generated, IsSavedIn}
use Rattle.cx_laws_keys.proofs.keys.Reading.{rotating_no_info}
use Rattle.cx_laws_keys.proofs.login.Authenticating.{own-rotated, saved-own}
use Rattle.cx_laws_keys.proofs.login.Entering.{AreEntered, renewal-entered}
use Rattle.cx_laws_keys.proofs.login.Facts.{acceptor-seals, AreBelow, BearerOk, MaySeal, OwnOk, Owner, bearer-grows, bearer-moves, own-grows, owned-below, owned-of}
use Rattle.cx_laws_keys.proofs.login.Generations.{rotates_all, AreWritable, AreRecorded}
use Rattle.cx_laws_keys.proofs.login.Issuing.{AreOthers, IsOther, others-issued}
use Rattle.cx_laws_keys.proofs.login.MonitorRows.{keepalive-simple, keepalive_ack-simple, monitor_says}
use Rattle.cx_laws_keys.proofs.login.Rows.{AfterRow, FrameOk, RowOk, after-refuses, after-simple, all-filter, frame-ok, simple-refuses}
use Rattle.cx_laws_keys.proofs.login.Sealing.{others-sealed}
use Rattle.cx_laws_keys.proofs.login.Under.{AreOfCurrent, IsOfCurrent, all-under}
use Rattle.cx_laws_keys.specs.cx_journal.specs.declared.faults.LoginFault.TheVariants as login
use Rattle.cx_laws_keys.specs.cx_journal.specs.declared.outcomes.Reason.TheVariants as reason
use Rattle.cx_rules.specs.cx_keyring.specs.declared.entries.Entry.{Entry as Principal}
use Rattle.cx_rules.specs.cx_wire.specs.declared.bodies.Reply.TheVariants as given
use Rattle.cx_rules.specs.cx_wire.specs.declared.bodies.Request.TheVariants as asked
use Rattle.cx_laws_keys.proofs.login.Named.{found_secret}
use Rattle.cx_laws_keys.proofs.keys.ReadGenerations.{all-read, rotating_read}
use Rattle.cx_laws_keys.proofs.keys.Lists.{some-map}
use Rattle.cx_rules.proofs.Granting.{saved-changed}
use Rattle.cx_laws_keys.specs.cx_sealed.specs.Records.{rotating_reply_layout}
use Rattle.cx_laws_keys.specs.cx_sealed.specs.Unsealing.{spelled_by}

-- ---- generations that are told

-- what is read of generations that are told is so of them
told-of : (vs : Uses) (name : Name) (t x : RotatingReply) → t.service ≡ name.kind → AreGenerated vs name.kind t.generations → AreWritable t.generations
    → AllByRecursion (IsSavedIn vs.saved name.kind) t.generations → spelled_by rotating_reply_layout.form (rotating_reply_layout.form.text t) ≡ Some x → AreToldOf vs name x
told-of vs name t x kind generated writable saved e =
    let r = rotating_read t x writable.few writable.sized e in
    let service_is : x.service ≡ name.kind = r.0 ∙ kind in
    let means : AreGenerated vs name.kind x.generations = all-read (λ (g : Generation). Means vs g.key (Generated name.kind g.id)) same-use t.generations x.generations r.1 generated in
    let was : AllByRecursion (IsSavedIn vs.saved name.kind) x.generations = all-read (IsSavedIn vs.saved name.kind) same-saved_in t.generations x.generations r.1 saved in
    record {
      service_is = service_is;
      generated = subst (λ (s : EntityType). AreGenerated vs s x.generations) (sym service_is) means;
      saved = subst (λ (s : EntityType). AllByRecursion (IsSavedIn vs.saved s) x.generations) (sym service_is) was;
    }
  where
    same-use : (g h : Generation) → h.id ≡ g.id → h.key ≡ g.key → Means vs g.key (Generated name.kind g.id) → Means vs h.key (Generated name.kind h.id)
    same-use g h id key m =
        subst (λ (k : List ℕ). Means vs k (Generated name.kind h.id)) (sym key) (subst (λ (i : ℕ). Means vs g.key (Generated name.kind i)) (sym id) m)

    same-saved_in : (g h : Generation) → h.id ≡ g.id → h.key ≡ g.key → IsSavedIn vs.saved name.kind g → IsSavedIn vs.saved name.kind h
    same-saved_in g h id key was =
        some-map (λ (p : EntityType × Generation). (p.0 ≡ name.kind) × (p.1.id ≡ g.id) × (p.1.key ≡ g.key))
        (λ (p : EntityType × Generation). (p.0 ≡ name.kind) × (p.1.id ≡ h.id) × (p.1.key ≡ h.key)) (λ p s. (s.0, s.1 ∙ sym id, s.2 ∙ sym key)) vs.saved was

abbrev told_if : Bool → List Generation → Result (List Generation) NotADaemon
told_if t gs = if t then Ok gs else Err (record {})

-- an entity is told the generations of its own type
secrets-are : (server : Server) (name : Name) (gs : List Generation) → secrets_of server name ≡ Ok gs → gs ≡ generations_of server.state name.kind
secrets-are server name gs e = by_test (is_some (find (is_named name) server.ring) && is_daemon_type name.kind) e
  where
    by_test : (t : Bool) → told_if t (generations_of server.state name.kind) ≡ Ok gs → gs ≡ generations_of server.state name.kind
    by_test true is = cc
    by_test false is = absurd cc

module _ (run : WholeRun) (whole_log : List Logged) (n : NodeName) (line : ℕ) (before : KeptState) (owner : Owner) (us : Uses) (log : List Logged) (J : List Entry) where
  abbrev AfterOpen : MonitorRow → Type 0
  AfterOpen row = AfterRow (monitor_says before owner) run whole_log n line us log J row

  abbrev Grants : List SealEntry → Type 0
  Grants es = AreGranted run.leaked whole_log n line log es

  -- what is so of the monitor behind the rotation, in the log
  abbrev Owns : MonitorArrival → Uses → Type 0
  Owns b vs = OwnOk before owner vs J b.own

  abbrev Begins : List SealEntry → MonitorArrival → Type 0
  Begins drawn b = Grants drawn → Reached run whole_log n line us log J drawn (Owns b)

  refuses-after : (b : MonitorArrival) (why : Reason) (drawn : List SealEntry) → IsOfLogin why → Begins drawn b → Grants drawn → AfterOpen (refuses b why drawn)
  refuses-after b why drawn is first g =
      let r = first g in after-refuses (monitor_says before owner) run whole_log n line us log J b (refuses b why drawn) (Owns b) ((is, tt), tt) refl r r.facts

  -- ---- a reply

  -- the monitor behind what it saved
  abbrev Saves : MonitorArrival → Option KeptState → Uses → List Entry → Type 0
  Saves b save ws K = OwnOk before owner ws K (record b.own { saved = saved_behind b.own.saved save })

  -- behind the rotation the reply is entered, sealed and saved
  abbrev Replies_ : MonitorArrival → ReplyMade → Type 0
  Replies_ b made = (vs : Uses) (log1 : List Logged) → Grows us vs → Inv run whole_log vs log1 J → Owns b vs → AreGranted run.leaked whole_log n line log1 made.sealed
      → After run whole_log n line vs log1 J made.sealed made.entries (Saves b made.save)

  -- the frame, if it was sealed, was so under the key of the link
  abbrev Seals_ : Keys → Result SealedFrame BytesFault → Type 0
  Seals_ keys r = (ws : Uses) (K : List Entry) → MaySeal ws n keys → FrameOk ws K n keys r

  -- what a row saved is recorded
  abbrev Records : MonitorRow → Type 0
  Records row = AreRecorded run row.own.saved

  reply-after : (b : MonitorArrival) (s : Secured) (bearer : Bearer) (seq : ℕ) (made : ReplyMade) (r : Result SealedFrame BytesFault) → BearerOk owner us s.keys bearer
      → Begins made.seals b → (AreRecorded run (saved_behind b.own.saved made.save) → Replies_ b made) → Seals_ s.keys r → Records (sends_reply Open b s bearer seq made r)
      → Grants (sends_reply Open b s bearer seq made r).seals → AfterOpen (sends_reply Open b s bearer seq made r)
  reply-after b s bearer seq made (Err why) ok first reply sealed rec g = refuses-after b (reason.Bytes why) made.seals tt first g
  reply-after b s bearer seq made (Ok sent) ok first reply sealed rec g =
      let row : MonitorRow = sends_reply Open b s bearer seq made (Ok sent) in
      let log1 : List Logged = behind n line made.seals log in
      let r1 = first (granted-first run.leaked whole_log n line log made.seals (made.sealed ++ sent.seals) g) in
      let rest = granted-rest run.leaked whole_log n line log made.seals (made.sealed ++ sent.seals) g in
      let x = reply rec r1.uses log1 r1.grows r1.inv r1.facts (granted-first run.leaked whole_log n line log1 made.sealed sent.seals rest) in
      let K : List Entry = entered J made.entries in
      let ws : Uses = x.uses in
      let there : BearerOk owner ws s.keys bearer = bearer-grows owner us ws s.keys bearer (grows-then us r1.uses ws r1.grows x.grows) ok in
      let f = sealed ws K (acceptor-seals ws n s.keys bearer.name there.login there.out) in
      let inv : Inv run whole_log ws (behind n line sent.seals (behind n line made.sealed log1)) K = inv-all run whole_log ws (behind n line made.sealed log1) K n line sent.seals x.inv f.0 in
      after-then run whole_log n line us log J made.seals (made.sealed ++ sent.seals) made.entries (Owns b) (RowOk (monitor_says before owner) row) r1 (record {
        uses = ws;
        grows = x.grows;
        inv = subst (λ (l : List Logged). Inv run whole_log ws l K) (sym (behind-append n line made.sealed sent.seals log1)) inv;
        laws = x.laws;
        good = record {
          own = x.good;
          link = bearer-moves owner ws sent.keys s.keys (record bearer { last = seq }) f.1 (record {
            login = there.login;
            out = there.out;
            into = there.into;
            named = there.named;
            session = there.session;
            owns = there.owns;
          });
        };
      })

  -- ---- what a reply enters, seals and saves

  -- of the monitor whose key server has rotated
  module _ (b : MonitorArrival) (s : Secured) (bearer : Bearer) (ok : BearerOk owner us s.keys bearer) (drawn_all : length b.draw ≡ 384) where
    abbrev save_due : Option KeptState
    save_due = changed b.own.saved b.own.server.state

    low_gid : (vs : Uses) → Owns b vs → bearer.gid < b.own.server.state.next_gid
    low_gid vs own = owned-below before owner vs J b.own bearer.gid bearer.name own ok.owns

    below_next : (vs : Uses) → Owns b vs → AreBelow J b.own.server.state.next_gid
    below_next vs own = λ x has.
        let below : x.gid < b.own.saved.next_gid = own.below x has in
        let rises : b.own.saved.next_gid ≤ b.own.server.state.next_gid = own.rises in
        omega arith

    enters : (vs : Uses) (log1 : List Logged) (ts : List Ticket) → Inv run whole_log vs log1 J → Owns b vs → AllByRecursion (IsOther bearer.name bearer.gid b.reading b.draw) ts
        → AreEntered run whole_log vs log1 bearer.name bearer.gid b.reading b.draw b.own.server.state.next_gid owner ok.owns J (login_entries save_due ts) ts
    enters vs log1 ts i own others =
        renewal-entered run whole_log vs log1 bearer.name bearer.gid b.reading b.draw b.own.server.state.next_gid owner ok.owns J save_due ts others (low_gid vs own)
        (owned-of before owner vs J b.own bearer.gid bearer.name own ok.owns) i (below_next vs own) own.owned

    saves : (vs ws : Uses) (log1 : List Logged) (ts : List Ticket) → Grows vs ws → Owns b vs
        → AreEntered run whole_log vs log1 bearer.name bearer.gid b.reading b.draw b.own.server.state.next_gid owner ok.owns J (login_entries save_due ts) ts
        → Saves b save_due ws (entered J (login_entries save_due ts))
    saves vs ws log1 ts grows own e =
        saved-own run whole_log n line before owner us log J b ws (entered J (login_entries save_due ts)) (own-grows before owner vs ws J b.own grows own) e.numbered.below e.numbered.owned

    tickets-reply : (secret : List ℕ) (drawn : List SealEntry) (ts : List Ticket) → ((vs : Uses) → Grows us vs → Owns b vs → Means vs secret (Secret bearer.name))
        → AllByRecursion (IsOther bearer.name bearer.gid b.reading b.draw) ts → AllByRecursion (IsOfCurrent b.own.server b.reading b.draw) ts
        → Replies_ b (reply_made save_due drawn (flat_map (ticket_seals b.own.server secret bearer.session) ts) ts (given.Tickets (map ticket_part ts)))
    tickets-reply secret drawn ts told others under = λ vs log1 grows i own g.
        let e = enters vs log1 ts i own others in
        let K : List Entry = entered J (login_entries save_due ts) in
        let low : bearer.gid < b.own.server.state.next_gid = low_gid vs own in
        let numbered : b.own.server.state.next_gid < 2 ^ 64 = own.present.numbered in
        let wide : bearer.gid < 2 ^ 64 = omega arith in
        let sealed = others-sealed run whole_log n line b.own.server secret bearer.session bearer.name bearer.gid b.reading b.draw K ok.named wide drawn_all vs log1 ts e.numbered.inv others under e.has
        (record { generated = own.present.generated; told = told vs grows own }) (grows.means bearer.session (Login bearer.name) ok.session) g in
        record {
          uses = sealed.uses;
          grows = sealed.grows;
          inv = sealed.inv;
          laws = e.laws;
          good = saves vs sealed.uses log1 ts sealed.grows own e;
        }

    rotating-reply : (secret : List ℕ) (drawn : List SealEntry) (gs : List Generation) → ((vs : Uses) → Grows us vs → Owns b vs → Means vs secret (Secret bearer.name))
        → gs ≡ generations_of b.own.server.state bearer.name.kind → AllByRecursion (IsSavedIn run.saved bearer.name.kind) gs
        → Replies_ b (reply_made save_due drawn (told_seal secret (told_content bearer.name.kind gs) ∷ []) [] (given.Rotating (sealed secret (told_content bearer.name.kind gs))))
    rotating-reply secret drawn gs told is recorded = λ vs log1 grows i own g.
        let e = enters vs log1 [] i own tt in
        let K : List Entry = entered J (login_entries save_due []) in
        let content : List ℕ = told_content bearer.name.kind gs in
        let reply : RotatingReply = record { service = bearer.name.kind; generations = gs } in
        let generated : AreGenerated vs bearer.name.kind gs = subst (λ (l : List Generation). AreGenerated vs bearer.name.kind l) (sym is) (own.present.generated bearer.name.kind) in
        let writable : AreWritable gs = subst AreWritable (sym is) (own.present.writable bearer.name.kind) in
        let saved : AllByRecursion (IsSavedIn vs.saved bearer.name.kind) gs =
        subst (λ (l : List (EntityType × Generation)). AllByRecursion (IsSavedIn l bearer.name.kind) gs) (sym i.told) recorded in
        let allowed : IsAllowed vs K n (told_seal secret content) = (
          Secret bearer.name,
          told vs grows own,
          (
            λ x e. absurd (rotating_no_info reply x e),
            λ x e. told-of vs bearer.name reply x refl generated writable saved e,
          ),
          tt,
        ) in
        record {
          uses = vs;
          grows = stays vs;
          inv = inv-all run whole_log vs log1 K n line (told_seal secret content ∷ []) e.numbered.inv (allowed, tt);
          laws = e.laws;
          good = saves vs vs log1 [] (stays vs) own e;
        }

  -- ---- what is asked

  -- the occasion, and the monitor behind the rotation
  abbrev at_of : MonitorArrival → Occasion
  at_of a = request_occasion a

  abbrev rotated : MonitorArrival → MonitorArrival
  rotated a = serving a (rotated_server a.reading a.draw a.own.server)

  abbrev drawn_of : MonitorArrival → List SealEntry
  drawn_of a = rotation_drawn a.reading a.draw a.own.server.state

  -- the row of a response, where the key server has rotated
  abbrev row_for : MonitorArrival → Secured → Bearer → Demand → Responded → MonitorRow
  row_for a s bearer demand r = row_responding Open a s bearer demand r

  secret_of : (a : MonitorArrival) (bearer : Bearer) (p : Principal) → find (is_named bearer.name) (rotated a).own.server.ring ≡ Some p → (vs : Uses) → Grows us vs → Owns (rotated a) vs
      → Means vs p.key.secret (Secret bearer.name)
  secret_of a bearer p is vs grows own = found_secret vs bearer.name (rotated a).own.server.ring p own.ring is

  tickets-after : (a : MonitorArrival) (s : Secured) (bearer : Bearer) (demand : Demand) (p : Principal) (r : Result (List Ticket) LoginFault) → BearerOk owner us s.keys bearer → length a.draw ≡ 384
      → find (is_named bearer.name) (rotated a).own.server.ring ≡ Some p
      → AreOthers (rotated a).own.server bearer.name bearer.gid bearer.session a.reading a.draw r → AreOfCurrent (rotated a).own.server a.reading a.draw r → Begins (drawn_of a) (rotated a)
      → Records (row_for a s bearer demand (tells_tickets (at_of a) (rotated a).own.server bearer (drawn_of a) p.key.secret r))
      → Grants (row_for a s bearer demand (tells_tickets (at_of a) (rotated a).own.server bearer (drawn_of a) p.key.secret r)).seals
      → AfterOpen (row_for a s bearer demand (tells_tickets (at_of a) (rotated a).own.server bearer (drawn_of a) p.key.secret r))
  tickets-after a s bearer demand p (Err why) ok draws is others under first rec g = refuses-after (rotated a) (reason.Login why) (drawn_of a) tt first g
  tickets-after a s bearer demand p (Ok ts) ok draws is others under first rec g =
      let made : ReplyMade = reply_made (changed a.own.saved (rotated a).own.server.state) (drawn_of a) (flat_map (ticket_seals (rotated a).own.server p.key.secret bearer.session) ts) ts (given.Tickets (map ticket_part ts)) in
      let f : Frame = reply_message demand.tid made.body in
      reply-after (rotated a) s bearer demand.seq made (secure_frame s.keys f) ok first
      (λ _. tickets-reply (rotated a) s bearer ok draws p.key.secret (drawn_of a) ts (secret_of a bearer p is) others under)
      (λ ws K has. frame-ok ws K n s.keys f has) rec g

  asks-after : (a : MonitorArrival) (s : Secured) (bearer : Bearer) (demand : Demand) (keys : ℕ) (found : Option Principal) → BearerOk owner us s.keys bearer → length a.draw ≡ 384
      → find (is_named bearer.name) (rotated a).own.server.ring ≡ found → Begins (drawn_of a) (rotated a)
      → Records (row_for a s bearer demand (issues_tickets (at_of a) (rotated a).own.server bearer (drawn_of a) keys (option_map (λ (p : Principal). p.key) found)))
      → Grants (row_for a s bearer demand (issues_tickets (at_of a) (rotated a).own.server bearer (drawn_of a) keys (option_map (λ (p : Principal). p.key) found))).seals
      → AfterOpen (row_for a s bearer demand (issues_tickets (at_of a) (rotated a).own.server bearer (drawn_of a) keys (option_map (λ (p : Principal). p.key) found)))
  asks-after a s bearer demand keys None ok draws is first rec g = refuses-after (rotated a) (reason.Login login.UnknownEntity) (drawn_of a) tt first g
  asks-after a s bearer demand keys (Some p) ok draws is first rec g =
      tickets-after a s bearer demand p (issued_for (rotated a).own.server (asking_of (at_of a) bearer) (others_for keys)) ok draws is
      (others-issued (rotated a).own.server bearer.name bearer.gid bearer.session a.reading a.draw (others_for keys) (apart keys))
      (all-under (rotated a).own.server a.reading a.draw (asking_of (at_of a) bearer) (λ s. (refl, refl)) (others_for keys)) first rec g
    where
      apart : (keys : ℕ) → AllByRecursion (λ (s : EntityType). s ≡ Auth → ⊥) (others_for keys)
      apart keys = all-filter (λ (s : EntityType). s ≡ Auth → ⊥) (is_asked keys) (Mds ∷ Osd ∷ Mgr ∷ []) ((λ e. cc), ((λ e. cc), ((λ e. cc), tt)))

  tells-after : (a : MonitorArrival) (s : Secured) (bearer : Bearer) (demand : Demand) (found : Option Principal) (r : Result (List Generation) NotADaemon) → BearerOk owner us s.keys bearer
      → length a.draw ≡ 384 → find (is_named bearer.name) (rotated a).own.server.ring ≡ found → secrets_of (rotated a).own.server bearer.name ≡ r → Begins (drawn_of a) (rotated a)
      → Records (row_for a s bearer demand (tells_generations (at_of a) (rotated a).own.server bearer (drawn_of a) (option_map (λ (p : Principal). p.key) found) r))
      → Grants (row_for a s bearer demand (tells_generations (at_of a) (rotated a).own.server bearer (drawn_of a) (option_map (λ (p : Principal). p.key) found) r)).seals
      → AfterOpen (row_for a s bearer demand (tells_generations (at_of a) (rotated a).own.server bearer (drawn_of a) (option_map (λ (p : Principal). p.key) found) r))
  tells-after a s bearer demand (Some p) (Ok gs) ok draws is of first rec g =
      let content : List ℕ = told_content bearer.name.kind gs in
      let made : ReplyMade = reply_made (changed a.own.saved (rotated a).own.server.state) (drawn_of a) (told_seal p.key.secret content ∷ []) [] (given.Rotating (sealed p.key.secret content)) in
      let f : Frame = reply_message demand.tid made.body in
      reply-after (rotated a) s bearer demand.seq made (secure_frame s.keys f) ok first
      (λ saved. let same : gs ≡ generations_of (rotated a).own.server.state bearer.name.kind = secrets-are (rotated a).own.server bearer.name gs of in
      rotating-reply (rotated a) s bearer ok draws p.key.secret (drawn_of a) gs (secret_of a bearer p is) same (recorded-of a gs bearer.name.kind same saved))
      (λ ws K has. frame-ok ws K n s.keys f has) rec g
    where
      recorded-of : (a : MonitorArrival) (gs : List Generation) (kind : EntityType) → gs ≡ generations_of (rotated a).own.server.state kind
          → AreRecorded run (saved_behind a.own.saved (changed a.own.saved (rotated a).own.server.state)) → AllByRecursion (IsSavedIn run.saved kind) gs
      recorded-of a gs kind same saved =
          let state : KeptState = (rotated a).own.server.state in
          subst (λ (l : List Generation). AllByRecursion (IsSavedIn run.saved kind) l) (sym same) (subst (AreRecorded run) (saved-changed a.own.saved state) saved kind)
  tells-after a s bearer demand (Some p) (Err why) ok draws is of first rec g = refuses-after (rotated a) reason.NotADaemon (drawn_of a) tt first g
  tells-after a s bearer demand None (Ok gs) ok draws is of first rec g = refuses-after (rotated a) reason.NotADaemon (drawn_of a) tt first g
  tells-after a s bearer demand None (Err why) ok draws is of first rec g = refuses-after (rotated a) reason.NotADaemon (drawn_of a) tt first g

  request-after : (a : MonitorArrival) (s : Secured) (bearer : Bearer) (demand : Demand) (request : Option Request) → BearerOk owner us s.keys bearer → length a.draw ≡ 384 → Begins (drawn_of a) (rotated a)
      → Records (row_for a s bearer demand (answers_by (at_of a) (rotated a).own.server bearer (drawn_of a) request))
      → Grants (row_for a s bearer demand (answers_by (at_of a) (rotated a).own.server bearer (drawn_of a) request)).seals
      → AfterOpen (row_for a s bearer demand (answers_by (at_of a) (rotated a).own.server bearer (drawn_of a) request))
  request-after a s bearer demand (Some (asked.Tickets keys)) ok draws first rec g = asks-after a s bearer demand keys (find (is_named bearer.name) (rotated a).own.server.ring) ok draws refl first rec g
  request-after a s bearer demand (Some asked.Rotating) ok draws first rec g =
      tells-after a s bearer demand (find (is_named bearer.name) (rotated a).own.server.ring) (secrets_of (rotated a).own.server bearer.name) ok draws refl refl first rec g
  request-after a s bearer demand None ok draws first rec g = refuses-after (rotated a) reason.BadRequest (drawn_of a) tt first g

  -- ---- on an open link

  abbrev IsFaultOfLogin : Result Demand Reason → Type 0
  IsFaultOfLogin (Ok demand) = Unit {0}
  IsFaultOfLogin (Err why) = IsOfLogin why

  heard-fault : (last : ℕ) (read : Result Demand BytesFault) → IsFaultOfLogin (ordered last read)
  heard-fault last (Err why) = tt
  heard-fault last (Ok demand) = by_tests (last == 2 ^ 64 - 1) (demand.seq == last + 1)
    where
      by_tests : (spent next : Bool) → IsFaultOfLogin (if spent then Err reason.Spent else if next then Ok demand else Err (reason.Session (Gap (last + 1))))
      by_tests true next = tt
      by_tests false true = tt
      by_tests false false = tt

  demand-after : (a : MonitorArrival) (s : Secured) (bearer : Bearer) (found : Result Demand Reason) → IsFaultOfLogin found → Inv run whole_log us log J → OwnOk before owner us J a.own
      → BearerOk owner us s.keys bearer → length a.draw ≡ 384 → Records (on_demand Open a s bearer found) → Grants (on_demand Open a s bearer found).seals → AfterOpen (on_demand Open a s bearer found)
  demand-after a s bearer (Err why) is i own ok draws rec g =
      after-simple (monitor_says before owner) run whole_log n line us log J (refuses a why []) i (simple-refuses (monitor_says before owner) us J n a why [] is own tt)
  demand-after a s bearer (Ok demand) is i own ok draws rec g = request-after a s bearer demand demand.request ok draws first rec g
    where
      first : Begins (drawn_of a) (rotated a)
      first granted =
          let r = rotates_all run whole_log n line J a.reading a.draw a.own.server.state us log draws i own.present granted in
          record { uses = r.uses; grows = r.grows; inv = r.inv; facts = own-rotated run whole_log n line before owner us log J a r.uses r.grows own r.facts }

  pub open-after : (a : MonitorArrival) (s : Secured) (bearer : Bearer) (f : Frame) → Inv run whole_log us log J → OwnOk before owner us J a.own → BearerOk owner us s.keys bearer
      → length a.draw ≡ 384 → Records (on_open Open a s bearer f) → Grants (on_open Open a s bearer f).seals → AfterOpen (on_open Open a s bearer f)
  open-after a s bearer f i own ok draws rec g = by_tests (f.tag == 18) (f.tag == 19) rec g
    where
      by_tests : (ask ack : Bool)
          → Records (if ask then on_keepalive a s (λ behind. Open behind bearer) (payload keepalive2_layout.form f)
          else if ack then on_keepalive_ack a s (λ behind. Open behind bearer) (payload keepalive2_ack_layout.form f) else on_message Open a s bearer f)
          → Grants (if ask then on_keepalive a s (λ behind. Open behind bearer) (payload keepalive2_layout.form f)
          else if ack then on_keepalive_ack a s (λ behind. Open behind bearer) (payload keepalive2_ack_layout.form f) else on_message Open a s bearer f).seals
          → AfterOpen (if ask then on_keepalive a s (λ behind. Open behind bearer) (payload keepalive2_layout.form f)
          else if ack then on_keepalive_ack a s (λ behind. Open behind bearer) (payload keepalive2_ack_layout.form f) else on_message Open a s bearer f)
      by_tests true ack rec g =
          let row : MonitorRow = on_keepalive a s (λ behind. Open behind bearer) (payload keepalive2_layout.form f) in
          after-simple (monitor_says before owner) run whole_log n line us log J row i (keepalive-simple before owner us J n a s bearer (payload keepalive2_layout.form f) own ok)
      by_tests false true rec g =
          let row : MonitorRow = on_keepalive_ack a s (λ behind. Open behind bearer) (payload keepalive2_ack_layout.form f) in
          after-simple (monitor_says before owner) run whole_log n line us log J row i (keepalive_ack-simple before owner us J n a s bearer (payload keepalive2_ack_layout.form f) own ok)
      by_tests false false rec g = demand-after a s bearer (heard bearer f) (heard-fault bearer.last (demand_of (message_in f))) i own ok draws rec g
