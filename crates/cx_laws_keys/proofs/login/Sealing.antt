-- What a login draws and seals, behind the entries of its tickets: the tickets, what is told of them, and the secret of the connection.
use Rattle.std.proofs.Common.{◌≡◌, ℕ, ◌<◌, ◌^◌, Bool, true, false, List, [], ◌∷◌, ◌++◌, length, take, Option, Some, None, inl, inr, refl, sym, ap, ◌∙◌, subst}
use Rattle.std.specs.Prelude.{Contains, nat_lt, if◌then◌else◌}
use Rattle.std.specs.List.{AllByRecursion, flat_map}
use Rattle.cx_base.specs.Names.{Name}
use Rattle.cx_base.specs.declared.kinds.EntityType.{EntityType}
use Rattle.cx_base.specs.declared.kinds.EntityType.TheVariants.{Mon, Mds, Osd, Client, Mgr, Auth}
use Rattle.cx_laws_keys.specs.cx_cbc.specs.Envelope.{sealed as enveloped}
use Rattle.cx_rules.specs.cx_dice.specs.Draws.{connection_of, session_of}
use Rattle.cx_laws_keys.specs.cx_enc.specs.Values.{name_form}
use Rattle.cx_laws_keys.specs.cx_journal.specs.declared.entries.Entry.{Entry}
use Rattle.cx_base.specs.declared.nodes.NodeName.{NodeName}
use Rattle.cx_base.specs.declared.nodes.NodeName.TheVariants as node
use Rattle.cx_laws_keys.specs.cx_journal.specs.declared.premises.KeyKind.TheVariants as kind
use Rattle.cx_rules.specs.cx_keyserver.specs.Issuing.{current_at, service_ticket_of, ticket_info_of}
use Rattle.cx_rules.specs.cx_keyserver.specs.Servers.{Server, generations_of}
use Rattle.cx_rules.specs.cx_keyserver.specs.declared.tickets.Ticket.{Ticket}
use Rattle.cx_rules.specs.cx_rotate.specs.declared.generations.Generation.{Generation}
use Rattle.cx_rules.specs.Tickets.{blob_sealed, info_key, info_kind, issued_entry, ticket_seals}
use Rattle.cx_laws_keys.specs.cx_sealed.specs.Records.{connection_secret_layout, service_ticket_layout, ticket_info_layout}
use Rattle.cx_laws_keys.specs.cx_sealed.specs.Unsealing.{spelled_by}
use Rattle.cx_laws_keys.specs.cx_sealed.specs.declared.ticket_info.TicketInfo.{TicketInfo}
use Rattle.cx_rules.specs.cx_steps.specs.declared.seals.DrawMark.TheVariants as draw
use Rattle.cx_rules.specs.cx_steps.specs.declared.seals.Logged.{Logged}
use Rattle.cx_rules.specs.cx_steps.specs.declared.seals.SealEntry.{SealEntry}
use Rattle.cx_rules.specs.cx_steps.specs.declared.seals.SealEntry.TheVariants as entry
use Rattle.cx_laws_keys.proofs.keys.Journal.{Reached, reached-then}
use Rattle.cx_laws_keys.proofs.keys.Known.{HasLogin, Inv, IsAllowed, Says, session-placed}
use Rattle.cx_laws_keys.proofs.keys.Lists.{all-append}
use Rattle.cx_laws_keys.proofs.keys.Premises.{AreGranted, behind, granted-first, granted-rest, logged}
use Rattle.cx_laws_keys.proofs.keys.Reading.{IsInfoFrom, IsReadFrom, connection_no_info, connection_no_reply, info_no_connection, info_no_reply, info_no_rotating, read_connection, read_info, read_ticket}
use Rattle.cx_laws_keys.proofs.keys.Steps.{inv-all, inv-drawn}
use Rattle.cx_laws_keys.proofs.keys.Uses.{AtMonitor, Connected, Generated, Grows, Login, Means, Secret, Ticketed, Use, Uses, grows-one, session_use, stays, whose, with_key, WholeRun}
use Rattle.cx_laws_keys.proofs.login.Entering.{issued_of}
use Rattle.cx_laws_keys.proofs.keys.Known.{generated-grow}
use Rattle.cx_laws_keys.proofs.keys.Uses.{AreGenerated}
use Rattle.cx_laws_keys.proofs.login.Issuing.{IsOther, TicketOk, length-session, short-connection}
use Rattle.cx_laws_keys.proofs.login.Rows.{Allowed}
use Rattle.cx_laws_keys.proofs.login.Under.{IsOfCurrent}

-- ---- uses of a session key

whose-session : (name : Name) (service : EntityType) → Some name ≡ whose (session_use name service)
whose-session name Auth = refl
whose-session name Mon = refl
whose-session name Mds = refl
whose-session name Osd = refl
whose-session name Client = refl
whose-session name Mgr = refl

no_secret : (name m : Name) (service : EntityType) → session_use name service ≡ Secret m → ⊥
no_secret name m Auth e = cc
no_secret name m Mon e = cc
no_secret name m Mds e = cc
no_secret name m Osd e = cc
no_secret name m Client e = cc
no_secret name m Mgr e = cc

-- the key of the current generation is for it
abbrev CurrentOk : Uses → EntityType → Option Generation → Type 0
CurrentOk us service (Some g) = Means us g.key (Generated service g.id)
CurrentOk us service None = Unit {0}

current-ok : (us : Uses) (service : EntityType) (now : ℕ) (gs : List Generation) → AreGenerated us service gs → CurrentOk us service (current_at now gs)
current-ok us service now [] h = tt
current-ok us service now (a ∷ []) h = tt
current-ok us service now (a ∷ b ∷ []) h = tt
current-ok us service now (a ∷ b ∷ c ∷ []) h = by_test (nat_lt now b.expires)
  where
    by_test : (t : Bool) → CurrentOk us service (if t then Some b else None)
    by_test true = h.1.0
    by_test false = tt
current-ok us service now (a ∷ b ∷ c ∷ d ∷ gs) h = tt

module _ (run : WholeRun) (whole : List Logged) (n : NodeName) (line : ℕ) (server : Server) (secret auth_session : List ℕ) (name : Name) (gid reading : ℕ) (block : List ℕ) (K : List Entry)
    (named : name_form.Fits name) (wide : gid < 2 ^ 64) (drawn : length block ≡ 384) where
  -- what is known while the tickets are sealed
  pub record Ready (us : Uses) : Type 0 where
    pub generated : (service : EntityType) → AreGenerated us service (generations_of server.state service)
    pub told : Means us secret (Secret name)

  ready-grows : (us vs : Uses) → Grows us vs → Ready us → Ready vs
  ready-grows us vs f h = record {
    generated = λ service. generated-grow us vs service (generations_of server.state service) f (h.generated service);
    told = f.means secret (Secret name) h.told;
  }

  -- what a ticket's blob says
  blob-says : (us : Uses) (t : Ticket) (g : Generation) → TicketOk name gid reading block t → Contains K (issued_entry t) → Means us t.session (session_use name t.service)
      → t.generation ≡ g.id → t.blob ≡ enveloped g.key (service_ticket_layout.form.text (service_ticket_of t))
      → Says us K g.key (Generated t.service g.id) (service_ticket_layout.form.text (service_ticket_of t))
  blob-says us t g ok has means id blob = λ x e.
      let sixteen : length t.session ≡ 16 = ap length ok.session ∙ length-session t.service block drawn ok.keyed in
      let fits : name_form.Fits t.entity = subst (λ (m : Name). name_form.Fits m) (sym ok.entity) named in
      let small : t.gid < 2 ^ 64 = subst (λ (g : ℕ). g < 2 ^ 64) (sym ok.gid_is) wide in
      let r : IsReadFrom (service_ticket_of t) x = read_ticket (service_ticket_of t) x sixteen fits small e in
      let by_key : Means us x.session (session_use name t.service) = subst (λ (k : List ℕ). Means us k (session_use name t.service)) (sym r.session) means in (
        record {
          ticket = issued_of t;
          issued = has;
          service_is = refl;
          entity = sym r.name;
          gid = sym r.gid;
          expires = r.expires;
          exact = r.exact;
          caps = r.caps;
          generation = id;
          blob = blob;
        },
        subst (λ (m : Name). Means us x.session (session_use m t.service)) (sym ok.entity ∙ sym r.name) by_key,
      )

  -- what is told of it, by the service
  info-allowed : (us : Uses) (t : Ticket) → TicketOk name gid reading block t → Ready us → Means us t.session (session_use name t.service) → Means us auth_session (Login name)
      → (service : EntityType) → t.service ≡ service
      → IsAllowed us K n (entry.Sealed (record { key = info_key secret auth_session service; kind = info_kind service; content = ticket_info_layout.form.text (ticket_info_of t) }))
  info-allowed us t ok ready means auth service is = by_service service is
    where
      read : (x : TicketInfo) → spelled_by ticket_info_layout.form (ticket_info_layout.form.text (ticket_info_of t)) ≡ Some x → IsInfoFrom (ticket_info_of t) x
      read x e = read_info (ticket_info_of t) x (ap length ok.session ∙ length-session t.service block drawn ok.keyed) e

      key : (x : TicketInfo) (s : EntityType) → t.service ≡ s → IsInfoFrom (ticket_info_of t) x → Means us x.session (session_use name s)
      key x s same r = subst (λ (k : List ℕ). Means us k (session_use name s)) (sym r.session) (subst (λ (s : EntityType). Means us t.session (session_use name s)) same means)

      other : (s : EntityType) → t.service ≡ s → ((m : Name) → session_use m s ≡ Ticketed m s) → Says us K auth_session (Login name) (ticket_info_layout.form.text (ticket_info_of t))
      other s same use_is = (
        λ x e.
            let r : IsInfoFrom (ticket_info_of t) x = read x e in
            let by : Means us x.session (Ticketed name s) = subst (λ (u : Use). Means us x.session u) (use_is name) (key x s same r) in
            subst (λ (v : EntityType). Means us x.session (Ticketed name v)) (sym same ∙ sym r.service) by,
        λ x e. absurd (info_no_connection (ticket_info_of t) x e),
        λ x e. absurd (info_no_reply (ticket_info_of t) x e),
      )

      by_service : (s : EntityType) → t.service ≡ s
          → IsAllowed us K n (entry.Sealed (record { key = info_key secret auth_session s; kind = info_kind s; content = ticket_info_layout.form.text (ticket_info_of t) }))
      by_service Auth same = (Secret name, ready.told, (λ x e. key x Auth same (read x e), λ x e. absurd (info_no_rotating (ticket_info_of t) x e)), tt)
      by_service Mon same = (Login name, auth, other Mon same (λ m. refl), tt)
      by_service Mds same = (Login name, auth, other Mds same (λ m. refl), tt)
      by_service Osd same = (Login name, auth, other Osd same (λ m. refl), tt)
      by_service Client same = (Login name, auth, other Client same (λ m. refl), tt)
      by_service Mgr same = (Login name, auth, other Mgr same (λ m. refl), tt)

  blob-allowed : (us : Uses) (t : Ticket) → TicketOk name gid reading block t → Contains K (issued_entry t) → Means us t.session (session_use name t.service)
      → IsOfCurrent server reading block t → (current : Option Generation) → current_at t.created (generations_of server.state t.service) ≡ current → CurrentOk us t.service current
      → Allowed us K n (blob_sealed current t)
  blob-allowed us t ok has means under None is h = tt
  blob-allowed us t ok has means under (Some g) is h =
      let same : under.of ≡ g = some_is under.of g (sym under.current ∙ is) in
      let content : List ℕ = service_ticket_layout.form.text (service_ticket_of t) in (
        (Generated t.service g.id, h, blob-says us t g ok has means (under.id ∙ ap (λ (k : Generation). k.id) same) (under.blob ∙ ap (λ (k : Generation). enveloped k.key content) same), tt),
        tt,
      )
    where
      some_is : (a b : Generation) → Some a ≡ Some b → a ≡ b
      some_is a b e = cc

  -- one ticket
  ticket-sealed : (us : Uses) (log : List Logged) (t : Ticket) → Inv run whole us log K → TicketOk name gid reading block t → IsOfCurrent server reading block t → Contains K (issued_entry t) → Ready us
      → Means (with_key us t.session (session_use name t.service)) auth_session (Login name)
      → AreGranted run.leaked whole n line log (ticket_seals server secret auth_session t)
      → Reached run whole n line us log K (ticket_seals server secret auth_session t) (λ vs. Means vs auth_session (Login name))
  ticket-sealed us log t i ok under has ready auth g =
      let u : Use = session_use name t.service in
      let mark = draw.Session t.session t.entity in
      let vs : Uses = with_key us t.session u in
      let for : Some t.entity ≡ whose u = ap (λ (m : Name). Some m) ok.entity ∙ whose-session name t.service in
      let first : Inv run whole vs (logged n line (entry.Drawn mark) ∷ log) K = inv-drawn run whole us log K n line mark t.session u i refl for (session-placed name t.service) (λ m e. absurd (no_secret name m t.service e)) g.0 in
      let means : Means vs t.session u = inl (refl, refl) in
      let more : Ready vs = ready-grows us vs (grows-one us t.session u) ready in
      let current : Option Generation = current_at t.created (generations_of server.state t.service) in
      let blob : Allowed vs K n (blob_sealed current t) = blob-allowed vs t ok has means under current refl (current-ok vs t.service t.created (generations_of server.state t.service) (more.generated t.service)) in
      let info = info-allowed vs t ok more means auth t.service refl in
      let rest : List SealEntry = entry.Sealed (record {
        key = info_key secret auth_session t.service;
        kind = info_kind t.service;
        content = ticket_info_layout.form.text (ticket_info_of t);
      }) ∷ [] in
      record {
        uses = vs;
        grows = grows-one us t.session u;
        inv = inv-all run whole vs (logged n line (entry.Drawn mark) ∷ log) K n line (blob_sealed current t ++ rest) first
            (all-append (IsAllowed vs K n) (blob_sealed current t) rest blob (info, tt));
        facts = auth;
      }

  -- the tickets for other services than AUTH
  pub others-sealed : (us : Uses) (log : List Logged) (ts : List Ticket) → Inv run whole us log K → AllByRecursion (IsOther name gid reading block) ts → AllByRecursion (IsOfCurrent server reading block) ts
      → AllByRecursion (λ (t : Ticket). Contains K (issued_entry t)) ts → Ready us → Means us auth_session (Login name)
      → AreGranted run.leaked whole n line log (flat_map (ticket_seals server secret auth_session) ts)
      → Reached run whole n line us log K (flat_map (ticket_seals server secret auth_session) ts) (λ vs. Means vs auth_session (Login name))
  others-sealed us log [] i ok under has ready auth g = record { uses = us; grows = stays us; inv = i; facts = auth }
  others-sealed us log (t ∷ ts) i ok under has ready auth g =
      let here : List SealEntry = ticket_seals server secret auth_session t in
      let later : List SealEntry = flat_map (ticket_seals server secret auth_session) ts in
      let first = ticket-sealed us log t i ok.0.0 under.0 has.0 ready (inr auth) (granted-first run.leaked whole n line log here later g) in
      reached-then run whole n line us log K here later (λ vs. Means vs auth_session (Login name)) (λ vs. Means vs auth_session (Login name)) first
      (others-sealed first.uses (behind n line here log) ts first.inv ok.1 under.1 has.1 (ready-grows us first.uses first.grows ready) first.facts (granted-rest run.leaked whole n line log here later g))

  -- all tickets: the first is for AUTH, and its session key is the one under which the others are told
  pub tickets-sealed : (us : Uses) (log : List Logged) (t : Ticket) (ts : List Ticket) → Inv run whole us log K → TicketOk name gid reading block t → t.service ≡ Auth
      → auth_session ≡ session_of Auth block → AllByRecursion (IsOther name gid reading block) ts → AllByRecursion (IsOfCurrent server reading block) (t ∷ ts)
      → AllByRecursion (λ (t : Ticket). Contains K (issued_entry t)) (t ∷ ts) → Ready us
      → AreGranted run.leaked whole n line log (flat_map (ticket_seals server secret auth_session) (t ∷ ts))
      → Reached run whole n line us log K (flat_map (ticket_seals server secret auth_session) (t ∷ ts)) (λ vs. Means vs auth_session (Login name))
  tickets-sealed us log t ts i ok auth session_is others under has ready g =
      let here : List SealEntry = ticket_seals server secret auth_session t in
      let later : List SealEntry = flat_map (ticket_seals server secret auth_session) ts in
      let same : t.session ≡ auth_session = ok.session ∙ ap (λ (s : EntityType). session_of s block) auth ∙ sym session_is in
      let use_is : session_use name t.service ≡ Login name = ap (λ (s : EntityType). session_use name s) auth in
      let first = ticket-sealed us log t i ok under.0 has.0 ready (inl (same, use_is)) (granted-first run.leaked whole n line log here later g) in
      reached-then run whole n line us log K here later (λ vs. Means vs auth_session (Login name)) (λ vs. Means vs auth_session (Login name)) first
      (others-sealed first.uses (behind n line here log) ts first.inv others under.1 has.1 (ready-grows us first.uses first.grows ready) first.facts (granted-rest run.leaked whole n line log here later g))

  -- the secret of the connection, sealed under the session key of AUTH
  pub record Secured (us : Uses) : Type 0 where
    pub session : Means us auth_session (Login name)
    pub connection : HasLogin us name (take 16 (connection_of block))

  abbrev pub connection_seals : List SealEntry
  connection_seals =
      entry.Drawn (draw.Connection (connection_of block) name)
      ∷ entry.Sealed (record { key = auth_session; kind = kind.Session; content = connection_secret_layout.form.text (record { secret = connection_of block }) })
      ∷ []

  pub connection-sealed : (us : Uses) (log : List Logged) (number challenge : ℕ) → Inv run whole us log K → Means us auth_session (Login name) → AreGranted run.leaked whole n line log connection_seals
      → Reached run whole n line us log K connection_seals Secured
  connection-sealed us log number challenge i auth g =
      let secret : List ℕ = connection_of block in
      let key : List ℕ = take 16 secret in
      let mark = draw.Connection secret name in
      let u : Use = Connected node.Monitor number name (AtMonitor challenge) in
      let vs : Uses = with_key us key u in
      let first : Inv run whole vs (logged n line (entry.Drawn mark) ∷ log) K = inv-drawn run whole us log K n line mark key u i refl refl tt (λ m e. absurd cc) g.0 in
      record {
        uses = vs;
        grows = grows-one us key u;
        inv = inv-all run whole vs (logged n line (entry.Drawn mark) ∷ log) K n line connection_sealed first ((Login name, inr auth, says, tt), tt);
        facts = record { session = inr auth; connection = record { number = number; challenge = challenge; means = inl (refl, refl) } };
      }
    where
      connection_sealed : List SealEntry
      connection_sealed = entry.Sealed (record { key = auth_session; kind = kind.Session; content = connection_secret_layout.form.text (record { secret = connection_of block }) }) ∷ []

      says : Says (with_key us (take 16 (connection_of block)) (Connected node.Monitor number name (AtMonitor challenge))) K auth_session (Login name) (connection_secret_layout.form.text (record { secret = connection_of block }))
      says = (
        λ x e. absurd (connection_no_info (record { secret = connection_of block }) x e),
        λ x e. record {
          number = number;
          challenge = challenge;
          means = inl (ap (λ (s : List ℕ). take 16 s) (sym (read_connection (record { secret = connection_of block }) x (short-connection block) e)), refl);
        },
        λ x e. absurd (connection_no_reply (record { secret = connection_of block }) x e),
      )
