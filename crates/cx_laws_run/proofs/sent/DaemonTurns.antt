-- A turn of any link of a daemon: what is known of all its links stays known behind it, and each entry has its law.
use Rattle.std.proofs.Common.{◌≡◌, ℕ, ◌==◌, Bool, true, false, nat_lt, List, [], ◌∷◌, ◌++◌, filter, length, Option, Some, None, inl, inr, ◌⊎◌, refl, sym, ap, ◌∙◌, subst}
use Rattle.std.proofs.lemmas.List.Elements.{Contains-push_cases}
use Rattle.std.specs.Prelude.{Contains, not}
use Rattle.std.specs.List.{AllByRecursion}
use Rattle.std.specs.Option.{option_map}
use Rattle.cx_laws_sessions.specs.cx_authorize.specs.Daemon.{Authority}
use Rattle.cx_base.specs.Names.{Name}
use Rattle.cx_base.specs.declared.nodes.NodeName.{NodeName}
use Rattle.cx_desk.specs.Handlers.{Handlers}
use Rattle.cx_journal.specs.declared.entries.Admitted.{Admitted}
use Rattle.cx_journal.specs.declared.entries.Entry.{Entry}
use Rattle.cx_journal.specs.declared.entries.Entry.TheVariants as journal
use Rattle.cx_laws_run.specs.cx_laws_tickets.proofs.authorize.DaemonRows.{DaemonStageOk, LinkHas, LinksHave}
use Rattle.cx_laws_run.specs.cx_laws_tickets.proofs.authorize.IncomingLinks.{AuthorizedRow, EntryToldIn}
use Rattle.cx_laws_run.specs.cx_laws_tickets.proofs.authorize.Hosting.{AuthorizedHosted, incoming-authorized}
use Rattle.cx_laws_run.specs.cx_laws_tickets.proofs.authorize.Keys.{LinkKeys, StageKeys}
use Rattle.cx_laws_run.specs.cx_laws_tickets.specs.authorize.Admission.{IsOwnedIn}
use Rattle.cx_laws_run.specs.cx_laws_keys.proofs.keys.Journal.{entered}
use Rattle.cx_laws_run.specs.cx_laws_keys.proofs.keys.Known.{Inv, Within}
use Rattle.cx_laws_run.specs.cx_laws_keys.proofs.keys.Lists.{all-append, all-map, found_all}
use Rattle.cx_laws_run.specs.cx_laws_keys.proofs.keys.Premises.{AreGranted, behind}
use Rattle.cx_laws_run.specs.cx_laws_keys.proofs.keys.Uses.{AreGenerated, AtDaemon, Connected, Grows, Uses, WholeRun}
use Rattle.cx_laws_sessions.proofs.session.MonClients.{EntersNone, mon_client-enters}
use Rattle.cx_laws_sessions.proofs.session.Moves.{IsQuiet}
use Rattle.cx_laws_run.specs.cx_laws_keys.proofs.login.Proving.{RowOf}
use Rattle.cx_laws_sessions.specs.cx_rules.specs.Acceptor.{AwaitsBanner, AwaitsHello, AwaitsRequest, AwaitsProof, AwaitsSignature, AwaitsIdent, Open}
use Rattle.cx_laws_sessions.specs.cx_rules.specs.Connector as connector
use Rattle.cx_laws_sessions.specs.cx_rules.specs.Connector.{MonClientArrival}
use Rattle.cx_laws_sessions.specs.cx_rules.specs.Holdings.{MonClient}
use Rattle.cx_laws_sessions.specs.cx_rules.specs.Links.{Link, link_of}
use Rattle.cx_laws_sessions.specs.cx_rules.specs.Rows.{Arrival, Outcome, Row, Turned, Waits, Refuses, Handles, arrival, carried_out, idles, links_behind, refuses_bytes, turns}
use Rattle.cx_laws_sessions.specs.cx_rules.specs.Secured.{Secured}
use Rattle.cx_laws_sessions.specs.cx_rules_session.specs.Asks.{Asks, Finished, Asking}
use Rattle.cx_laws_sessions.specs.cx_rules_session.specs.DaemonRule.{AsAcceptor, AsConnector, Daemon, DaemonNode, DaemonStage, fetches, hosts, is_older, me, moved_to, turn, turned_at, with_mon_client}
use Rattle.cx_laws_sessions.specs.cx_rules_session.specs.IncomingLinks.{IncomingArrival, IncomingRow, IncomingStage, Served}
use Rattle.cx_laws_sessions.specs.cx_rules_session.specs.Hosting.{Deciding, Hosted, incoming_turned}
use Rattle.cx_laws_sessions.specs.cx_rules_session.specs.Kinds.{arrival_in, of_kind, row_of_kind, turn_of_kind}
use Rattle.cx_laws_sessions.specs.cx_run.proofs.Always.{Always, always-map, always-weaker}
use Rattle.cx_laws_sessions.specs.cx_run.proofs.IncomingTakes.{TakesHosted, incoming-takes}
use Rattle.cx_laws_sessions.specs.cx_run.proofs.Taking.{EachRow, Takes, TurnTakes}
use Rattle.cx_steps.specs.declared.seals.Logged.{Logged}
use Rattle.cx_steps.specs.declared.seals.SealEntry.{SealEntry}
use Rattle.cx_laws_links.proofs.links.IncomingNodes.{HostKnown, LinksKnown, links-known, passing}
use Rattle.cx_laws_links.proofs.links.IncomingSteps.{row-told}
use Rattle.cx_laws_links.proofs.links.IncomingTakes.{EntryHeard, HearsHosted, HearsRow, HearsTurned, IsOfNoConnector, incoming-hears, joins_behind, joins_by, turned_seals}
use Rattle.cx_laws_links.proofs.links.IncomingWords.{AreSpelled}
use Rattle.cx_laws_links.proofs.links.Known.{AreTold, IsIncoming, Told}
use Rattle.cx_laws_links.proofs.links.Since.{since}
use Rattle.cx_laws_links.proofs.links.Written.{IsLinkKey}
use Rattle.cx_laws_run.proofs.sent.DaemonKnown.{IsOne, IsSilent, IsStill, IsUnheard, Keeps, heard-law, host-lifts, hosts-lift, quiet-known, still-unheard, still-within, told-lifts}
use Rattle.cx_laws_run.proofs.sent.IncomingLinksBefore.{HostedBegins, IsBefore, LinkBegins, TurnedBegins, before-begins}
use Rattle.cx_laws_run.proofs.sent.State.{HeardLaw, IsLinkAt}

always-both : {C R X : Type 0} (P Q : X → Type 0) (rule : Asks C R X) → Always P rule → Always Q rule → Always (λ (x : X). P x × Q x) rule
always-both P Q (Finished x) p q = (p, q)
always-both P Q (Asking call next) p q = λ r. always-both P Q (next r) (p r) (q r)

all-middle : {X : Type 0} (P : X → Type 0) (xs : List X) (y : X) (ys : List X) → AllByRecursion P (xs ++ y ∷ ys) → P y
all-middle P [] y ys h = h.0
all-middle P (x ∷ xs) y ys h = all-middle P xs y ys h.1

module _ (run : WholeRun) (whole : List Logged) (us vs : Uses) (told : Told) (log : List Logged) (J : List Entry) (n : NodeName) (line : ℕ) (daemon : Name)
    (i : Inv run whole us log J) (f : Grows us vs) (t : AreTold run us told log J) where
  abbrev Kept : Outcome DaemonNode → Type 0
  Kept o = Keeps run whole us vs told log J n line daemon o

  -- ---- a row of any link

  -- a link that goes on so is known, whatever is entered
  abbrev pub LinkGoes : Option (Link DaemonStage) → Type 0
  LinkGoes (Some link) = (K : List Entry) → HostKnown run vs told K daemon n link.number link.stage
  LinkGoes None = Unit {0}

  module _ (d : DaemonNode) (known : LinksKnown run us told J daemon n d.links) where
    -- the others are known as before
    pub rests-known : (K : List Entry) → IsOne vs → Within (since daemon J) (since daemon K) → (test : Link DaemonStage → Bool) → LinksKnown run vs told K daemon n (filter test d.links)
    rests-known K one w test =
        passing (λ (l : Link DaemonStage). HostKnown run us told J daemon n l.number l.stage) (λ (l : Link DaemonStage). HostKnown run vs told K daemon n l.number l.stage) test
        (λ l passes was. host-lifts run us vs told J K daemon n i.one one f w l.number l.stage was) d.links known

    links-go : (K : List Entry) → IsOne vs → Within (since daemon J) (since daemon K) → (number : ℕ) (bytes : List ℕ) (link : Option (Link DaemonStage)) → LinkGoes link
        → LinksKnown run vs told K daemon n (links_behind d.links number bytes link)
    links-go K one w number bytes None goes = rests-known K one w (λ (l : Link DaemonStage). not (l.number == number))
    links-go K one w number bytes (Some link) goes =
        all-append (λ (l : Link DaemonStage). HostKnown run vs told K daemon n l.number l.stage) (filter (λ (l : Link DaemonStage). nat_lt l.number link.number) d.links) _
        (rests-known K one w (λ (l : Link DaemonStage). nat_lt l.number link.number)) (goes K, rests-known K one w (λ (l : Link DaemonStage). nat_lt link.number l.number))

    -- the link that goes on is one of those behind the row
    goes-among : (number : ℕ) (bytes : List ℕ) (link : Option (Link DaemonStage)) → LinksHave run n vs (links_behind d.links number bytes link) → LinkHas run n vs link
    goes-among number bytes None h = tt
    goes-among number bytes (Some link) h =
        all-middle (λ (l : Link DaemonStage). DaemonStageOk run vs n l.number l.stage) (filter (λ (l : Link DaemonStage). nat_lt l.number link.number) d.links)
        (record link { sent = link.sent ++ bytes }) (filter (λ (l : Link DaemonStage). nat_lt link.number l.number) d.links) h

    pub row-known : (number : ℕ) (turned : Bool) (row : Row Daemon DaemonStage) → (AreGranted run.leaked whole n line log row.seals → IsOne vs → IsSilent vs row.seals)
        → AllByRecursion IsStill row.entries → (AreGranted run.leaked whole n line log row.seals → LinkHas run n vs row.link → LinkGoes row.link) → Kept (carried_out d number turned row)
    row-known number turned row silent unheard goes = λ g iv have.
        quiet-known run whole us vs told log J n line daemon i f t (carried_out d number turned row) iv.one (silent g iv.one) (all-map IsStill IsUnheard still-unheard row.entries unheard)
        (links-go (entered J row.entries) iv.one (still-within daemon J row.entries unheard) number row.sends row.link (goes g (goes-among number row.sends row.link have)))

    -- nothing happens
    pub idle-known : Kept (idles d)
    idle-known = λ g iv have.
        quiet-known run whole us vs told log J n line daemon i f t (idles d) iv.one (λ key name tie is. refl) tt
        (hosts-lift run us vs told J J daemon n i.one iv.one f (record { has = λ e has. has }) d.links known)

-- ---- a turn

-- of one that asks the monitor nothing is sealed under the key of a link to a daemon as by its connector, where its links stand behind the step
pub record AsksSilently (run : WholeRun) (vs : Uses) (n : NodeName) (d : DaemonNode) (reading : ℕ) (draw : List ℕ) : Type 0 where
  pub turns : (link : Link DaemonStage) (stage : connector.Stage) → IsOne vs →
      let b = arrival (me d.own) d.own link reading draw in
      let o = turns d b (turn_of_kind (with_mon_client d.own) AsConnector (connector.turned_at (arrival_in b d.own.mon_client stage) stage)) in
      LinksHave run n vs o.state.links → IsSilent vs o.out.seals
  pub asks : IsOne vs → LinksHave run n vs (fetches d reading draw).state.links → IsSilent vs (fetches d reading draw).out.seals

-- what is joined to a key behind some entries was so before, or the key is theirs
joins-cases : (key other : List ℕ) (cookie : ℕ) (es : List Entry) (joins : List (List ℕ × ℕ)) → Contains (joins_behind joins key es) (other, cookie)
    → Contains joins (other, cookie) ⊎ (key ≡ other)
joins-cases key other cookie [] joins has = inl has
joins-cases key other cookie (e ∷ es) joins has = by_rest (joins-cases key other cookie es (joins_by joins key e) has)
  where
    by_place : (a : Admitted) → Contains joins (other, cookie) ⊎ (let p : List ℕ × ℕ = (key, a.cookie) in let q : List ℕ × ℕ = (other, cookie) in p ≡ q)
        → Contains joins (other, cookie) ⊎ (key ≡ other)
    by_place a (inl was) = inl was
    by_place a (inr same) = inr (ap (λ (p : List ℕ × ℕ). p.0) same)

    by_entry : (x : Entry) → Contains (joins_by joins key x) (other, cookie) → Contains joins (other, cookie) ⊎ (key ≡ other)
    by_entry (journal.Admitted a) h = by_place a (Contains-push_cases joins (key, a.cookie) (other, cookie) h)
    by_entry (journal.Resumed x) h = inl h
    by_entry (journal.Handled x) h = inl h
    by_entry (journal.Saved x) h = inl h
    by_entry (journal.Issued x) h = inl h
    by_entry (journal.Fetched x) h = inl h
    by_entry (journal.Looked x) h = inl h
    by_entry (journal.Sent x) h = inl h
    by_entry (journal.Answered x) h = inl h
    by_entry (journal.Refused x) h = inl h
    by_entry (journal.Ended x) h = inl h
    by_entry (journal.Restarted x) h = inl h
    by_entry (journal.Broken x) h = inl h
    by_entry (journal.Leaked x) h = inl h

    by_rest : Contains (joins_by joins key e) (other, cookie) ⊎ (key ≡ other) → Contains joins (other, cookie) ⊎ (key ≡ other)
    by_rest (inl was) = by_entry e was
    by_rest (inr same) = inr same

module _ (run : WholeRun) (whole : List Logged) (us vs : Uses) (told : Told) (log : List Logged) (J : List Entry) (n : NodeName) (line : ℕ)
    (i : Inv run whole us log J) (f : Grows us vs) (t : AreTold run us told log J) (spelled : AreSpelled told) (d : DaemonNode) (known : LinksKnown run us told J d.own.mon_client.name n d.links)
    (generated : AreGenerated us d.own.mon_client.name.kind d.own.mon_client.view.generations) (reading : ℕ) (draw : List ℕ) (drawn : length draw ≡ 384) where
  abbrev Stays : Outcome DaemonNode → Type 0
  Stays o = Keeps run whole us vs told log J n line d.own.mon_client.name o

  abbrev at_link : Link DaemonStage → Arrival Daemon DaemonStage
  at_link link = arrival (me d.own) d.own link reading draw

  abbrev incoming_at : Link DaemonStage → IncomingStage → IncomingArrival
  incoming_at link stage = arrival_in (at_link link) d.own.mon_client stage

  -- ---- before authentication

  goes-as : (link : Option (Link IncomingStage)) → LinkBegins run whole vs told log n line d.own.mon_client.name link
      → LinkGoes run whole us vs told log J n line d.own.mon_client.name i f t (option_map (of_kind AsAcceptor) link)
  goes-as None h = tt
  goes-as (Some link) h = h

  had-as : (link : Option (Link IncomingStage)) → LinkHas run n vs (option_map (of_kind AsAcceptor) link) → LinkKeys vs n link
  had-as None h = tt
  had-as (Some link) h = h.0

  hosted-begins : (link : Link DaemonStage) (hosted : Hosted) → HostedBegins run whole vs told log n line d.own.mon_client.name hosted → Stays (hosts d (at_link link) hosted)
  hosted-begins link hosted h =
      subst (λ (moved : Option ℕ). Stays (moved_to link.number moved (turns d (at_link link) (turn_of_kind (with_mon_client d.own) AsAcceptor hosted.turned)))) (sym h.0) (by_turned hosted.turned h.1)
    where
      by_turned : (turned : Turned MonClient IncomingStage) → TurnedBegins run whole vs told log n line d.own.mon_client.name turned
          → Stays (turns d (arrival (me d.own) d.own link reading draw) (turn_of_kind (with_mon_client d.own) AsAcceptor turned))
      by_turned Waits h = idle-known run whole us vs told log J n line d.own.mon_client.name i f t d known
      by_turned (Refuses why opened) h =
          row-known run whole us vs told log J n line d.own.mon_client.name i f t d known link.number false (refuses_bytes (arrival (me d.own) d.own link reading draw) why opened)
          (λ g one. subst (λ (es : List SealEntry). IsSilent vs es) (sym h) (λ key name tie is. refl)) (tt, tt) (λ g has. tt)
      by_turned (Handles row) h =
          row-known run whole us vs told log J n line d.own.mon_client.name i f t d known link.number true (row_of_kind (with_mon_client d.own) AsAcceptor row) h.seals h.entries
          (λ g has. goes-as row.link (h.link g (had-as row.link has)))

  before-known : (handlers : Handlers) (link : Link DaemonStage) (stage : IncomingStage) → IsBefore run whole vs told log n line d.own.mon_client.name stage
      → Always Stays (turned_at handlers d (at_link link) (AsAcceptor stage))
  before-known handlers link stage is =
      let rule : Deciding Hosted = incoming_turned handlers (incoming_at link stage) stage in
      always-map Stays (hosts d (at_link link)) rule
      (always-weaker (HostedBegins run whole vs told log n line d.own.mon_client.name) (λ (h : Hosted). Stays (hosts d (at_link link) h)) (hosted-begins link) rule
      (before-begins run whole vs told log n line d.own.mon_client.name us J i f t (incoming_at link stage) generated drawn refl handlers stage is))

  -- ---- behind authentication

  -- what is known behind it by the keys that were known before
  record TurnKnown (o : Outcome DaemonNode) : Type 0 where
    joins : List (List ℕ × ℕ)
    own : (key : List ℕ) (cookie : ℕ) → Contains joins (key, cookie) → Contains told.joins (key, cookie) ⊎ IsLinkAt us key n
    known_of : AreTold run us (record told { joins = joins }) (behind n line o.out.seals log) (entered J o.out.entries)
    links : LinksKnown run us (record told { joins = joins }) (entered J o.out.entries) d.own.mon_client.name n o.state.links
    quiet : IsOfNoConnector o.out.seals
    says : AllByRecursion (HeardLaw run J) o.out.entries

  abbrev Turns : Outcome DaemonNode → Type 0
  Turns o = AreGranted run.leaked whole n line log o.out.seals → TurnKnown o

  -- older links of a session are shut
  moved-turns : (number : ℕ) (moved : Option ℕ) (o : Outcome DaemonNode) → Turns o → Turns (moved_to number moved o)
  moved-turns number None o k = k
  moved-turns number (Some session) o k = λ granted. let b : TurnKnown o = k granted in
      record {
        joins = b.joins;
        own = b.own;
        known_of = b.known_of;
        links = passing (λ (l : Link DaemonStage). HostKnown run us (record told { joins = b.joins }) (entered J o.out.entries) d.own.mon_client.name n l.number l.stage)
            (λ (l : Link DaemonStage). HostKnown run us (record told { joins = b.joins }) (entered J o.out.entries) d.own.mon_client.name n l.number l.stage)
            (λ (l : Link DaemonStage). not (is_older number session l)) (λ l test was. was) o.state.links b.links;
        quiet = b.quiet;
        says = b.says;
      }

  module _ (link : Link DaemonStage) (stage : IncomingStage) (s : Secured) (name : Name) (g : IsIncoming run us told n link.number s name)
      (unjoined : (a : Admitted) → IsOwnedIn d.own.mon_client stage a → (cookie : ℕ) → Contains told.joins (s.keys.key, cookie) → ⊥) where
    abbrev incoming : IncomingArrival
    incoming = incoming_at link stage

    abbrev GrantedRow : IncomingRow → Type 0
    GrantedRow row = AreGranted run.leaked whole n line log row.seals

    is-link : IsLinkKey us s.keys.key name g.tie
    is-link = record { acceptor = n; number = link.number; service = g.service; means = g.means }

    numbered : (found : Option (Link IncomingStage)) → Takes incoming.link found → (l : Link IncomingStage) → found ≡ Some l → l.number ≡ link.number
    numbered None takes l is = absurd cc
    numbered (Some x) takes l is = let same : x ≡ l = cc in ap (λ (y : Link IncomingStage). y.number) (sym same) ∙ takes.0

    owned-in : (es : List Entry) (ss : List SealEntry) (e : Entry) → EntryToldIn d.own.mon_client (me d.own) link.number reading stage es ss e → (a : Admitted) → e ≡ journal.Admitted a
        → IsOwnedIn d.own.mon_client stage a
    owned-in es ss e h a is = subst (λ (x : Entry). EntryToldIn d.own.mon_client (me d.own) link.number reading stage es ss x) is h

    entries-say : (es : List Entry) (ss : List SealEntry) (xs : List Entry) → AllByRecursion (EntryToldIn d.own.mon_client (me d.own) link.number reading stage es ss) xs
        → AllByRecursion (EntryHeard run told.said J s.keys.key name) xs → AllByRecursion (HeardLaw run J) xs
    entries-say es ss [] owned heard = tt
    entries-say es ss (x ∷ xs) owned heard = (
      heard-law run us told log J i.one t s.keys.key name x (λ a is. unjoined a (owned-in es ss x owned.0 a is)) heard.0,
      entries-say es ss xs owned.1 heard.1,
    )

    own-joins : (es : List Entry) (key : List ℕ) (cookie : ℕ) → Contains (joins_behind told.joins s.keys.key es) (key, cookie) → Contains told.joins (key, cookie) ⊎ IsLinkAt us key n
    own-joins es key cookie has = by_place (joins-cases s.keys.key key cookie es told.joins has)
      where
        at_own : IsLinkAt us s.keys.key n
        at_own = record { number = link.number; whose = name; tie = AtDaemon g.service g.tie; means = g.means }

        by_place : Contains told.joins (key, cookie) ⊎ (s.keys.key ≡ key) → Contains told.joins (key, cookie) ⊎ IsLinkAt us key n
        by_place (inl was) = inl was
        by_place (inr same) = inr (subst (λ (k : List ℕ). IsLinkAt us k n) same at_own)

    row-turns : (turned : Bool) (row : IncomingRow) → HearsRow run us told J n d.own.mon_client.name s.keys.key name (GrantedRow row) row → ((l : Link IncomingStage) → row.link ≡ Some l → l.number ≡ link.number)
        → (GrantedRow row → AllByRecursion (HeardLaw run J) row.entries) → Turns (carried_out d link.number turned (row_of_kind (with_mon_client d.own) AsAcceptor row))
    row-turns turned row h same says = λ granted. record {
      joins = joins_behind told.joins s.keys.key row.entries;
      own = own-joins row.entries;
      known_of = row-told run whole us told log J n line d.own.mon_client.name s.keys.key name g.tie (GrantedRow row) row i is-link t h granted;
      links = links-known run us told J n d.own.mon_client.name name link.number s i.one g row (GrantedRow row) h granted same d.links known;
      quiet = h.seals;
      says = says granted;
    }

    hosted-turns : (hosted : Hosted) → HearsHosted run whole us told log J n line i t spelled incoming s.keys.key name hosted → TakesHosted incoming hosted
        → AuthorizedHosted d.own.mon_client (me d.own) link.number reading stage hosted → Turns (hosts d (at_link link) hosted)
    hosted-turns hosted hears takes owned =
        moved-turns link.number hosted.moved (turns d (at_link link) (turn_of_kind (with_mon_client d.own) AsAcceptor hosted.turned)) (by_turned hosted.turned hears takes.takes owned)
      where
        by_turned : (turned : Turned MonClient IncomingStage)
            → HearsTurned run us told J n d.own.mon_client.name s.keys.key name (AreGranted run.leaked whole n line log (turned_seals turned)) turned → TurnTakes incoming.link turned
            → RowOf (AuthorizedRow d.own.mon_client (me d.own) link.number reading stage) turned
            → Turns (turns d (arrival (me d.own) d.own link reading draw) (turn_of_kind (with_mon_client d.own) AsAcceptor turned))
        by_turned Waits h takes owned = λ granted. record { joins = told.joins; own = λ key cookie has. inl has; known_of = t; links = known; quiet = λ k. refl; says = tt }
        by_turned (Refuses why opened) h takes owned =
            row-turns false (refuses_bytes incoming why opened) (record { link = λ given. tt; entries = λ given. (tt, tt); serves = tt; seals = h }) (λ l is. absurd cc) (λ g. (tt, tt))
        by_turned (Handles row) h takes owned = row-turns true row h (numbered row.link takes) (λ g. entries-say row.entries row.seals row.entries owned.entries (h.entries g))

    rule-turns : (handlers : Handlers) → Always (HearsHosted run whole us told log J n line i t spelled incoming s.keys.key name) (incoming_turned handlers incoming stage)
        → Always Turns (turned_at handlers d (at_link link) (AsAcceptor stage))
    rule-turns handlers hears =
        let rule : Deciding Hosted = incoming_turned handlers incoming stage in
        let Hears : Hosted → Type 0 = HearsHosted run whole us told log J n line i t spelled incoming s.keys.key name in
        let Owned : Hosted → Type 0 = AuthorizedHosted d.own.mon_client (me d.own) link.number reading stage in
        always-map Turns (hosts d (at_link link)) rule
        (always-weaker (λ (h : Hosted). Hears h × (TakesHosted incoming h × Owned h)) (λ (h : Hosted). Turns (hosts d (at_link link) h)) (λ h all. hosted-turns h all.0 all.1.0 all.1.1) rule
        (always-both Hears (λ (h : Hosted). TakesHosted incoming h × Owned h) rule hears
        (always-both (TakesHosted incoming) Owned rule (incoming-takes handlers incoming stage) (incoming-authorized handlers incoming stage))))

  open-not : (s : Secured) (served : Served) (r : Secured) (owner : Authority) → (let x : IncomingStage = Open s served in let y : IncomingStage = AwaitsIdent r owner in x ≡ y) → ⊥
  open-not s served r owner e = absurd cc

  -- what is known of keys as they were before the step is so of those that are known behind it
  stays-known : (o : Outcome DaemonNode) → Turns o → Stays o
  stays-known o turns = λ g iv have.
      let b : TurnKnown o = turns g in
      let silent : IsSilent vs o.out.seals = λ key name tie is. b.quiet key in
      record {
        joins = b.joins;
        own = λ key cookie has. by_place key (b.own key cookie has);
        known_of = told-lifts run whole us vs told b.joins log J (entered J o.out.entries) n line o.out.seals iv.one f i silent t b.known_of;
        links = hosts-lift run us vs (record told { joins = b.joins }) (entered J o.out.entries) (entered J o.out.entries) d.own.mon_client.name n i.one iv.one f (record { has = λ e has. has }) o.state.links b.links;
        quiet = silent;
        says = b.says;
      }
    where
      by_place : {X : Type 0} (key : List ℕ) → X ⊎ IsLinkAt us key n → X ⊎ IsLinkAt vs key n
      by_place key (inl was) = inl was
      by_place key (inr at_own) = inr (record { number = at_own.number; whose = at_own.whose; tie = at_own.tie; means = f.means key (Connected n at_own.number at_own.whose at_own.tie) at_own.means })

  -- so it is behind authentication
  behind-known : (handlers : Handlers) (link : Link DaemonStage) (stage : IncomingStage) → HostKnown run us told J d.own.mon_client.name n link.number (AsAcceptor stage) → StageKeys us n link.number stage
      → (IsBefore run whole vs told log n line d.own.mon_client.name stage → ⊥) → Always Turns (turned_at handlers d (at_link link) (AsAcceptor stage))
  behind-known handlers link (AwaitsSignature s owner) h keys not_before =
      let stage : IncomingStage = AwaitsSignature s owner in
      rule-turns link stage s owner.ticket.name h.0.0 (λ a owned. h.0.2) handlers (incoming-hears run whole us told log J n line i t spelled (incoming_at link stage) handlers stage h.0 tt keys.out)
  behind-known handlers link (AwaitsIdent s owner) h keys not_before =
      let stage : IncomingStage = AwaitsIdent s owner in
      rule-turns link stage s owner.ticket.name h.0.0 (λ a owned. h.0.2) handlers (incoming-hears run whole us told log J n line i t spelled (incoming_at link stage) handlers stage h.0 tt keys.out)
  behind-known handlers link (Open s served) h keys not_before =
      let stage : IncomingStage = Open s served in
      rule-turns link stage s h.0.0 h.0.1 (λ a owned. absurd (open-not s served owned.secured owned.authority owned.stage_is)) handlers
      (incoming-hears run whole us told log J n line i t spelled (incoming_at link stage) handlers stage h.0 h.1 keys.1.out)
  behind-known handlers link AwaitsBanner h keys not_before = absurd (not_before tt)
  behind-known handlers link AwaitsHello h keys not_before = absurd (not_before tt)
  behind-known handlers link AwaitsRequest h keys not_before = absurd (not_before tt)
  behind-known handlers link (AwaitsProof awaited) h keys not_before = absurd (not_before tt)

  behind-stays : (handlers : Handlers) (link : Link DaemonStage) (stage : IncomingStage) → HostKnown run us told J d.own.mon_client.name n link.number (AsAcceptor stage) → StageKeys us n link.number stage
      → (IsBefore run whole vs told log n line d.own.mon_client.name stage → ⊥) → Always Stays (turned_at handlers d (at_link link) (AsAcceptor stage))
  behind-stays handlers link stage h keys not_before =
      always-weaker Turns Stays stays-known (turned_at handlers d (at_link link) (AsAcceptor stage)) (behind-known handlers link stage h keys not_before)

  -- ---- of any client

  incoming-known : (handlers : Handlers) (link : Link DaemonStage) (stage : IncomingStage) → HostKnown run us told J d.own.mon_client.name n link.number (AsAcceptor stage) → StageKeys us n link.number stage
      → Always Stays (turned_at handlers d (at_link link) (AsAcceptor stage))
  incoming-known handlers link (AwaitsSignature s owner) h keys = behind-stays handlers link (AwaitsSignature s owner) h keys (λ is. is)
  incoming-known handlers link (AwaitsIdent s owner) h keys = behind-stays handlers link (AwaitsIdent s owner) h keys (λ is. is)
  incoming-known handlers link (Open s served) h keys = behind-stays handlers link (Open s served) h keys (λ is. is)
  incoming-known handlers link AwaitsBanner h keys = before-known handlers link AwaitsBanner tt
  incoming-known handlers link AwaitsHello h keys = before-known handlers link AwaitsHello tt
  incoming-known handlers link AwaitsRequest h keys = before-known handlers link AwaitsRequest tt
  incoming-known handlers link (AwaitsProof awaited) h keys = before-known handlers link (AwaitsProof awaited) tt

  -- ---- its own link

  none-still : (e : Entry) → IsQuiet e → IsStill e
  none-still (journal.Refused x) h = tt
  none-still (journal.Fetched x) h = tt
  none-still (journal.Saved x) h = tt
  none-still (journal.Issued x) h = tt
  none-still (journal.Looked x) h = tt
  none-still (journal.Broken x) h = tt
  none-still (journal.Leaked x) h = tt
  none-still (journal.Restarted x) h = absurd h
  none-still (journal.Admitted x) h = absurd h
  none-still (journal.Handled x) h = absurd h
  none-still (journal.Resumed x) h = absurd h
  none-still (journal.Sent x) h = absurd h
  none-still (journal.Answered x) h = absurd h
  none-still (journal.Ended x) h = absurd h

  own-goes : (link : Option (Link connector.Stage)) → LinkGoes run whole us vs told log J n line d.own.mon_client.name i f t (option_map (of_kind AsConnector) link)
  own-goes None = tt
  own-goes (Some link) = λ K. tt

  own-known : (link : Link DaemonStage) (turned : Turned MonClient connector.Stage)
      → (IsOne vs → LinksHave run n vs (turns d (at_link link) (turn_of_kind (with_mon_client d.own) AsConnector turned)).state.links
      → IsSilent vs (turns d (at_link link) (turn_of_kind (with_mon_client d.own) AsConnector turned)).out.seals)
      → EachRow EntersNone turned → Stays (turns d (at_link link) (turn_of_kind (with_mon_client d.own) AsConnector turned))
  own-known link Waits silent h = idle-known run whole us vs told log J n line d.own.mon_client.name i f t d known
  own-known link (Refuses why opened) silent h = λ g iv have.
      row-known run whole us vs told log J n line d.own.mon_client.name i f t d known link.number false (refuses_bytes (at_link link) why opened) (λ granted one. silent one have) (tt, tt) (λ granted has. tt)
      g iv have
  own-known link (Handles row) silent h = λ g iv have.
      row-known run whole us vs told log J n line d.own.mon_client.name i f t d known link.number true (row_of_kind (with_mon_client d.own) AsConnector row) (λ granted one. silent one have)
      (all-map IsQuiet IsStill none-still row.entries h) (λ granted has. own-goes row.link) g iv have

  -- ---- any link

  found-known : (links : List (Link DaemonStage)) (number : ℕ) → LinksKnown run us told J d.own.mon_client.name n links → (link : Link DaemonStage) → link_of number links ≡ Some link
      → HostKnown run us told J d.own.mon_client.name n link.number link.stage
  found-known links number h link is =
      found_all (λ (l : Link DaemonStage). HostKnown run us told J d.own.mon_client.name n l.number l.stage) (λ (l : Link DaemonStage). l.number == number) links link h is

  pub turn-stays : (handlers : Handlers) → AsksSilently run vs n d reading draw → LinksHave run n us d.links → (number : ℕ) (found : Option (Link DaemonStage)) → link_of number d.links ≡ found
      → Always Stays (turn handlers d reading draw found)
  turn-stays handlers asks had number None is = idle-known run whole us vs told log J n line d.own.mon_client.name i f t d known
  turn-stays handlers asks had number (Some link) is =
      by_stage link.stage (found-known d.links number known link is)
      (found_all (λ (l : Link DaemonStage). DaemonStageOk run us n l.number l.stage) (λ (l : Link DaemonStage). l.number == number) d.links link had is)
    where
      by_stage : (stage : DaemonStage) → HostKnown run us told J d.own.mon_client.name n link.number stage → DaemonStageOk run us n link.number stage
          → Always Stays (turned_at handlers d (arrival (me d.own) d.own link reading draw) stage)
      by_stage (AsAcceptor stage) h ok = incoming-known handlers link stage h ok.0
      by_stage (AsConnector stage) h ok =
          own-known link (connector.turned_at (arrival_in (arrival (me d.own) d.own link reading draw) d.own.mon_client stage) stage) (asks.turns link stage)
          (mon_client-enters (arrival_in (arrival (me d.own) d.own link reading draw) d.own.mon_client stage) stage)
