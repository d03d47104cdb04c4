-- A step of a daemon at any event, with any book: all that is known of what was given stays known behind it, with what it gives.
use Rattle.std.proofs.Common.{◌≡◌, ℕ, ◌==◌, Bool, true, false, List, [], ◌∷◌, ◌++◌, filter, nat_lt, length, Option, Some, None, Result, Ok, Err, refl, sym, ap, subst}
use Rattle.std.specs.Prelude.{not, if◌then◌else◌}
use Rattle.std.specs.List.{AllByRecursion}
use Rattle.std.specs.Option.{option_map}
use Rattle.cx_base.specs.Names.{Name}
use Rattle.cx_base.specs.declared.nodes.NodeName.{NodeName}
use Rattle.cx_base.specs.declared.nodes.NodeName.TheVariants as node
use Rattle.cx_desk.specs.Handlers.{Handlers}
use Rattle.cx_journal.specs.Behind.{EachBehind}
use Rattle.cx_journal.specs.declared.entries.Entry.{Entry}
use Rattle.cx_journal.specs.declared.outcomes.Reason.{Reason}
use Rattle.cx_laws_run.specs.cx_laws_tickets.proofs.authorize.DaemonRows.{DaemonStageOk, LinksHave}
use Rattle.cx_laws_run.specs.cx_laws_tickets.proofs.authorize.Keys.{LinkKeys}
use Rattle.cx_laws_run.specs.cx_laws_keys.proofs.keys.Journal.{entered}
use Rattle.cx_laws_run.specs.cx_laws_keys.proofs.keys.Known.{Inv}
use Rattle.cx_laws_run.specs.cx_laws_keys.proofs.keys.Lists.{found_all}
use Rattle.cx_laws_run.specs.cx_laws_keys.proofs.keys.Premises.{AreGranted, behind}
use Rattle.cx_laws_run.specs.cx_laws_keys.proofs.keys.Uses.{AreGenerated, AtDaemon, Connected, Grows, Uses, WholeRun}
use Rattle.cx_laws_run.specs.cx_laws_keys.proofs.series.Contents.{contents_by}
use Rattle.cx_laws_run.specs.cx_rules.specs.Acceptor.{AwaitsBanner, AwaitsHello, AwaitsRequest, AwaitsProof, AwaitsSignature, AwaitsIdent, Open}
use Rattle.cx_laws_run.specs.cx_rules.specs.Connector as connector
use Rattle.cx_laws_run.specs.cx_rules.specs.Holdings.{MonClient}
use Rattle.cx_laws_run.specs.cx_rules.specs.Inputs.{Input}
use Rattle.cx_laws_run.specs.cx_rules.specs.Links.{Link, link_of}
use Rattle.cx_laws_run.specs.cx_rules.specs.Requests.{Requests, asks_rotating, first_open, sealed_request, sends_request}
use Rattle.cx_laws_run.specs.cx_rules.specs.Rows.{Arrival, Outcome, Row, Turned, Waits, Refuses, Handles, arrival, carried_out, idles, lifted, links_behind, refuses_bytes, turns}
use Rattle.cx_laws_run.specs.cx_rules.specs.Secured.{SealedFrame, Secured}
use Rattle.cx_laws_run.specs.cx_rules.specs.declared.requests.Want.TheVariants as want
use Rattle.cx_laws_run.specs.cx_rules_session.specs.DaemonRule.{AsAcceptor, AsConnector, Daemon, DaemonNode, DaemonStage, asking_open, daemon_rule, fetches, fetches_on, hosts, is_fetching, is_older, me, moved_to, open_to_ask, turn, turned_at, with_mon_client}
use Rattle.cx_laws_run.specs.cx_rules_session.specs.IncomingLinks.{IncomingArrival, IncomingRow, IncomingStage, Served}
use Rattle.cx_laws_run.specs.cx_rules_session.specs.Hosting.{Deciding, Hosted, incoming_turned}
use Rattle.cx_laws_run.specs.cx_rules_session.specs.Kinds.{arrival_in, of_kind, row_of_kind, turn_of_kind}
use Rattle.cx_laws_run.specs.cx_run.proofs.Always.{Always, always-map, always-weaker}
use Rattle.cx_steps.specs.declared.seals.Logged.{Logged}
use Rattle.cx_steps.specs.declared.seals.SealEntry.{SealEntry}
use Rattle.cx_laws_run.specs.cx_wire.specs.declared.bodies.Request.TheVariants as asked
use Rattle.cx_laws_run.specs.cx_laws_links.proofs.links.CallTells.{quiet-none}
use Rattle.cx_laws_run.specs.cx_laws_links.proofs.links.IncomingNodes.{HostKnown, LinksKnown}
use Rattle.cx_laws_run.specs.cx_laws_links.proofs.links.IncomingTakes.{OpenedFor}
use Rattle.cx_laws_run.specs.cx_laws_links.proofs.links.IncomingWords.{AreSpelled}
use Rattle.cx_laws_run.specs.cx_laws_links.proofs.links.Known.{AreTold, IsIncoming, Told}
use Rattle.cx_laws_run.specs.cx_laws_links.proofs.links.Others.{link-one}
use Rattle.cx_laws_run.specs.cx_laws_links.proofs.links.Written.{IsLinkKey}
use Rattle.cx_laws_run.specs.cx_laws_links.proofs.answers.AllGiven.{AllGiven}
use Rattle.cx_laws_run.specs.cx_laws_links.proofs.answers.Given.{Given, is_acceptors}
use Rattle.cx_laws_run.specs.cx_laws_links.proofs.answers.IncomingGives.{IdentGives, OpenGives, SignedGives}
use Rattle.cx_laws_run.specs.cx_laws_links.proofs.answers.IncomingKnown.{IncomingStep, ident-step, open-step, signature-step}
use Rattle.cx_laws_run.specs.cx_laws_links.proofs.answers.IncomingTurn.{EachGives, Said, TurnGives, incoming-gives}
use Rattle.cx_laws_run.specs.cx_laws_links.proofs.answers.Known.{continues}
use Rattle.cx_laws_run.specs.cx_laws_links.proofs.answers.Replied.{IncomingGiven, IsGiver}
use Rattle.cx_laws_run.proofs.sent.MonClientSteps.{fetches-none, own_turn-none}
use Rattle.cx_laws_run.proofs.sent.DaemonAsks.{own-stand}
use Rattle.cx_laws_run.proofs.sent.DaemonKnown.{IsOne}
use Rattle.cx_laws_run.proofs.sent.IncomingLinksBefore.{Authorizes, HostedBegins, IsBefore, IsKeyless, RowFirst, SaysNothing, TurnedBegins, before-begins}
use Rattle.cx_laws_run.proofs.truth.DaemonGives.{StepGiven, quiet-given, step-given}
use Rattle.cx_laws_run.proofs.truth.DaemonWalk.{AreFrom, IsBlank, IsRest, all-some, behind-all, fed-same, from-behind, from-same, walk}
use Rattle.cx_laws_run.proofs.truth.FirstGiven.{GivenBy, first-by}
use Rattle.cx_laws_run.proofs.truth.OnceHandled.{HandledOnce}
use Rattle.cx_laws_run.proofs.truth.State.{GivesNothing, HostGiven, LinksGiven}

all-middle : {X : Type 0} (P : X → Type 0) (xs : List X) (y : X) (ys : List X) → AllByRecursion P (xs ++ y ∷ ys) → P y
all-middle P [] y ys h = h.0
all-middle P (x ∷ xs) y ys h = all-middle P xs y ys h.1

module _ (run : WholeRun) (whole : List Logged) (us vs : Uses) (told : Told) (given : List (List ℕ × Given)) (log : List Logged) (J : List Entry) (line : ℕ) (i : Inv run whole us log J) (f : Grows us vs)
    (t : AreTold run us told log J) (spelled : AreSpelled told) (h : AllGiven run us told given log J) (d : DaemonNode) (known : LinksKnown run us told J d.own.mon_client.name (node.Entity d.own.mon_client.name) d.links)
    (gives : LinksGiven run us told given log d.own.mon_client.name (node.Entity d.own.mon_client.name) d.links) (generated : AreGenerated us d.own.mon_client.name.kind d.own.mon_client.view.generations) (reading : ℕ) (draw : List ℕ)
    (drawn : length draw ≡ 384) where
  abbrev daemon : Name
  daemon = d.own.mon_client.name

  abbrev n : NodeName
  n = node.Entity d.own.mon_client.name

  abbrev Gives : Outcome DaemonNode → Type 0
  Gives o = StepGiven run whole us vs told given log J line i f h d.own.mon_client.name o

  -- so it is where what it logs is granted, what is known of keys behind it is known, also of those of its links, and each operation that it handles wasn't before
  abbrev pub Keeps : Outcome DaemonNode → Type 0
  Keeps o = AreGranted run.leaked whole (node.Entity d.own.mon_client.name) line log o.out.seals → Inv run whole vs (behind (node.Entity d.own.mon_client.name) line o.out.seals log) (entered J o.out.entries)
      → LinksHave run (node.Entity d.own.mon_client.name) vs o.state.links → EachBehind (HandledOnce run) J o.out.entries → Gives o

  quiet-keeps : (o : Outcome DaemonNode) → (AreGranted run.leaked whole n line log o.out.seals → IsOne vs → LinksHave run n vs o.state.links → GivesNothing vs o.out.seals) → AreFrom d.links o.state.links → Keeps o
  quiet-keeps o quiet from = λ g iv have once. quiet-given run whole us vs told given log J line i f h d.own.mon_client.name d gives o iv.one (quiet g iv.one have) from

  nothing-said : (es : List SealEntry) → es ≡ [] → GivesNothing vs es
  nothing-said es none key name tie is = ap (λ (l : List SealEntry). contents_by key is_acceptors l) none

  rests : (o : Outcome DaemonNode) → IsRest d o → Keeps o
  rests o r = quiet-keeps o (λ g one have. nothing-said o.out.seals r.seals) r.links

  idle : Keeps (idles d)
  idle = rests (idles d) (record { seals = refl; links = from-same d.links; fed = fed-same d.links })

  abbrev at_link : Link DaemonStage → Arrival Daemon DaemonStage
  at_link link = arrival (me d.own) d.own link reading draw

  abbrev incoming_at : Link DaemonStage → IncomingStage → IncomingArrival
  incoming_at link stage = arrival_in (at_link link) d.own.mon_client stage

  -- ---- its own link to the monitor

  own-blank : (found : Option (Link connector.Stage)) (l : Link DaemonStage) → option_map (of_kind AsConnector) found ≡ Some l → IsBlank l.stage
  own-blank None l e = absurd cc
  own-blank (Some link) l e = let same : of_kind AsConnector link ≡ l = cc in subst (λ (x : Link DaemonStage). IsBlank x.stage) same tt

  own-keeps : (link : Link DaemonStage) (stage : connector.Stage) (turned : Turned MonClient connector.Stage)
      → (IsOne vs → LinksHave run n vs (turns d (at_link link) (turn_of_kind (with_mon_client d.own) AsConnector turned)).state.links
      → GivesNothing vs (turns d (at_link link) (turn_of_kind (with_mon_client d.own) AsConnector turned)).out.seals)
      → Keeps (turns d (at_link link) (turn_of_kind (with_mon_client d.own) AsConnector turned))
  own-keeps link stage Waits quiet = idle
  own-keeps link stage (Refuses why opened) quiet =
      quiet-keeps (carried_out d link.number false (refuses_bytes (at_link link) why opened)) (λ g one have. quiet one have) (from-behind d.links link.number [] None (λ l e. absurd cc))
  own-keeps link stage (Handles row) quiet =
      quiet-keeps (carried_out d link.number true (row_of_kind (with_mon_client d.own) AsConnector row)) (λ g one have. quiet one have)
      (from-behind d.links link.number row.sends (option_map (of_kind AsConnector) row.link) (own-blank row.link))

  asks-keeps : Keeps (fetches d reading draw)
  asks-keeps = by_test (is_fetching d) (λ one have key name tie is. fetches-none vs n one key name tie is is_acceptors d reading draw (own-stand run vs n _ have))
    where
      sent-blank : (a : Arrival MonClient DaemonStage) (s : Secured) (requests : Requests) (r : Result SealedFrame Reason) (l : Link DaemonStage)
          → (sends_request open_to_ask a s requests (want.Rotating reading) r).link ≡ Some l → IsBlank l.stage
      sent-blank a s requests (Ok sealed) l e =
          subst (λ (x : Link DaemonStage). IsBlank x.stage) (some-link _ l e) tt
        where
          some-link : (x y : Link DaemonStage) → (let o : Option (Link DaemonStage) = Some x in let q : Option (Link DaemonStage) = Some y in o ≡ q) → x ≡ y
          some-link x y e = cc
      sent-blank a s requests (Err why) l e = absurd cc

      by_open : (found : Option (Link DaemonStage × (Secured × Requests))) → (IsOne vs → LinksHave run n vs (fetches_on d reading draw found).state.links → GivesNothing vs (fetches_on d reading draw found).out.seals)
          → Keeps (fetches_on d reading draw found)
      by_open None quiet = rests (fetches_on d reading draw None) (record { seals = refl; links = from-same d.links; fed = fed-same d.links })
      by_open (Some (link, (s, requests))) quiet =
          let a : Arrival MonClient DaemonStage = arrival (me d.own) d.own.mon_client link reading draw in
          let row : Row MonClient DaemonStage = asks_rotating open_to_ask a s requests in
          quiet-keeps (carried_out d link.number false (lifted (with_mon_client d.own) row)) (λ g one have. quiet one have)
          (from-behind d.links link.number row.sends row.link (sent-blank a s requests (sealed_request s.keys requests asked.Rotating)))

      by_test : (under_way : Bool) → (IsOne vs → LinksHave run n vs (if under_way then idles d else fetches_on d reading draw (first_open asking_open d.links)).state.links
          → GivesNothing vs (if under_way then idles d else fetches_on d reading draw (first_open asking_open d.links)).out.seals)
          → Keeps (if under_way then idles d else fetches_on d reading draw (first_open asking_open d.links))
      by_test true quiet = idle
      by_test false quiet = by_open (first_open asking_open d.links) quiet

  -- ---- an incoming link

  moved-keeps : (number : ℕ) (moved : Option ℕ) (o : Outcome DaemonNode) → Gives o → Gives (moved_to number moved o)
  moved-keeps number None o k = k
  moved-keeps number (Some session) o k = record {
    more = k.more;
    own = k.own;
    known = k.known;
    links = all-some (λ (l : Link DaemonStage). HostGiven run vs told (given ++ k.more) (behind n line o.out.seals log) n daemon l.number l.stage)
        (λ (l : Link DaemonStage). not (is_older number session l)) o.state.links k.links;
    elsewhere = k.elsewhere;
  }

  -- what is known behind a row
  by-row : (link : Link DaemonStage) (turned : Bool) (row : IncomingRow) → GivenBy run whole us vs told given log J (entered J row.entries) line i f h daemon (continues J row.entries) row.seals row.link
      → Gives (carried_out d link.number turned (row_of_kind (with_mon_client d.own) AsAcceptor row))
  by-row link turned row b =
      let later : List Logged = behind n line row.seals log in
      record {
        more = b.more;
        own = b.own;
        known = b.known;
        links = behind-all (λ (number : ℕ) (stage : DaemonStage). HostGiven run vs told (given ++ b.more) later n daemon number stage) d.links link.number row.sends (option_map (of_kind AsAcceptor) row.link)
            (all-lifted (λ (l : Link DaemonStage). HostGiven run us told given log n daemon l.number l.stage) (λ (l : Link DaemonStage). HostGiven run vs told (given ++ b.more) later n daemon l.number l.stage)
            (λ l was. b.others l.number l.stage was) d.links gives) (goes row.link b.link);
        elsewhere = b.elsewhere;
      }
    where
      all-lifted : {X : Type 0} (P Q : X → Type 0) → ((x : X) → P x → Q x) → (xs : List X) → AllByRecursion P xs → AllByRecursion Q xs
      all-lifted P Q lift [] h = tt
      all-lifted P Q lift (x ∷ xs) h = (lift x h.0, all-lifted P Q lift xs h.1)

      goes : (found : Option (Link IncomingStage)) → ((l : Link IncomingStage) → found ≡ Some l → IncomingGiven run vs told (given ++ b.more) (behind n line row.seals log) n daemon l.number l.stage)
          → (l : Link DaemonStage) → option_map (of_kind AsAcceptor) found ≡ Some l → HostGiven run vs told (given ++ b.more) (behind n line row.seals log) n daemon l.number l.stage
      goes None each l e = absurd cc
      goes (Some found) each l e =
          let same : of_kind AsAcceptor found ≡ l = cc in
          subst (λ (x : Link DaemonStage). HostGiven run vs told (given ++ b.more) (behind n line row.seals log) n daemon x.number x.stage) same (each found refl)

  -- the link that goes on has good keys
  had-keys : (link : Link DaemonStage) (bytes : List ℕ) (found : Option (Link IncomingStage)) → LinksHave run n vs (links_behind d.links link.number bytes (option_map (of_kind AsAcceptor) found)) → LinkKeys vs n found
  had-keys link bytes None have = tt
  had-keys link bytes (Some found) have =
      (all-middle (λ (l : Link DaemonStage). DaemonStageOk run vs n l.number l.stage) (filter (λ (l : Link DaemonStage). nat_lt l.number found.number) d.links) (record (of_kind AsAcceptor found) { sent = found.sent ++ bytes })
      (filter (λ (l : Link DaemonStage). nat_lt found.number l.number) d.links) have).0

  -- ---- before authentication

  keyless-blank : (found : Option (Link IncomingStage)) → IsKeyless run whole vs told log n line daemon found → (l : Link DaemonStage) → option_map (of_kind AsAcceptor) found ≡ Some l → IsBlank l.stage
  keyless-blank None keyless l e = absurd cc
  keyless-blank (Some found) keyless l e =
      let same : of_kind AsAcceptor found ≡ l = cc in subst (λ (x : Link DaemonStage). IsBlank x.stage) same (by_stage found.stage keyless)
    where
      by_stage : (stage : IncomingStage) → IsBefore run whole vs told log n line daemon stage → IsBlank (AsAcceptor stage)
      by_stage AwaitsBanner is = tt
      by_stage AwaitsHello is = tt
      by_stage AwaitsRequest is = tt
      by_stage (AwaitsProof awaited) is = tt
      by_stage (AwaitsSignature s owner) is = absurd is
      by_stage (AwaitsIdent s owner) is = absurd is
      by_stage (Open s served) is = absurd is

  first-keeps : (link : Link DaemonStage) (turned : Bool) (row : IncomingRow) → RowFirst run whole vs told log n line daemon row → Keeps (carried_out d link.number turned (row_of_kind (with_mon_client d.own) AsAcceptor row))
  first-keeps link turned row (SaysNothing none keyless) =
      quiet-keeps (carried_out d link.number turned (row_of_kind (with_mon_client d.own) AsAcceptor row)) (λ g one have key name tie is. none g one is_acceptors key name tie is)
      (from-behind d.links link.number row.sends (option_map (of_kind AsAcceptor) row.link) (keyless-blank row.link keyless))
  first-keeps link turned row (Authorizes b opened ticket nonce own drawn_too quiet apart seals link_is) = λ g iv have once.
      let K : List Entry = entered J row.entries in
      let keys : LinkKeys vs n row.link = had-keys link row.sends row.link have in
      by-row link turned row
      (first-by run whole us vs told given log J K line i f h daemon (continues J row.entries) iv.one b own drawn_too opened quiet ticket nonce
      (λ opens key name tie is. apart opens iv.one key name tie is) (λ key service tie number name means. iv.placed key (Connected n number name (AtDaemon service tie)) means)
      row.seals row.link seals link_is g keys)

  hosted-first : (link : Link DaemonStage) (hosted : Hosted) → HostedBegins run whole vs told log n line daemon hosted → Keeps (hosts d (at_link link) hosted)
  hosted-first link hosted begins =
      subst (λ (moved : Option ℕ). Keeps (moved_to link.number moved (turns d (at_link link) (turn_of_kind (with_mon_client d.own) AsAcceptor hosted.turned)))) (sym begins.0) (by_turned hosted.turned begins.1)
    where
      by_turned : (turned : Turned MonClient IncomingStage) → TurnedBegins run whole vs told log n line daemon turned
          → Keeps (turns d (arrival (me d.own) d.own link reading draw) (turn_of_kind (with_mon_client d.own) AsAcceptor turned))
      by_turned Waits b = idle
      by_turned (Refuses why opened) b =
          quiet-keeps (carried_out d link.number false (refuses_bytes (arrival (me d.own) d.own link reading draw) why opened)) (λ g one have. nothing-said opened b)
          (from-behind d.links link.number [] None (λ l e. absurd cc))
      by_turned (Handles row) b = first-keeps link true row b.first

  before-keeps : (handlers : Handlers) (link : Link DaemonStage) (stage : IncomingStage) → IsBefore run whole vs told log n line daemon stage → Always Keeps (turned_at handlers d (at_link link) (AsAcceptor stage))
  before-keeps handlers link stage is =
      let rule : Deciding Hosted = incoming_turned handlers (incoming_at link stage) stage in
      always-map Keeps (hosts d (at_link link)) rule
      (always-weaker (HostedBegins run whole vs told log n line daemon) (λ (x : Hosted). Keeps (hosts d (at_link link) x)) (hosted-first link) rule
      (before-begins run whole vs told log n line daemon us J i f t (incoming_at link stage) generated drawn refl handlers stage is))

  -- ---- behind authentication

  module _ (handlers : Handlers) (link : Link DaemonStage) (stage : IncomingStage) (s : Secured) (name : Name) (k : IsGiver us given log (node.Entity d.own.mon_client.name) d.own.mon_client.name link.number s name) (P : Said)
      (steps : (row : IncomingRow) → AreGranted run.leaked whole (node.Entity d.own.mon_client.name) line log row.seals → TurnGives P (incoming_at link stage).link s row
      → IncomingStep run whole us told given log J (node.Entity d.own.mon_client.name) line i t spelled h.known d.own.mon_client.name link.number s.keys.key name row) where
    behind-hosted : (hosted : Hosted) → EachGives P (incoming_at link stage).link s hosted.turned → Keeps (hosts d (at_link link) hosted)
    behind-hosted hosted each = λ g iv have once.
        moved-keeps link.number hosted.moved (turns d (at_link link) (turn_of_kind (with_mon_client d.own) AsAcceptor hosted.turned)) (by_turned hosted.turned each hosted.moved g iv once)
      where
        by_turned : (turned : Turned MonClient IncomingStage) → EachGives P (incoming_at link stage).link s turned → (moved : Option ℕ) →
            let o = turns d (arrival (me d.own) d.own link reading draw) (turn_of_kind (with_mon_client d.own) AsAcceptor turned) in
            AreGranted run.leaked whole n line log (moved_to link.number moved o).out.seals
            → Inv run whole vs (behind n line (moved_to link.number moved o).out.seals log) (entered J (moved_to link.number moved o).out.entries)
            → EachBehind (HandledOnce run) J (moved_to link.number moved o).out.entries → Gives o
        by_turned Waits e None g iv once = quiet-given run whole us vs told given log J line i f h daemon d gives (idles d) iv.one (λ key whose tie is. refl) (from-same d.links)
        by_turned Waits e (Some session) g iv once = quiet-given run whole us vs told given log J line i f h daemon d gives (idles d) iv.one (λ key whose tie is. refl) (from-same d.links)
        by_turned (Refuses why opened) e None g iv once =
            quiet-given run whole us vs told given log J line i f h daemon d gives (carried_out d link.number false (refuses_bytes (arrival (me d.own) d.own link reading draw) why opened)) iv.one
            (λ key whose tie is. quiet-none key is_acceptors opened e) (from-behind d.links link.number [] None (λ l e. absurd cc))
        by_turned (Refuses why opened) e (Some session) g iv once =
            quiet-given run whole us vs told given log J line i f h daemon d gives (carried_out d link.number false (refuses_bytes (arrival (me d.own) d.own link reading draw) why opened)) iv.one
            (λ key whose tie is. quiet-none key is_acceptors opened e) (from-behind d.links link.number [] None (λ l e. absurd cc))
        by_turned (Handles row) e None g iv once =
            step-given run whole us vs told given log J line i f h daemon t spelled link.number s name k row (steps row g e) iv.one once d gives true
        by_turned (Handles row) e (Some session) g iv once =
            step-given run whole us vs told given log J line i f h daemon t spelled link.number s name k row (steps row g e) iv.one once d gives true

    behind-keeps : Always (λ (x : Hosted). EachGives P (incoming_at link stage).link s x.turned) (incoming_turned handlers (incoming_at link stage) stage) → Always Keeps (turned_at handlers d (at_link link) (AsAcceptor stage))
    behind-keeps each =
        let rule : Deciding Hosted = incoming_turned handlers (incoming_at link stage) stage in
        always-map Keeps (hosts d (at_link link)) rule
        (always-weaker (λ (x : Hosted). EachGives P (incoming_at link stage).link s x.turned) (λ (x : Hosted). Keeps (hosts d (at_link link) x)) behind-hosted rule each)

  -- the entity of an open link's session is the one whose key it has
  opened-for : (number : ℕ) (s : Secured) (served : Served) (g : IncomingGiven run us told given log n daemon number (Open s served)) → (k : HostKnown run us told J daemon n number (AsAcceptor (Open s served)))
      → OpenedFor J [] daemon g.0 served
  opened-for number s served g k =
      let incoming : IsIncoming run us told n number s k.0.0 = k.0.1 in
      let first : IsLinkKey us s.keys.key k.0.0 incoming.tie = record { acceptor = n; number = number; service = incoming.service; means = incoming.means } in
      let last : IsLinkKey us s.keys.key g.0 g.1.tie = record { acceptor = n; number = number; service = daemon.kind; means = g.1.means } in
      let same : k.0.0 ≡ g.0 = (link-one us i.one s.keys.key k.0.0 g.0 incoming.tie g.1.tie first last).0 in
      subst (λ (m : Name). OpenedFor J [] daemon m served) same k.1

  incoming-keeps : (handlers : Handlers) (link : Link DaemonStage) (stage : IncomingStage) → HostKnown run us told J daemon n link.number (AsAcceptor stage) → IncomingGiven run us told given log n daemon link.number stage
      → Always Keeps (turned_at handlers d (at_link link) (AsAcceptor stage))
  incoming-keeps handlers link AwaitsBanner k g = before-keeps handlers link AwaitsBanner tt
  incoming-keeps handlers link AwaitsHello k g = before-keeps handlers link AwaitsHello tt
  incoming-keeps handlers link AwaitsRequest k g = before-keeps handlers link AwaitsRequest tt
  incoming-keeps handlers link (AwaitsProof awaited) k g = before-keeps handlers link (AwaitsProof awaited) tt
  incoming-keeps handlers link (AwaitsSignature s owner) k g =
      let stage : IncomingStage = AwaitsSignature s owner in
      behind-keeps handlers link stage s owner.ticket.name g.0 (SignedGives owner)
      (λ row granted turn. signature-step run whole us told given log J n line i t spelled h.known daemon (incoming_at link stage).link s owner.ticket.name g.0 g.1 row granted owner refl turn)
      (incoming-gives handlers (incoming_at link stage) stage)
  incoming-keeps handlers link (AwaitsIdent s owner) k g =
      let stage : IncomingStage = AwaitsIdent s owner in
      behind-keeps handlers link stage s owner.ticket.name g.0 (IdentGives owner)
      (λ row granted turn. ident-step run whole us told given log J n line i t spelled h.known daemon (incoming_at link stage).link s owner.ticket.name g.0 g.1 row granted owner refl turn)
      (incoming-gives handlers (incoming_at link stage) stage)
  incoming-keeps handlers link (Open s served) k g =
      let stage : IncomingStage = Open s served in
      behind-keeps handlers link stage s g.0 g.1 (OpenGives daemon served)
      (λ row granted turn. open-step run whole us told given log J n line i t spelled h.known daemon (incoming_at link stage).link s g.0 g.1 g.3 row granted served (opened-for link.number s served g k) g.2 turn)
      (incoming-gives handlers (incoming_at link stage) stage)

  -- ---- any link

  turns-keep : (handlers : Handlers) (number : ℕ) (found : Option (Link DaemonStage)) → link_of number d.links ≡ found → Always Keeps (turn handlers d reading draw found)
  turns-keep handlers number None is = idle
  turns-keep handlers number (Some link) is =
      by_stage link.stage (found_all (λ (l : Link DaemonStage). HostKnown run us told J daemon n l.number l.stage) (λ (l : Link DaemonStage). l.number == number) d.links link known is)
      (found_all (λ (l : Link DaemonStage). HostGiven run us told given log n daemon l.number l.stage) (λ (l : Link DaemonStage). l.number == number) d.links link gives is)
    where
      by_stage : (stage : DaemonStage) → HostKnown run us told J daemon n link.number stage → HostGiven run us told given log n daemon link.number stage
          → Always Keeps (turned_at handlers d (arrival (me d.own) d.own link reading draw) stage)
      by_stage (AsAcceptor stage) k g = incoming-keeps handlers link stage k g
      by_stage (AsConnector stage) k g =
          own-keeps link stage (connector.turned_at (arrival_in (arrival (me d.own) d.own link reading draw) d.own.mon_client stage) stage)
          (λ one have key name tie is. own_turn-none vs n one key name tie is is_acceptors d reading draw (at_link link) (arrival_in (at_link link) d.own.mon_client stage) stage (own-stand run vs n _ have))

  -- ---- any event

  pub rule-keeps : (handlers : Handlers) (input : Input) → Always Keeps (daemon_rule handlers d input reading draw)
  rule-keeps handlers = walk d reading draw handlers Keeps rests (λ number. turns-keep handlers number (link_of number d.links) refl) asks-keeps
