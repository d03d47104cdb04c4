-- A turn of an incoming link of a daemon, whatever its book replies, says nothing on links to the monitor.
use Rattle.std.proofs.Common.{ℕ, Bool, true, false, List, [], ◌∷◌, ◌++◌, Option, Some, None, inl, inr, refl, sym, subst}
use Rattle.std.specs.List.{AllByRecursion}
use Rattle.std.specs.Option.{option_map}
use Rattle.std.specs.Prelude.{IfSome, not}
use Rattle.cx_base.specs.Names.{Name}
use Rattle.cx_base.specs.declared.nodes.NodeName.{NodeName}
use Rattle.cx_base.specs.declared.nodes.NodeName.TheVariants as node
use Rattle.cx_desk.specs.Handlers.{Handlers}
use Rattle.cx_journal.specs.declared.entries.Entry.{Entry}
use Rattle.cx_journal.specs.declared.entries.Entry.TheVariants as journal
use Rattle.cx_laws_run.proofs.cover.DaemonQuiet.{all-stay, idle, nothing-none, quiet-node}
use Rattle.cx_laws_run.proofs.cover.DaemonReady.{DaemonReady, Keeps, NodeBehind}
use Rattle.cx_laws_run.proofs.cover.Elsewhere.{ArePutElsewhere, IsElsewhere, IsPutElsewhere, IsUsedElsewhere, elsewhere-none, elsewhere-plain}
use Rattle.cx_laws_run.proofs.cover.IncomingElsewhere.{PutsTurned}
use Rattle.cx_laws_run.proofs.cover.IncomingPuts.{HostedPuts, TurnedPuts, incoming-puts}
use Rattle.cx_laws_run.proofs.cover.OtherLinks.{put-itself}
use Rattle.cx_laws_run.proofs.cover.OwnRows.{EntersSo, NoFetch}
use Rattle.cx_laws_run.proofs.cover.State.{DaemonStageHas}
use Rattle.cx_laws_run.specs.cx_laws_tickets.proofs.authorize.DaemonRows.{DaemonStageOk, LinksHave}
use Rattle.cx_laws_run.specs.cx_laws_tickets.proofs.authorize.IncomingLinks.{AuthorizedRow, EntryToldIn}
use Rattle.cx_laws_run.specs.cx_laws_tickets.proofs.authorize.Hosting.{AuthorizedHosted, incoming-authorized}
use Rattle.cx_laws_run.specs.cx_laws_tickets.proofs.authorize.Keys.{LinkKeys, StageKeys}
use Rattle.cx_laws_run.specs.cx_laws_tickets.proofs.fetch.AskedKnown.{Told}
use Rattle.cx_laws_run.specs.cx_laws_tickets.proofs.fetch.PointEvents.{events_of}
use Rattle.cx_laws_run.specs.cx_laws_tickets.proofs.fetch.Retied.{Handed, means-retied, retied, retied_use}
use Rattle.cx_laws_run.specs.cx_laws_tickets.proofs.fetch.ToldStays.{SealsNone}
use Rattle.cx_laws_run.specs.cx_laws_tickets.proofs.fetch.Turns.{behind-row, filtered}
use Rattle.cx_laws_run.specs.cx_laws_keys.proofs.keys.Lists.{all-map}
use Rattle.cx_laws_run.specs.cx_laws_keys.proofs.keys.Premises.{behind}
use Rattle.cx_laws_run.specs.cx_laws_keys.proofs.keys.Uses.{AtDaemon, AtMonitor, Connected, Generated, Login, Secret, Ticketed, Use, Uses, WholeRun}
use Rattle.cx_laws_run.specs.cx_laws_keys.proofs.login.Proving.{RowOf}
use Rattle.cx_laws_run.specs.cx_rules.specs.Holdings.{MonClient}
use Rattle.cx_laws_run.specs.cx_rules.specs.Links.{Link}
use Rattle.cx_laws_run.specs.cx_rules.specs.Rows.{Arrival, Outcome, Turned, Waits, Refuses, Handles, arrival, carried_out, idles, links_behind, refuses_bytes, turns}
use Rattle.cx_laws_run.specs.cx_rules_session.specs.DaemonRule.{AsAcceptor, Daemon, DaemonNode, DaemonStage, hosts, is_older, me, moved_to, with_mon_client}
use Rattle.cx_laws_run.specs.cx_rules_session.specs.IncomingLinks.{IncomingArrival, IncomingRow, IncomingStage}
use Rattle.cx_laws_run.specs.cx_rules_session.specs.Hosting.{Deciding, Hosted, incoming_turned}
use Rattle.cx_laws_run.specs.cx_rules_session.specs.Kinds.{arrival_in, of_kind, row_of_kind, turn_of_kind}
use Rattle.cx_laws_run.specs.cx_run.proofs.Always.{Always, always-both, always-weaker}
use Rattle.cx_laws_run.specs.cx_run.specs.Points.{Point}
use Rattle.cx_steps.specs.declared.seals.Logged.{Logged}
use Rattle.cx_steps.specs.declared.seals.SealEntry.{SealEntry}
use Rattle.cx_steps.specs.declared.seals.SealEntry.TheVariants as seal

-- ---- with what was handed over

-- what has nothing to do with logins hasn't, whatever was handed over
use-retied : (logins : List Handed) (key : List ℕ) (u : Use) → IsElsewhere u → IsElsewhere (retied_use logins key u)
use-retied logins key (Secret name) h = tt
use-retied logins key (Generated service id) h = tt
use-retied logins key (Login name) h = absurd h
use-retied logins key (Ticketed name service) h = tt
use-retied logins key (Connected acceptor number name (AtMonitor challenge)) h = absurd h
use-retied logins key (Connected acceptor number name (AtDaemon service nonce)) h = tt

used-retied : (us : Uses) (logins : List Handed) (key : List ℕ) → IsUsedElsewhere us key → IsUsedElsewhere (retied logins us) key
used-retied us logins key (u, means, apart) = (retied_use logins key u, means-retied logins us key u means, use-retied logins key u apart)

put-retied : (us : Uses) (logins : List Handed) (e : SealEntry) → IsPutElsewhere us e → IsPutElsewhere (retied logins us) e
put-retied us logins (seal.Sealed mark) h = used-retied us logins mark.key h
put-retied us logins (seal.Signed mark) h = used-retied us logins mark.key h
put-retied us logins (seal.Opened mark) h = tt
put-retied us logins (seal.Checked mark) h = tt
put-retied us logins (seal.Drawn mark) h = tt

puts-retied : (us : Uses) (logins : List Handed) (es : List SealEntry) → ArePutElsewhere us es → ArePutElsewhere (retied logins us) es
puts-retied us logins es h = all-map (IsPutElsewhere us) (IsPutElsewhere (retied logins us)) (put-retied us logins) es h

-- ---- a daemon

module _ (run : WholeRun) (whole : List Logged) (us vs : Uses) (logins : List Handed) (told : Told) (past : List Point) (p : Point) (log : List Logged) (J : List Entry) (d : DaemonNode)
    (r : DaemonReady run whole us vs logins told past p log J d) where
  abbrev name : Name
  name = d.own.mon_client.name

  abbrev n : NodeName
  n = node.Entity d.own.mon_client.name

  abbrev line : ℕ
  line = p.happening.line

  abbrev behind_us : Uses
  behind_us = retied logins vs

  abbrev Node_ : Outcome DaemonNode → Type 0
  Node_ o = NodeBehind run us vs logins told past p log d.own.mon_client.name o

  abbrev later : List SealEntry → List Logged
  later es = behind n line es log

  abbrev Keeps_ : Outcome DaemonNode → Type 0
  Keeps_ o = Keeps run whole us vs logins told past p log d o

  -- ---- a turn of an incoming link

  abbrev at_link : Link DaemonStage → Arrival Daemon DaemonStage
  at_link link = arrival (me d.own) d.own link p.happening.reading p.happening.draw

  abbrev incoming_at : Link DaemonStage → IncomingStage → IncomingArrival
  incoming_at link stage = arrival_in (at_link link) d.own.mon_client stage

  -- a client's row fetches nothing
  told-none : (link : Link DaemonStage) (stage : IncomingStage) (es : List Entry) (ss : List SealEntry) (e : Entry)
      → EntryToldIn d.own.mon_client (me d.own) link.number p.happening.reading stage es ss e → EntersSo NoFetch e
  told-none link stage es ss (journal.Fetched f) h = absurd h
  told-none link stage es ss _ h = tt

  -- a client's row, of what it puts and enters
  incoming-node : (link : Link DaemonStage) (turned : Bool) (row : IncomingRow) → ArePutElsewhere vs row.seals → AllByRecursion (EntersSo NoFetch) row.entries
      → Node_ (carried_out d link.number turned (row_of_kind (with_mon_client d.own) AsAcceptor row))
  incoming-node link turned row puts entries =
      let there : ArePutElsewhere behind_us row.seals = puts-retied vs logins row.seals puts in
      let none : SealsNone behind_us row.seals = elsewhere-none behind_us r.mon_client.one row.seals there in
      quiet-node run whole us vs logins told past p log J d r (carried_out d link.number turned (row_of_kind (with_mon_client d.own) AsAcceptor row)) none (elsewhere-plain behind_us row.seals there) entries
      (behind-row (λ (l : Link DaemonStage). DaemonStageHas (events_of (p ∷ past)) behind_us logins told (later row.seals) name l.number l.sent l.stage) d.links link.number row.sends
      (option_map (of_kind AsAcceptor) row.link) (own row.link) (all-stay run whole us vs logins told past p log J d r row.seals none))
    where
      own : (left : Option (Link IncomingStage)) → IfSome (option_map (of_kind AsAcceptor) left)
          (λ (l : Link DaemonStage). DaemonStageHas (events_of (p ∷ past)) behind_us logins told (later row.seals) name l.number (l.sent ++ row.sends) l.stage)
      own None = tt
      own (Some l) = tt

  -- older links of a session are shut
  moved-node : (number : ℕ) (moved : Option ℕ) (o : Outcome DaemonNode) → Node_ o → Node_ (moved_to number moved o)
  moved-node number None o b = b
  moved-node number (Some session) o b = record {
    next = b.next;
    moved = b.moved;
    apart = b.apart;
    quiet = b.quiet;
    known_of = b.known_of;
    handed = b.handed;
    links = filtered (λ (l : Link DaemonStage). DaemonStageHas (events_of (p ∷ past)) behind_us logins b.next (later o.out.seals) name l.number l.sent l.stage)
        (λ (l : Link DaemonStage). not (is_older number session l)) o.state.links b.links;
    fetched = b.fetched;
  }

  -- the link that goes on has good keys
  had-keys : (link : Link DaemonStage) (bytes : List ℕ) (found : Option (Link IncomingStage)) → LinksHave run n vs (links_behind d.links link.number bytes (option_map (of_kind AsAcceptor) found)) → LinkKeys vs n found
  had-keys link bytes None have = tt
  had-keys link bytes (Some found) have =
      (put-itself (λ (l : Link DaemonStage). DaemonStageOk run vs n l.number l.stage) (record (of_kind AsAcceptor found) { sent = found.sent ++ bytes }) d.links have).0

  -- a turn
  hosted-node : (link : Link DaemonStage) (stage : IncomingStage) (hosted : Hosted) → HostedPuts run whole n line us vs log J r.inv r.grows hosted
      → AuthorizedHosted d.own.mon_client (me d.own) link.number p.happening.reading stage hosted → Keeps_ (hosts d (at_link link) hosted)
  hosted-node link stage hosted (inl puts) owned = λ at g had.
      moved-node link.number hosted.moved (turns d (at_link link) (turn_of_kind (with_mon_client d.own) AsAcceptor hosted.turned)) (by_turned hosted.turned puts owned)
    where
      by_turned : (turned : Turned MonClient IncomingStage) → PutsTurned vs turned → RowOf (AuthorizedRow d.own.mon_client (me d.own) link.number p.happening.reading stage) turned
          → Node_ (turns d (arrival (me d.own) d.own link p.happening.reading p.happening.draw) (turn_of_kind (with_mon_client d.own) AsAcceptor turned))
      by_turned Waits h o =
          let none : SealsNone behind_us [] = nothing-none run whole us vs logins told past p log J d r [] refl in
          quiet-node run whole us vs logins told past p log J d r (idles d) none tt tt (all-stay run whole us vs logins told past p log J d r [] none)
      by_turned (Refuses why opened) h o = incoming-node link false (refuses_bytes (incoming_at link stage) why opened) h (tt, tt)
      by_turned (Handles row) h o = incoming-node link true row h (all-map (EntryToldIn d.own.mon_client (me d.own) link.number p.happening.reading stage row.entries row.seals) (EntersSo NoFetch)
          (told-none link stage row.entries row.seals) row.entries o.entries)
  hosted-node link stage hosted (inr (none, puts)) owned =
      subst (λ (moved : Option ℕ). Keeps_ (moved_to link.number moved (turns d (at_link link) (turn_of_kind (with_mon_client d.own) AsAcceptor hosted.turned)))) (sym none) (by_turned hosted.turned puts owned)
    where
      by_turned : (turned : Turned MonClient IncomingStage) → TurnedPuts run whole n line us vs log J r.inv r.grows turned
          → RowOf (AuthorizedRow d.own.mon_client (me d.own) link.number p.happening.reading stage) turned
          → Keeps_ (turns d (arrival (me d.own) d.own link p.happening.reading p.happening.draw) (turn_of_kind (with_mon_client d.own) AsAcceptor turned))
      by_turned Waits h o = idle run whole us vs logins told past p log J d r
      by_turned (Refuses why opened) h o = λ at g had. incoming-node link false (refuses_bytes (incoming_at link stage) why opened) h (tt, tt)
      by_turned (Handles row) h o = λ at g had. incoming-node link true row (h g (had-keys link row.sends row.link had))
          (all-map (EntryToldIn d.own.mon_client (me d.own) link.number p.happening.reading stage row.entries row.seals) (EntersSo NoFetch) (told-none link stage row.entries row.seals) row.entries o.entries)

  pub incoming-turn : (handlers : Handlers) (link : Link DaemonStage) (stage : IncomingStage) → StageKeys vs n link.number stage
      → Always (λ (h : Hosted). Keeps_ (hosts d (at_link link) h)) (incoming_turned handlers (incoming_at link stage) stage)
  incoming-turn handlers link stage keys =
      let a : IncomingArrival = incoming_at link stage in
      let rule : Deciding Hosted = incoming_turned handlers a stage in
      let Puts : Hosted → Type 0 = HostedPuts run whole n line us vs log J r.inv r.grows in
      let Owned : Hosted → Type 0 = AuthorizedHosted d.own.mon_client (me d.own) link.number p.happening.reading stage in
      always-weaker (λ (h : Hosted). Puts h × Owned h) (λ (h : Hosted). Keeps_ (hosts d (at_link link) h)) (λ h both. hosted-node link stage h both.0 both.1) rule
      (always-both Puts Owned rule (incoming-puts run whole n line us vs log J r.inv r.grows a r.of r.known.fetched.generated handlers stage keys) (incoming-authorized handlers a stage))
