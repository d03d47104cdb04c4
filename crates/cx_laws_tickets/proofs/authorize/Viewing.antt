-- What a daemon enters tells its view at each step, whatever comes to it and whatever its book replies, where it is told none by hand.
use Rattle.std.proofs.Common.{Bool, true, false, ℕ, List, [], ◌∷◌, Option, Some, None, Result, Ok, Err, refl, sym, subst}
use Rattle.std.specs.Prelude.{if◌then◌else◌}
use Rattle.cx_base.specs.declared.nodes.NodeName.{NodeName}
use Rattle.cx_journal.specs.declared.entries.Entry.{Entry}
use Rattle.cx_journal.specs.declared.entries.Entry.TheVariants as entry
use Rattle.cx_journal.specs.declared.outcomes.Reason.{Reason}
use Rattle.cx_journal.specs.declared.outcomes.Reason.TheVariants.{Lost}
use Rattle.cx_laws_tickets.proofs.authorize.IncomingLinks.{AuthorizedRow, EntryToldIn}
use Rattle.cx_laws_tickets.proofs.authorize.Hosting.{AuthorizedHosted, incoming-authorized}
use Rattle.cx_laws_keys.proofs.login.NoTickets.{RowOfMonClient, none-turned}
use Rattle.cx_laws_keys.proofs.login.Proving.{RowOf}
use Rattle.cx_laws_keys.proofs.keys.Lists.{all-map}
use Rattle.cx_laws_keys.proofs.keys.Viewing.{ShowsAlong, ShowsStill, still-along, viewed-own}
use Rattle.cx_laws_keys.specs.keys.LooksLast.{nothing_viewed}
use Rattle.cx_laws_keys.specs.cx_rules.specs.Connector as connector
use Rattle.cx_laws_keys.specs.cx_rules.specs.Holdings.{MonClient}
use Rattle.cx_laws_keys.specs.cx_rules.specs.Inputs.{Input}
use Rattle.cx_laws_keys.specs.cx_rules.specs.Links.{Link}
use Rattle.cx_laws_keys.specs.cx_rules.specs.Requests.{Requests, sealed_request, sends_request}
use Rattle.cx_laws_keys.specs.cx_rules.specs.Rows.{Arrival, Outcome, Turned, Waits, Refuses, Handles, arrival, refused_entry, turns}
use Rattle.cx_laws_keys.specs.cx_rules.specs.Secured.{SealedFrame, Secured}
use Rattle.cx_laws_keys.specs.cx_rules.specs.declared.requests.Want.TheVariants.{Rotating}
use Rattle.cx_laws_keys.specs.cx_rules.specs.declared.requests.Want.{Want}
use Rattle.cx_laws_keys.specs.cx_steps.specs.declared.events.Peer.{Peer}
use Rattle.cx_laws_keys.specs.cx_steps.specs.declared.events.Peer.TheVariants as peer
use Rattle.cx_laws_keys.specs.cx_steps.specs.declared.seals.SealEntry.{SealEntry}
use Rattle.cx_laws_keys.specs.cx_wire.specs.declared.bodies.Request.TheVariants as asked
use Rattle.cx_run.proofs.Always.{always-book, always-weaker, always-both}
use Rattle.cx_run.proofs.DaemonOutcomes.{EachOfDaemon, came, incoming_rule, rule-keeps}
use Rattle.cx_run.proofs.IncomingTakes.{StaysIncoming, TakesHosted, incoming-takes}
use Rattle.cx_run.proofs.Taking.{EachRow}
use Rattle.cx_run.specs.Visits.{IsNoLook}
use Rattle.cx_run.specs.cx_desk.specs.Handlers.{Handlers}
use Rattle.cx_run.specs.cx_rules_session.specs.DaemonRule.{AsAcceptor, AsConnector, Daemon, DaemonNode, DaemonStage, DaemonState, book_after, book_reply, daemon_rule, daemon_step, hosts, me, moved_to, open_to_ask, unreached, with_mon_client}
use Rattle.cx_run.specs.cx_rules_session.specs.IncomingLinks.{IncomingStage}
use Rattle.cx_run.specs.cx_rules_session.specs.Hosting.{Hosted}
use Rattle.cx_run.specs.cx_rules_session.specs.Kinds.{arrival_in, turn_of_kind}

-- what it is told of its own row, of an incoming link, leaves its view
told-still : (daemon : MonClient) (me : NodeName) (number reading : ℕ) (stage : IncomingStage) (es : List Entry) (ss : List SealEntry) (e : Entry)
    → EntryToldIn daemon me number reading stage es ss e → ShowsStill daemon.name daemon.view e
told-still daemon me number reading stage es ss (entry.Looked look) h = h
told-still daemon me number reading stage es ss (entry.Fetched f) h = h
told-still daemon me number reading stage es ss (entry.Restarted at) h = h
told-still daemon me number reading stage es ss (entry.Saved x) h = tt
told-still daemon me number reading stage es ss (entry.Issued x) h = tt
told-still daemon me number reading stage es ss (entry.Admitted x) h = tt
told-still daemon me number reading stage es ss (entry.Resumed x) h = tt
told-still daemon me number reading stage es ss (entry.Sent x) h = tt
told-still daemon me number reading stage es ss (entry.Handled x) h = tt
told-still daemon me number reading stage es ss (entry.Answered x) h = tt
told-still daemon me number reading stage es ss (entry.Refused x) h = tt
told-still daemon me number reading stage es ss (entry.Ended x) h = tt
told-still daemon me number reading stage es ss (entry.Broken x) h = tt
told-still daemon me number reading stage es ss (entry.Leaked x) h = tt

-- a request that is sent, or can't be
request-shows : (open_under : Secured → Requests → DaemonStage) (a : Arrival MonClient DaemonStage) (s : Secured) (requests : Requests) (want : Want) (sealed : Result SealedFrame Reason) →
    let row = sends_request open_under a s requests want sealed in ShowsAlong a.own.name a.own.view row.entries row.own.view
request-shows open_under a s requests want (Ok sealed) = refl
request-shows open_under a s requests want (Err why) = (tt, refl)

module _ (d : DaemonNode) where
  -- what is entered tells the view
  abbrev Shows : Outcome DaemonNode → Type 0
  Shows o = ShowsAlong d.own.mon_client.name d.own.mon_client.view o.out.entries o.state.own.mon_client.view

  -- ---- turns

  moved-shows : (number : ℕ) (moved : Option ℕ) (o : Outcome DaemonNode) → Shows o → Shows (moved_to number moved o)
  moved-shows number None o h = h
  moved-shows number (Some session) o h = h

  incoming-shows : (reading : ℕ) (draw : List ℕ) (link : Link DaemonStage) (stage : IncomingStage) (hosted : Hosted)
      → AuthorizedHosted d.own.mon_client (me d.own) link.number reading stage hosted → TakesHosted (arrival_in (arrival (me d.own) d.own link reading draw) d.own.mon_client stage) hosted
      → Shows (hosts d (arrival (me d.own) d.own link reading draw) hosted)
  incoming-shows reading draw link stage hosted told takes =
      let a : Arrival Daemon DaemonStage = arrival (me d.own) d.own link reading draw in
      moved-shows link.number hosted.moved (turns d a (turn_of_kind (with_mon_client d.own) AsAcceptor hosted.turned)) (by_turned hosted.turned told takes.stays)
    where
      by_turned : (t : Turned MonClient IncomingStage) → RowOf (AuthorizedRow d.own.mon_client (me d.own) link.number reading stage) t
          → EachRow (StaysIncoming (arrival_in (arrival (me d.own) d.own link reading draw) d.own.mon_client stage)) t
          → Shows (turns d (arrival (me d.own) d.own link reading draw) (turn_of_kind (with_mon_client d.own) AsAcceptor t))
      by_turned Waits h k = refl
      by_turned (Refuses why opened) h k = (tt, refl)
      by_turned (Handles row) h k =
          subst (λ (x : MonClient). ShowsAlong d.own.mon_client.name d.own.mon_client.view row.entries x.view) (sym k.0)
          (still-along d.own.mon_client.name d.own.mon_client.view row.entries
          (all-map (EntryToldIn d.own.mon_client (me d.own) link.number reading stage row.entries row.seals) (ShowsStill d.own.mon_client.name d.own.mon_client.view)
          (told-still d.own.mon_client (me d.own) link.number reading stage row.entries row.seals) row.entries h.entries))

  own-shows : (reading : ℕ) (draw : List ℕ) (link : Link DaemonStage) (stage : connector.Stage) →
      let a = arrival (me d.own) d.own link reading draw in
      Shows (turns d a (turn_of_kind (with_mon_client d.own) AsConnector (connector.turned_at (arrival_in a d.own.mon_client stage) stage)))
  own-shows reading draw link stage =
      by_turned (connector.turned_at (arrival_in (arrival (me d.own) d.own link reading draw) d.own.mon_client stage) stage)
      (none-turned (arrival_in (arrival (me d.own) d.own link reading draw) d.own.mon_client stage) stage)
    where
      by_turned : (t : Turned MonClient connector.Stage) → RowOf (RowOfMonClient d.own.mon_client) t
          → Shows (turns d (arrival (me d.own) d.own link reading draw) (turn_of_kind (with_mon_client d.own) AsConnector t))
      by_turned Waits k = refl
      by_turned (Refuses why opened) k = (tt, refl)
      by_turned (Handles row) k = k.shows

  lost-shows : (number : ℕ) (is_open : Bool) → ShowsAlong d.own.mon_client.name d.own.mon_client.view (if is_open then [] else refused_entry (me d.own) number Lost ∷ []) d.own.mon_client.view
  lost-shows number true = refl
  lost-shows number false = (tt, refl)

  unreached-shows : (to : Peer) → Shows (unreached d to)
  unreached-shows peer.Monitor = (tt, refl)
  unreached-shows (peer.Daemon daemon) = (tt, refl)

  each-shows : (handlers : Handlers) (reading : ℕ) (draw : List ℕ) (input : Input) → IsNoLook input → EachOfDaemon handlers d reading draw input Shows
  each-shows handlers reading draw input looks = record {
    idle = refl;
    comes = λ number link bytes is. refl;
    hosting = λ number link stage at is of.
        let incoming = arrival_in (came handlers d reading draw link) d.own.mon_client stage in
        always-weaker (λ (h : Hosted). AuthorizedHosted d.own.mon_client (me d.own) link.number reading stage h × TakesHosted incoming h)
        (λ (h : Hosted). Shows (hosts d (came handlers d reading draw link) h)) (λ h both. incoming-shows reading draw link stage h both.0 both.1)
        (incoming_rule handlers d reading draw link stage)
        (always-both (AuthorizedHosted d.own.mon_client (me d.own) link.number reading stage) (TakesHosted incoming) (incoming_rule handlers d reading draw link stage)
        (incoming-authorized handlers incoming stage) (incoming-takes handlers incoming stage));
    asking = λ number link stage at is of. own-shows reading draw link stage;
    full = λ number. (tt, refl);
    begins = λ number. refl;
    begins_own = λ number. refl;
    reaches_none = unreached-shows;
    leaves = λ number. refl;
    loses_own = λ number stage. lost-shows number (connector.is_open stage);
    ends = λ number session. (tt, refl);
    drops_all = λ session. (tt, refl);
    dials = refl;
    fetches_there = λ link s requests is. request-shows open_to_ask (arrival (me d.own) d.own.mon_client link reading draw) s requests (Rotating reading)
        (sealed_request s.keys requests asked.Rotating);
    shown = λ view is. absurd (subst IsNoLook is looks);
    restarts = (refl, viewed-own d.own.mon_client.name d.own.mon_client.view nothing_viewed);
  }

pub daemon-shows : (handlers : Handlers) (d : DaemonState) (input : Input) (reading : ℕ) (draw : List ℕ) → IsNoLook input →
    let o = daemon_step handlers d input reading draw in ShowsAlong d.node.own.mon_client.name d.node.own.mon_client.view o.out.entries o.state.node.own.mon_client.view
daemon-shows handlers d input reading draw looks =
    always-book (Shows d.node) book_reply book_after d.book (daemon_rule handlers d.node input reading draw)
    (rule-keeps handlers d.node reading draw input (Shows d.node) (each-shows d.node handlers reading draw input looks))
