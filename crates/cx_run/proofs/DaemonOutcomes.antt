-- What a daemon's step comes to, whatever its book replies: what holds of each outcome holds of each step. And what the outcomes but turns and
-- fetches have in common.
use Rattle.std.proofs.Common.{◌≡◌, ℕ, Bool, true, false, List, [], length, Option, Some, None, refl, ap, subst, ◌==◌, ◌∷◌, ◌++◌, filter, nat_lt, inl, inr, ◌⊎◌, sym, append-nil}
use Rattle.std.specs.Prelude.{nat_le, if◌then◌else◌, Contains, not}
use Rattle.std.proofs.lemmas.List.Elements.{Contains-append_left, Contains-append_right, Contains-push}
use Rattle.std.specs.List.{AllByRecursion}
use Rattle.cx_rules_session.specs.cx_rules.specs.cx_rotate.specs.declared.views.View.{View}
use Rattle.cx_rules_session.specs.Asks.{Finished, Asking}
use Rattle.cx_rules_session.specs.DaemonRule.{ended_entry, is_in, looks, loses, restarted, shut_where, AsAcceptor, AsConnector, Daemon, DaemonNode, DaemonStage, asking_open, daemon_rule, fetches, fetches_on, gone, gone_by_kind, incoming_gone, hosts, is_fetching, lossy_gone, me, moved_to, on_dropped, opens, opens_own, submits, ticks, turn, turned_at, undialled, unreached, with_mon_client}
use Rattle.cx_rules_session.specs.IncomingLinks.{IncomingStage, IncomingRow}
use Rattle.cx_rules_session.specs.Hosting.{Hosted, incoming_turned, Deciding}
use Rattle.cx_rules_session.specs.Kinds.{arrival_in, row_of_kind, turn_of_kind}
use Rattle.cx_rules_session.specs.cx_desk.specs.Handlers.{Handlers}
use Rattle.cx_rules_session.specs.cx_journal.specs.declared.entries.Entry.{Entry}
use Rattle.cx_rules_session.specs.cx_journal.specs.declared.entries.Entry.TheVariants as entry
use Rattle.cx_rules_session.specs.cx_journal.specs.declared.faults.BytesFault.{BytesFault}
use Rattle.cx_rules_session.specs.cx_journal.specs.declared.outcomes.Reason.TheVariants.{LinksFull, Lost}
use Rattle.cx_rules_session.specs.cx_rules.specs.Acceptor.{AwaitsBanner, Open}
use Rattle.cx_rules_session.specs.cx_rules.specs.Connector as connector
use Rattle.cx_rules_session.specs.cx_rules.specs.Greetings.{own_banner}
use Rattle.cx_rules_session.specs.cx_rules.specs.Holdings.{MonClient}
use Rattle.cx_rules_session.specs.cx_rules.specs.Inputs.{Input, Opened, NoLink, Bytes, Turn, Gone, Look, Tick, Submit, Restart}
use Rattle.cx_rules_session.specs.cx_rules.specs.Links.{Link, link_of, put_link}
use Rattle.cx_rules_session.specs.cx_rules.specs.Requests.{Requests, first_open, is_outdated}
use Rattle.cx_rules_session.specs.cx_rules.specs.Rows.{Arrival, Outcome, Turned, Waits, Refuses, Handles, arrival, carried_out, fed, forgotten, goes_on, idles, new_link, refuses, turns, refuses_bytes, refused_entry}
use Rattle.cx_rules_session.specs.cx_rules.specs.Secured.{Secured}
use Rattle.cx_rules_session.specs.cx_steps.specs.Nothing.{nothing}
use Rattle.cx_rules_session.specs.cx_session.specs.declared.call.BookCall.TheVariants.{End}
use Rattle.cx_rules_session.specs.cx_session.specs.declared.call.BookReply.{BookReply}
use Rattle.cx_rules_session.specs.cx_session.specs.declared.call.BookReply.TheVariants as reply
use Rattle.cx_rules_session.specs.cx_steps.specs.declared.events.Command.{Command}
use Rattle.cx_rules_session.specs.cx_steps.specs.declared.events.Command.TheVariants as command
use Rattle.cx_rules_session.specs.cx_steps.specs.declared.events.Peer.{Peer}
use Rattle.cx_rules_session.specs.cx_steps.specs.declared.events.Peer.TheVariants as peer
use Rattle.cx_rules_session.specs.cx_steps.specs.declared.seals.SealEntry.{SealEntry}
use Rattle.cx_run.proofs.Always.{Always, always-map}
use Rattle.cx_run.proofs.Outcomes.{IsNoTicket}
use Rattle.cx_run.proofs.Taking.{EachRow}

module _ (handlers : Handlers) (d : DaemonNode) (reading : ℕ) (draw : List ℕ) where
  -- what comes on a link of the daemon
  abbrev pub came : Link DaemonStage → Arrival Daemon DaemonStage
  came link = arrival (me d.own) d.own link reading draw

  -- a turn of an incoming link, and of the daemon's own
  abbrev pub incoming_rule : Link DaemonStage → IncomingStage → Deciding Hosted
  incoming_rule link stage = incoming_turned handlers (arrival_in (came link) d.own.mon_client stage) stage

  abbrev pub own_turn : Link DaemonStage → connector.Stage → Outcome DaemonNode
  own_turn link stage =
      turns d (came link) (turn_of_kind (with_mon_client d.own) AsConnector (connector.turned_at (arrival_in (came link) d.own.mon_client stage) stage))

  -- generations are asked for on an open link to the monitor
  abbrev pub asked_on : Link DaemonStage → Secured → Requests → Outcome DaemonNode
  asked_on link s requests = fetches_on d reading draw (Some (link, (s, requests)))

  abbrev new_incoming : ℕ → Arrival Daemon DaemonStage
  new_incoming number = arrival (me d.own) d.own (new_link number (AsAcceptor AwaitsBanner)) reading draw

  -- a session ended, and its link with it, or all its links
  abbrev pub ended_with : ℕ → ℕ → Outcome DaemonNode
  ended_with number session = record { state = forgotten d number; out = record nothing { entries = ended_entry d session ∷ [] } }

  abbrev pub ended_there : ℕ → Outcome DaemonNode
  ended_there session = shut_where (λ link. is_in session link.stage) (record { state = d; out = record nothing { entries = ended_entry d session ∷ [] } })

  module _ (input : Input) (P : Outcome DaemonNode → Type 0) where
    -- what is due of each outcome, and what is known where it comes about
    pub record EachOfDaemon : Type 0 where
      pub idle : P (idles d)
      pub comes : (number : ℕ) (link : Link DaemonStage) (bytes : List ℕ) → link_of number d.links ≡ Some link → P (fed d bytes (Some link))
      pub hosting : (number : ℕ) (link : Link DaemonStage) (stage : IncomingStage) → input ≡ Turn number → link_of number d.links ≡ Some link → link.stage ≡ AsAcceptor stage
          → Always (λ (h : Hosted). P (hosts d (came link) h)) (incoming_rule link stage)
      pub asking : (number : ℕ) (link : Link DaemonStage) (stage : connector.Stage) → input ≡ Turn number → link_of number d.links ≡ Some link → link.stage ≡ AsConnector stage
          → P (own_turn link stage)
      pub full : (number : ℕ) → P (carried_out d number false (refuses (new_incoming number) LinksFull []))
      pub begins : (number : ℕ) → P (carried_out d number false (goes_on (new_incoming number) (AsAcceptor AwaitsBanner) own_banner []))
      pub begins_own : (number : ℕ) → P (opens_own (undialled d) reading draw number)
      pub reaches_none : (to : Peer) → P (unreached d to)
      pub leaves : (number : ℕ) → P (idles (forgotten d number))
      pub loses_own : (number : ℕ) (stage : connector.Stage) → P (loses d number stage)
      pub ends : (number session : ℕ) → P (ended_with number session)
      pub drops_all : (session : ℕ) → P (ended_there session)
      pub dials : P (fetches_on d reading draw None)
      pub fetches_there : (link : Link DaemonStage) (s : Secured) (requests : Requests) → first_open asking_open d.links ≡ Some (link, (s, requests))
          → P (asked_on link s requests)
      pub shown : (view : View) → input ≡ Look view → P (looks d view)
      pub restarts : P (restarted d)

    module _ (k : EachOfDaemon) where
      turn-keeps : (number : ℕ) → input ≡ Turn number → (found : Option (Link DaemonStage)) → link_of number d.links ≡ found
          → Always P (turn handlers d reading draw found)
      turn-keeps number at None is = k.idle
      turn-keeps number at (Some link) is = by_stage link.stage refl
        where
          by_stage : (stage : DaemonStage) → link.stage ≡ stage → Always P (turned_at handlers d (came link) stage)
          by_stage (AsAcceptor stage) of = always-map P (hosts d (came link)) (incoming_rule link stage) (k.hosting number link stage at is of)
          by_stage (AsConnector stage) of = k.asking number link stage at is of

      opens-keeps : (number : ℕ) (to : Option Peer) → P (opens d reading draw number to)
      opens-keeps number None = by_test (nat_le 1024 (length d.links))
        where
          by_test : (many : Bool) → P (carried_out d number false
              (if many then refuses (new_incoming number) LinksFull [] else goes_on (new_incoming number) (AsAcceptor AwaitsBanner) own_banner []))
          by_test true = k.full number
          by_test false = k.begins number
      opens-keeps number (Some peer.Monitor) = by_test d.own.dials
        where
          by_test : (waited : Bool) → P (if waited then opens_own (undialled d) reading draw number else idles d)
          by_test true = k.begins_own number
          by_test false = k.idle
      opens-keeps number (Some (peer.Daemon name)) = k.idle

      fed-keeps : (number : ℕ) (bytes : List ℕ) (found : Option (Link DaemonStage)) → link_of number d.links ≡ found → P (fed d bytes found)
      fed-keeps number bytes None is = k.idle
      fed-keeps number bytes (Some link) is = k.comes number link bytes is

      ended-keeps : (number session : ℕ) (r : BookReply) → Always P (lossy_gone d number session r)
      ended-keeps number session (reply.Ended true) = k.ends number session
      ended-keeps number session (reply.Ended false) = k.leaves number
      ended-keeps number session _ = k.idle

      incoming-gone-keeps : (number : ℕ) (stage : IncomingStage) → Always P (incoming_gone d number stage)
      incoming-gone-keeps number (Open s served) = by_test served.lossy
        where
          by_test : (lossy : Bool)
              → Always P (if lossy then Asking (End served.number) (lossy_gone d number served.number) else Finished (idles (forgotten d number)))
          by_test true = λ r. ended-keeps number served.number r
          by_test false = k.leaves number
      incoming-gone-keeps number _ = k.leaves number

      gone-keeps : (found : Option (Link DaemonStage)) → Always P (gone d found)
      gone-keeps None = k.idle
      gone-keeps (Some link) = by_kind link.stage
        where
          by_kind : (stage : DaemonStage) → Always P (gone_by_kind d link.number stage)
          by_kind (AsAcceptor stage) = incoming-gone-keeps link.number stage
          by_kind (AsConnector stage) = k.loses_own link.number stage

      fetches-keeps : P (fetches d reading draw)
      fetches-keeps = by_test (is_fetching d)
        where
          by_open : (found : Option (Link DaemonStage × (Secured × Requests))) → first_open asking_open d.links ≡ found → P (fetches_on d reading draw found)
          by_open None is = k.dials
          by_open (Some (link, (s, requests))) is = k.fetches_there link s requests is

          by_test : (under_way : Bool) → P (if under_way then idles d else fetches_on d reading draw (first_open asking_open d.links))
          by_test true = k.idle
          by_test false = by_open (first_open asking_open d.links) refl

      ticks-keeps : P (ticks d reading draw)
      ticks-keeps = by_test (is_outdated reading d.own.mon_client.view)
        where
          by_test : (outdated : Bool) → P (if outdated then fetches d reading draw else idles d)
          by_test true = fetches-keeps
          by_test false = k.idle

      dropped-keeps : (session : ℕ) (r : BookReply) → Always P (on_dropped d session r)
      dropped-keeps session (reply.Ended true) = k.drops_all session
      dropped-keeps session (reply.Ended false) = k.idle
      dropped-keeps session _ = k.idle

      submits-keeps : (said : Command) → Always P (submits d reading draw said)
      submits-keeps command.Fetch = fetches-keeps
      submits-keeps (command.Drop session) = λ r. dropped-keeps session r
      submits-keeps (command.Login services) = k.idle
      submits-keeps (command.Renew services) = k.idle
      submits-keeps (command.Connect name lossy) = k.idle
      submits-keeps (command.Send name operation) = k.idle

      by_input : (i : Input) → input ≡ i → Always P (daemon_rule handlers d i reading draw)
      by_input (Opened number to) is = opens-keeps number to
      by_input (NoLink to) is = k.reaches_none to
      by_input (Bytes number bytes) is = fed-keeps number bytes (link_of number d.links) refl
      by_input (Turn number) is = turn-keeps number is (link_of number d.links) refl
      by_input (Gone number) is = gone-keeps (link_of number d.links)
      by_input (Submit said) is = submits-keeps said
      by_input Tick is = ticks-keeps
      by_input (Look view) is = k.shown view is
      by_input Restart is = k.restarts

      -- what each outcome keeps, a step keeps, at any event
      pub rule-keeps : Always P (daemon_rule handlers d input reading draw)
      rule-keeps = by_input input refl

-- ---- outcomes but turns and fetches

-- a link that has just opened
abbrev pub IsNew : DaemonStage → Type 0
IsNew (AsAcceptor AwaitsBanner) = Unit {0}
IsNew (AsConnector (connector.AwaitsBanner asked)) = Unit {0}
IsNew _ = ⊥

-- a link is as one of these, but that something may have come on it
pub record WasAmong (links : List (Link DaemonStage)) (l : Link DaemonStage) : Type 0 where
  pub was : Link DaemonStage
  pub among : Contains links was
  pub number : was.number ≡ l.number
  pub sent : was.sent ≡ l.sent
  pub stage : was.stage ≡ l.stage
  pub taken : was.taken ≡ l.taken
  pub more : List ℕ
  pub received : l.received ≡ was.received ++ more

-- or nothing was taken on it, and it has just opened
abbrev pub IsRested : List (Link DaemonStage) → Link DaemonStage → Type 0
IsRested links l = (IsNew l.stage × (l.taken ≡ 0)) ⊎ WasAmong links l

abbrev pub AreRested : List (Link DaemonStage) → List (Link DaemonStage) → Type 0
AreRested links ls = AllByRecursion (IsRested links) ls

-- what is entered: a refusal of no ticket, that a session ended, or that the daemon began anew
abbrev pub RestEntry : Entry → Type 0
RestEntry (entry.Refused r) = IsNoTicket r.reason
RestEntry (entry.Ended x) = Unit {0}
RestEntry (entry.Restarted x) = Unit {0}
RestEntry _ = ⊥

-- nothing is sealed or saved, the daemon has its name and its secret, and its links are these, beside new ones
pub record IsRest (d : DaemonNode) (o : Outcome DaemonNode) : Type 0 where
  pub seals : o.out.seals ≡ []
  pub save : o.out.save ≡ None
  pub entries : AllByRecursion RestEntry o.out.entries
  pub name : o.state.own.mon_client.name ≡ d.own.mon_client.name
  pub secret : o.state.own.mon_client.secret ≡ d.own.mon_client.secret
  pub links : AreRested d.links o.state.links

module _ (links : List (Link DaemonStage)) where
  all-there : (xs ls : List (Link DaemonStage)) → ((l : Link DaemonStage) → Contains ls l → Contains xs l) → AllByRecursion (λ (l : Link DaemonStage). Contains xs l) ls
  all-there xs [] within = tt
  all-there xs (l ∷ ls) within = (
    within l (Contains-append_left (l ∷ []) ls l (Contains-push [] l)),
    all-there xs ls (λ x has. within x (Contains-append_right (l ∷ []) ls x has)),
  )

  same-rested : (l : Link DaemonStage) → Contains links l → WasAmong links l
  same-rested l has = record {
    was = l;
    among = has;
    number = refl;
    sent = refl;
    stage = refl;
    taken = refl;
    more = [];
    received = sym (append-nil l.received);
  }

  all-rested : (ls : List (Link DaemonStage)) → AllByRecursion (λ (l : Link DaemonStage). Contains links l) ls → AreRested links ls
  all-rested [] h = tt
  all-rested (l ∷ ls) h = (inr (same-rested l h.0), all-rested ls h.1)

  pub rested : AreRested links links
  rested = all-rested links (all-there links links (λ l has. has))

  some-rested : (test : Link DaemonStage → Bool) (ls : List (Link DaemonStage)) → AreRested links ls → AreRested links (filter test ls)
  some-rested test [] h = tt
  some-rested test (l ∷ ls) h = by_test (test l) (some-rested test ls h.1)
    where
      by_test : (t : Bool) → AreRested links (filter test ls) → AreRested links (if t then l ∷ filter test ls else filter test ls)
      by_test true rest = (h.0, rest)
      by_test false rest = rest

  both-rested : (ls more : List (Link DaemonStage)) → AreRested links ls → AreRested links more → AreRested links (ls ++ more)
  both-rested [] more h k = k
  both-rested (l ∷ ls) more h k = (h.0, both-rested ls more h.1 k)

  pub left-rested : (test : Link DaemonStage → Bool) → AreRested links (filter test links)
  left-rested test = some-rested test links rested

  -- with one more, or in the place of one
  put-rested : (link : Link DaemonStage) → IsRested links link → AreRested links (put_link link links)
  put-rested link is =
      both-rested (filter (λ l. nat_lt l.number link.number) links) _ (left-rested (λ l. nat_lt l.number link.number))
      (is, left-rested (λ l. nat_lt link.number l.number))

  fed-rested : (number : ℕ) (link : Link DaemonStage) (bytes : List ℕ) → link_of number links ≡ Some link
      → AreRested links (put_link (record link { received = link.received ++ bytes }) links)
  fed-rested number link bytes is =
      put-rested (record link { received = link.received ++ bytes })
      (inr (record {
        was = link;
        among = found links (all-there links links (λ l has. has)) is;
        number = refl;
        sent = refl;
        stage = refl;
        taken = refl;
        more = bytes;
        received = refl;
      }))
    where
      found : (ls : List (Link DaemonStage)) → AllByRecursion (λ (l : Link DaemonStage). Contains links l) ls → link_of number ls ≡ Some link → Contains links link
      found [] h there = absurd cc
      found (l ∷ ls) h there = by_test (l.number == number) there (found ls h.1)
        where
          by_test : (t : Bool) → (if t then Some l else link_of number ls) ≡ Some link → (link_of number ls ≡ Some link → Contains links link) → Contains links link
          by_test true e rest = let same : l ≡ link = cc in subst (λ (x : Link DaemonStage). Contains links x) same h.0
          by_test false e rest = rest e

-- what is so of each of them is so of those that rested, where it is so of new ones
pub rested-all : (P : ℕ → List ℕ → DaemonStage → Type 0) → ((number : ℕ) (sent : List ℕ) (stage : DaemonStage) → IsNew stage → P number sent stage)
    → (links ls : List (Link DaemonStage)) → AreRested links ls → ((l : Link DaemonStage) → Contains links l → P l.number l.sent l.stage)
    → AllByRecursion (λ (l : Link DaemonStage). P l.number l.sent l.stage) ls
rested-all P new links [] are h = tt
rested-all P new links (l ∷ ls) are h = (by_kind are.0, rested-all P new links ls are.1 h)
  where
    by_kind : IsRested links l → P l.number l.sent l.stage
    by_kind (inl is) = new l.number l.sent l.stage is.0
    by_kind (inr w) =
        subst (λ (n : ℕ). P n l.sent l.stage) w.number
        (subst (λ (b : List ℕ). P w.was.number b l.stage) w.sent (subst (λ (st : DaemonStage). P w.was.number w.was.sent st) w.stage (h w.was w.among)))

module _ (handlers : Handlers) (d : DaemonNode) (reading : ℕ) (draw : List ℕ) (input : Input) (P : Outcome DaemonNode → Type 0) where
  -- what rests keep, and turns and fetches, each outcome keeps; a rest has all of one that asks as it was, but where it is shown a view or begins anew
  pub record RestsAndTurns : Type 0 where
    pub rests : (o : Outcome DaemonNode) → IsRest d o → o.state.own.mon_client ≡ d.own.mon_client → P o
    pub shown : (view : View) → input ≡ Look view → IsRest d (looks d view) → P (looks d view)
    pub restarts : IsRest d (restarted d) → P (restarted d)
    pub hosting : (number : ℕ) (link : Link DaemonStage) (stage : IncomingStage) → input ≡ Turn number → link_of number d.links ≡ Some link → link.stage ≡ AsAcceptor stage
        → Always (λ (h : Hosted). P (hosts d (came handlers d reading draw link) h)) (incoming_rule handlers d reading draw link stage)
    pub asking : (number : ℕ) (link : Link DaemonStage) (stage : connector.Stage) → input ≡ Turn number → link_of number d.links ≡ Some link → link.stage ≡ AsConnector stage
        → P (own_turn handlers d reading draw link stage)
    pub fetches_there : (link : Link DaemonStage) (s : Secured) (requests : Requests) → first_open asking_open d.links ≡ Some (link, (s, requests))
        → P (asked_on handlers d reading draw link s requests)

  module _ (k : RestsAndTurns) where
    rest : (o : Outcome DaemonNode) → o.out.seals ≡ [] → o.out.save ≡ None → AllByRecursion RestEntry o.out.entries → o.state.own.mon_client ≡ d.own.mon_client
        → AreRested d.links o.state.links → P o
    rest o seals save entries own links =
        k.rests o (record {
          seals = seals;
          save = save;
          entries = entries;
          name = ap (λ (x : MonClient). x.name) own;
          secret = ap (λ (x : MonClient). x.secret) own;
          links = links;
        }) own

    pub each-rests : EachOfDaemon handlers d reading draw input P
    each-rests = record {
      idle = rest (idles d) refl refl tt refl (rested d.links);
      comes = λ number link bytes is. rest (fed d bytes (Some link)) refl refl tt refl (fed-rested d.links number link bytes is);
      hosting = k.hosting;
      asking = k.asking;
      full = λ number. rest (carried_out d number false (refuses (new_incoming handlers d reading draw number) LinksFull [])) refl refl (tt, tt) refl
          (left-rested d.links (λ l. not (l.number == number)));
      begins = λ number. rest (carried_out d number false (goes_on (new_incoming handlers d reading draw number) (AsAcceptor AwaitsBanner) own_banner [])) refl refl tt refl
          (put-rested d.links _ (inl (tt, refl)));
      begins_own = λ number. rest (opens_own (undialled d) reading draw number) refl refl tt refl (put-rested d.links _ (inl (tt, refl)));
      reaches_none = λ to. by_peer to;
      leaves = λ number. rest (idles (forgotten d number)) refl refl tt refl (left-rested d.links (λ l. not (l.number == number)));
      loses_own = λ number stage. rest (loses d number stage) refl refl (lost number (connector.is_open stage)) refl
          (left-rested d.links (λ l. not (l.number == number)));
      ends = λ number session. rest (ended_with handlers d reading draw number session) refl refl (tt, tt) refl
          (left-rested d.links (λ l. not (l.number == number)));
      drops_all = λ session. rest (ended_there handlers d reading draw session) refl refl (tt, tt) refl
          (left-rested d.links (λ l. not (is_in session l.stage)));
      dials = rest (fetches_on d reading draw None) refl refl tt refl (rested d.links);
      fetches_there = k.fetches_there;
      shown = λ view is. k.shown view is (record { seals = refl; save = refl; entries = tt; name = refl; secret = refl; links = rested d.links });
      restarts = k.restarts (record { seals = refl; save = refl; entries = (tt, tt); name = refl; secret = refl; links = tt });
    }
      where
        by_peer : (to : Peer) → P (unreached d to)
        by_peer peer.Monitor = rest (unreached d peer.Monitor) refl refl (tt, tt) refl (rested d.links)
        by_peer (peer.Daemon name) = rest (unreached d (peer.Daemon name)) refl refl (tt, tt) refl (rested d.links)

        lost : (number : ℕ) (is_open : Bool) → AllByRecursion RestEntry (if is_open then [] else refused_entry (me d.own) number Lost ∷ [])
        lost number true = tt
        lost number false = (tt, tt)

    pub rests-keep : Always P (daemon_rule handlers d input reading draw)
    rests-keep = rule-keeps handlers d reading draw input P each-rests

-- ---- by rows

-- a property of a step that an outcome has by its row, where links that are shut beside don't count
pub record ByRows (handlers : Handlers) (d : DaemonNode) (reading : ℕ) (draw : List ℕ) (P : Outcome DaemonNode → Type 0)
    (G : Link DaemonStage → IncomingStage → IncomingRow → Type 0) : Type 0 where
  pub idle : P (idles d)
  pub moves : (number session : ℕ) (o : Outcome DaemonNode) → P o → P (moved_to number (Some session) o)
  pub broken : (link : Link DaemonStage) (why : BytesFault) (opened : List SealEntry)
      → P (carried_out d link.number false (refuses_bytes (came handlers d reading draw link) why opened))
  pub rows : (link : Link DaemonStage) (stage : IncomingStage) (row : IncomingRow) → G link stage row
      → P (carried_out d link.number true (row_of_kind (with_mon_client d.own) AsAcceptor row))

module _ (handlers : Handlers) (d : DaemonNode) (reading : ℕ) (draw : List ℕ) (P : Outcome DaemonNode → Type 0)
    (G : Link DaemonStage → IncomingStage → IncomingRow → Type 0) (k : ByRows handlers d reading draw P G) where
  pub hosted-by-rows : (link : Link DaemonStage) (stage : IncomingStage) (hosted : Hosted) → EachRow (G link stage) hosted.turned
      → P (hosts d (came handlers d reading draw link) hosted)
  hosted-by-rows link stage hosted h = moved hosted.moved (by_turned hosted.turned h)
    where
      moved : (to : Option ℕ) → P (turns d (came handlers d reading draw link) (turn_of_kind (with_mon_client d.own) AsAcceptor hosted.turned))
          → P (moved_to link.number to (turns d (came handlers d reading draw link) (turn_of_kind (with_mon_client d.own) AsAcceptor hosted.turned)))
      moved None p = p
      moved (Some session) p = k.moves link.number session _ p

      by_turned : (turned : Turned MonClient IncomingStage) → EachRow (G link stage) turned
          → P (turns d (came handlers d reading draw link) (turn_of_kind (with_mon_client d.own) AsAcceptor turned))
      by_turned Waits g = k.idle
      by_turned (Refuses why opened) g = k.broken link why opened
      by_turned (Handles row) g = k.rows link stage row g
