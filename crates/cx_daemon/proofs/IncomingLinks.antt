-- A turn of an incoming link that is settled is a step of the rules, abridged, with the book behind it.
use Rattle.std.proofs.Common.{◌≡◌, ◌∙◌, ℕ, List, Option, Some, None, refl, sym, ap, subst}
use Rattle.std.specs.Prelude.{not, filter}
use Rattle.cx_daemon_events.specs.cx_authorize.specs.Daemon.{Authority}
use Rattle.cx_desk.specs.Handlers.{Handlers}
use Rattle.cx_node.specs.cx_rules.specs.Abridged.{abridged_link}
use Rattle.cx_node.specs.cx_rules.specs.Holdings.{MonClient}
use Rattle.cx_node.specs.cx_rules.specs.Links.{link_of, without_link}
use Rattle.cx_node.specs.cx_rules.specs.Rows.{Outcome, arrival, turns}
use Rattle.cx_daemon_events.specs.cx_rules_session.specs.DaemonRule.{AsAcceptor, Daemon, DaemonNode, book_after, book_reply, hosts, me, moved_to, with_mon_client}
use Rattle.cx_daemon_events.specs.cx_rules_session.specs.Forgets.{abridged_daemon_link}
use Rattle.cx_daemon_events.specs.cx_rules_session.specs.Hosting.{Hosted, incoming_turned}
use Rattle.cx_daemon_events.specs.cx_rules_session.specs.Kinds.{of_kind, turn_of_kind}
use Rattle.cx_daemon_events.specs.cx_rules_session.proofs.DaemonForgets.{daemon-forgets-links}
use Rattle.cx_session.specs.Book.{Book}
use Rattle.cx_steps.specs.declared.effects.Effects.{Effects}
use Rattle.cx_node.specs.steps.Making.{own_behind}
use Rattle.cx_node.specs.steps.Steps.{IsTurn, node_of}
use Rattle.cx_node.specs.steps.Turns.{IsSettled}
use Rattle.cx_node.specs.declared.came.Came.{Came}
use Rattle.cx_node.specs.declared.moments.Moment.{Moment}
use Rattle.cx_node.proofs.steps.Turning.{settled}
use Rattle.cx_daemon_events.specs.cx_verifying.specs.Rows.{arrived, unchanged}
use Rattle.cx_daemon_events.specs.cx_verifying.specs.Stages.{IncomingLink}
use Rattle.cx_daemon_events.specs.Kinds.{DaemonLink, came_of_kind}
use Rattle.cx_daemon_events.specs.Machine.{AreHeld, IsStep}
use Rattle.cx_daemon_events.specs.Shutting.{is_shut_by}
use Rattle.cx_daemon_events.specs.Turns.{with_change}
use Rattle.cx_daemon_events.proofs.Moving.{left_held, shut_step}
use Rattle.cx_daemon_events.proofs.OfKinds.{incoming_follows, turn_lifts}
use Rattle.cx_daemon_events.proofs.Shutting.{left_picked}
use Rattle.cx_daemon_session.specs.turn.Hosting.{IsHosted, behind_call, hosted_by}
use Rattle.cx_daemon.specs.Moving.{IsShutBehind}
use Rattle.cx_daemon.specs.Turned.{IsLinkTurned}
use Rattle.cx_daemon_session.proofs.turn.Booking.{with_book_map}
use Rattle.cx_daemon.proofs.Settled.{settled_left}
use Rattle.cx_daemon_session.specs.declared.hosting.HostedTurn.{HostedTurn}
use Rattle.cx_node.specs.steps.Turns.{HasNumber}
use Rattle.cx_daemon_events.specs.cx_monclient.specs.declared.rows.Change.{Change}

-- a client's row changes nothing of the daemon's own
abbrev pub nothing_of : Option (Unit {0}) → Option Change
nothing_of change = None

nothing_changed : (own : Daemon) (change : Option (Unit {0})) → with_mon_client own (own_behind unchanged own.mon_client change) ≡ own_behind with_change own (nothing_of change)
nothing_changed own None = refl
nothing_changed own (Some change) = refl

module _ (handlers : Handlers) (at : Moment) (link : IncomingLink) (own new : Daemon) (all settled_links links : List DaemonLink) (old behind : Book Authority) where
  abbrev taken : DaemonLink
  taken = of_kind AsAcceptor link

  -- what the turn comes to on all links, whatever session moves
  abbrev due_of : Hosted → Outcome DaemonNode
  due_of hosted = turns (node_of own all) (arrival (me own) own taken at.reading at.draw.now.bytes) (turn_of_kind (with_mon_client own) AsAcceptor hosted.turned)

  first_step : (hosted : Hosted) (came : Came IncomingLink (Unit {0})) (first : Effects) → IsTurn abridged_link unchanged own.mon_client link hosted.turned came
      → link.number ≡ at.number → AreHeld all → link_of at.number all ≡ Some taken
      → IsSettled (λ (l : DaemonLink). l.number) with_change (me own) at.number (came_of_kind AsAcceptor nothing_of came)
      (record { own = own; links = all }) (record { own = new; links = settled_links }) first
      → IsStep (node_of new settled_links) (due_of hosted) first × AreHeld settled_links
  first_step hosted came first t n h found s =
      let lifted = turn_lifts (with_mon_client own) AsAcceptor abridged_link incoming_follows unchanged with_change nothing_of own.mon_client (nothing_changed own) link hosted.turned came t in
      settled abridged_daemon_link daemon-forgets-links with_change (me own) at.reading at.draw.now.bytes own new at.number taken all settled_links first
      (turn_of_kind (with_mon_client own) AsAcceptor hosted.turned) (came_of_kind AsAcceptor nothing_of came) lifted n h found s

  moved_step : (moved : Option ℕ) (due : Outcome DaemonNode) (first given : Effects) → IsStep (node_of new settled_links) due first → AreHeld settled_links
      → IsShutBehind at.number moved settled_links links first given → IsStep (node_of new links) (moved_to at.number moved due) given × AreHeld links
  moved_step None due first given s h m =
      let P : List DaemonLink → Effects → Type 0 = λ ls out. IsStep (node_of new ls) due out × AreHeld ls in
      subst (λ ls. P ls given) (sym m.0) (subst (P settled_links) (sym m.1) (s, h))
  moved_step (Some session) due first given s h m =
      let left : links ≡ filter (λ l. not (is_shut_by session (Some at.number) l)) settled_links =
      m.0 ∙ left_picked (is_shut_by session (Some at.number)) 0 settled_links h.rising in
      (shut_step session (Some at.number) new settled_links links due first given s left m.1, left_held session (Some at.number) settled_links links h left)

  pub incoming_step : (came : Came IncomingLink (Unit {0})) (moved hosted_moved : Option ℕ) (first given : Effects) (hosted : Hosted) → IsTurn abridged_link unchanged own.mon_client link hosted.turned came
      → moved ≡ hosted.moved → link.number ≡ at.number → AreHeld all → link_of at.number all ≡ Some taken
      → IsSettled (λ (l : DaemonLink). l.number) with_change (me own) at.number (came_of_kind AsAcceptor nothing_of came)
      (record { own = own; links = all }) (record { own = new; links = settled_links }) first
      → IsShutBehind at.number moved settled_links links first given
      → IsStep (node_of new links) (hosts (node_of own all) (arrival (me own) own taken at.reading at.draw.now.bytes) hosted) given × AreHeld links
  incoming_step came moved hosted_moved first given hosted t m n h found s shut =
      let one = first_step hosted came first t n h found s in
      let two = moved_step moved (due_of hosted) first given one.0 one.1 shut in
      let P : Option ℕ → Type 0 = λ o. IsStep (node_of new links) (moved_to at.number o (due_of hosted)) given in
      let Q : ℕ → Type 0 = λ k. IsStep (node_of new links) (moved_to k hosted.moved (due_of hosted)) given in
      (subst Q (sym n) (subst P m two.0), two.1)

  pub incoming_turned_by : (came : Came IncomingLink (Unit {0})) (moved : Option ℕ) (first given : Effects)
      → IsTurn abridged_link unchanged own.mon_client link (hosted_by handlers own.mon_client at link old).0.turned came
      → moved ≡ (hosted_by handlers own.mon_client at link old).0.moved → behind ≡ (hosted_by handlers own.mon_client at link old).1
      → link.number ≡ at.number → AreHeld all → link_of at.number all ≡ Some taken
      → IsSettled (λ (l : DaemonLink). l.number) with_change (me own) at.number (came_of_kind AsAcceptor nothing_of came)
      (record { own = own; links = all }) (record { own = new; links = settled_links }) first
      → IsShutBehind at.number moved settled_links links first given
      → IsLinkTurned handlers at taken own new all links old behind given
  incoming_turned_by came moved first given t m b n h found s shut =
      let a = arrival (me own) own taken at.reading at.draw.now.bytes in
      let done = incoming_step came moved moved first given (hosted_by handlers own.mon_client at link old).0 t m n h found s shut in
      let both = with_book_map book_reply book_after (hosts (node_of own all) a) old (incoming_turned handlers (arrived own.mon_client at link) link.stage) in
      let P : Outcome DaemonNode × Book Authority → Type 0 = λ x. IsStep (node_of new links) x.0 given × (behind ≡ x.1) in
      record { step = subst P (sym both) (done.0, b); held = done.1 }

-- as it is answered

module _ (handlers : Handlers) (at : Moment) (link : IncomingLink) (own new : Daemon) (mon_client : MonClient) (all settled_links : List DaemonLink) (old : Book Authority) (hosted : HostedTurn)
    (turned : Came DaemonLink Change) (first : Effects) (a : mon_client ≡ own.mon_client) (hosted_is : IsHosted handlers mon_client at link old hosted)
    (turned_is : turned ≡ came_of_kind AsAcceptor nothing_of hosted.came) (n : link.number ≡ at.number) (h : AreHeld all)
    (s : IsSettled (λ (l : DaemonLink). l.number) with_change (me own) at.number turned (record { own = own; links = all }) (record { own = new; links = settled_links }) first) where
  abbrev DoneTo : Came DaemonLink Change → Type 0
  DoneTo come = IsSettled (λ (l : DaemonLink). l.number) with_change (me own) at.number come (record { own = own; links = all }) (record { own = new; links = settled_links }) first

  done : DoneTo (came_of_kind AsAcceptor nothing_of hosted.came)
  done = subst DoneTo turned_is s

  is : IsHosted handlers own.mon_client at link old hosted
  is = subst (λ (x : MonClient). IsHosted handlers x at link old hosted) a hosted_is

  pub incoming_left : without_link at.number settled_links ≡ without_link at.number all
  incoming_left =
      let lifted = turn_lifts (with_mon_client own) AsAcceptor abridged_link incoming_follows unchanged with_change nothing_of own.mon_client (nothing_changed own) link
      (hosted_by handlers own.mon_client at link old).0.turned hosted.came is.come in
      let numbered = subst (λ (k : ℕ). HasNumber (λ (l : DaemonLink). l.number) k (came_of_kind AsAcceptor nothing_of hosted.came)) n lifted.number_is in
      settled_left own new (me own) at.number all settled_links first (came_of_kind AsAcceptor nothing_of hosted.came) numbered h done

  pub incoming_answer : (links : List DaemonLink) (seen behind : Book Authority) (given : Effects) → seen ≡ old → behind ≡ behind_call seen hosted.call
      → link_of at.number all ≡ Some (of_kind AsAcceptor link) → IsShutBehind at.number hosted.moved settled_links links first given
      → IsLinkTurned handlers at (of_kind AsAcceptor link) own new all links old behind given
  incoming_answer links seen behind given same b found shut =
      let called : Book Authority → Book Authority = λ x. behind_call x hosted.call in
      incoming_turned_by handlers at link own new all settled_links links old behind hosted.came hosted.moved first given is.come is.moved
      (b ∙ ap called same ∙ is.book_behind) n h found done shut
