-- A turn of a link of either kind came to what is due.
use Rattle.std.proofs.Common.{◌≡◌, ◌∙◌, ℕ, Option, Some, None, refl, sym, ap, subst}
use Rattle.std.specs.Option.{option_map}
use Rattle.cx_base.specs.Names.{Name}
use Rattle.cx_client_events.specs.cx_monclient.specs.connector.Rows as monitor
use Rattle.cx_client_events.specs.cx_monclient.specs.declared.rows.Change.{Change as MonitorChange}
use Rattle.cx_client_events.specs.cx_node.specs.kinds.Made.{came_of_kind}
use Rattle.cx_client_events.specs.cx_node.proofs.kinds.OfKinds.{turn_lifts}
use Rattle.cx_client_session.specs.cx_client_connect.specs.presenting.Rows as calls
use Rattle.cx_client_session.specs.cx_client_connect.specs.presenting.Stages.{CallLink}
use Rattle.cx_client_session.specs.cx_client_connect.specs.declared.rows.Change.{Change as DaemonChange}
use Rattle.cx_node.specs.cx_rules.specs.Abridged.{abridged_mon_client_link}
use Rattle.cx_node.specs.cx_rules.specs.Connector as connector
use Rattle.cx_node.specs.cx_rules.specs.Holdings.{MonClient}
use Rattle.cx_node.specs.cx_rules.specs.Links.{Link}
use Rattle.cx_node.specs.cx_rules.specs.Rows.{Turned}
use Rattle.cx_client_session.specs.cx_rules_session.specs.ClientRule.{ClientStage, ToDaemon, ToMonitor, WholeClient, caller_to, with_mon_client, with_caller}
use Rattle.cx_client_session.specs.cx_rules_session.specs.Forgets.{abridged_call_link, abridged_client_link}
use Rattle.cx_client_session.specs.cx_rules_session.specs.Kinds.{of_kind, turn_of_kind}
use Rattle.cx_client_session.specs.cx_rules_session.specs.Presenter as call
use Rattle.cx_client_session.specs.cx_rules_session.specs.Presenter.{Caller}
use Rattle.cx_client_session.specs.cx_rules_session.specs.Sessions.{HeldSession, session_with}
use Rattle.cx_node.specs.steps.Making.{own_behind}
use Rattle.cx_node.specs.steps.Steps.{IsTurn}
use Rattle.cx_node.specs.steps.Turns.{HasNumber}
use Rattle.cx_node.specs.declared.came.Came.{Came}
use Rattle.cx_node.specs.declared.moments.Moment.{Moment}
use Rattle.cx_client_events.specs.linking.Kinds.{ClientLink}
use Rattle.cx_client_events.specs.declared.kinds.Change.{Change}
use Rattle.cx_client_events.specs.declared.kinds.Change.TheVariants.{Asked, Called}
use Rattle.cx_client_events.proofs.linking.OfKinds.{daemon_follows, monitor_follows}
use Rattle.cx_client_events.specs.Turns.{IsClientTurn, with_change}
use Rattle.cx_client_events.proofs.Kept.{caller_kept}

-- ---- a link to the monitor

monitor_change : (own : WholeClient) (change : Option MonitorChange)
    → with_mon_client own (own_behind monitor.changed own.mon_client change) ≡ own_behind with_change own (option_map Asked change)
monitor_change own None = refl
monitor_change own (Some change) = refl

pub monitor_come : (own : WholeClient) (at : Moment) (link : Link connector.Stage) (come : Came (Link connector.Stage) MonitorChange) → monitor.IsMonClientTurn own.mon_client at link come
    → IsClientTurn own at.reading at.draw.now.bytes (of_kind ToMonitor link) (came_of_kind ToMonitor (option_map Asked) come)
monitor_come own at link come t =
    turn_lifts (with_mon_client own) ToMonitor abridged_mon_client_link abridged_client_link monitor_follows monitor.changed with_change (option_map Asked) own.mon_client (monitor_change own) link
    (connector.turned_at (monitor.arrived own.mon_client at link) link.stage) come t

pub monitor_number : (own : WholeClient) (at : Moment) (link : Link connector.Stage) (come : Came (Link connector.Stage) MonitorChange) → link.number ≡ at.number
    → monitor.IsMonClientTurn own.mon_client at link come → HasNumber (λ (l : ClientLink). l.number) at.number (came_of_kind ToMonitor (option_map Asked) come)
monitor_number own at link come e t =
    subst (λ (n : ℕ). HasNumber (λ (l : ClientLink). l.number) n (came_of_kind ToMonitor (option_map Asked) come)) e (monitor_come own at link come t).number_is

-- ---- a link to a daemon

module _ (own : WholeClient) (name : Name) where
  abbrev changes : Option DaemonChange → Option Change
  changes change = option_map (Called name) change

  daemon_change : (change : Option DaemonChange)
      → with_caller name own (own_behind calls.changed (caller_to name own) change) ≡ own_behind with_change (with_caller name own (caller_to name own)) (changes change)
  daemon_change None = refl
  daemon_change (Some change) =
      let changed : WholeClient → WholeClient = λ o. with_caller name o (calls.changed (caller_to name o) change) in
      sym (ap changed (caller_kept name own))

  module _ (at : Moment) (link : CallLink) (come : Came CallLink DaemonChange) where
    -- what is due of it, by the part that it would read and change as a link to this daemon
    abbrev due_to : Name → Turned WholeClient ClientStage
    due_to daemon = turn_of_kind (with_caller daemon own) ToDaemon (call.turned_at (calls.arrived (caller_to daemon own) at link) link.stage)

    lifted : calls.IsCallTurn (caller_to name own) at link come
        → IsTurn abridged_client_link with_change own (of_kind ToDaemon link) (due_to name) (came_of_kind ToDaemon changes come)
    lifted t =
        let whole = turn_lifts (with_caller name own) ToDaemon abridged_call_link abridged_client_link daemon_follows calls.changed with_change changes (caller_to name own)
        daemon_change link (call.turned_at (calls.arrived (caller_to name own) at link) link.stage) come t in
        let IsSo : WholeClient → Type 0 = λ o. IsTurn abridged_client_link with_change o (of_kind ToDaemon link) (due_to name) (came_of_kind ToDaemon changes come) in
        subst IsSo (caller_kept name own) whole

    pub daemon_come : (mon_client : MonClient) (session : Option HeldSession) → name ≡ (call.callee_of link.stage).daemon → mon_client ≡ own.mon_client → session ≡ session_with name own.sessions
        → calls.IsCallTurn (calls.caller mon_client session) at link come
        → IsClientTurn own at.reading at.draw.now.bytes (of_kind ToDaemon link) (came_of_kind ToDaemon changes come)
    daemon_come mon_client session n a s t =
        let asks : MonClient → Caller = λ x. calls.caller x session in
        let has : Option HeldSession → Caller = λ o. calls.caller own.mon_client o in
        let IsCome : Caller → Type 0 = λ c. calls.IsCallTurn c at link come in
        let IsSo : Name → Type 0 = λ d. IsTurn abridged_client_link with_change own (of_kind ToDaemon link) (due_to d) (came_of_kind ToDaemon changes come) in
        subst IsSo n (lifted (subst IsCome (ap asks a ∙ ap has s) t))

    pub daemon_number : (mon_client : MonClient) (session : Option HeldSession) → link.number ≡ at.number → name ≡ (call.callee_of link.stage).daemon → mon_client ≡ own.mon_client
        → session ≡ session_with name own.sessions → calls.IsCallTurn (calls.caller mon_client session) at link come
        → HasNumber (λ (l : ClientLink). l.number) at.number (came_of_kind ToDaemon changes come)
    daemon_number mon_client session e n a s t =
        subst (λ (k : ℕ). HasNumber (λ (l : ClientLink). l.number) k (came_of_kind ToDaemon changes come)) e (daemon_come mon_client session n a s t).number_is
