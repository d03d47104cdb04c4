-- What a part of a node hands on, the node carries on: of a client's links to the monitor and to daemons, and of a daemon's link to the monitor.
use Rattle.std.proofs.Common.{◌≡◌, ℕ, true, List, Option, Some, ap, sym, subst, ◌∙◌}
use Rattle.std.specs.Option.{option_map}
use Rattle.cx_base.specs.Names.{Name}
use Rattle.cx_rules_session.specs.cx_desk.specs.Handlers.{Handlers}
use Rattle.cx_rules_session.specs.cx_journal.specs.declared.entries.Entry.{Entry}
use Rattle.cx_rules.specs.Carrying.{CarriesOn, HandsOn}
use Rattle.cx_rules.specs.Connector as connector
use Rattle.cx_rules.specs.Holdings.{MonClient}
use Rattle.cx_rules.specs.Inputs.{Turn}
use Rattle.cx_rules.specs.Links.{Link, link_of}
use Rattle.cx_rules.specs.Rows.{Outcome, Row, Turned, arrival, carried_out, turns}
use Rattle.cx_rules.proofs.Carrying.{carried-on}
use Rattle.cx_rules_session.specs.Asks as asks
use Rattle.cx_rules_session.specs.ClientRule as client
use Rattle.cx_rules_session.specs.ClientRule.{ClientStage, ToDaemon, ToMonitor, WholeClient, WholeClientNode, caller_to, whole_client_rule, with_caller, with_mon_client}
use Rattle.cx_rules_session.specs.DaemonRule as daemon
use Rattle.cx_rules_session.specs.DaemonRule.{AsConnector, Daemon, DaemonStage, DaemonState, daemon_step}
use Rattle.cx_rules_session.specs.Kinds.{of_kind, row_of_kind, turn_of_kind}
use Rattle.cx_rules_session.specs.Presenter.{CallStage, Caller, callee_of}
use Rattle.cx_rules_session.specs.Presenter as call

-- ---- a client's link to the monitor

pub to-monitor : (c : WholeClientNode) (reading : ℕ) (draw : List ℕ) (link behind : Link connector.Stage) (before stage : connector.Stage) (own : MonClient) (bytes : List ℕ) (entries : List Entry)
    → link_of link.number c.links ≡ Some (of_kind ToMonitor (record link { stage = before })) → behind.number ≡ link.number
    → HandsOn own behind stage bytes entries (connector.turned_at (arrival (client.me c.own) c.own.mon_client (record link { stage = before }) reading draw) before)
    → CarriesOn c.links (of_kind ToMonitor behind) (ToMonitor stage) bytes entries (whole_client_rule c (Turn link.number) reading draw)
    × ((whole_client_rule c (Turn link.number) reading draw).state.own ≡ with_mon_client c.own own)
to-monitor c reading draw link behind before stage own bytes entries found same h =
    let P : Outcome WholeClientNode → Type 0 = λ o. CarriesOn c.links (of_kind ToMonitor behind) (ToMonitor stage) bytes entries o × (o.state.own ≡ with_mon_client c.own own) in
    let row : Row WholeClient ClientStage = row_of_kind (with_mon_client c.own) ToMonitor h.row in
    let a = arrival (client.me c.own) c.own (of_kind ToMonitor (record link { stage = before })) reading draw in
    let is : whole_client_rule c (Turn link.number) reading draw ≡ carried_out c link.number true row =
    ap (client.turn c reading draw) found ∙ ap (λ (t : Turned MonClient connector.Stage). turns c a (turn_of_kind (with_mon_client c.own) ToMonitor t)) h.handles in
    subst P (sym is) (
      carried-on c link.number (of_kind ToMonitor behind) (ToMonitor stage) bytes entries row same
          (ap (λ (l : Option (Link connector.Stage)). option_map (of_kind ToMonitor) l) h.link) h.sends h.entered,
      ap (with_mon_client c.own) h.own_is,
    )

-- ---- a client's link to a daemon

pub to-daemon : (c : WholeClientNode) (reading : ℕ) (draw : List ℕ) (link behind : Link CallStage) (before stage : CallStage) (own : Caller) (bytes : List ℕ) (entries : List Entry)
    → link_of link.number c.links ≡ Some (of_kind ToDaemon (record link { stage = before })) → behind.number ≡ link.number
    → HandsOn own behind stage bytes entries
    (call.turned_at (arrival (client.me c.own) (caller_to (callee_of before).daemon c.own) (record link { stage = before }) reading draw) before)
    → CarriesOn c.links (of_kind ToDaemon behind) (ToDaemon stage) bytes entries (whole_client_rule c (Turn link.number) reading draw)
    × ((whole_client_rule c (Turn link.number) reading draw).state.own ≡ with_caller (callee_of before).daemon c.own own)
to-daemon c reading draw link behind before stage own bytes entries found same h =
    let name : Name = (callee_of before).daemon in
    let P : Outcome WholeClientNode → Type 0 = λ o. CarriesOn c.links (of_kind ToDaemon behind) (ToDaemon stage) bytes entries o × (o.state.own ≡ with_caller name c.own own) in
    let row : Row WholeClient ClientStage = row_of_kind (with_caller name c.own) ToDaemon h.row in
    let a = arrival (client.me c.own) c.own (of_kind ToDaemon (record link { stage = before })) reading draw in
    let is : whole_client_rule c (Turn link.number) reading draw ≡ carried_out c link.number true row =
    ap (client.turn c reading draw) found ∙ ap (λ (t : Turned Caller CallStage). turns c a (turn_of_kind (with_caller name c.own) ToDaemon t)) h.handles in
    subst P (sym is) (
      carried-on c link.number (of_kind ToDaemon behind) (ToDaemon stage) bytes entries row same
          (ap (λ (l : Option (Link CallStage)). option_map (of_kind ToDaemon) l) h.link) h.sends h.entered,
      ap (with_caller name c.own) h.own_is,
    )

-- ---- a daemon's link to the monitor

pub as-connector : (handlers : Handlers) (d : DaemonState) (reading : ℕ) (draw : List ℕ) (link behind : Link connector.Stage) (before stage : connector.Stage) (own : MonClient) (bytes : List ℕ)
    (entries : List Entry) → link_of link.number d.node.links ≡ Some (of_kind AsConnector (record link { stage = before })) → behind.number ≡ link.number
    → HandsOn own behind stage bytes entries (connector.turned_at (arrival (daemon.me d.node.own) d.node.own.mon_client (record link { stage = before }) reading draw) before)
    → CarriesOn d.node.links (of_kind AsConnector behind) (AsConnector stage) bytes entries
    (record { state = (daemon_step handlers d (Turn link.number) reading draw).state.node; out = (daemon_step handlers d (Turn link.number) reading draw).out })
    × ((daemon_step handlers d (Turn link.number) reading draw).state ≡ record {
      node = record (daemon_step handlers d (Turn link.number) reading draw).state.node { own = daemon.with_mon_client d.node.own own };
      book = d.book;
    })
as-connector handlers d reading draw link behind before stage own bytes entries found same h =
    let node = d.node in
    let P : Outcome DaemonState → Type 0 = λ o.
    CarriesOn node.links (of_kind AsConnector behind) (AsConnector stage) bytes entries (record { state = o.state.node; out = o.out })
    × (o.state ≡ record { node = record o.state.node { own = daemon.with_mon_client node.own own }; book = d.book }) in
    let row : Row Daemon DaemonStage = row_of_kind (daemon.with_mon_client node.own) AsConnector h.row in
    let a = arrival (daemon.me node.own) node.own (of_kind AsConnector (record link { stage = before })) reading draw in
    let last : Outcome DaemonState = record { state = record { node = (carried_out node link.number true row).state; book = d.book }; out = (carried_out node link.number true row).out } in
    let by_link : Option (Link DaemonStage) → Outcome DaemonState = λ l.
    daemon.state_behind (Turn link.number) (asks.with_book daemon.book_reply daemon.book_after d.book (daemon.turn handlers node reading draw l)) in
    let by_turned : Turned MonClient connector.Stage → Outcome DaemonState = λ t.
    daemon.state_behind (Turn link.number)
    (asks.with_book daemon.book_reply daemon.book_after d.book (asks.Finished (turns node a (turn_of_kind (daemon.with_mon_client node.own) AsConnector t)))) in
    let is : daemon_step handlers d (Turn link.number) reading draw ≡ last = ap by_link found ∙ ap by_turned h.handles in
    subst P (sym is) (
      carried-on node link.number (of_kind AsConnector behind) (AsConnector stage) bytes entries row same
          (ap (λ (l : Option (Link connector.Stage)). option_map (of_kind AsConnector) l) h.link) h.sends h.entered,
      ap (λ (m : MonClient). record { node = record (carried_out node link.number true row).state { own = daemon.with_mon_client node.own m }; book = d.book }) h.own_is,
    )
