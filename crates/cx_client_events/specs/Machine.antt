-- The client as its machine holds it.
use Rattle.std.specs.Prelude.{ℕ, ◌==◌, ◌-◌, ◌^◌, List, [], Option, Some, None, Result, Ok, Err, if◌then◌else◌}
use Rattle.cx_journal.specs.declared.outcomes.Reason.{Reason}
use Rattle.cx_journal.specs.declared.outcomes.Reason.TheVariants as reason
use Rattle.cx_node.specs.cx_login.specs.Held.{Held}
use Rattle.cx_node.specs.cx_rules.specs.Connector as connector
use Rattle.cx_node.specs.cx_rules.specs.Greetings.{own_banner}
use Rattle.cx_node.specs.cx_rules.specs.Inputs.{Input, Opened, NoLink}
use Rattle.cx_node.specs.cx_rules.specs.Links.{Link}
use Rattle.cx_node.specs.cx_rules.specs.Requests.{Requests, asks_tickets}
use Rattle.cx_node.specs.cx_rules.specs.Rows.{Outcome, Row, arrival, goes_on, lifted, new_link}
use Rattle.cx_node.specs.cx_rules.specs.Secured.{Secured}
use Rattle.cx_client_events.specs.cx_rules_session.specs.ClientRule.{ClientStage, Dial, ToMonitor, WholeClient, WholeClientNode, first_stage, me, open_to_ask, undialled, with_mon_client}
use Rattle.cx_client_events.specs.cx_rules_session.specs.Forgets.{abridged_client_link}
use Rattle.cx_client_events.specs.cx_rules_session.specs.Kinds.{of_kind}
use Rattle.cx_client_events.specs.cx_rules_session.specs.Sessions.{Called, Callee, held_gid}
use Rattle.cx_steps.specs.declared.effects.Effects.{Effects}
use Rattle.cx_node.specs.steps.Events.{link_in}
use Rattle.cx_node.specs.steps.Steps as steps
use Rattle.cx_node.specs.steps.Steps.{without_lost}
use Rattle.cx_client_events.specs.linking.Kinds.{ClientLink}

abbrev pub ClientRow : Type 0
ClientRow = Row WholeClient ClientStage

-- what a client has, and for how many more sessions memory stands ready; nothing depends on it but that one can be opened
pub record KeptClient : Type 0 where
  pub client : WholeClient
  pub room : ℕ

-- how a client holds its links
abbrev pub AreHeld : List ClientLink → Type 0
AreHeld links = steps.AreHeld abridged_client_link links

-- a link isn't waited for any more at the event that tells of one, whatever comes of it
abbrev pub undialled_at : Input → WholeClientNode → WholeClientNode
undialled_at (Opened number (Some peer)) c = undialled c peer
undialled_at (NoLink peer) c = undialled c peer
undialled_at _ c = c

-- where memory is wanting, the event's link is forgotten, a link that was waited for is given up at the event that tells of one, and nothing else
-- happens
abbrev pub lost : WholeClientNode → Input → WholeClientNode
lost c input = without_lost (link_in input) (undialled_at input c)

-- what a step gave, and the client behind it, are those of the rules, abridged
abbrev pub IsStep : WholeClientNode → Outcome WholeClientNode → Effects → Type 0
IsStep c due given = steps.IsStep abridged_client_link c due given

-- ---- a link opens

-- the banner is sent on a link of this number, which was waited for
abbrev pub banner_sent : WholeClient → ℕ → ℕ → List ℕ → Dial → ClientRow
banner_sent own number reading draw dial = goes_on (arrival (me own) own (new_link number (first_stage dial)) reading draw) (first_stage dial) own_banner []

-- ---- Renew, Connect

-- tickets are asked for on a link that is open, and keeps this
abbrev pub tickets_asked : WholeClient → ℕ → List ℕ → ℕ → Link connector.Stage → Secured → Requests → ClientRow
tickets_asked own reading draw services link s requests =
    lifted (with_mon_client own) (asks_tickets open_to_ask (arrival (me own) own.mon_client (of_kind ToMonitor link) reading draw) s requests services)

-- a daemon as it is called with the ticket that is held for its service, if one is, or why it can't be
abbrev pub called_with : WholeClient → Callee → Option Held → Result Called Reason
called_with own callee None = Err (reason.NoTicket callee.daemon.kind)
called_with own callee (Some held) =
    if own.mon_client.global_seq == 2 ^ 64 - 1 then Err reason.Spent else Ok (record { callee = callee; held = held; gid = held_gid own.mon_client.holdings })
