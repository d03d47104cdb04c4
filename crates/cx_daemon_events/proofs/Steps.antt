-- What happens at an event, over plain values: each step is that of the rules, abridged, and the links are held behind it as before.
use Rattle.std.proofs.Common.{◌≡◌, ℕ, List, [], ◌∷◌, Result, Ok, Err, IfOk, refl, sym, ap}
use Rattle.cx_journal.specs.declared.outcomes.Reason.TheVariants.{NoLink}
use Rattle.cx_node.specs.cx_rules.specs.Links.{without_link}
use Rattle.cx_node.specs.cx_rules.specs.Rows.{idles, opens_none, refused_entry}
use Rattle.cx_verifying.specs.cx_rules_session.specs.DaemonRule.{Daemon, DaemonNode, me, unreached}
use Rattle.cx_verifying.specs.cx_rules_session.specs.Forgets.{abridged_daemon_link}
use Rattle.cx_verifying.specs.cx_rules_session.proofs.DaemonForgets.{daemon-forgets-links}
use Rattle.cx_steps.specs.Nothing.{nothing}
use Rattle.cx_steps.specs.declared.effects.Effects.{Effects}
use Rattle.cx_steps.specs.declared.events.Peer.{Peer}
use Rattle.cx_steps.specs.declared.events.Peer.TheVariants as peers
use Rattle.cx_node.specs.steps.Steps.{node_of}
use Rattle.cx_node.proofs.steps.Steps as steps
use Rattle.cx_daemon_events.specs.Kinds.{DaemonLink}
use Rattle.cx_daemon_events.specs.Machine.{AreHeld, IsStep}

pub without_held : (number : ℕ) (all links : List DaemonLink) → AreHeld all → links ≡ without_link number all → AreHeld links
without_held number all links h l = steps.without_held abridged_daemon_link daemon-forgets-links number all links h l

-- ---- nothing happens, or something is entered

pub idles_step : (own : Daemon) (all links : List DaemonLink) (given : Effects) → AreHeld all → links ≡ all → given ≡ nothing
    → IsStep (node_of own links) (idles (node_of own all)) given
idles_step own all links given h l g = steps.idles_step abridged_daemon_link daemon-forgets-links own all links given h l g

entered_step : (own : Daemon) (all : List DaemonLink) (given : Effects) → AreHeld all
    → given ≡ record nothing { entries = refused_entry (me own) 0 NoLink ∷ [] } → IsStep (node_of own all) (opens_none (node_of own all) (me own)) given
entered_step own all given h g = record { out = g; state = let tables : List DaemonLink → DaemonNode = λ ls. node_of own ls in ap tables (sym h.whole) }

-- that a link could not be opened is entered
pub unopened_step : {E : Type 0} (own new : Daemon) (all : List DaemonLink) (peer : Peer) (r : Result Effects E) → AreHeld all
    → node_of new all ≡ (unreached (node_of own all) peer).state
    → IfOk r (λ out. out ≡ record nothing { entries = refused_entry (me new) 0 NoLink ∷ [] })
    → IfOk r (IsStep (node_of new all) (unreached (node_of own all) peer))
unopened_step {E = E} own new all peer r h is g = by_result r (by_peer peer is) g
  where
    by_peer : (peer : Peer) → node_of new all ≡ (unreached (node_of own all) peer).state → unreached (node_of own all) peer ≡ opens_none (node_of new all) (me new)
    by_peer peers.Monitor is = let own_of : DaemonNode → Daemon = λ d. d.own in rw (ap own_of is) refl
    by_peer (peers.Daemon daemon) is = let own_of : DaemonNode → Daemon = λ d. d.own in rw (ap own_of is) refl

    by_result : (r : Result Effects E) → unreached (node_of own all) peer ≡ opens_none (node_of new all) (me new)
        → IfOk r (λ out. out ≡ record nothing { entries = refused_entry (me new) 0 NoLink ∷ [] }) → IfOk r (IsStep (node_of new all) (unreached (node_of own all) peer))
    by_result (Ok out) e g = rw e (entered_step new all out h g)
    by_result (Err x) e g = tt
