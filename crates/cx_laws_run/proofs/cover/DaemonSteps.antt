-- Each outcome of a daemon's step keeps what is known of links to the monitor, and of its own links: whatever its book replies.
use Rattle.std.proofs.Common.{◌≡◌, ◌==◌, ℕ, List, Some, subst}
use Rattle.cx_base.specs.Names.{Name}
use Rattle.cx_base.specs.declared.nodes.NodeName.{NodeName}
use Rattle.cx_base.specs.declared.nodes.NodeName.TheVariants as node
use Rattle.cx_desk.specs.Handlers.{Handlers}
use Rattle.cx_journal.specs.declared.entries.Entry.{Entry}
use Rattle.cx_laws_run.proofs.cover.DaemonIncomingLinks.{incoming-turn}
use Rattle.cx_laws_run.proofs.cover.DaemonOwn.{asks-keeps, own-turn}
use Rattle.cx_laws_run.proofs.cover.DaemonQuiet.{rests}
use Rattle.cx_laws_run.proofs.cover.DaemonReady.{DaemonReady, Keeps}
use Rattle.cx_laws_run.proofs.cover.State.{DaemonStageHas}
use Rattle.cx_laws_run.specs.cx_laws_tickets.proofs.authorize.DaemonRows.{DaemonStageOk, daemon_stage-grows}
use Rattle.cx_laws_run.specs.cx_laws_tickets.proofs.fetch.AllTold.{WasAsked, WasDrawn}
use Rattle.cx_laws_run.specs.cx_laws_tickets.proofs.fetch.AskedKnown.{Told}
use Rattle.cx_laws_run.specs.cx_laws_tickets.proofs.fetch.DaemonTells.{DaemonLinkTold, DaemonStageTold}
use Rattle.cx_laws_run.specs.cx_laws_tickets.proofs.fetch.PointEvents.{events_of}
use Rattle.cx_laws_run.specs.cx_laws_tickets.proofs.fetch.Retied.{Handed, means-retied, retied}
use Rattle.cx_laws_run.specs.cx_laws_keys.proofs.keys.Lists.{found_all}
use Rattle.cx_laws_run.specs.cx_laws_keys.proofs.keys.Uses.{Secret, Uses, WholeRun}
use Rattle.cx_laws_run.specs.cx_rules.specs.Connector as connector
use Rattle.cx_laws_run.specs.cx_rules.specs.Inputs.{Input}
use Rattle.cx_laws_run.specs.cx_rules.specs.Links.{Link, link_of}
use Rattle.cx_laws_run.specs.cx_rules.specs.Rows.{Outcome, arrival, Arrival, turns}
use Rattle.cx_laws_run.specs.cx_rules_session.specs.DaemonRule.{AsAcceptor, AsConnector, DaemonNode, DaemonStage, daemon_rule, me, Daemon, with_mon_client, hosts, looks, restarted}
use Rattle.cx_laws_run.specs.cx_rules_session.specs.IncomingLinks.{IncomingStage}
use Rattle.cx_laws_run.specs.cx_rules_session.specs.Hosting.{Hosted}
use Rattle.cx_laws_run.specs.cx_rules_session.specs.Kinds.{arrival_in, turn_of_kind}
use Rattle.cx_laws_run.specs.cx_run.proofs.Always.{Always}
use Rattle.cx_laws_run.specs.cx_run.proofs.DaemonOutcomes.{incoming_rule, rests-keep}
use Rattle.cx_laws_run.specs.cx_run.specs.Points.{Point}
use Rattle.cx_steps.specs.declared.seals.Logged.{Logged}

module _ (run : WholeRun) (whole : List Logged) (us vs : Uses) (logins : List Handed) (told : Told) (past : List Point) (p : Point) (log : List Logged) (J : List Entry) (d : DaemonNode)
    (r : DaemonReady run whole us vs logins told past p log J d) where
  abbrev name : Name
  name = d.own.mon_client.name

  abbrev n : NodeName
  n = node.Entity d.own.mon_client.name

  abbrev before_us : Uses
  before_us = retied logins us

  abbrev Keeps_ : Outcome DaemonNode → Type 0
  Keeps_ o = Keeps run whole us vs logins told past p log d o

  -- ---- any link

  abbrev at_link : Link DaemonStage → Arrival Daemon DaemonStage
  at_link link = arrival (me d.own) d.own link p.happening.reading p.happening.draw

  incoming-so : (handlers : Handlers) (number : ℕ) (link : Link DaemonStage) (stage : IncomingStage) → link_of number d.links ≡ Some link → link.stage ≡ AsAcceptor stage
      → Always (λ (h : Hosted). Keeps_ (hosts d (at_link link) h)) (incoming_rule handlers d p.happening.reading p.happening.draw link stage)
  incoming-so handlers number link stage is of =
      let ok : DaemonStageOk run us n link.number (AsAcceptor stage) = subst (λ (st : DaemonStage). DaemonStageOk run us n link.number st) of
      (found_all (λ (l : Link DaemonStage). DaemonStageOk run us n l.number l.stage) (λ (l : Link DaemonStage). l.number == number) d.links link r.had is) in
      incoming-turn run whole us vs logins told past p log J d r handlers link stage (daemon_stage-grows run us vs n link.number (AsAcceptor stage) r.grows ok).0

  own-so : (number : ℕ) (link : Link DaemonStage) (stage : connector.Stage) → link_of number d.links ≡ Some link → link.stage ≡ AsConnector stage
      → Keeps_ (turns d (at_link link) (turn_of_kind (with_mon_client d.own) AsConnector (connector.turned_at (arrival_in (at_link link) d.own.mon_client stage) stage)))
  own-so number link stage is of =
      own-turn run whole us vs logins told past p log J d r link stage
      (subst (λ (st : DaemonStage). DaemonStageTold (WasDrawn past name) (WasAsked past name) link.number link.received link.taken link.sent st) of
      (found_all (DaemonLinkTold (WasDrawn past name) (WasAsked past name)) (λ (l : Link DaemonStage). l.number == number) d.links link r.tells is))
      (subst (λ (st : DaemonStage). DaemonStageHas (events_of past) before_us logins told log name link.number link.sent st) of
      (found_all (λ (l : Link DaemonStage). DaemonStageHas (events_of past) before_us logins told log name l.number l.sent l.stage) (λ (l : Link DaemonStage). l.number == number) d.links link r.links is))
      (means-retied logins us d.own.mon_client.secret (Secret name) r.known.own)

  -- ---- any event

  pub rule-keeps : (handlers : Handlers) (input : Input) → Always Keeps_ (daemon_rule handlers d input p.happening.reading p.happening.draw)
  rule-keeps handlers input =
      rests-keep handlers d p.happening.reading p.happening.draw input Keeps_ (record {
        rests = λ o rest own. rests run whole us vs logins told past p log J d r o rest;
        shown = λ view is rest. rests run whole us vs logins told past p log J d r (looks d view) rest;
        restarts = λ rest. rests run whole us vs logins told past p log J d r (restarted d) rest;
        hosting = λ number link stage at is of. incoming-so handlers number link stage is of;
        asking = λ number link stage at is of. own-so number link stage is of;
        fetches_there = asks-keeps run whole us vs logins told past p log J d r;
      })
