-- What is known of links to the monitor between two events of a run, of each node: over what is known of keys, each key of a login with the number and the
-- challenge that were handed over with it.
use Rattle.std.proofs.Common.{◌≡◌, ℕ, ◌+◌, ◌<◌, ◌≤◌, ◌^◌, List, length, ◌⊎◌}
use Rattle.std.specs.List.{AllByRecursion}
use Rattle.cx_base.specs.Names.{Name}
use Rattle.cx_frame.specs.declared.frame.Frame.{Frame}
use Rattle.cx_base.specs.declared.nodes.NodeName.TheVariants as node
use Rattle.cx_laws_run.specs.cx_rules.specs.Acceptor as acceptor
use Rattle.cx_laws_run.specs.cx_rules.specs.Connector as connector
use Rattle.cx_laws_run.specs.cx_rules.specs.Links.{Link}
use Rattle.cx_laws_run.specs.cx_rules.specs.Monitor.{MonitorStage}
use Rattle.cx_laws_run.specs.cx_rules.specs.Secured.{Secured}
use Rattle.cx_laws_run.specs.cx_rules_session.specs.ClientRule.{ClientStage, ToDaemon, ToMonitor}
use Rattle.cx_laws_run.specs.cx_rules_session.specs.DaemonRule.{AsAcceptor, AsConnector, DaemonStage}
use Rattle.cx_laws_run.specs.cx_run.specs.Happenings.{EntityNode, Nodes, OfClient, OfDaemon}
use Rattle.cx_laws_run.specs.cx_run.specs.Points.{Point}
use Rattle.cx_steps.specs.declared.seals.Logged.{Logged}
use Rattle.cx_laws_run.specs.cx_laws_keys.proofs.keys.Uses.{AtMonitor, Connected, Means, Uses, WholeRun}
use Rattle.cx_laws_run.specs.cx_laws_tickets.proofs.fetch.AskedKnown.{AreTold, MonClientTold, Events, IsBearing, IsBearingFirst, IsUnsaid, Told}
use Rattle.cx_laws_run.specs.cx_laws_tickets.proofs.fetch.AskedWords.{given_frame}
use Rattle.cx_laws_run.specs.cx_laws_tickets.proofs.fetch.MonClientFacts.{HasAnswered}
use Rattle.cx_laws_run.specs.cx_laws_tickets.proofs.fetch.Handed.{AreHanded}
use Rattle.cx_laws_run.specs.cx_laws_tickets.proofs.fetch.HandedLogin.{HasHandedKeys}
use Rattle.cx_laws_run.specs.cx_laws_tickets.proofs.fetch.Later.{AreAmong, IsEnd, of_acceptor}
use Rattle.cx_laws_run.specs.cx_laws_tickets.proofs.fetch.PointEvents.{events_of}
use Rattle.cx_laws_run.specs.cx_laws_tickets.proofs.fetch.Retied.{Handed, retied}
use Rattle.cx_laws_run.specs.cx_laws_tickets.proofs.fetch.Words.{parts_of, said_under}
use Rattle.cx_laws_run.proofs.cover.CallKnown.{CallKnown}
use Rattle.cx_laws_run.proofs.cover.ClientAsks.{ClientAsks}

-- ---- a link of one that logs in

-- these bytes, which were sent first, tell a challenge that this link drew; nothing was said under a key of it
pub record IsOwnAnswer (E : Events) (us : Uses) (told : Told) (name : Name) (link : ℕ) (bytes : List ℕ) : Type 0 where
  pub answered : HasAnswered (λ (c : ℕ) (_ : Frame). E.drew name link c) bytes
  pub small : answered.challenge < 2 ^ 64
  pub unsaid : IsUnsaid E us told name link answered.challenge

-- by its stage, where this was sent on it: until AUTH_DONE, what was sent is such an answer; until the monitor's signature, what that has to cover is, and the
-- keys are those of a login; behind it, what it said and took
abbrev pub MonClientHas : Events → Uses → List Handed → Told → List Logged → Name → ℕ → List ℕ → connector.Stage → Type 0
MonClientHas E us logins told log name link sent (connector.AwaitsBanner asked) = Unit {0}
MonClientHas E us logins told log name link sent (connector.AwaitsHello asked) = Unit {0}
MonClientHas E us logins told log name link sent (connector.AwaitsChallenge asked) = Unit {0}
MonClientHas E us logins told log name link sent connector.AwaitsDone = IsOwnAnswer E us told name link sent
MonClientHas E us logins told log name link sent (connector.AwaitsSignature s login) = IsOwnAnswer E us told name link s.covered × HasHandedKeys us logins name s
MonClientHas E us logins told log name link sent (connector.AwaitsIdent s session) = MonClientTold E us told log name link (connector.AwaitsIdent s session)
MonClientHas E us logins told log name link sent (connector.Open s requests) = MonClientTold E us told log name link (connector.Open s requests)

-- ---- a client, a daemon

abbrev pub ClientStageHas : Events → Uses → List Handed → Told → List Logged → Name → ℕ → List ℕ → ℕ → List ℕ → ClientStage → Type 0
ClientStageHas E us logins told log name link received taken sent (ToMonitor stage) = MonClientHas E us logins told log name link sent stage
ClientStageHas E us logins told log name link received taken sent (ToDaemon stage) = CallKnown us received taken stage

abbrev pub DaemonStageHas : Events → Uses → List Handed → Told → List Logged → Name → ℕ → List ℕ → DaemonStage → Type 0
DaemonStageHas E us logins told log name link sent (AsConnector stage) = MonClientHas E us logins told log name link sent stage
DaemonStageHas E us logins told log name link sent (AsAcceptor stage) = Unit {0}

abbrev pub ClientLinksHave : Events → Uses → List Handed → Told → List Logged → Name → List (Link ClientStage) → Type 0
ClientLinksHave E us logins told log name links = AllByRecursion (λ (l : Link ClientStage). ClientStageHas E us logins told log name l.number l.received l.taken l.sent l.stage) links

abbrev pub DaemonLinksHave : Events → Uses → List Handed → Told → List Logged → Name → List (Link DaemonStage) → Type 0
DaemonLinksHave E us logins told log name links = AllByRecursion (λ (l : Link DaemonStage). DaemonStageHas E us logins told log name l.number l.sent l.stage) links

-- ---- any entity

abbrev pub EntityHas : Events → Uses → List Handed → Told → List Logged → EntityNode → Type 0
EntityHas E us logins told log (OfClient c) = ClientLinksHave E us logins told log c.own.mon_client.name c.links × ClientAsks c
EntityHas E us logins told log (OfDaemon d) = DaemonLinksHave E us logins told log d.node.own.mon_client.name d.node.links

abbrev pub EntitiesHave : Events → Uses → List Handed → Told → List Logged → List EntityNode → Type 0
EntitiesHave E us logins told log entities = AllByRecursion (EntityHas E us logins told log) entities

-- ---- the monitor

-- an open link behind a save that failed: it counts parts that it never sealed, so all that it seals from then on lies beyond what was said, and nothing of it can be
-- taken
pub record IsLost (us : Uses) (told : Told) (log : List Logged) (number : ℕ) (s : Secured) (name : Name) : Type 0 where
  pub challenge : ℕ
  pub means : Means us s.keys.key (Connected node.Monitor number name (AtMonitor challenge))
  pub beyond : List (List ℕ)
  pub some : 1 ≤ length beyond
  pub among : AreAmong of_acceptor log s.keys.key (parts_of given_frame (said_under s.keys.key told.given)) beyond
  pub counter : s.keys.out.counter ≡ 1 + (length (parts_of given_frame (said_under s.keys.key told.given)) + length beyond)
  pub out : IsEnd of_acceptor s.keys.out.fixed
  pub fits : s.keys.out.counter ≤ 2 ^ 64

abbrev pub MonitorHas : WholeRun → Uses → Told → List Logged → ℕ → MonitorStage → Type 0
MonitorHas run us told log number (acceptor.AwaitsSignature s bearer) = IsBearingFirst us told log number s bearer.name
MonitorHas run us told log number (acceptor.AwaitsIdent s bearer) = IsBearing run us told log number s bearer.name
MonitorHas run us told log number (acceptor.Open s bearer) = IsBearing run us told log number s bearer.name ⊎ IsLost us told log number s bearer.name
MonitorHas run us told log number acceptor.AwaitsBanner = Unit {0}
MonitorHas run us told log number acceptor.AwaitsHello = Unit {0}
MonitorHas run us told log number acceptor.AwaitsRequest = Unit {0}
MonitorHas run us told log number (acceptor.AwaitsProof offered) = Unit {0}

abbrev pub MonitorLinksHave : WholeRun → Uses → Told → List Logged → List (Link MonitorStage) → Type 0
MonitorLinksHave run us told log links = AllByRecursion (λ (l : Link MonitorStage). MonitorHas run us told log l.number l.stage) links

-- ---- all nodes

-- between two events, where these points went before, and these logins were handed over
pub record RunHas (run : WholeRun) (past : List Point) (us : Uses) (logins : List Handed) (told : Told) (log : List Logged) (nodes : Nodes) : Type 0 where
  pub known_of : AreTold run (events_of past) (retied logins us) told log
  pub handed : AreHanded (retied logins us) logins log
  pub monitor : MonitorLinksHave run (retied logins us) told log nodes.monitor.links
  pub entities : EntitiesHave (events_of past) (retied logins us) logins told log nodes.entities
