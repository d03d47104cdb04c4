-- What is known of each node of a run beside all that was given on links to daemons, between two events; and what a step of a client comes to.
use Rattle.std.proofs.Common.{◌≡◌, ℕ, ◌<◌, ◌^◌, List, [], ◌++◌}
use Rattle.std.specs.Prelude.{Contains}
use Rattle.std.specs.List.{AllByRecursion}
use Rattle.cx_laws_run.specs.cx_authorize.specs.Verdict.{raised}
use Rattle.cx_base.specs.Names.{Name}
use Rattle.cx_base.specs.declared.kinds.EntityType.{EntityType}
use Rattle.cx_base.specs.declared.nodes.NodeName.{NodeName}
use Rattle.cx_base.specs.declared.nodes.NodeName.TheVariants as node
use Rattle.cx_journal.specs.Behind.{EachBehind}
use Rattle.cx_journal.specs.declared.entries.Answered.{Answered}
use Rattle.cx_journal.specs.declared.entries.Entry.{Entry}
use Rattle.cx_journal.specs.declared.entries.Entry.TheVariants as journal
use Rattle.cx_laws_run.specs.cx_laws_keys.proofs.keys.Premises.{behind}
use Rattle.cx_laws_run.specs.cx_laws_keys.proofs.keys.Uses.{Uses, WholeRun}
use Rattle.cx_laws_run.specs.cx_laws_keys.proofs.series.Contents.{contents_by}
use Rattle.cx_laws_run.specs.cx_rules.specs.Links.{Link}
use Rattle.cx_laws_run.specs.cx_rules.specs.Rows.{Outcome}
use Rattle.cx_laws_run.specs.cx_rules_session.specs.ClientRule.{ClientStage, ToDaemon, ToMonitor, WholeClientNode}
use Rattle.cx_laws_run.specs.cx_rules_session.specs.DaemonRule.{AsAcceptor, AsConnector, DaemonStage}
use Rattle.cx_laws_run.specs.cx_rules_session.specs.Presenter as call
use Rattle.cx_laws_run.specs.cx_rules_session.specs.Presenter.{CallStage}
use Rattle.cx_laws_run.specs.cx_run.specs.Happenings.{EntityNode, OfClient, OfDaemon}
use Rattle.cx_steps.specs.declared.seals.Logged.{Logged}
use Rattle.cx_steps.specs.declared.seals.SealEntry.{SealEntry}
use Rattle.cx_laws_run.specs.cx_laws_links.proofs.links.Known.{Bound, Told}
use Rattle.cx_laws_run.specs.cx_laws_links.proofs.links.Written.{IsLinkKey}
use Rattle.cx_laws_run.specs.cx_laws_links.proofs.answers.AllGiven.{AllGiven}
use Rattle.cx_laws_run.specs.cx_laws_links.proofs.answers.CallHeard.{CallHeard, IsTrueEnd}
use Rattle.cx_laws_run.specs.cx_laws_links.proofs.answers.EndsRead.{AreRead, AreReadBound, ReadsOn}
use Rattle.cx_laws_run.specs.cx_laws_links.proofs.answers.Given.{Given, is_acceptors}
use Rattle.cx_laws_run.specs.cx_laws_links.proofs.answers.Replied.{IncomingGiven}

-- ---- what was read

-- a key is that of the link of this number of this entity, by a reply to a nonce of its own
pub record IsBoundTo (us : Uses) (told : Told) (key : List ℕ) (name : Name) (number : ℕ) : Type 0 where
  pub nonce : ℕ
  pub low : nonce < 2 ^ 64
  pub is : IsLinkKey us key name (raised nonce)
  pub stands : told.nonces nonce ≡ Bound name number key

-- all that was given, and where the answers stand that clients entered
pub record AllTrue (run : WholeRun) (us : Uses) (told : Told) (given : List (List ℕ × Given)) (reads : List (List ℕ × ℕ)) (log : List Logged) (J : List Entry) : Type 0 where
  pub all : AllGiven run us told given log J
  pub read : AreRead run us given reads J
  pub bound : AreReadBound us told reads

-- ---- a client

-- a link reads on behind all that was read under its key
abbrev pub ReadsBehind : List (List ℕ × ℕ) → CallStage → Type 0
ReadsBehind reads (call.AwaitsSignature s callee) = ReadsOn reads s
ReadsBehind reads (call.AwaitsIdent s callee cookie) = ReadsOn reads s
ReadsBehind reads (call.AwaitsReconnect s callee cookie) = ReadsOn reads s
ReadsBehind reads (call.Open s callee cookie) = ReadsOn reads s
ReadsBehind reads _ = Unit {0}

abbrev pub CallHears : WholeRun → Told → List (List ℕ × Given) → List (List ℕ × ℕ) → Name → CallStage → Type 0
CallHears run told given reads name stage = CallHeard run told given name stage × ((Contains run.leaked name → ⊥) → ReadsBehind reads stage)

abbrev pub StageHears : WholeRun → Told → List (List ℕ × Given) → List (List ℕ × ℕ) → Name → ClientStage → Type 0
StageHears run told given reads name (ToMonitor stage) = Unit {0}
StageHears run told given reads name (ToDaemon stage) = CallHears run told given reads name stage

-- what each of its links to daemons has heard
abbrev pub ClientHears : WholeRun → Told → List (List ℕ × Given) → List (List ℕ × ℕ) → WholeClientNode → Type 0
ClientHears run told given reads c = AllByRecursion (λ (link : Link ClientStage). StageHears run told given reads c.own.mon_client.name link.stage) c.links

-- an answer tells how an operation ended, which a daemon of the type of the one that was asked handled in a session of its client
pub record IsEndOf (J : List Entry) (x : Answered) : Type 0 where
  pub service : EntityType
  pub kind : service ≡ x.daemon.kind
  pub ended : IsTrueEnd J service x.client x.client x.daemon x

-- no earlier answer to its client has its cookie and its tid
abbrev pub IsFirstOf : List Entry → Answered → Type 0
IsFirstOf earlier x = (y : Answered) → Contains earlier (journal.Answered y) → x.client ≡ y.client → x.cookie ≡ y.cookie → x.tid ≡ y.tid → ⊥

-- so it is of each answer that a client entered which didn't leak
abbrev pub TruthLaw : WholeRun → List Entry → Entry → Type 0
TruthLaw run earlier (journal.Answered x) = (Contains run.leaked x.client → ⊥) → IsEndOf earlier x × IsFirstOf earlier x
TruthLaw run earlier _ = Unit {0}

-- a step seals nothing that the acceptor of a link to a daemon could have given
abbrev pub GivesNothing : Uses → List SealEntry → Type 0
GivesNothing vs es = (key : List ℕ) (name : Name) (tie : ℕ) → IsLinkKey vs key name tie → contents_by key is_acceptors es ≡ []

-- behind a step of a client, of this name, on its link of this number, that comes to this, where this is told then: what was given is as it was; what it read,
-- it read under the key of that link; what its links have heard; and what it enters is true
pub record ClientTruth (run : WholeRun) (us vs : Uses) (told next : Told) (given : List (List ℕ × Given)) (reads : List (List ℕ × ℕ)) (log : List Logged) (line : ℕ) (J K : List Entry) (name : Name)
    (number : ℕ) (o : Outcome WholeClientNode) : Type 0 where
  pub more : List (List ℕ × ℕ)
  pub own : (key : List ℕ) (place : ℕ) → Contains more (key, place) → IsBoundTo us told key name number
  pub known : AllTrue run vs next given (reads ++ more) (behind (node.Entity name) line o.out.seals log) K
  pub hears : ClientHears run next given (reads ++ more) o.state
  pub quiet : GivesNothing vs o.out.seals
  pub told_so : EachBehind (TruthLaw run) J o.out.entries

-- ---- a daemon

abbrev pub HostGiven : WholeRun → Uses → Told → List (List ℕ × Given) → List Logged → NodeName → Name → ℕ → DaemonStage → Type 0
HostGiven run us told given log n daemon number (AsAcceptor stage) = IncomingGiven run us told given log n daemon number stage
HostGiven run us told given log n daemon number (AsConnector stage) = Unit {0}

-- what each of its incoming links has given
abbrev pub LinksGiven : WholeRun → Uses → Told → List (List ℕ × Given) → List Logged → Name → NodeName → List (Link DaemonStage) → Type 0
LinksGiven run us told given log daemon at links = AllByRecursion (λ (link : Link DaemonStage). HostGiven run us told given log at daemon link.number link.stage) links

-- ---- any entity

abbrev pub EntityHears : WholeRun → Uses → Told → List (List ℕ × Given) → List (List ℕ × ℕ) → List Logged → EntityNode → Type 0
EntityHears run us told given reads log (OfClient c) = ClientHears run told given reads c
EntityHears run us told given reads log (OfDaemon d) = LinksGiven run us told given log d.node.own.mon_client.name (node.Entity d.node.own.mon_client.name) d.node.links

abbrev pub EntitiesHear : WholeRun → Uses → Told → List (List ℕ × Given) → List (List ℕ × ℕ) → List Logged → List EntityNode → Type 0
EntitiesHear run us told given reads log entities = AllByRecursion (EntityHears run us told given reads log) entities
