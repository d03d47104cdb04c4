-- What is known of links between clients and daemons until the daemon's signature, beside what each end says behind it: what a client sent and took, with an authorizer for
-- the type of the daemon that it calls; and what a daemon took. Behind its signature the link's key is that of a link to a daemon of that type.
use Rattle.std.proofs.Common.{◌≡◌, ℕ, false, List, sym, subst}
use Rattle.std.specs.List.{AllByRecursion}
use Rattle.cx_base.specs.Names.{Name, is_daemon_type}
use Rattle.cx_base.specs.declared.kinds.EntityType.{EntityType}
use Rattle.cx_base.specs.declared.nodes.NodeName.{NodeName}
use Rattle.cx_laws_run.specs.cx_laws_keys.proofs.keys.Lists.{all-map}
use Rattle.cx_laws_run.specs.cx_laws_keys.proofs.keys.Uses.{AtDaemon, Connected, Grows, Means, Uses}
use Rattle.cx_laws_run.specs.cx_rules.specs.Links.{Link}
use Rattle.cx_laws_run.specs.cx_rules.specs.Secured.{Secured}
use Rattle.cx_laws_run.specs.cx_rules_session.specs.ClientRule.{ClientStage, ToDaemon, ToMonitor, WholeClientNode}
use Rattle.cx_laws_run.specs.cx_rules_session.specs.DaemonRule.{AsAcceptor, AsConnector, DaemonStage}
use Rattle.cx_laws_run.specs.cx_rules_session.specs.Presenter as call
use Rattle.cx_laws_run.specs.cx_rules_session.specs.Presenter.{CallStage}
use Rattle.cx_laws_run.specs.cx_rules_session.specs.Sessions.{Callee}
use Rattle.cx_laws_run.specs.cx_run.specs.Happenings.{EntityNode, OfClient, OfDaemon}
use Rattle.cx_steps.specs.declared.seals.Logged.{Logged}
use Rattle.cx_laws_run.specs.cx_laws_links.proofs.answers.CallSent.{CallRead, CallSent, IsUnsigned}
use Rattle.cx_laws_run.specs.cx_laws_links.proofs.answers.IncomingReads.{IncomingRead}
use Rattle.cx_laws_run.specs.cx_laws_links.proofs.answers.Signed.{AreSigned, IsSignedFor}

-- ---- a client

-- the key is that of a link to a daemon of the type of the one that is called
pub record IsOfCalled (us : Uses) (key : List ℕ) (callee : Callee) : Type 0 where
  pub acceptor : NodeName
  pub number : ℕ
  pub name : Name
  pub tie : ℕ
  pub means : Means us key (Connected acceptor number name (AtDaemon callee.daemon.kind tie))

-- so it is from the daemon's signature on
abbrev pub CalledKey : Uses → CallStage → Type 0
CalledKey us (call.AwaitsIdent s callee cookie) = IsOfCalled us s.keys.key callee
CalledKey us (call.AwaitsReconnect s callee cookie) = IsOfCalled us s.keys.key callee
CalledKey us (call.Open s callee cookie) = IsOfCalled us s.keys.key callee
CalledKey us _ = Unit {0}

abbrev pub CallNamed : Uses → List ℕ → ℕ → List ℕ → CallStage → Type 0
CallNamed us received taken sent stage = CallSent stage sent × CallRead stage received taken × CalledKey us stage

abbrev pub StageNamed : Uses → List ℕ → ℕ → List ℕ → ClientStage → Type 0
StageNamed us received taken sent (ToMonitor stage) = Unit {0}
StageNamed us received taken sent (ToDaemon stage) = CallNamed us received taken sent stage

abbrev pub LinkNamed : Uses → Link ClientStage → Type 0
LinkNamed us l = StageNamed us l.received l.taken l.sent l.stage

abbrev pub LinksNamed : Uses → List (Link ClientStage) → Type 0
LinksNamed us links = AllByRecursion (LinkNamed us) links

-- it is no daemon
pub record ClientNamed (us : Uses) (c : WholeClientNode) : Type 0 where
  pub client : is_daemon_type c.own.mon_client.name.kind ≡ false
  pub links : LinksNamed us c.links

-- ---- a daemon

abbrev pub HostRead : EntityType → List ℕ → ℕ → DaemonStage → Type 0
HostRead kind received taken (AsAcceptor stage) = IncomingRead kind received taken stage
HostRead kind received taken (AsConnector stage) = Unit {0}

abbrev pub LinkRead : EntityType → Link DaemonStage → Type 0
LinkRead kind l = HostRead kind l.received l.taken l.stage

abbrev pub LinksRead : EntityType → List (Link DaemonStage) → Type 0
LinksRead kind links = AllByRecursion (LinkRead kind) links

-- ---- any entity

abbrev pub EntityNamed : Uses → EntityNode → Type 0
EntityNamed us (OfClient c) = ClientNamed us c
EntityNamed us (OfDaemon d) = LinksRead d.node.own.mon_client.name.kind d.node.links

-- of all of them, and of what was signed
pub record AllNamed (us : Uses) (log : List Logged) (entities : List EntityNode) : Type 0 where
  pub signed : AreSigned us log
  pub all : AllByRecursion (EntityNamed us) entities

-- ---- it stays so

module _ (us vs : Uses) (f : Grows us vs) where
  called-grows : (key : List ℕ) (callee : Callee) → IsOfCalled us key callee → IsOfCalled vs key callee
  called-grows key callee h = record {
    acceptor = h.acceptor;
    number = h.number;
    name = h.name;
    tie = h.tie;
    means = f.means key (Connected h.acceptor h.number h.name (AtDaemon callee.daemon.kind h.tie)) h.means;
  }

  key-grows : (stage : CallStage) → CalledKey us stage → CalledKey vs stage
  key-grows (call.AwaitsIdent s callee cookie) h = called-grows s.keys.key callee h
  key-grows (call.AwaitsReconnect s callee cookie) h = called-grows s.keys.key callee h
  key-grows (call.Open s callee cookie) h = called-grows s.keys.key callee h
  key-grows (call.AwaitsBanner called) h = tt
  key-grows (call.AwaitsHello called) h = tt
  key-grows (call.AwaitsChallenge callee p) h = tt
  key-grows (call.AwaitsDone callee answered) h = tt
  key-grows (call.AwaitsSignature s callee) h = tt

  stage-grows : (received : List ℕ) (taken : ℕ) (sent : List ℕ) (stage : ClientStage) → StageNamed us received taken sent stage → StageNamed vs received taken sent stage
  stage-grows received taken sent (ToMonitor stage) h = tt
  stage-grows received taken sent (ToDaemon stage) h = (h.0, h.1, key-grows stage h.2)

  pub links-grow : (links : List (Link ClientStage)) → LinksNamed us links → LinksNamed vs links
  links-grow links h = all-map (LinkNamed us) (LinkNamed vs) (λ l n. stage-grows l.received l.taken l.sent l.stage n) links h

  pub entity-grows : (e : EntityNode) → EntityNamed us e → EntityNamed vs e
  entity-grows (OfClient c) h = record { client = h.client; links = links-grow c.links h.links }
  entity-grows (OfDaemon d) h = h

-- ---- what a link has behind a row

-- no signature was found yet
pub unsigned-named : (vs : Uses) (received : List ℕ) (taken : ℕ) (sent : List ℕ) (stage : CallStage) → CallSent stage sent → CallRead stage received taken → IsUnsigned stage
    → CallNamed vs received taken sent stage
unsigned-named vs received taken sent (call.AwaitsBanner called) is read early = (is, read, tt)
unsigned-named vs received taken sent (call.AwaitsHello called) is read early = (is, read, tt)
unsigned-named vs received taken sent (call.AwaitsChallenge callee p) is read early = (is, read, tt)
unsigned-named vs received taken sent (call.AwaitsDone callee answered) is read early = (is, read, tt)
unsigned-named vs received taken sent (call.AwaitsSignature s callee) is read early = (is, read, tt)
unsigned-named vs received taken sent (call.AwaitsIdent s callee cookie) is read early = absurd early
unsigned-named vs received taken sent (call.AwaitsReconnect s callee cookie) is read early = absurd early
unsigned-named vs received taken sent (call.Open s callee cookie) is read early = absurd early

-- it was
pub signed-named : (vs : Uses) (received : List ℕ) (taken : ℕ) (sent : List ℕ) (s : Secured) (callee : Callee) (stage : CallStage) → IsSignedFor s callee stage → IsOfCalled vs s.keys.key callee
    → CallNamed vs received taken sent stage
signed-named vs received taken sent s callee stage signed h = by_stage stage signed
  where
    of : (key : List ℕ) (other : Callee) → (key ≡ s.keys.key) × (other ≡ callee) → IsOfCalled vs key other
    of key other same =
        subst (λ (k : List ℕ). IsOfCalled vs k other) (sym same.0) (subst (λ (c : Callee). IsOfCalled vs s.keys.key c) (sym same.1) h)

    by_stage : (st : CallStage) → IsSignedFor s callee st → CallNamed vs received taken sent st
    by_stage (call.AwaitsIdent t other cookie) same = (tt, tt, of t.keys.key other same)
    by_stage (call.AwaitsReconnect t other cookie) same = (tt, tt, of t.keys.key other same)
    by_stage (call.Open t other cookie) same = (tt, tt, of t.keys.key other same)
    by_stage (call.AwaitsBanner called) same = absurd same
    by_stage (call.AwaitsHello called) same = absurd same
    by_stage (call.AwaitsChallenge other p) same = absurd same
    by_stage (call.AwaitsDone other answered) same = absurd same
    by_stage (call.AwaitsSignature t other) same = absurd same
