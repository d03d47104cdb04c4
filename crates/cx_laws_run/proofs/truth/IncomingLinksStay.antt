-- What is known of an incoming link stays known behind a step that gives nothing under its key: of its own daemon or of any other node.
use Rattle.std.proofs.Common.{◌≡◌, ℕ, List, [], refl, sym, append-nil}
use Rattle.cx_base.specs.Names.{Name}
use Rattle.cx_base.specs.declared.nodes.NodeName.{NodeName}
use Rattle.cx_journal.specs.declared.entries.Entry.{Entry}
use Rattle.cx_laws_run.specs.cx_laws_keys.proofs.keys.Known.{Inv}
use Rattle.cx_laws_run.specs.cx_laws_keys.proofs.keys.Premises.{behind}
use Rattle.cx_laws_run.specs.cx_laws_keys.proofs.keys.Uses.{Grows, Means, Use, Uses, WholeRun}
use Rattle.cx_laws_run.specs.cx_laws_keys.proofs.series.Contents.{contents_by}
use Rattle.cx_laws_run.specs.cx_rules.specs.Acceptor as acceptor
use Rattle.cx_laws_run.specs.cx_rules.specs.Secured.{Secured}
use Rattle.cx_laws_run.specs.cx_rules_session.specs.DaemonRule.{AsAcceptor, AsConnector, DaemonStage}
use Rattle.cx_laws_run.specs.cx_rules_session.specs.IncomingLinks.{IncomingStage}
use Rattle.cx_steps.specs.declared.seals.Logged.{Logged}
use Rattle.cx_steps.specs.declared.seals.SealEntry.{SealEntry}
use Rattle.cx_laws_run.specs.cx_laws_links.proofs.links.Known.{Told}
use Rattle.cx_laws_run.specs.cx_laws_links.proofs.links.Written.{IsLinkKey}
use Rattle.cx_laws_run.specs.cx_laws_links.proofs.answers.AllGiven.{AllGiven}
use Rattle.cx_laws_run.specs.cx_laws_links.proofs.answers.Given.{Given, given_under, is_acceptors}
use Rattle.cx_laws_run.specs.cx_laws_links.proofs.answers.Growing.{given-stays}
use Rattle.cx_laws_run.specs.cx_laws_links.proofs.answers.Known.{Continues}
use Rattle.cx_laws_run.specs.cx_laws_links.proofs.answers.Moving.{Longer, QuietAt, QuietUnder, incoming-stays, in-step-speaks}
use Rattle.cx_laws_run.specs.cx_laws_links.proofs.answers.Once.{once-stays}
use Rattle.cx_laws_run.specs.cx_laws_links.proofs.answers.Replied.{IncomingGiven, IsGiver}
use Rattle.cx_laws_run.proofs.truth.DaemonWalk.{IsBlank}
use Rattle.cx_laws_run.proofs.truth.State.{GivesNothing, HostGiven}

-- nothing of a link's acceptor is sealed or given under the key
pub record IsStill (es : List SealEntry) (given now : List (List ℕ × Given)) (key : List ℕ) : Type 0 where
  pub sealed : contents_by key is_acceptors es ≡ []
  pub given_is : given_under key now ≡ given_under key given

module _ (run : WholeRun) (us vs : Uses) (f : Grows us vs) (told next : Told) (l : Longer told next) (given now : List (List ℕ × Given)) (log : List Logged) (n : NodeName) (line : ℕ) (es : List SealEntry)
    (at : NodeName) (daemon : Name) (number : ℕ) (still : (key : List ℕ) (name : Name) (tie : ℕ) → (is : IsLinkKey us key name tie) → is.acceptor ≡ at → IsStill es given now key) where
  under-key : (s : Secured) (name : Name) → IsGiver us given log at daemon number s name → QuietUnder run us vs f told next l given now log n line es at daemon number s.keys.key
  under-key s name k =
      let so : IsStill es given now s.keys.key =
      still s.keys.key name k.tie (record { acceptor = at; number = number; service = daemon.kind; means = k.means }) refl in
      record { sealed = so.sealed; given_is = so.given_is }

  pub incoming-still : (stage : IncomingStage) → IncomingGiven run us told given log at daemon number stage → IncomingGiven run vs next now (behind n line es log) at daemon number stage
  incoming-still stage h = incoming-stays run us vs f told next l given now log n line es at daemon number stage (quiet stage h) h
    where
      quiet : (x : IncomingStage) → IncomingGiven run us told given log at daemon number x → QuietAt run us vs f told next l given now log n line es at daemon number x
      quiet (acceptor.AwaitsSignature s owner) k = under-key s owner.ticket.name k.0
      quiet (acceptor.AwaitsIdent s owner) k = under-key s owner.ticket.name k.0
      quiet (acceptor.Open s served) k = under-key s k.0 k.1
      quiet acceptor.AwaitsBanner k = tt
      quiet acceptor.AwaitsHello k = tt
      quiet acceptor.AwaitsRequest k = tt
      quiet (acceptor.AwaitsProof awaited) k = tt

  pub host-still : (stage : DaemonStage) → HostGiven run us told given log at daemon number stage → HostGiven run vs next now (behind n line es log) at daemon number stage
  host-still (AsAcceptor stage) h = incoming-still stage h
  host-still (AsConnector stage) h = tt

pub same-told : (told : Told) → Longer told told
same-told told = record { more = []; is = sym (append-nil told.said) }

-- nothing is known of a blank link
pub host-blank : (run : WholeRun) (us : Uses) (told : Told) (given : List (List ℕ × Given)) (log : List Logged) (at : NodeName) (daemon : Name) (number : ℕ) (stage : DaemonStage) → IsBlank stage
    → HostGiven run us told given log at daemon number stage
host-blank run us told given log at daemon number (AsConnector stage) is = tt
host-blank run us told given log at daemon number (AsAcceptor acceptor.AwaitsBanner) is = tt
host-blank run us told given log at daemon number (AsAcceptor acceptor.AwaitsHello) is = tt
host-blank run us told given log at daemon number (AsAcceptor acceptor.AwaitsRequest) is = tt
host-blank run us told given log at daemon number (AsAcceptor (acceptor.AwaitsProof awaited)) is = tt
host-blank run us told given log at daemon number (AsAcceptor (acceptor.AwaitsSignature s owner)) is = absurd is
host-blank run us told given log at daemon number (AsAcceptor (acceptor.AwaitsIdent s owner)) is = absurd is
host-blank run us told given log at daemon number (AsAcceptor (acceptor.Open s served)) is = absurd is

-- all that was given stays known behind a step that gives nothing
pub all-still : (run : WholeRun) (whole : List Logged) (us vs : Uses) (told next : Told) (given : List (List ℕ × Given)) (log : List Logged) (J K : List Entry) (n : NodeName) (line : ℕ) (es : List SealEntry)
    → ((k : List ℕ) (u v : Use) → Means vs k u → Means vs k v → u ≡ v) → Grows us vs → Continues J K → Inv run whole us log J → Longer told next → GivesNothing vs es → AllGiven run us told given log J
    → AllGiven run vs next given (behind n line es log) K
all-still run whole us vs told next given log J K n line es one f w i longer quiet h = record {
  known = given-stays run whole us vs given log J K n line es one f w i h.known quiet;
  step = in-step-speaks run us vs told next given log J one f longer h.known h.step;
  once = once-stays run us vs given log J one f h.known h.once;
}
