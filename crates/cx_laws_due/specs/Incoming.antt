-- What is due of a daemon on an incoming link, where no book of sessions is asked; and what a step of it is then.
use Rattle.std.specs.Prelude.{ℕ, ◌≡◌, true, List, [], Ok}
use Rattle.cx_rules_session.specs.cx_authorize.specs.Daemon.{Authority}
use Rattle.cx_rules_session.specs.cx_control.specs.Auth.{auth_signature_layout}
use Rattle.cx_rules_session.specs.cx_control.specs.Hello.{hello_layout}
use Rattle.cx_rules_session.specs.cx_control.specs.declared.auth.AuthSignature.{AuthSignature}
use Rattle.cx_rules_session.specs.cx_control.specs.declared.hello.Hello.{Hello}
use Rattle.cx_rules.specs.cx_frame.specs.declared.frame.Frame.{Frame}
use Rattle.cx_rules_session.specs.cx_journal.specs.declared.entries.Entry.{Entry}
use Rattle.cx_rules.specs.cx_steps.specs.declared.seals.SealEntry.{SealEntry}
use Rattle.cx_rules.specs.Acceptor.{AwaitsBanner, AwaitsHello, AwaitsSignature}
use Rattle.cx_rules.specs.Carrying.{CarriesOn}
use Rattle.cx_rules.specs.Fronts.{Next, banner_next, plain_next, secure_next}
use Rattle.cx_rules.specs.Links.{Link}
use Rattle.cx_rules.specs.Payloads.{due}
use Rattle.cx_rules.specs.Rows.{Outcome}
use Rattle.cx_rules.specs.Secured.{Keys, Secured, is_signed, under}
use Rattle.cx_rules_session.specs.Complete.{HasIncoming, in_incoming_stage}
use Rattle.cx_rules_session.specs.DaemonRule.{AsAcceptor, DaemonState}
use Rattle.cx_rules_session.specs.IncomingLinks.{IncomingStage}
use Rattle.cx_rules_session.specs.Kinds.{of_kind}

-- a step carries an incoming link on; what the daemon has of its own, and its book, stay as they are
pub record CarriesIncoming (d : DaemonState) (behind : Link IncomingStage) (stage : IncomingStage) (bytes : List ℕ) (entries : List Entry) (o : Outcome DaemonState) : Type 0 where
  pub carries : CarriesOn d.node.links (of_kind AsAcceptor behind) (AsAcceptor stage) bytes entries (record { state = o.state.node; out = o.out })
  pub own : o.state.node.own ≡ d.node.own
  pub book : o.state.book ≡ d.book

-- an incoming link waits for the peer's banner, and one stands next on it
pub record HearsBanner (d : DaemonState) (link : Link IncomingStage) : Type 0 where
  pub incoming : HasIncoming d link AwaitsBanner
  pub behind : Link IncomingStage
  pub next : banner_next (in_incoming_stage link AwaitsBanner) ≡ Next behind []
  pub same : behind.number ≡ link.number

-- it waits for HELLO, and one stands next on it
pub record HearsHello (d : DaemonState) (link : Link IncomingStage) : Type 0 where
  pub incoming : HasIncoming d link AwaitsHello
  pub behind : Link IncomingStage
  pub frame : Frame
  pub next : plain_next (in_incoming_stage link AwaitsHello) ≡ Next (behind, frame) []
  pub hello : Hello
  pub payload : due 1 hello_layout.form frame ≡ Ok hello

-- it waits for the peer's AUTH_SIGNATURE, and one stands next on it that covers what was sent
pub record HearsSignature (d : DaemonState) (link : Link IncomingStage) (s : Secured) (owner : Authority) : Type 0 where
  pub incoming : HasIncoming d link (AwaitsSignature s owner)
  pub behind : Link IncomingStage
  pub frame : Frame
  pub keys : Keys
  pub opened : List SealEntry
  pub next : secure_next s.keys (in_incoming_stage link (AwaitsSignature s owner)) ≡ Next (behind, frame, keys) opened
  pub signature : AuthSignature
  pub payload : due 7 auth_signature_layout.form frame ≡ Ok signature
  pub right : is_signed (under s keys) signature.signature ≡ true
