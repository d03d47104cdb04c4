-- The links to daemons as a client holds them, each as the link of the rules that it is, abridged.
use Rattle.std.specs.Prelude.{ℕ}
use Rattle.cx_authorize.specs.Client.{Answered, Presented}
use Rattle.cx_link.specs.Sending.{secured_of}
use Rattle.cx_link.specs.Wires.{SecureWire, Wire, secured_link, wired}
use Rattle.cx_link.specs.declared.links.Signing.{Signing}
use Rattle.cx_node.specs.cx_rules.specs.Links.{Link}
use Rattle.cx_client_connect.specs.cx_rules_session.specs.Presenter.{CallStage, AwaitsBanner, AwaitsHello, AwaitsChallenge, AwaitsDone, AwaitsSignature, AwaitsIdent, AwaitsReconnect, Open}
use Rattle.cx_client_connect.specs.cx_rules_session.specs.Sessions.{Callee}
use Rattle.cx_node.specs.steps.Stages.{keys_alone}
use Rattle.cx_client_connect.specs.declared.links.Stage.{Stage}
use Rattle.cx_client_connect.specs.declared.links.Stage.TheVariants as held

-- a link to a daemon, as the rules have it
abbrev pub CallLink : Type 0
CallLink = Link CallStage

-- the links of each later stage
abbrev pub awaiting_challenge : ℕ → Wire → Callee → Presented → CallLink
awaiting_challenge number wire callee presented = wired number wire (AwaitsChallenge callee presented)

abbrev pub awaiting_done : ℕ → Wire → Callee → Answered → CallLink
awaiting_done number wire callee answered = wired number wire (AwaitsDone callee answered)

abbrev pub awaiting_signature : ℕ → Signing → Callee → CallLink
awaiting_signature number signing callee = secured_link number signing.link.ahead (AwaitsSignature (secured_of signing) callee)

abbrev pub awaiting_ident : ℕ → SecureWire → Callee → ℕ → CallLink
awaiting_ident number link callee cookie = secured_link number link.ahead (AwaitsIdent (keys_alone link.keys) callee cookie)

abbrev pub awaiting_reconnect : ℕ → SecureWire → Callee → ℕ → CallLink
awaiting_reconnect number link callee cookie = secured_link number link.ahead (AwaitsReconnect (keys_alone link.keys) callee cookie)

abbrev pub open_link : ℕ → SecureWire → Callee → ℕ → CallLink
open_link number link callee cookie = secured_link number link.ahead (Open (keys_alone link.keys) callee cookie)

abbrev pub link_held : ℕ → Stage → CallLink
link_held number (held.AwaitsBanner wire called) = wired number wire (AwaitsBanner called)
link_held number (held.AwaitsHello wire called) = wired number wire (AwaitsHello called)
link_held number (held.AwaitsChallenge wire callee presented) = awaiting_challenge number wire callee presented
link_held number (held.AwaitsDone wire callee answered) = awaiting_done number wire callee answered
link_held number (held.AwaitsSignature signing callee) = awaiting_signature number signing callee
link_held number (held.AwaitsIdent link callee cookie) = awaiting_ident number link callee cookie
link_held number (held.AwaitsReconnect link callee cookie) = awaiting_reconnect number link callee cookie
link_held number (held.Open link callee cookie) = open_link number link callee cookie
