-- Incoming links as a daemon holds them, each as the link of the rules that it is, abridged.
use Rattle.std.specs.Prelude.{ℕ, Option, Some, None, if◌then◌else◌}
use Rattle.cx_authorize.specs.Daemon.{Authority, Awaited}
use Rattle.cx_link.specs.Sending.{secured_of}
use Rattle.cx_link.specs.Wires.{SecureWire, Wire, secured_link, wired}
use Rattle.cx_link.specs.declared.links.Signing.{Signing}
use Rattle.cx_node.specs.cx_rules.specs.Acceptor.{AwaitsBanner, AwaitsHello, AwaitsRequest, AwaitsProof, AwaitsSignature, AwaitsIdent, Open}
use Rattle.cx_node.specs.cx_rules.specs.Links.{Link}
use Rattle.cx_rules_session.specs.IncomingLinks.{IncomingStage, Served}
use Rattle.cx_node.specs.steps.Stages.{keys_alone}
use Rattle.cx_verifying.specs.declared.links.Stage.{Stage}
use Rattle.cx_verifying.specs.declared.links.Stage.TheVariants as held

-- an incoming link, as the rules have it
abbrev pub IncomingLink : Type 0
IncomingLink = Link IncomingStage

-- the links of each later stage
abbrev pub awaiting_proof : ℕ → Wire → Awaited → IncomingLink
awaiting_proof number wire awaited = wired number wire (AwaitsProof awaited)

abbrev pub awaiting_signature : ℕ → Signing → Authority → IncomingLink
awaiting_signature number signing owner = secured_link number signing.link.ahead (AwaitsSignature (secured_of signing) owner)

abbrev pub awaiting_ident : ℕ → SecureWire → Authority → IncomingLink
awaiting_ident number link owner = secured_link number link.ahead (AwaitsIdent (keys_alone link.keys) owner)

abbrev pub open_link : ℕ → SecureWire → Served → IncomingLink
open_link number link served = secured_link number link.ahead (Open (keys_alone link.keys) served)

abbrev pub link_held : ℕ → Stage → IncomingLink
link_held number (held.AwaitsBanner wire) = wired number wire AwaitsBanner
link_held number (held.AwaitsHello wire) = wired number wire AwaitsHello
link_held number (held.AwaitsRequest wire) = wired number wire AwaitsRequest
link_held number (held.AwaitsProof wire awaited) = awaiting_proof number wire awaited
link_held number (held.AwaitsSignature signing owner) = awaiting_signature number signing owner
link_held number (held.AwaitsIdent link owner) = awaiting_ident number link owner
link_held number (held.Open link served) = open_link number link served

-- the session that ends with a link, if it is open in one that does
abbrev pub lossy_session : IncomingStage → Option ℕ
lossy_session (Open s served) = if served.lossy then Some served.number else None
lossy_session stage = None
