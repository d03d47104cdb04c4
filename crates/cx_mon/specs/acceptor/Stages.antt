-- The links as the monitor holds them, each as the link of the rules that it is, abridged.
use Rattle.std.specs.Prelude.{ℕ}
use Rattle.cx_node.specs.steps.Stages.{keys_alone}
use Rattle.cx_link.specs.Sending.{secured_of}
use Rattle.cx_link.specs.Wires.{SecureWire, Wire, secured_link, wired}
use Rattle.cx_link.specs.declared.links.Signing.{Signing}
use Rattle.cx_login.specs.Monitor.{Offer}
use Rattle.cx_rules.specs.Acceptor.{AwaitsBanner, AwaitsHello, AwaitsRequest, AwaitsProof, AwaitsSignature, AwaitsIdent, Open}
use Rattle.cx_rules.specs.Links.{Link}
use Rattle.cx_rules.specs.Monitor.{MonitorStage}
use Rattle.cx_rules.specs.declared.responses.Bearer.{Bearer}
use Rattle.cx_mon.specs.declared.links.Stage.{Stage}
use Rattle.cx_mon.specs.declared.links.Stage.TheVariants as held

-- a link of the monitor, as the rules have it
abbrev pub MonitorLink : Type 0
MonitorLink = Link MonitorStage

-- the links of each later stage
abbrev pub awaiting_proof : ℕ → Wire → Offer → ℕ → MonitorLink
awaiting_proof number wire offer gid = wired number wire (AwaitsProof (record { offer = offer; gid = gid }))

abbrev pub awaiting_signature : ℕ → Signing → Bearer → MonitorLink
awaiting_signature number signing bearer = secured_link number signing.link.ahead (AwaitsSignature (secured_of signing) bearer)

abbrev pub awaiting_ident : ℕ → SecureWire → Bearer → MonitorLink
awaiting_ident number link bearer = secured_link number link.ahead (AwaitsIdent (keys_alone link.keys) bearer)

abbrev pub open_link : ℕ → SecureWire → Bearer → MonitorLink
open_link number link bearer = secured_link number link.ahead (Open (keys_alone link.keys) bearer)

abbrev pub link_held : ℕ → Stage → MonitorLink
link_held number (held.AwaitsBanner wire) = wired number wire AwaitsBanner
link_held number (held.AwaitsHello wire) = wired number wire AwaitsHello
link_held number (held.AwaitsRequest wire) = wired number wire AwaitsRequest
link_held number (held.AwaitsProof wire offer gid) = awaiting_proof number wire offer gid
link_held number (held.AwaitsSignature signing bearer) = awaiting_signature number signing bearer
link_held number (held.AwaitsIdent link bearer) = awaiting_ident number link bearer
link_held number (held.Open link bearer) = open_link number link bearer
