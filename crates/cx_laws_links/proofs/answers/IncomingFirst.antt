-- Which stages of an incoming link have no key yet.
use Rattle.cx_laws_links.specs.cx_rules.specs.Acceptor.{AwaitsBanner, AwaitsHello, AwaitsRequest, AwaitsProof}
use Rattle.cx_laws_links.specs.cx_rules_session.specs.IncomingLinks.{IncomingStage}

-- a link that has no key yet
abbrev pub IsEarly : IncomingStage → Type 0
IsEarly AwaitsBanner = Unit {0}
IsEarly AwaitsHello = Unit {0}
IsEarly AwaitsRequest = Unit {0}
IsEarly (AwaitsProof awaited) = Unit {0}
IsEarly _ = ⊥
