-- The links to the monitor as they are held, each as the link of the rules that it is, abridged.
use Rattle.std.specs.Prelude.{ℕ, ◌≡◌, Bool, true, List}
use Rattle.cx_node.specs.steps.Stages.{keys_alone}
use Rattle.cx_link.specs.Sending.{behind_ahead, secured_of}
use Rattle.cx_link.specs.Wires.{SecureWire, secured_link, wired}
use Rattle.cx_link.specs.declared.links.Signing.{Signing}
use Rattle.cx_node.specs.cx_rules.specs.Connector as connector
use Rattle.cx_node.specs.cx_rules.specs.Connector.{Login}
use Rattle.cx_node.specs.cx_rules.specs.Links.{Link}
use Rattle.cx_node.specs.cx_rules.specs.Requests.{Requests, carries_fetch}
use Rattle.cx_monclient.specs.declared.links.OpenAhead.{OpenAhead}
use Rattle.cx_monclient.specs.declared.links.Stage.{Stage}
use Rattle.cx_monclient.specs.declared.links.Stage.TheVariants as held

-- a link to the monitor, as the rules have it
abbrev pub MonClientLink : Type 0
MonClientLink = Link connector.Stage

-- the links of each later stage
abbrev pub awaiting_signature : ℕ → Signing → Login → MonClientLink
awaiting_signature number signing login = secured_link number signing.link.ahead (connector.AwaitsSignature (secured_of signing) login)

abbrev pub awaiting_ident : ℕ → SecureWire → List ℕ → MonClientLink
awaiting_ident number link session = secured_link number link.ahead (connector.AwaitsIdent (keys_alone link.keys) session)

abbrev pub open_link : ℕ → SecureWire → Requests → MonClientLink
open_link number link requests = secured_link number link.ahead (connector.Open (keys_alone link.keys) requests)

abbrev pub link_held : ℕ → Stage → MonClientLink
link_held number (held.AwaitsBanner wire asked) = wired number wire (connector.AwaitsBanner asked)
link_held number (held.AwaitsHello wire asked) = wired number wire (connector.AwaitsHello asked)
link_held number (held.AwaitsChallenge wire asked) = wired number wire (connector.AwaitsChallenge asked)
link_held number (held.AwaitsDone wire) = wired number wire connector.AwaitsDone
link_held number (held.AwaitsSignature signing login) = awaiting_signature number signing login
link_held number (held.AwaitsIdent link session) = awaiting_ident number link session
link_held number (held.Open link requests) = open_link number link requests

-- whether a fetch of a daemon is under way on a link: it isn't open yet, or a request for generations waits
abbrev pub is_fetching : connector.Stage → Bool
is_fetching (connector.Open s requests) = carries_fetch requests
is_fetching stage = true

-- ---- a request that was sealed ahead

-- it was so under the counter at which this open link stands
abbrev pub IsAheadAt : Stage → OpenAhead → Type 0
IsAheadAt (held.Open link requests) a = a.link.from ≡ link.keys.out.counter
IsAheadAt stage a = ⊥

-- the stage behind it
abbrev pub stage_ahead : Stage → OpenAhead → Stage
stage_ahead (held.Open link requests) a = held.Open (behind_ahead link a.link) a.requests
stage_ahead stage a = stage

-- the same of a link of the rules
abbrev pub IsAheadIn : connector.Stage → OpenAhead → Type 0
IsAheadIn (connector.Open s requests) a = a.link.from ≡ s.keys.out.counter
IsAheadIn stage a = ⊥

abbrev pub IsAheadOn : MonClientLink → OpenAhead → Type 0
IsAheadOn link a = IsAheadIn link.stage a

abbrev pub stage_behind : connector.Stage → OpenAhead → connector.Stage
stage_behind (connector.Open s requests) a = connector.Open (record s { keys = record s.keys { out = record s.keys.out { counter = a.link.next } } }) a.requests
stage_behind stage a = stage

abbrev pub behind_asked : MonClientLink → OpenAhead → MonClientLink
behind_asked link a = record link { stage = stage_behind link.stage a }
