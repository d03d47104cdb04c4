-- What is known of all that was said on links to daemons: where each nonce of an authorizer stands, what each connector spoke under its key, which
-- sessions were admitted on which links, and what each link at either end has of it.
use Rattle.std.proofs.Common.{◌≡◌, ℕ, ◌<◌, ◌≤◌, ◌^◌, List, [], ◌∷◌, ◌++◌, length, Option, Some, None}
use Rattle.std.specs.Prelude.{Contains}
use Rattle.std.specs.List.{AllByRecursion}
use Rattle.cx_laws_tickets.specs.cx_run.specs.cx_authorize.specs.Verdict.{raised}
use Rattle.cx_base.specs.Names.{Name}
use Rattle.cx_base.specs.declared.kinds.EntityType.{EntityType}
use Rattle.cx_base.specs.declared.nodes.NodeName.{NodeName}
use Rattle.cx_base.specs.declared.operations.Operation.{Operation}
use Rattle.cx_journal.specs.declared.entries.Admitted.{Admitted}
use Rattle.cx_journal.specs.declared.entries.Entry.{Entry}
use Rattle.cx_journal.specs.declared.entries.Entry.TheVariants as journal
use Rattle.cx_laws_keys.proofs.keys.Known.{IsOfConnector}
use Rattle.cx_laws_keys.proofs.keys.Uses.{AtDaemon, Connected, Means, Uses, WholeRun}
use Rattle.cx_laws_keys.proofs.series.Contents.{contents_in}
use Rattle.cx_laws_keys.proofs.series.Frames.{HasParts}
use Rattle.cx_laws_keys.specs.cx_rules.specs.Acceptor as acceptor
use Rattle.cx_laws_keys.specs.cx_rules.specs.Holdings.{MonClient}
use Rattle.cx_laws_keys.specs.cx_rules.specs.Links.{Link}
use Rattle.cx_laws_keys.specs.cx_rules.specs.Secured.{Secured}
use Rattle.cx_laws_tickets.specs.cx_run.specs.cx_rules_session.specs.ClientRule.{ClientStage, ToDaemon, ToMonitor, WholeClient, WholeClientNode}
use Rattle.cx_laws_tickets.specs.cx_run.specs.cx_rules_session.specs.IncomingLinks.{IncomingStage, Served}
use Rattle.cx_laws_tickets.specs.cx_run.specs.cx_rules_session.specs.Presenter as call
use Rattle.cx_laws_tickets.specs.cx_run.specs.cx_rules_session.specs.Presenter.{CallStage}
use Rattle.cx_laws_tickets.specs.cx_run.specs.cx_rules_session.specs.Sessions.{HeldSession, session_with}
use Rattle.cx_steps.specs.Onto.{SomeOf}
use Rattle.cx_steps.specs.declared.seals.DrawMark.TheVariants as draw
use Rattle.cx_steps.specs.declared.seals.Logged.{Logged}
use Rattle.cx_steps.specs.declared.seals.SealEntry.TheVariants as entry
use Rattle.cx_laws_links.proofs.links.Spoken.{Idents, KeepsUp, Orders, Reconnects, Signs, Spoken, cookie_after, cookie_behind, is_connectors, parts_of, said_under}
use Rattle.cx_laws_links.proofs.links.Taking.{AreFrames}
use Rattle.cx_laws_links.proofs.links.Written.{IsLinkKey, IsWritten}

-- ---- what stands in no state

-- a nonce was shown to nobody yet; or by an entity on its link of this number; or a reply to it gave that link its key
pub data NoncePlace : Type 0 where
  Unshown : NoncePlace
  Shown : Name → ℕ → NoncePlace
  Bound : Name → ℕ → List ℕ → NoncePlace

-- what connectors spoke, each with its key, the oldest first; where each nonce stands; and the cookies of the sessions that were admitted, each with the
-- key of its link
pub record Told : Type 0 where
  pub said : List (List ℕ × Spoken)
  pub nonces : ℕ → NoncePlace
  pub joins : List (List ℕ × ℕ)

-- ---- drawn

abbrev pub HasNonce : List Logged → ℕ → Type 0
HasNonce log nonce = SomeOf (λ (at : Logged). at.entry ≡ entry.Drawn (draw.Nonce nonce)) log

abbrev pub HasCookie : List Logged → ℕ → Type 0
HasCookie log cookie = SomeOf (λ (at : Logged). at.entry ≡ entry.Drawn (draw.Cookie cookie)) log

-- ---- what is spoken is true

-- an order is spoken in a session, and was entered as sent in it
abbrev pub IsTrueWord : List Entry → Name → Option ℕ → Spoken → Type 0
IsTrueWord J name before (Orders order) =
    (cookie : ℕ) × (daemon : Name) × (before ≡ Some cookie)
    × Contains J (journal.Sent (record { client = name; daemon = daemon; cookie = cookie; seq = order.0; operation = order.1 }))
IsTrueWord J name before (Signs code) = Unit {0}
IsTrueWord J name before (Idents mon_client gid flags cookie) = Unit {0}
IsTrueWord J name before (Reconnects mon_client session) = Unit {0}
IsTrueWord J name before (KeepsUp ack) = Unit {0}

abbrev pub AreTrueWords : List Entry → Name → Option ℕ → List Spoken → Type 0
AreTrueWords J name before [] = Unit {0}
AreTrueWords J name before (x ∷ xs) = IsTrueWord J name before x × AreTrueWords J name (cookie_after before x) xs

-- the session of this cookie was asked for on a link with this key
pub record AsksFor (said : List (List ℕ × Spoken)) (key : List ℕ) (cookie : ℕ) : Type 0 where
  pub mon_client : MonClient
  pub gid : ℕ
  pub flags : ℕ
  pub asks : Contains said (key, Idents mon_client gid flags cookie)

-- where a reply gave a key its link: the nonce that is tied to it stands there
pub record IsBound (told : Told) (key : List ℕ) (name : Name) (tie : ℕ) : Type 0 where
  pub nonce : ℕ
  pub number : ℕ
  pub low : nonce < 2 ^ 64
  pub tied : raised nonce ≡ tie
  pub stands : told.nonces nonce ≡ Bound name number key

-- where this session was admitted
pub record IsJoined (us : Uses) (told : Told) (session : Admitted) : Type 0 where
  pub key : List ℕ
  pub tie : ℕ
  pub is : IsLinkKey us key session.entity tie
  pub joined : Contains told.joins (key, session.cookie)

-- under this key was spoken, as its log has it: it is the key of a link, whose nonce stands there, and what was spoken is true and fits into frames
pub record IsSpoken (us : Uses) (told : Told) (log : List Logged) (J : List Entry) (key : List ℕ) : Type 0 where
  pub name : Name
  pub tie : ℕ
  pub is : IsLinkKey us key name tie
  pub written : IsWritten log told.said key
  pub words : AreTrueWords J name None (said_under key told.said)
  pub frames : AreFrames (said_under key told.said)
  pub bound : IsBound told key name tie

-- a session was admitted on the link of this key: its client, where that didn't leak, asked for it there
pub record IsAsked (run : WholeRun) (us : Uses) (told : Told) (key : List ℕ) (cookie : ℕ) : Type 0 where
  pub name : Name
  pub tie : ℕ
  pub is : IsLinkKey us key name tie
  pub asks : (Contains run.leaked name → ⊥) → AsksFor told.said key cookie

-- of the whole run so far: under each key something was spoken as the log has it, or nothing was sealed by a connector; each cookie was drawn before it is
-- asked for, on one link; each nonce that was shown was drawn; and what a daemon admitted for a client that didn't leak the client asked for on that link
pub record AreTold (run : WholeRun) (us : Uses) (told : Told) (log : List Logged) (J : List Entry) : Type 0 where
  pub spoken : (key : List ℕ) (x : Spoken) → Contains told.said (key, x) → IsSpoken us told log J key
  pub silent : (key : List ℕ) (name : Name) (tie : ℕ) → IsLinkKey us key name tie → said_under key told.said ≡ [] → contents_in key is_connectors log ≡ []
  pub cookies : (key : List ℕ) (cookie : ℕ) → AsksFor told.said key cookie → HasCookie log cookie
  pub once : (key other : List ℕ) (cookie : ℕ) → AsksFor told.said key cookie → AsksFor told.said other cookie → key ≡ other
  pub nonces : (nonce : ℕ) → (told.nonces nonce ≡ Unshown → ⊥) → HasNonce log nonce
  pub joined : (session : Admitted) → Contains J (journal.Admitted session) → IsJoined us told session
  pub asked : (key : List ℕ) (cookie : ℕ) → Contains told.joins (key, cookie) → IsAsked run us told key cookie

-- ---- a client's links to daemons

-- a link has its key by a reply to its own nonce: all that its key's connector sealed this link spoke, and the last session that it spoke of is this one
pub record IsKeyed (us : Uses) (told : Told) (log : List Logged) (name : Name) (number : ℕ) (s : Secured) (cookie : Option ℕ) : Type 0 where
  pub nonce : ℕ
  pub low : nonce < 2 ^ 64
  pub is : IsLinkKey us s.keys.key name (raised nonce)
  pub stands : told.nonces nonce ≡ Bound name number s.keys.key
  pub parts : HasParts is_connectors s.keys (parts_of (said_under s.keys.key told.said)) log
  pub connector : IsOfConnector s.keys.out.fixed
  pub four : length s.keys.out.fixed ≡ 4
  pub fits : s.keys.out.counter ≤ 2 ^ 64
  pub session : cookie_behind None (said_under s.keys.key told.said) ≡ cookie

-- this nonce was shown on the link
pub record IsShown (told : Told) (name : Name) (number nonce : ℕ) : Type 0 where
  pub low : nonce < 2 ^ 64
  pub stands : told.nonces nonce ≡ Shown name number

abbrev pub CallTold : Uses → Told → List Logged → Name → ℕ → CallStage → Type 0
CallTold us told log name number (call.AwaitsBanner called) = Unit {0}
CallTold us told log name number (call.AwaitsHello called) = Unit {0}
CallTold us told log name number (call.AwaitsChallenge callee presented) = IsShown told name number presented.nonce
CallTold us told log name number (call.AwaitsDone callee answered) = IsShown told name number answered.nonce
CallTold us told log name number (call.AwaitsSignature s callee) = IsKeyed us told log name number s None
CallTold us told log name number (call.AwaitsIdent s callee cookie) = IsKeyed us told log name number s (Some cookie)
CallTold us told log name number (call.AwaitsReconnect s callee cookie) = IsKeyed us told log name number s (Some cookie)
CallTold us told log name number (call.Open s callee cookie) = IsKeyed us told log name number s (Some cookie)

-- a link that takes a session up, or has it open, is the one of the session that is held with its daemon, where one is
abbrev pub IsOfSession : List HeldSession → CallStage → Type 0
IsOfSession sessions (call.AwaitsReconnect s callee cookie) = (session : HeldSession) → session_with callee.daemon sessions ≡ Some session → session.client_cookie ≡ cookie
IsOfSession sessions (call.Open s callee cookie) = (session : HeldSession) → session_with callee.daemon sessions ≡ Some session → session.client_cookie ≡ cookie
IsOfSession sessions _ = Unit {0}

abbrev pub StageTold : Uses → Told → List Logged → WholeClient → ℕ → ClientStage → Type 0
StageTold us told log own number (ToMonitor stage) = Unit {0}
StageTold us told log own number (ToDaemon stage) = CallTold us told log own.mon_client.name number stage × IsOfSession own.sessions stage

pub record ClientTold (us : Uses) (told : Told) (log : List Logged) (c : WholeClientNode) : Type 0 where
  pub links : AllByRecursion (λ (link : Link ClientStage). StageTold us told log c.own link.number link.stage) c.links

-- ---- a daemon's incoming links

-- what was taken on a link is the front of what its connector spoke, and the counter says how far it reaches
pub record HasTaken (told : Told) (s : Secured) (cookie : Option ℕ) : Type 0 where
  pub taken : List Spoken
  pub rest : List Spoken
  pub front : said_under s.keys.key told.said ≡ taken ++ rest
  pub counter : s.keys.into.counter ≡ length (parts_of taken)
  pub session : cookie_behind None taken ≡ cookie

-- the link's key is that of this very link, to this entity
pub record IsIncoming (run : WholeRun) (us : Uses) (told : Told) (n : NodeName) (number : ℕ) (s : Secured) (name : Name) : Type 0 where
  pub service : EntityType
  pub tie : ℕ
  pub means : Means us s.keys.key (Connected n number name (AtDaemon service tie))
  pub connector : IsOfConnector s.keys.into.fixed
  pub four : length s.keys.into.fixed ≡ 4

-- behind authentication nothing was taken but its signature and what was refused, and no session was admitted; on an open link its session was the last
-- that was spoken of. All this of clients that didn't leak
abbrev pub IncomingTold : WholeRun → Uses → Told → NodeName → ℕ → IncomingStage → Type 0
IncomingTold run us told n number (acceptor.AwaitsSignature s owner) =
    IsIncoming run us told n number s owner.ticket.name × ((Contains run.leaked owner.ticket.name → ⊥) → (cookie : Option ℕ) × HasTaken told s cookie)
    × ((cookie : ℕ) → Contains told.joins (s.keys.key, cookie) → ⊥)
IncomingTold run us told n number (acceptor.AwaitsIdent s owner) =
    IsIncoming run us told n number s owner.ticket.name × ((Contains run.leaked owner.ticket.name → ⊥) → (cookie : Option ℕ) × HasTaken told s cookie)
    × ((cookie : ℕ) → Contains told.joins (s.keys.key, cookie) → ⊥)
IncomingTold run us told n number (acceptor.Open s served) =
    (name : Name) × IsIncoming run us told n number s name × ((Contains run.leaked name → ⊥) → HasTaken told s (Some served.cookie))
IncomingTold run us told n number _ = Unit {0}
