-- What a step may answer at most, of every state, event, reading and draw.
use Rattle.std.specs.Prelude.{ℕ, ◌≡◌, ◌⊎◌, List, [], take, Option, Some, None, IsSome}
use Rattle.std.specs.List.{AllByRecursion}
use Rattle.cx_login.specs.cx_journal.specs.declared.entries.Entry.{Entry}
use Rattle.cx_login.specs.cx_journal.specs.declared.entries.Entry.TheVariants as entry
use Rattle.cx_login.specs.cx_journal.specs.declared.premises.KeyKind.{KeyKind}
use Rattle.cx_login.specs.cx_journal.specs.declared.premises.KeyKind.TheVariants as kind
use Rattle.cx_stream.specs.cx_frame.specs.declared.frame.Frame.{Frame}
use Rattle.cx_login.specs.cx_steps.specs.Onto.{SomeOf}
use Rattle.cx_login.specs.cx_steps.specs.declared.effects.Effects.{Effects}
use Rattle.cx_login.specs.cx_steps.specs.declared.effects.Piece.{Piece}
use Rattle.cx_login.specs.cx_steps.specs.declared.seals.SealEntry.{SealEntry}
use Rattle.cx_login.specs.cx_steps.specs.declared.seals.SealEntry.TheVariants as seal
use Rattle.cx_base.specs.declared.kinds.EntityType.TheVariants.{Auth}
use Rattle.cx_keyserver.specs.cx_dice.specs.Draws.{challenge_of, connection_of, cookie_of, session_of}
use Rattle.cx_login.specs.cx_steps.specs.declared.seals.DrawMark.{DrawMark}
use Rattle.cx_login.specs.cx_steps.specs.declared.seals.DrawMark.TheVariants as draw
use Rattle.cx_rules.specs.Acceptor.{AwaitsProof, AwaitsSignature, AwaitsIdent, Open}
use Rattle.cx_rules.specs.Connector.{MonClientArrival}
use Rattle.cx_rules.specs.Connector as connector
use Rattle.cx_rules.specs.Holdings.{MonClient}
use Rattle.cx_rules.specs.Fronts.{Next, secure_next}
use Rattle.cx_rules.specs.Inputs.{Input, Opened, Turn}
use Rattle.cx_rules.specs.KeptStates.{changed}
use Rattle.cx_rules.specs.Links.{Link, link_of}
use Rattle.cx_rules.specs.Monitor.{Monitor, MonitorArrival, MonitorNode, MonitorStage}
use Rattle.cx_rules.specs.Rows.{Node, Outcome, Turned, Waits, Refuses, Handles}
use Rattle.cx_rules.specs.Secured.{Keys, Secured}
use Rattle.cx_rules.specs.declared.responses.Bearer.{Bearer}

-- ---- what is handed out

-- it is entered that a ticket was issued, or that the state was saved
abbrev pub IsHandedOut : Entry → Type 0
IsHandedOut (entry.Issued ticket) = Unit {0}
IsHandedOut (entry.Saved gid) = Unit {0}
IsHandedOut _ = ⊥

-- the kinds of key that seal tickets, what is told of them, and connection secrets
abbrev pub IsEnvelopeKind : KeyKind → Type 0
IsEnvelopeKind kind.Principal = Unit {0}
IsEnvelopeKind kind.Auth = Unit {0}
IsEnvelopeKind kind.Service = Unit {0}
IsEnvelopeKind kind.Session = Unit {0}
IsEnvelopeKind _ = ⊥

abbrev pub IsEnvelopeSealed : SealEntry → Type 0
IsEnvelopeSealed (seal.Sealed mark) = IsEnvelopeKind mark.kind
IsEnvelopeSealed _ = ⊥

-- a proof was found equal
abbrev pub IsProofFound : SealEntry → Type 0
IsProofFound (seal.Checked mark) = mark.kind ≡ kind.Proof
IsProofFound _ = ⊥

-- none of these items is so
abbrev pub NoneOf : {X : Type 0} → (X → Type 0) → List X → Type 0
NoneOf P xs = AllByRecursion (λ x. P x → ⊥) xs

-- a step that hands out nothing: no ticket is entered, and none is sealed; nothing is saved
pub record IsQuiet (before : MonitorNode) (o : Outcome MonitorNode) : Type 0 where
  pub entries : NoneOf IsHandedOut o.out.entries
  pub seals : NoneOf IsEnvelopeSealed o.out.seals
  pub save : o.out.save ≡ None
  pub saved : o.state.own.saved ≡ before.own.saved

-- a step that hands out tickets: a proof was found equal; its link goes on; behind it the saved state is the key server's, and it is saved
-- where it differs from the one that was saved before
pub record IsGranting (before : MonitorNode) (o : Outcome MonitorNode) : Type 0 where
  pub proven : SomeOf IsProofFound o.out.seals
  pub shuts : o.out.shuts ≡ []
  pub save : o.out.save ≡ changed before.own.saved o.state.own.server.state
  pub saved : o.state.own.saved ≡ o.state.own.server.state

-- on this link, which is open, a whole frame stands next, which opens
pub record HearsFrame (link : Link MonitorStage) : Type 0 where
  pub secured : Secured
  pub bearer : Bearer
  pub stage : link.stage ≡ Open secured bearer
  pub behind : Link MonitorStage × Frame × Keys
  pub opened : List SealEntry
  pub next : secure_next secured.keys link ≡ Next behind opened

-- a step that replies to a request: a frame opens on a link that is open, which goes on; behind it the saved state is the key server's, and it is
-- saved where it differs from the one that was saved before
pub record IsReplying (before : MonitorNode) (input : Input) (o : Outcome MonitorNode) : Type 0 where
  pub number : ℕ
  pub turn : input ≡ Turn number
  pub link : Link MonitorStage
  pub found : link_of number before.links ≡ Some link
  pub hears : HearsFrame link
  pub shuts : o.out.shuts ≡ []
  pub save : o.out.save ≡ changed before.own.saved o.state.own.server.state
  pub saved : o.state.own.saved ≡ o.state.own.server.state

-- each step does one of these
abbrev pub IsJudged : MonitorNode → Input → Outcome MonitorNode → Type 0
IsJudged before input o = IsQuiet before o ⊎ (IsGranting before o ⊎ IsReplying before input o)

-- ---- links

-- the link lives, or it is the one that opens
abbrev pub IsThere : {Own Stage : Type 0} → Node Own Stage → Input → ℕ → Type 0
IsThere node (Opened number peer) n = (n ≡ number) ⊎ IsSome (link_of n node.links)
IsThere node _ n = IsSome (link_of n node.links)

-- what is sent is sent on links that are there, and links that are shut are there
pub record NamesLinks {Own Stage : Type 0} (node : Node Own Stage) (input : Input) (out : Effects) : Type 0 where
  pub sends : AllByRecursion (λ (p : Piece). IsThere node input p.link) out.sends
  pub shuts : AllByRecursion (IsThere node input) out.shuts

-- ---- what is drawn

-- these entries log the draw
abbrev pub LogsDraw : DrawMark → List SealEntry → Type 0
LogsDraw mark seals = SomeOf (λ logged. logged ≡ seal.Drawn mark) seals

-- the key of a link that is secured
abbrev pub has_key : MonitorStage → List ℕ → Type 0
has_key (AwaitsSignature s bearer) key = s.keys.key ≡ key
has_key (AwaitsIdent s bearer) key = s.keys.key ≡ key
has_key (Open s bearer) key = s.keys.key ≡ key
has_key _ key = ⊥

-- the stage in which a link goes on holds what was drawn, and that is logged: a challenge, the key of the connection, and the session key
-- that signs; later stages have the key of before
abbrev pub LogsStage : MonitorArrival → List SealEntry → MonitorStage → Type 0
LogsStage a seals (AwaitsProof offered) = (offered.offer.challenge ≡ challenge_of a.draw) × LogsDraw (draw.Challenge (challenge_of a.draw)) seals
LogsStage a seals (AwaitsSignature s bearer) =
    (s.keys.key ≡ take 16 (connection_of a.draw)) × LogsDraw (draw.Connection (connection_of a.draw) bearer.name) seals
    × (s.session ≡ session_of Auth a.draw) × LogsDraw (draw.Session (session_of Auth a.draw) bearer.name) seals
LogsStage a seals (AwaitsIdent s bearer) = has_key a.link.stage s.keys.key
LogsStage a seals (Open s bearer) = has_key a.link.stage s.keys.key
LogsStage a seals _ = Unit {0}

abbrev pub LogsLink : MonitorArrival → List SealEntry → Option (Link MonitorStage) → Type 0
LogsLink a seals (Some link) = LogsStage a seals link.stage
LogsLink a seals None = Unit {0}

-- a turn at the monitor logs these draws, which its link goes on with
abbrev pub LogsTurn : MonitorArrival → Turned Monitor MonitorStage → Type 0
LogsTurn a Waits = Unit {0}
LogsTurn a (Refuses why opened) = Unit {0}
LogsTurn a (Handles row) = LogsLink a row.seals row.link

-- so does one at a connector: the challenge of its proof, and the cookie of its CLIENT_IDENT
abbrev pub MonClientLogsStage : MonClientArrival → List SealEntry → connector.Stage → Type 0
MonClientLogsStage a seals connector.AwaitsDone = LogsDraw (draw.Challenge (challenge_of a.draw)) seals
MonClientLogsStage a seals (connector.AwaitsIdent s session) = LogsDraw (draw.Cookie (cookie_of a.draw)) seals
MonClientLogsStage a seals _ = Unit {0}

abbrev pub MonClientLogsLink : MonClientArrival → List SealEntry → Option (Link connector.Stage) → Type 0
MonClientLogsLink a seals (Some link) = MonClientLogsStage a seals link.stage
MonClientLogsLink a seals None = Unit {0}

abbrev pub MonClientLogsTurn : MonClientArrival → Turned MonClient connector.Stage → Type 0
MonClientLogsTurn a Waits = Unit {0}
MonClientLogsTurn a (Refuses why opened) = Unit {0}
MonClientLogsTurn a (Handles row) = MonClientLogsLink a row.seals row.link
