-- For which session each link of a client to a daemon is.
use Rattle.std.specs.Prelude.{ℕ, ◌≡◌, List, Option, Some, None}
use Rattle.std.specs.List.{AllByRecursion}
use Rattle.cx_laws_sessions.specs.cx_rules.specs.Links.{Link}
use Rattle.cx_laws_sessions.specs.cx_rules_session.specs.ClientRule.{ClientStage, ToMonitor, ToDaemon}
use Rattle.cx_laws_sessions.specs.cx_rules_session.specs.Presenter.{CallStage, AwaitsIdent, AwaitsReconnect, Open, callee_of}
use Rattle.cx_laws_sessions.specs.cx_rules_session.specs.Sessions.{HeldSession, session_with}
use Rattle.cx_laws_sessions.specs.cx_run.specs.Happenings.{EntityNode, OfClient, OfDaemon}

-- it is held under this cookie of the client
abbrev pub IsUnder : ℕ → Option HeldSession → Type 0
IsUnder cookie None = ⊥
IsUnder cookie (Some session) = session.client_cookie ≡ cookie

-- Behind CLIENT_IDENT no session with the daemon is held. Behind SESSION_RECONNECT, and where the link is open, the one is that the link is for.
abbrev pub IsFor : Option HeldSession → CallStage → Type 0
IsFor session (AwaitsIdent s callee cookie) = session ≡ None
IsFor session (AwaitsReconnect s callee cookie) = IsUnder cookie session
IsFor session (Open s callee cookie) = IsUnder cookie session
IsFor session _ = Unit {0}

abbrev pub IsLinkedBy : List HeldSession → ClientStage → Type 0
IsLinkedBy sessions (ToMonitor stage) = Unit {0}
IsLinkedBy sessions (ToDaemon stage) = IsFor (session_with (callee_of stage).daemon sessions) stage

-- so it is of each link of each client
abbrev pub IsLinked : EntityNode → Type 0
IsLinked (OfDaemon d) = Unit {0}
IsLinked (OfClient c) = AllByRecursion (λ (link : Link ClientStage). IsLinkedBy c.own.sessions link.stage) c.links

abbrev pub AreLinked : List EntityNode → Type 0
AreLinked entities = AllByRecursion IsLinked entities
