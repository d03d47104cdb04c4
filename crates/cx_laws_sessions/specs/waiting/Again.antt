-- Behind SESSION_RECONNECT_OK a client sends again what waits in its session ("msgr2 protocol": a session that is taken up again).
use Rattle.std.specs.Prelude.{ℕ, ◌≡◌, ◌⊎◌, List, [], ◌∷◌, ◌++◌, map, Some, Ok, Err}
use Rattle.cx_base.specs.Names.{Name}
use Rattle.cx_base.specs.declared.nodes.NodeName.TheVariants as node
use Rattle.cx_base.specs.declared.operations.Operation.{Operation}
use Rattle.cx_control.specs.Reconnects.{session_reconnect_ok_layout}
use Rattle.cx_control.specs.declared.reconnects.SessionReconnectOk.{SessionReconnectOk}
use Rattle.cx_frame.specs.declared.frame.Frame.{Frame}
use Rattle.cx_journal.specs.declared.faults.BytesFault.{BytesFault}
use Rattle.cx_laws_sessions.specs.cx_rules.specs.Fronts.{Next, secure_next}
use Rattle.cx_laws_sessions.specs.cx_rules.specs.Inputs.{Turn}
use Rattle.cx_laws_sessions.specs.cx_rules.specs.Links.{Link, link_of}
use Rattle.cx_laws_sessions.specs.cx_rules.specs.Messages.{message}
use Rattle.cx_laws_sessions.specs.cx_rules.specs.Payloads.{payload}
use Rattle.cx_laws_sessions.specs.cx_rules.specs.Rows.{piece}
use Rattle.cx_laws_sessions.specs.cx_rules.specs.Secured.{Keys, SealedFrame, Secured, secure_frame}
use Rattle.cx_laws_sessions.specs.cx_rules_session.specs.ClientRule.{ClientStage, ToDaemon, WholeClientNode}
use Rattle.cx_laws_sessions.specs.cx_rules_session.specs.Kinds.{in_stage}
use Rattle.cx_laws_sessions.specs.cx_rules_session.specs.Presenter.{CallStage, AwaitsReconnect}
use Rattle.cx_laws_sessions.specs.cx_rules_session.specs.Sessions.{Callee, HeldSession}
use Rattle.cx_laws_sessions.specs.cx_run.specs.Happenings.{OfClient, entity_of}
use Rattle.cx_laws_sessions.specs.cx_run.specs.Points.{Point, nodes_past, stepped_at}
use Rattle.cx_laws_sessions.specs.waiting.Heard.{session_at}
use Rattle.cx_steps.specs.declared.effects.Effects.{Effects}
use Rattle.cx_steps.specs.declared.seals.SealEntry.{SealEntry}
use Rattle.cx_wire.specs.Operations.{operation_layout}

-- ---- frames that go out

-- an operation that waits, as MESSAGE of type 42, with its own number as seq and tid
abbrev pub asked_again : ℕ × Operation → Frame
asked_again (number, operation) = message (record { seq = number; tid = number; type_ = 42 }) (operation_layout.form.text operation)

-- these frames are sealed, each behind the one before it, and so many bytes are they together
abbrev pub AreSealed : Keys → List Frame → List ℕ → Type 0
AreSealed keys [] bytes = bytes ≡ []
AreSealed keys (f ∷ fs) bytes =
    (one : SealedFrame) × (rest : List ℕ) × (secure_frame keys f ≡ Ok one) × (bytes ≡ one.bytes ++ rest) × AreSealed one.keys fs rest

-- one of them can't be: no counters are left for its parts, or it is too long
abbrev pub CantBeSealed : Keys → List Frame → BytesFault → Type 0
CantBeSealed keys [] why = ⊥
CantBeSealed keys (f ∷ fs) why =
    (secure_frame keys f ≡ Err why) ⊎ ((one : SealedFrame) × (secure_frame keys f ≡ Ok one) × CantBeSealed one.keys fs why)

-- ---- where a session is taken up again

-- the turn of a client's link at which SESSION_RECONNECT_OK is opened, behind SESSION_RECONNECT: the keys with which the link goes on, and what it says
pub record IsTakenUp (p : Point) (client : Name) (callee : Callee) (number : ℕ) (keys : Keys) : Type 0 where
  pub of : p.happening.node ≡ node.Entity client
  pub turn : p.happening.input ≡ Turn number
  pub c : WholeClientNode
  pub found : entity_of client p.nodes ≡ Some (OfClient c)
  pub link : Link ClientStage
  pub lives : link_of number c.links ≡ Some link
  pub s : Secured
  pub cookie : ℕ
  pub stage : link.stage ≡ ToDaemon (AwaitsReconnect s callee cookie)
  pub behind : Link CallStage
  pub frame : Frame
  pub opened : List SealEntry
  pub next : secure_next s.keys (in_stage link (AwaitsReconnect s callee cookie)) ≡ Next (behind, frame, keys) opened
  pub tag : frame.tag ≡ 15
  pub told : SessionReconnectOk
  pub reads : payload session_reconnect_ok_layout.form frame ≡ Ok told

-- all of these frames go out on the link, in one piece and their order, each once; or none does, since one of them can't be sealed, and the link is shut
abbrev pub GoOut : ℕ → Keys → List Frame → Effects → Type 0
GoOut number keys frames out =
    ((bytes : List ℕ) × AreSealed keys frames bytes × (out.sends ≡ piece number bytes) × (out.shuts ≡ []))
    ⊎ ((why : BytesFault) × CantBeSealed keys frames why × (out.sends ≡ []) × (out.shuts ≡ number ∷ []))

-- there all that waits behind it goes out again on that link, where a session is held
abbrev pub SendsAgain : List Point → Point → Type 0
SendsAgain older p = (client : Name) (callee : Callee) (number : ℕ) (keys : Keys) → IsTakenUp p client callee number keys
    → (session : HeldSession) → session_at (nodes_past p) client callee.daemon ≡ Some session
    → GoOut number keys (map asked_again session.queue.waiting) (stepped_at p).out
