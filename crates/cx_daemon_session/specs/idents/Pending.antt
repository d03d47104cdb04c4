-- A turn of an incoming link whose peer has signed, as it is made: what waits for a reply of the book goes on as the rule does.
use Rattle.std.specs.Prelude.{◌≡◌, ℕ, List, Option, Some, None}
use Rattle.cx_daemon_session.specs.cx_authorize.specs.Daemon.{Authority}
use Rattle.cx_control.specs.declared.idents.ClientIdent.{ClientIdent}
use Rattle.cx_daemon_session.specs.cx_desk.specs.Handlers.{Handlers}
use Rattle.cx_dice.specs.Draws.{cookie_of}
use Rattle.cx_link.specs.Wires.{SecureWire}
use Rattle.cx_node.specs.cx_rules.specs.Holdings.{MonClient}
use Rattle.cx_daemon_session.specs.cx_rules_session.specs.Asks.{Asking}
use Rattle.cx_daemon_session.specs.cx_rules_session.specs.IncomingLinks.{IncomingArrival}
use Rattle.cx_daemon_session.specs.cx_rules_session.specs.Hosting.{Deciding, Hosted, on_admission, on_resumption, passes_over}
use Rattle.cx_daemon_session.specs.cx_rules_session.specs.Lossy.{is_lossy}
use Rattle.cx_session.specs.declared.call.BookCall.{BookCall}
use Rattle.cx_session.specs.declared.call.BookCall.TheVariants.{Admit, Resume}
use Rattle.cx_session.specs.declared.call.BookFault.{BookFault}
use Rattle.cx_session.specs.declared.call.BookReply.{BookReply}
use Rattle.cx_session.specs.declared.call.BookReply.TheVariants.{Refused}
use Rattle.cx_steps.specs.declared.seals.SealEntry.{SealEntry}
use Rattle.cx_node.specs.steps.Stages.{keys_alone}
use Rattle.cx_node.specs.steps.Steps.{Stays}
use Rattle.cx_node.specs.steps.Turns.{HasNumber}
use Rattle.cx_node.specs.declared.moments.Moment.{Moment}
use Rattle.cx_daemon_session.specs.cx_verifying.specs.Rows.{arrived}
use Rattle.cx_daemon_session.specs.cx_verifying.specs.Stages.{IncomingLink, awaiting_ident}
use Rattle.cx_daemon_session.specs.cx_verifying.specs.Turns.{incoming_due}
use Rattle.cx_daemon_session.specs.coming.Hosted.{AreOne, asks_due, done_as, due_behind}
use Rattle.cx_daemon_session.specs.declared.idents_pending.Admitting.{Admitting}
use Rattle.cx_daemon_session.specs.declared.idents_pending.IdentTurn.{IdentTurn}
use Rattle.cx_daemon_session.specs.declared.idents_pending.IdentTurn.TheVariants as begun
use Rattle.cx_daemon_session.specs.declared.idents_pending.ResumedTurn.{ResumedTurn}
use Rattle.cx_daemon_session.specs.declared.idents_pending.Resuming.{Resuming}

-- what a row goes by on a link whose peer has signed
abbrev pub ident_arrival : MonClient → Moment → SecureWire → Authority → IncomingArrival
ident_arrival mon_client at link owner = arrived mon_client at (awaiting_ident at.number link owner)

-- what the book is asked for a CLIENT_IDENT
abbrev pub admission_call : Moment → Authority → ClientIdent → BookCall Authority
admission_call at owner ident = Admit owner ident.cookie (cookie_of at.draw.now.bytes) ident.global_seq (is_lossy ident.flags)

-- ---- how the rule goes on by the reply, for whoever the call asks

abbrev pub admission_by : MonClient → Moment → Admitting → BookCall Authority → BookReply → Deciding Hosted
admission_by mon_client at m (Admit owner client server global lossy) reply =
    due_behind m.opened (on_admission (ident_arrival mon_client at m.link owner) (keys_alone m.link.keys) owner m.ident reply)
admission_by mon_client at m _ reply = passes_over

abbrev pub behind_admission : MonClient → Moment → Admitting → BookReply → Deciding Hosted
behind_admission mon_client at m reply = admission_by mon_client at m m.call reply

abbrev pub resumption_by : MonClient → Moment → Resuming → BookCall Authority → BookReply → Deciding Hosted
resumption_by mon_client at m (Resume owner client server global connect) reply =
    due_behind m.opened (on_resumption (ident_arrival mon_client at m.link owner) (keys_alone m.link.keys) owner m.reconnect reply)
resumption_by mon_client at m _ reply = passes_over

abbrev pub behind_resumption : MonClient → Moment → Resuming → BookReply → Deciding Hosted
behind_resumption mon_client at m reply = resumption_by mon_client at m m.call reply

-- ---- what is made

-- what was begun, as what goes on by the replies of a book
abbrev pub begun_as : MonClient → Moment → IdentTurn → Deciding Hosted
begun_as mon_client at (begun.Done came) = done_as mon_client came None
begun_as mon_client at (begun.Admits m) = Asking m.call (behind_admission mon_client at m)
begun_as mon_client at (begun.Resumes m) = Asking m.call (behind_resumption mon_client at m)

-- what was begun is what the rule decides, behind what opened
abbrev pub IsDecided : MonClient → Moment → List SealEntry → Deciding Hosted → IdentTurn → Type 0
IsDecided mon_client at opened rule turn = AreOne (begun_as mon_client at turn) (due_behind opened rule)

-- what was begun on this link is what the rule has a turn of it come to
abbrev pub IsBegun : Handlers → MonClient → Moment → IncomingLink → IdentTurn → Type 0
IsBegun handlers mon_client at link turn = AreOne (begun_as mon_client at turn) (asks_due (incoming_due handlers mon_client at link))

-- a turn that is done stays on the link of that number, and leaves it as it was where it waits
abbrev pub StaysOn : IncomingLink → IdentTurn → Type 0
StaysOn link (begun.Done came) = Stays link came × HasNumber (λ (l : IncomingLink). l.number) link.number came
StaysOn link (begun.Admits m) = Unit {0}
StaysOn link (begun.Resumes m) = Unit {0}

-- ---- by the reply

-- the call changes the book where a session is resumed; where it is refused it changes nothing, and its owner stays with the link
abbrev pub IsApplied : BookCall Authority → BookReply → Option (BookCall Authority) → Type 0
IsApplied asked reply (Some call) = call ≡ asked
IsApplied asked reply None = (why : BookFault) × (reply ≡ Refused why)

-- a turn is done by the reply to a resumption, as the rule is finished
pub record IsResumed (mon_client : MonClient) (at : Moment) (m : Resuming) (reply : BookReply) (turn : ResumedTurn) : Type 0 where
  pub made : done_as mon_client turn.came turn.moved ≡ behind_resumption mon_client at m reply
  pub number_is : HasNumber (λ (l : IncomingLink). l.number) at.number turn.came
  pub applied : IsApplied m.call reply turn.call
