-- A turn of an open incoming link, as it is made: what waits for a reply of the book goes on as the rule does.
use Rattle.std.specs.Prelude.{◌≡◌, ℕ, List, None}
use Rattle.cx_desk.specs.Handlers.{Handlers}
use Rattle.cx_link.specs.Wires.{SecureWire}
use Rattle.cx_node.specs.cx_rules.specs.Holdings.{MonClient}
use Rattle.cx_daemon_session.specs.cx_rules_session.specs.Asks.{Asking}
use Rattle.cx_daemon_session.specs.cx_rules_session.specs.IncomingLinks.{IncomingArrival, Served}
use Rattle.cx_daemon_session.specs.cx_rules_session.specs.Hosting.{Deciding, Hosted, on_checked, on_taken}
use Rattle.cx_session.specs.declared.call.BookCall.TheVariants.{Check, Take}
use Rattle.cx_session.specs.declared.call.BookReply.{BookReply}
use Rattle.cx_steps.specs.declared.seals.SealEntry.{SealEntry}
use Rattle.cx_node.specs.steps.Stages.{keys_alone}
use Rattle.cx_node.specs.steps.Steps.{Stays}
use Rattle.cx_node.specs.steps.Turns.{HasNumber}
use Rattle.cx_node.specs.declared.moments.Moment.{Moment}
use Rattle.cx_daemon_session.specs.cx_verifying.specs.Rows.{arrived}
use Rattle.cx_daemon_session.specs.cx_verifying.specs.Stages.{IncomingLink, open_link}
use Rattle.cx_daemon_session.specs.cx_verifying.specs.Turns.{incoming_due}
use Rattle.cx_daemon_session.specs.coming.Hosted.{AreOne, asks_due, done_as, due_behind}
use Rattle.cx_daemon_session.specs.declared.messages_pending.CheckedTurn.{CheckedTurn}
use Rattle.cx_daemon_session.specs.declared.messages_pending.CheckedTurn.TheVariants as checked
use Rattle.cx_daemon_session.specs.declared.messages_pending.Checking.{Checking}
use Rattle.cx_daemon_session.specs.declared.messages_pending.OpenTurn.{OpenTurn}
use Rattle.cx_daemon_session.specs.declared.messages_pending.OpenTurn.TheVariants as begun
use Rattle.cx_daemon_session.specs.declared.messages_pending.Taking.{Taking}

-- what a row goes by on an open link
abbrev pub open_arrival : MonClient → Moment → SecureWire → Served → IncomingArrival
open_arrival mon_client at link served = arrived mon_client at (open_link at.number link served)

-- how the rule goes on with a message by the reply to Check, and by the one to Take
abbrev pub behind_check : Handlers → MonClient → Moment → Checking → BookReply → Deciding Hosted
behind_check handlers mon_client at m reply =
    due_behind m.opened (on_checked handlers (open_arrival mon_client at m.link m.served) (keys_alone m.link.keys) m.served m.instruction reply)

abbrev pub behind_take : Handlers → MonClient → Moment → Taking → BookReply → Deciding Hosted
behind_take handlers mon_client at m reply =
    due_behind m.opened (on_taken handlers (open_arrival mon_client at m.link m.served) (keys_alone m.link.keys) m.served m.instruction reply)

-- what was begun, as what goes on by the replies of a book
abbrev pub begun_as : Handlers → MonClient → Moment → OpenTurn → Deciding Hosted
begun_as handlers mon_client at (begun.Done came) = done_as mon_client came None
begun_as handlers mon_client at (begun.Checks m) = Asking (Check m.served.number m.served.epoch m.instruction.seq) (behind_check handlers mon_client at m)

-- what was checked, likewise
abbrev pub checked_as : Handlers → MonClient → Moment → CheckedTurn → Deciding Hosted
checked_as handlers mon_client at (checked.Done came) = done_as mon_client came None
checked_as handlers mon_client at (checked.Takes m) = Asking (Take m.served.number m.served.epoch m.instruction.seq) (behind_take handlers mon_client at m)

-- what was begun is what the rule decides, behind what opened
abbrev pub IsDecided : Handlers → MonClient → Moment → List SealEntry → Deciding Hosted → OpenTurn → Type 0
IsDecided handlers mon_client at opened rule turn = AreOne (begun_as handlers mon_client at turn) (due_behind opened rule)

-- what was begun on this link is what the rule has a turn of it come to
abbrev pub IsBegun : Handlers → MonClient → Moment → IncomingLink → OpenTurn → Type 0
IsBegun handlers mon_client at link turn = AreOne (begun_as handlers mon_client at turn) (asks_due (incoming_due handlers mon_client at link))

-- a turn that is done stays on the link of that number, and leaves it as it was where it waits
abbrev pub StaysOn : IncomingLink → OpenTurn → Type 0
StaysOn link (begun.Done came) = Stays link came × HasNumber (λ (l : IncomingLink). l.number) link.number came
StaysOn link (begun.Checks m) = Unit {0}

-- what comes of a check that is done stays on the link of that number
abbrev pub IsNumbered : ℕ → CheckedTurn → Type 0
IsNumbered number (checked.Done came) = HasNumber (λ (l : IncomingLink). l.number) number came
IsNumbered number (checked.Takes m) = Unit {0}

-- what comes of a check by the reply is what the rule decides
abbrev pub IsChecked : Handlers → MonClient → Moment → Checking → BookReply → CheckedTurn → Type 0
IsChecked handlers mon_client at m reply turn = AreOne (checked_as handlers mon_client at turn) (behind_check handlers mon_client at m reply) × IsNumbered at.number turn
