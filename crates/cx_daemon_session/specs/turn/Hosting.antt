-- A turn of an incoming link, with the book of sessions.
use Rattle.std.specs.Prelude.{◌≡◌, ℕ, Option, Some, None}
use Rattle.cx_daemon_session.specs.cx_authorize.specs.Daemon.{Authority}
use Rattle.cx_desk.specs.Handlers.{Handlers}
use Rattle.cx_node.specs.cx_rules.specs.Abridged.{abridged_link}
use Rattle.cx_node.specs.cx_rules.specs.Holdings.{MonClient}
use Rattle.cx_daemon_session.specs.cx_rules_session.specs.Asks.{with_book}
use Rattle.cx_daemon_session.specs.cx_rules_session.specs.DaemonRule.{book_after, book_reply}
use Rattle.cx_daemon_session.specs.cx_rules_session.specs.Hosting.{Deciding, Hosted}
use Rattle.cx_session.specs.Book.{Book}
use Rattle.cx_session.specs.declared.call.BookCall.{BookCall}
use Rattle.cx_node.specs.steps.Steps.{IsTurn, turn_made}
use Rattle.cx_node.specs.steps.Turns.{HasNumber}
use Rattle.cx_node.specs.declared.moments.Moment.{Moment}
use Rattle.cx_daemon_session.specs.cx_verifying.specs.Rows.{unchanged}
use Rattle.cx_daemon_session.specs.cx_verifying.specs.Stages.{IncomingLink}
use Rattle.cx_daemon_session.specs.cx_verifying.specs.Turns.{incoming_due}
use Rattle.cx_daemon_session.specs.declared.hosting.HostedTurn.{HostedTurn}

-- what a turn comes to with this book, and the book behind it
abbrev pub decided_with : Book Authority → Deciding Hosted → Hosted × Book Authority
decided_with book rule = with_book book_reply book_after book rule

-- what the rules have a turn of an incoming link come to with this book, and the book behind it
abbrev pub hosted_by : Handlers → MonClient → Moment → IncomingLink → Book Authority → Hosted × Book Authority
hosted_by handlers mon_client at link book = decided_with book (incoming_due handlers mon_client at link)

-- the book behind the call that changes it, if one does
abbrev pub behind_call : Book Authority → Option (BookCall Authority) → Book Authority
behind_call book None = book
behind_call book (Some call) = book_after book call

-- a turn of this link came to that
pub record IsHosted (handlers : Handlers) (mon_client : MonClient) (at : Moment) (link : IncomingLink) (book : Book Authority) (h : HostedTurn) : Type 0 where
  pub come : IsTurn abridged_link unchanged mon_client link (hosted_by handlers mon_client at link book).0.turned h.came
  pub moved : h.moved ≡ (hosted_by handlers mon_client at link book).0.moved
  pub book_behind : behind_call book h.call ≡ (hosted_by handlers mon_client at link book).1

-- ---- by the replies of the book

-- a turn that was made, as the rules have turns
abbrev pub as_hosted : MonClient → HostedTurn → Hosted
as_hosted mon_client h = record { turned = turn_made unchanged mon_client h.came; moved = h.moved }

-- a turn on the link of this number came to what was begun, with this book
pub record IsMade (mon_client : MonClient) (number : ℕ) (book : Book Authority) (begun : Deciding Hosted) (h : HostedTurn) : Type 0 where
  pub made : as_hosted mon_client h ≡ (decided_with book begun).0
  pub book_behind : behind_call book h.call ≡ (decided_with book begun).1
  pub number_is : HasNumber (λ (l : IncomingLink). l.number) number h.came
