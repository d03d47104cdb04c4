-- The turns of the rules, as a daemon makes them on an incoming link until the peer has signed.
use Rattle.std.specs.Prelude.{◌≡◌}
use Rattle.cx_rules_session.specs.cx_desk.specs.Handlers.{Handlers}
use Rattle.cx_node.specs.cx_rules.specs.Abridged.{abridged_link}
use Rattle.cx_node.specs.cx_rules.specs.Holdings.{MonClient}
use Rattle.cx_node.specs.cx_rules.specs.Rows.{Turned, Waits}
use Rattle.cx_rules_session.specs.Asks.{Finished, Asking}
use Rattle.cx_rules_session.specs.IncomingLinks.{IncomingStage}
use Rattle.cx_rules_session.specs.Hosting.{Deciding, Hosted, incoming_turned, no_session_moves}
use Rattle.cx_node.specs.steps.Steps.{IsTurn}
use Rattle.cx_node.specs.declared.came.Came.{Came}
use Rattle.cx_node.specs.declared.moments.Moment.{Moment}
use Rattle.cx_verifying.specs.Rows.{arrived, unchanged}
use Rattle.cx_verifying.specs.Stages.{IncomingLink, awaiting_ident, open_link}
use Rattle.cx_verifying.specs.declared.turns.IncomingTurn.{IncomingTurn}
use Rattle.cx_verifying.specs.declared.turns.IncomingTurn.TheVariants as turn

-- what the rules have a turn of the link come to
abbrev pub incoming_due : Handlers → MonClient → Moment → IncomingLink → Deciding Hosted
incoming_due handlers mon_client at link = incoming_turned handlers (arrived mon_client at link) link.stage

-- what it comes to before the book is asked
abbrev pub unasked : Deciding Hosted → Turned MonClient IncomingStage
unasked (Finished hosted) = hosted.turned
unasked (Asking call next) = Waits

-- a turn of this link came to that
abbrev pub IsIncomingTurn : Handlers → MonClient → Moment → IncomingLink → Came IncomingLink (Unit {0}) → Type 0
IsIncomingTurn handlers mon_client at link come = IsTurn abridged_link unchanged mon_client link (unasked (incoming_due handlers mon_client at link)) come

-- the link was turned, no book is asked, and no session moves; or its peer has signed, and this is what is held of it
abbrev pub IsTurnedBy : Handlers → MonClient → Moment → IncomingLink → IncomingTurn → Type 0
IsTurnedBy handlers mon_client at link (turn.Came come) =
    (incoming_due handlers mon_client at link ≡ no_session_moves (unasked (incoming_due handlers mon_client at link))) × IsIncomingTurn handlers mon_client at link come
IsTurnedBy handlers mon_client at link (turn.AwaitsIdent secure owner) = link ≡ awaiting_ident at.number secure owner
IsTurnedBy handlers mon_client at link (turn.Open secure served) = link ≡ open_link at.number secure served
