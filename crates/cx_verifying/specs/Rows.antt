-- The rows of the rules, as a daemon makes them on an incoming link. They change nothing of what the daemon has.
use Rattle.std.specs.Prelude.{Result}
use Rattle.cx_base.specs.declared.nodes.NodeName.TheVariants as node
use Rattle.cx_node.specs.cx_rules.specs.Abridged.{abridged_link}
use Rattle.cx_node.specs.cx_rules.specs.Holdings.{MonClient}
use Rattle.cx_node.specs.cx_rules.specs.Rows.{arrival}
use Rattle.cx_rules_session.specs.IncomingLinks.{IncomingArrival, IncomingRow}
use Rattle.cx_node.specs.steps.Making as making
use Rattle.cx_node.specs.declared.moments.Moment.{Moment}
use Rattle.cx_node.specs.declared.steps_rows.NoRow.{NoRow}
use Rattle.cx_node.specs.declared.steps_rows.NodeRow.{NodeRow}
use Rattle.cx_verifying.specs.Stages.{IncomingLink}

-- what a row goes by: the daemon as one that asks the monitor, the link, and the event
abbrev pub arrived : MonClient → Moment → IncomingLink → IncomingArrival
arrived mon_client at link = arrival (node.Entity mon_client.name) mon_client link at.reading at.draw.now.bytes

-- nothing is changed
abbrev pub unchanged : MonClient → Unit {0} → MonClient
unchanged mon_client change = mon_client

-- this row was made at an arrival, or the link is refused as it has it
abbrev pub MakesRow : IncomingArrival → IncomingRow → Result (NodeRow IncomingLink (Unit {0})) NoRow → Type 0
MakesRow a due made = making.Makes abridged_link unchanged a due made

-- a row was made on this link as the rules have it, or the link is refused as they have it
abbrev pub Makes : MonClient → Moment → IncomingLink → (IncomingArrival → IncomingRow) → Result (NodeRow IncomingLink (Unit {0})) NoRow → Type 0
Makes mon_client at link rule made = MakesRow (arrived mon_client at link) (rule (arrived mon_client at link)) made
