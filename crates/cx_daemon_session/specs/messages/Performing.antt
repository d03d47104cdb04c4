-- What becomes of an operation that is taken.
use Rattle.std.specs.Prelude.{ℕ, List}
use Rattle.cx_base.specs.declared.operations.Operation.{Operation}
use Rattle.cx_desk.specs.Handlers.{Handlers}
use Rattle.cx_journal.specs.declared.entries.Entry.{Entry}
use Rattle.cx_journal.specs.declared.entries.Entry.TheVariants as entry
use Rattle.cx_journal.specs.declared.outcomes.Outcome.{Outcome}
use Rattle.cx_daemon_session.specs.cx_rules_session.specs.IncomingLinks.{IncomingArrival, Served}
use Rattle.cx_daemon_session.specs.cx_rules_session.specs.Hosting.{answer_data, outcome_of}
use Rattle.cx_daemon_session.specs.declared.performing.Performed.{Performed}

-- an operation that ended so, and the data that answer it
abbrev pub ended : Operation → Outcome → Performed
ended operation outcome = record { operation = operation; outcome = outcome; answer = answer_data operation outcome }

-- by the handlers that there are, and the capabilities
abbrev pub performed : Handlers → List ℕ → Operation → Performed
performed handlers caps operation = ended operation (outcome_of handlers caps operation)

-- how it is entered, as the message of that seq
abbrev pub handled_so : IncomingArrival → Served → ℕ → Performed → Entry
handled_so a served seq done = entry.Handled (record {
  daemon = a.own.name;
  session = served.number;
  epoch = served.epoch;
  cookie = served.cookie;
  seq = seq;
  operation = done.operation;
  outcome = done.outcome;
})
