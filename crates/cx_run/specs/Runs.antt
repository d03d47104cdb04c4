-- The run of a schedule, whose daemons have handlers for these kinds of operation: what happens, the journal, the log, and whether the run kept its premises.
use Rattle.std.specs.Prelude.{List, ◌++◌, map, Option}
use Rattle.cx_rules_session.specs.cx_desk.specs.Handlers.{Handlers}
use Rattle.cx_rules_session.specs.cx_journal.specs.declared.entries.Entry.{Entry}
use Rattle.cx_rules_session.specs.cx_journal.specs.declared.premises.Broken.{Broken}
use Rattle.cx_lines.specs.declared.lines.Numbered.{Numbered}
use Rattle.cx_rules_session.specs.cx_steps.specs.Breach.{IsFound}
use Rattle.cx_rules_session.specs.cx_steps.specs.declared.seals.Logged.{Logged}
use Rattle.cx_run.specs.Happenings.{Entered, Happening, journal_from, seals_from}
use Rattle.cx_run.specs.Opening.{Setup, leaked_of, leaks_entered, nodes_of, opening_world, plain_setup, secrets_drawn, set_up}
use Rattle.cx_run.specs.Schedules.{after_lines}

abbrev pub setup_of : Handlers → List Numbered → Setup
setup_of handlers script = set_up (plain_setup handlers) script

-- all events of the run, in order
abbrev pub trace : Handlers → List Numbered → List Happening
trace handlers script = (after_lines (opening_world (setup_of handlers script)) script).past

-- what is entered, each entry with its line and reading: the leaked clients, and then what the nodes enter
abbrev pub entered_of : Handlers → List Numbered → List Entered
entered_of handlers script =
    let setup : Setup = setup_of handlers script in
    leaks_entered setup ++ journal_from (nodes_of setup) (trace handlers script)

abbrev pub run_journal : Handlers → List Numbered → List Entry
run_journal handlers script = map (λ e. e.entry) (entered_of handlers script)

-- what is logged: the entities' secrets, and then what the nodes log
abbrev pub run_log : Handlers → List Numbered → List Logged
run_log handlers script =
    let setup : Setup = setup_of handlers script in
    secrets_drawn setup ++ seals_from (nodes_of setup) (trace handlers script)

-- what is found of its premises: that it is sound and fresh, or its first breach
abbrev pub IsFoundOf : Handlers → List Numbered → Option Broken → Type 0
IsFoundOf handlers script found = IsFound (leaked_of (setup_of handlers script)) (run_log handlers script) found
