-- What a user reads of a word that is wrong at its place: what is wrong with it, and what to write.
use Rattle.std.specs.Prelude.{ℕ, Bool, true, false, List, codes, Option, Some, if◌then◌else◌}
use Rattle.cx_lines.specs.declared.sight.BadWord.{BadWord}
use Rattle.cx_words.specs.declared.faults.LineFault.{LineFault}
use Rattle.cx_words.specs.declared.faults.LineFault.TheVariants.{BadNumber, BadName, BadText, UnknownNode}
use Rattle.cx_words.specs.declared.places.WordPlace.{WordPlace}
use Rattle.cx_words.specs.declared.places.WordPlace.TheVariants as at
use Rattle.cx_words.specs.declared.sight.Shown.{Shown}
use Rattle.cx_help.specs.line.Words.{are_digits, begins, has_leading_zero, has_slash, is_daemon_word, is_monitor_word}

abbrev pub too_large : Option WordPlace → List ℕ
too_large (Some at.Life) =
    codes "is out of bounds: a lifetime is 1 to 31,536,000 seconds"
too_large (Some at.Number) =
    codes "is too large: a number is below 18,446,744,073,709,551,616"
too_large _ =
    codes "is too large: a reading is below 4,000,000,000 seconds"

abbrev pub no_number : Option WordPlace → List ℕ
no_number (Some at.Life) =
    codes "is no number: a lifetime is 1 to 31,536,000 seconds, in decimal digits alone, as 3600"
no_number (Some at.Number) =
    codes "is no number: a number is decimal digits alone, as 1"
no_number _ =
    codes "is no reading: a reading is a number of seconds, as 4599, or one with a point and nine digits, as 4599.999999999"

abbrev pub number_problem : BadWord → List ℕ
number_problem bad =
    if has_leading_zero bad.shown then codes "has a leading zero; write it without"
    else if are_digits bad.shown then too_large bad.takes
    else no_number bad.takes

abbrev pub caps_problem : Bool → List ℕ
caps_problem true =
    codes "is no text of caps: it ends with a quotation mark too, and has at most 4,096 bytes from the space to ~, without a quotation mark or a backslash"
caps_problem false =
    codes "is no text of caps: caps stand in quotation marks, as \"allow *\""

abbrev pub part_problem : Bool → List ℕ
part_problem true =
    codes "has a slash: pool, namespace and object are three words, each of 1 to 255 letters, digits or _ - . , and - where there is none"
part_problem false =
    codes "is no pool, namespace or object: 1 to 255 letters, digits or _ - . , and - where there is none"

abbrev pub text_at : Option WordPlace → Shown → List ℕ
text_at (Some at.Service) shown =
    codes "is no service that has caps: mon, mds, osd or mgr"
text_at (Some at.Caps) shown = caps_problem (begins (codes "\"") shown)
text_at (Some at.Services) shown =
    codes "is no list of services: mds, osd and mgr, joined by commas without a space, each at most once, as mds,osd"
text_at (Some at.Access) shown =
    codes "is no access: read, write or exec"
text_at (Some at.Part) shown = part_problem (has_slash shown)
text_at (Some at.Bytes) shown =
    codes "is no bytes: two hexadecimal digits a byte, and - where there is none"
text_at (Some at.Modes) shown =
    codes "is no list of modes: crc, secure or crc,secure"
text_at (Some at.Side) shown =
    codes "is no side of a link: c, the connector's, or a, the acceptor's"
text_at (Some at.Lossy) shown =
    codes "may not stand there: nothing but lossy stands behind the daemon"
text_at (Some at.LeftState) shown =
    codes "is no state that a failed save leaves: old or new"
text_at (Some at.Command) shown =
    codes "begins no line that may stand behind do: fetch, login, renew, connect or send"
text_at _ shown =
    codes "is no data: two hexadecimal digits a byte, at most 65,536 bytes, and - where there is none"

abbrev pub undeclared : List ℕ
undeclared =
    codes "is declared by no line above: write an entity line for it, above all lines that aren't head lines"

abbrev pub daemon_problem : Bool → List ℕ
daemon_problem true = undeclared
daemon_problem false =
    codes "is no daemon: a daemon's name begins with mds., osd. or mgr."

abbrev pub client_problem : Bool → List ℕ
client_problem true = undeclared
client_problem false =
    codes "is no client: a client's name begins with client."

abbrev pub no_node : List ℕ
no_node =
    codes "is no node: a node is mon, the monitor, or an entity's, by its name, as client.admin or osd.0"

abbrev pub no_name : List ℕ
no_name =
    codes "is no name: a name is a type, client, mds, osd or mgr, a point and an id of 1 to 64 letters, digits or _ - . : + /, as client.admin or osd.0"

-- in place of a daemon's name: the monitor, which is none, or no name at all
abbrev pub no_daemon : Bool → List ℕ
no_daemon true = daemon_problem false
no_daemon false = no_name

-- the same in place of a client's
abbrev pub no_client : Bool → List ℕ
no_client true = client_problem false
no_client false = no_name

abbrev pub name_problem : Option WordPlace → Shown → List ℕ
name_problem (Some at.Node) shown = no_node
name_problem (Some at.Unseeded) shown = no_node
name_problem (Some at.Entity) shown = no_name
name_problem (Some at.Daemon) shown = no_daemon (is_monitor_word shown)
name_problem _ shown = no_client (is_monitor_word shown)

abbrev pub node_problem : Option WordPlace → Shown → List ℕ
node_problem (Some at.Entity) shown =
    codes "can't be declared: an entity is a client, an mds, an osd or a mgr"
node_problem (Some at.Daemon) shown = daemon_problem (is_daemon_word shown)
node_problem (Some at.Node) shown =
    codes "is declared by no line above: write mon for the monitor, and an entity line for any other node, above all lines that aren't head lines"
node_problem (Some at.Unseeded) shown =
    codes "is declared by no line above: write mon for the monitor, and an entity line for any other node, above all lines that aren't head lines"
node_problem _ shown = client_problem (begins (codes "client.") shown)

abbrev pub again_problem : Option WordPlace → List ℕ
again_problem (Some at.Entity) =
    codes "is declared by a line above already; give it all of its caps there"
again_problem (Some at.Service) =
    codes "stands in this line already; give it one text, with commas between its clauses"
again_problem (Some at.Unseeded) =
    codes "has a seed by a line above already; leave one of them out"
again_problem (Some at.Unmoded) =
    codes "has its modes by a line above already; leave one of them out"
again_problem (Some at.Unleaked) =
    codes "is leaked by a line above already; leave one of them out"
again_problem _ =
    codes "begins a line that stands once in a schedule, and one stands above already; leave one of them out"

abbrev pub problem_as : LineFault → BadWord → List ℕ
problem_as BadNumber bad = number_problem bad
problem_as BadName bad = name_problem bad.takes bad.shown
problem_as BadText bad = text_at bad.takes bad.shown
problem_as UnknownNode bad = node_problem bad.takes bad.shown
problem_as _ bad = again_problem bad.takes
