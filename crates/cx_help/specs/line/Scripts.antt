-- What a user reads of a line of the script of a node that is none.
use Rattle.std.specs.Prelude.{ℕ, Bool, true, false, not, List, [], codes, Option, None, Some, if◌then◌else◌}
use Rattle.cx_base.specs.Joined.{◌<>◌}
use Rattle.cx_words.specs.declared.choices.CommandForm.{CommandForm}
use Rattle.cx_words.specs.declared.choices.CommandForm.TheVariants as command
use Rattle.cx_words.specs.declared.faults.LineFault.{LineFault}
use Rattle.cx_words.specs.declared.faults.LineFault.TheVariants.{UnknownWord, Missing, Extra, UnknownNode}
use Rattle.cx_words.specs.declared.places.WordPlace.{WordPlace}
use Rattle.cx_words.specs.declared.places.WordPlace.TheVariants as at
use Rattle.cx_lines.specs.declared.lines.Head.{Head}
use Rattle.cx_lines.specs.declared.lines.Head.TheVariants as head
use Rattle.cx_lines.specs.declared.node_steps.NodeForm.TheVariants as node
use Rattle.cx_lines.specs.declared.sight.BadWord.{BadWord}
use Rattle.cx_help.specs.line.Forms.{form_text}
use Rattle.cx_help.specs.line.Kin.{or_kin}
use Rattle.cx_help.specs.line.Problems.{client_problem, daemon_problem, problem_as}
use Rattle.cx_help.specs.line.Remarks.{beside_text}
use Rattle.cx_help.specs.line.Words.{begins, is_daemon_word}
use Rattle.cx_help.specs.line.Wrong.{extra_text, missing_text, problem_text, unknown_text}
use Rattle.cx_help.specs.declared.scripts.NodeKind.{NodeKind}
use Rattle.cx_help.specs.declared.scripts.NodeKind.TheVariants.{Monitor, Daemon, Client}
use Rattle.cx_help.specs.declared.sights.LineSight.{LineSight}

-- the words that begin a line, by the kind of the node, where that is told
abbrev pub script_words_text : Option NodeKind → List ℕ
script_words_text None =
    codes "; a line of a node's script begins with fetch, login, renew, connect, send, drop, gone or stop, one of the monitor's with gone or stop, and a comment with #"
script_words_text (Some Monitor) = codes "; a line of the monitor's script begins with gone or stop, and a comment with #"
script_words_text (Some Daemon) = codes "; a line of a daemon's script begins with fetch, drop, gone or stop, and a comment with #"
script_words_text (Some Client) =
    codes "; a line of a client's script begins with login, renew, connect, send, gone or stop, and a comment with #"

-- ---- lines that another kind of node has

-- whether a daemon's script has lines of this form, and a client's
abbrev pub is_daemons : Head → Bool
is_daemons (head.Submit command.Fetch) = true
is_daemons (head.Node node.DropSession) = true
is_daemons _ = false

abbrev pub is_clients : Head → Bool
is_clients (head.Submit command.Login) = true
is_clients (head.Submit command.Renew) = true
is_clients (head.Submit command.Connect) = true
is_clients (head.Submit command.Send) = true
is_clients _ = false

abbrev pub has_lines : NodeKind → Head → Bool
has_lines Monitor form = false
has_lines Daemon form = is_daemons form
has_lines Client form = is_clients form

-- the line is of a form that scripts of this kind don't have
abbrev pub is_alien : Option NodeKind → Option Head → Bool
is_alien None form = false
is_alien (Some kind) None = false
is_alien (Some kind) (Some form) = not (has_lines kind form)

abbrev pub command_name : CommandForm → List ℕ
command_name command.Fetch = codes "a fetch line, which a daemon's script has"
command_name command.Login = codes "a login line, which a client's script has"
command_name command.Renew = codes "a renew line, which a client's script has"
command_name command.Connect = codes "a connect line, which a client's script has"
command_name command.Send = codes "a send line, which a client's script has"

abbrev pub line_name : Option Head → List ℕ
line_name (Some (head.Submit form)) = command_name form
line_name _ = codes "a drop line, which a daemon's script has"

-- by the kind of the node
abbrev pub alien_text : NodeKind → List ℕ
alien_text Monitor = codes " and the monitor's hasn't"
alien_text Daemon = codes " and a daemon's hasn't"
alien_text Client = codes " and a client's hasn't"

abbrev pub alien_as : Option NodeKind → List ℕ
alien_as None = []
alien_as (Some kind) = alien_text kind

-- the form of a line with an example; those that schedules don't have are two
abbrev pub script_form_text : Option Head → List ℕ
script_form_text None =
    codes "; its form is: gone NUMBER, as in: gone 2, or stop, alone"
script_form_text (Some form) = form_text (Some form)

-- whether a line of this form names a peer
abbrev pub names_peer : Option Head → Bool
names_peer (Some (head.Submit command.Connect)) = true
names_peer (Some (head.Submit command.Send)) = true
names_peer _ = false

-- a name that isn't the node's own
abbrev pub another_node : List ℕ
another_node =
    codes "is another node: the first name of a line is that of the node whose script it is"

-- a daemon that isn't among the node's peers
abbrev pub another_daemon : Bool → List ℕ
another_daemon true =
    codes "is no peer: give it with its address where the node is started, as osd.0@127.0.0.1:6800"
another_daemon false = another_node

-- a name in place of a daemon's, by whether it is one's
abbrev pub wrong_daemon : Option Head → Bool → List ℕ
wrong_daemon form true = another_daemon (names_peer form)
wrong_daemon form false = daemon_problem false

-- a name in place of a client's, by whether it is one's
abbrev pub wrong_client : Bool → List ℕ
wrong_client true = another_node
wrong_client false = client_problem false

-- by the place
abbrev pub wrong_name : Option WordPlace → BadWord → List ℕ
wrong_name (Some at.Daemon) bad = wrong_daemon bad.form (is_daemon_word bad.shown)
wrong_name _ bad = wrong_client (begins (codes "client.") bad.shown)

-- by the fault
abbrev pub script_problem_as : LineFault → BadWord → List ℕ
script_problem_as UnknownNode bad = wrong_name bad.takes bad
script_problem_as why bad = problem_as why bad

abbrev pub wrong_in_script_as : Option NodeKind → LineFault → BadWord → List ℕ → List ℕ
wrong_in_script_as kind UnknownWord bad beside = unknown_text bad (or_kin beside bad.shown) (script_words_text kind)
wrong_in_script_as kind Missing bad beside = missing_text bad beside (script_form_text bad.form)
wrong_in_script_as kind Extra bad beside = extra_text bad beside (script_form_text bad.form)
wrong_in_script_as kind why bad beside = problem_text bad (script_problem_as why bad) beside (script_form_text bad.form)

-- of a line that another kind of node has: which has it, and which lines this one has
abbrev pub alien_line : Option NodeKind → BadWord → List ℕ
alien_line kind bad = codes "it is " <> line_name bad.form <> alien_as kind <> script_words_text kind

abbrev pub wrong_in_script_text : Option NodeKind → LineSight → List ℕ
wrong_in_script_text kind sight =
    if is_alien kind sight.bad.form then alien_line kind sight.bad
    else wrong_in_script_as kind sight.bad.fault.why sight.bad (beside_text sight.remark sight.bad.hint)
