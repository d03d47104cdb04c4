-- The table of the commands: the word of each, what stands behind it, what it does, and an example; and the texts that are made of it. The man page and
-- the completion of the shell are made of these rows too (man/make).
use Rattle.std.specs.Prelude.{List, [], codes, Option, Some, None, ℕ, if◌then◌else◌}
use Rattle.std.specs.Str.{bytes_eq}
use Rattle.cx_base.specs.Joined.{◌<>◌}
use Rattle.cx_command_line.specs.Words.{Word}
use Rattle.cx_command_line.specs.declared.forms.Form.{Form}
use Rattle.cx_command_line.specs.declared.forms.Form.TheVariants.{Replay, Keyring, Audit, Drill, Key, Monitor, Daemon, Client}

-- ---- the table

-- the word of the command
abbrev pub form_word : Form → Word
form_word Replay = codes "replay"
form_word Keyring = codes "keyring"
form_word Audit = codes "audit"
form_word Drill = codes "drill"
form_word Key = codes "key"
form_word Monitor = codes "mon"
form_word Daemon = codes "daemon"
form_word Client = codes "client"

-- what stands behind it
abbrev pub form_values : Form → List ℕ
form_values Replay = []
form_values Keyring = []
form_values Audit = []
form_values Drill = codes " CLIENTS SEED"
form_values Key = []
form_values Monitor = codes " EVENTS LISTEN [LIFE AUTHLIFE]"
form_values Daemon = codes " NAME EVENTS LISTEN MON"
form_values Client = codes " NAME EVENTS MON [PEER ..]"

-- what it does
abbrev pub purpose_text : Form → List ℕ
purpose_text Replay = codes "reads a schedule from standard input, runs it, and writes its journal to standard output, as in:"
purpose_text Keyring = codes "reads a keyring from standard input, writes it in its printed form, and says who may do what where, as in:"
purpose_text Audit = codes "reads a journal from standard input, and writes whether it is legal, or which line breaks which rule, as in:"
purpose_text Drill = codes "runs a schedule of 1 to 1,000 clients that the seed makes, and writes five counts of its journal, as in:"
purpose_text Key = codes "writes a new key, of the system's random bytes, as key = TEXT of a keyring takes it, as in:"
purpose_text Monitor = codes "runs the monitor of this folder's files keyring and state, until so many events came or its script stops it, as in:"
purpose_text Daemon = codes "runs a daemon of this folder's keyring, until so many events came or its script stops it, as in:"
purpose_text Client = codes "runs a client of this folder's keyring by its script, from standard input, and writes its journal, as in:"

-- an example
abbrev pub example_text : Form → List ℕ
example_text Replay = codes "cephx_cli replay < examples/first_login.schedule"
example_text Keyring = codes "cephx_cli keyring < examples/keyrings/two_entities.keyring"
example_text Audit = codes "cephx_cli audit < examples/first_login.journal"
example_text Drill = codes "cephx_cli drill 3 0"
example_text Key = codes "printf '[client.a]\\nkey = %s\\n' \"$(cephx_cli key)\" >> keyring"
example_text Monitor = codes "cephx_cli mon 1000000 127.0.0.1:6789 < /dev/null"
example_text Daemon = codes "printf 'fetch osd.0\\n' | cephx_cli daemon osd.0 1000000 127.0.0.1:6800 127.0.0.1:6789"
example_text Client = codes "printf 'login client.a osd\\nstop\\n' | cephx_cli client client.a 1000 127.0.0.1:6789"

-- ---- what is made of it

-- the form of the command that begins with this word
abbrev pub form_of : Word → Option Form
form_of word =
    if bytes_eq word (codes "replay") then Some Replay
    else if bytes_eq word (codes "keyring") then Some Keyring
    else if bytes_eq word (codes "audit") then Some Audit
    else if bytes_eq word (codes "drill") then Some Drill
    else if bytes_eq word (codes "key") then Some Key
    else if bytes_eq word (codes "mon") then Some Monitor
    else if bytes_eq word (codes "daemon") then Some Daemon
    else if bytes_eq word (codes "client") then Some Client
    else None

-- a command as its words are to be
abbrev pub words_text : Form → List ℕ
words_text form = form_word form <> form_values form

-- the words that begin a command
abbrev pub commands_text : List ℕ
commands_text =
    form_word Replay <> codes ", " <> form_word Keyring <> codes ", " <> form_word Audit <> codes ", " <> form_word Drill <> codes ", " <> form_word Key
    <> codes ", " <> form_word Monitor <> codes ", " <> form_word Daemon <> codes " and " <> form_word Client

-- a command, what it does, and an example
abbrev pub form_help : Form → List ℕ
form_help form =
    codes "  cephx_cli " <> words_text form <> codes "\n      " <> purpose_text form <> codes "\n      " <> example_text form
    <> codes "\n\n"

-- where more is told
abbrev pub guide_text : List ℕ
guide_text = codes "man/cephx_cli.1 says what each word is; docs/guide.md says what the lines of a schedule, of a script, of a journal and of a keyring mean"

-- all commands
abbrev pub help_text : List ℕ
help_text =
    codes "the commands are:\n\n" <> form_help Replay <> form_help Keyring <> form_help Audit <> form_help Drill <> form_help Key
    <> form_help Monitor <> form_help Daemon <> form_help Client <> guide_text
