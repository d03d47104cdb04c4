-- What a user reads of a word of a command line that is wrong.
use Rattle.std.specs.Prelude.{ℕ, Bool, true, false, List, codes, if◌then◌else◌}
use Rattle.std.specs.Fmt.{decimal}
use Rattle.cx_base.specs.Joined.{◌<>◌}
use Rattle.cx_command_line.specs.Forms.{commands_text, form_help, guide_text, words_text}
use Rattle.cx_command_line.specs.declared.forms.Form.{Form}
use Rattle.cx_command_line.specs.declared.forms.Form.TheVariants as form
use Rattle.cx_help.specs.line.Words.{word_text}
use Rattle.cx_words.specs.lines.Sights.{shown_of}
use Rattle.cx_help.specs.declared.command_places.Place.{Place}
use Rattle.cx_help.specs.declared.command_places.Place.TheVariants.{Clients, Seed, Events, Address, Lifetime, Daemon, Client, Peer}
use Rattle.cx_help.specs.declared.command_wrong.Why.{Why}
use Rattle.cx_help.specs.declared.command_wrong.Why.TheVariants.{Unknown, Bad, Missing, Extra, Asked, Version}

-- what a word is to be at its place
abbrev pub place_text : Place → List ℕ
place_text Clients = codes "how many clients a drill has: a number from 1 to 1,000, in digits alone, as 1000"
place_text Seed = codes "the seed of a drill: a number below 18,446,744,073,709,551,616, in digits alone, as 0"
place_text Events = codes "how many events the node takes: a number from 1 to 1,000,000, in digits alone, as 1000000"
place_text Address = codes "an address: four numbers from 0 to 255 with points, a colon and a port from 1 to 65,535, as 127.0.0.1:6789"
place_text Lifetime = codes "a lifetime: a number of seconds from 1 to 31,536,000, in digits alone, as 3600; a monitor is given two of them, or none"
place_text Daemon = codes "a daemon's name: mds, osd or mgr, a point and an id, as osd.0"
place_text Client = codes "a client's name: client, a point and an id, as client.admin"
place_text Peer = codes "a daemon's name with its address, as osd.0@127.0.0.1:6800"

-- whether a command of this form reads a file, and has one word
abbrev pub reads_a_file : Form → Bool
reads_a_file form.Replay = true
reads_a_file form.Keyring = true
reads_a_file form.Audit = true
reads_a_file form.Drill = false
reads_a_file form.Key = false
reads_a_file form.Monitor = false
reads_a_file form.Daemon = false
reads_a_file form.Client = false

-- how a command of this form is to be written
abbrev pub hint_text : Form → List ℕ
hint_text form =
    if reads_a_file form then codes "what a command reads is given by <, as in: cephx_cli " <> words_text form <> codes " < FILE"
    else codes "its form is: cephx_cli " <> words_text form

-- the word of this number, as it is shown
abbrev pub shown_text : ℕ → List ℕ → List ℕ
shown_text number word = codes "word " <> decimal number <> codes ", " <> word_text (shown_of word)

-- the form of a command, and where more is told
abbrev pub asked_text : Form → List ℕ
asked_text form = codes "the command is:\n\n" <> form_help form <> guide_text

-- what the program is: its version, and the toolchain with which it is proved, with its logic (`rt version`)
abbrev pub version_text : List ℕ
version_text = codes "version 0.1.0, proved with rattle-kit-13f, logic dac8208d650f15bf"

abbrev pub why_text : ℕ → Why → List ℕ → List ℕ
why_text number Unknown word = shown_text number word <> codes ", begins no command; those that are served are " <> commands_text
why_text number (Bad place) word = shown_text number word <> codes ", is wrong there; it is to be " <> place_text place
why_text number (Missing place) word = codes "word " <> decimal number <> codes " is missing; it is to be " <> place_text place
why_text number (Extra form) word = shown_text number word <> codes ", is one too many; " <> hint_text form
why_text number (Asked form) word = asked_text form
why_text number Version word = version_text
