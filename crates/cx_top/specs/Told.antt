-- What is said on standard error of how a run ended, where the sentence of its status doesn't say all: lines, each with the
-- program's name in front.
use Rattle.std.specs.Prelude.{ℕ, ◌==◌, Bool, true, false, List, [], ◌∷◌, codes, Option, Some, None, if◌then◌else◌}
use Rattle.std.specs.Fmt.{decimal}
use Rattle.std.specs.List.{flat_map}
use Rattle.std.specs.Str.{bytes_eq}
use Rattle.cx_help.specs.audit.Wrong.{wrong_in_journal_text}
use Rattle.cx_base.specs.Joined.{◌<>◌}
use Rattle.cx_base.specs.Names.{is_daemon_type}
use Rattle.cx_base.specs.Nodes.{node_text}
use Rattle.cx_base.specs.declared.nodes.NodeName.{NodeName}
use Rattle.cx_base.specs.declared.nodes.NodeName.TheVariants as place
use Rattle.cx_journal.specs.Words.{key_kind_word}
use Rattle.cx_journal.specs.declared.premises.Broken.{Broken}
use Rattle.cx_journal.specs.declared.premises.Premise.{Premise}
use Rattle.cx_journal.specs.declared.premises.Premise.TheVariants as premise
use Rattle.cx_help.specs.keyring.Details.{detail_of}
use Rattle.cx_help.specs.keyring.Sentences.{wrong_keyring_text}
use Rattle.cx_help.specs.line.Sights.{line_at, sight_of}
use Rattle.cx_help.specs.line.Words.{word_text}
use Rattle.cx_words.specs.lines.Sights.{shown_of}
use Rattle.cx_words.specs.declared.choices.Side.{Side}
use Rattle.cx_words.specs.declared.choices.Side.TheVariants.{Connector, Acceptor}
use Rattle.cx_world.specs.declared.idle.IdleLine.{IdleLine}
use Rattle.cx_world.specs.declared.idle.IdleReason.{IdleReason}
use Rattle.cx_world.specs.declared.idle.IdleReason.TheVariants.{NoLink, NothingUnderWay, EndGone, NoPiece, BothGone, NoSession, NoSave}
use Rattle.cx_words.specs.Cutting.{lines_of}
use Rattle.cx_top.specs.declared.status.Status.{Status}
use Rattle.cx_top.specs.declared.status.Status.TheVariants.{Done, Usage, BadSchedule, ReadFault, WriteFault, OutOfMemory, BadKeyring, Broken as BrokenStatus, TooLong, BadJournal}
use Rattle.cx_top.specs.Sentences.{bad_line_text, status_text}

-- a line of standard error
abbrev pub line_told : List ℕ → List ℕ
line_told text = codes "cephx_cli: " <> text <> codes "\n"

-- ---- inputs that are refused

abbrev pub refusal_told : List ℕ → Status → List ℕ
refusal_told bytes (BadSchedule line bad) = line_told (bad_line_text line (sight_of (line_at (lines_of bytes) line) bad))
refusal_told bytes (BadKeyring line (Some why)) =
    line_told (wrong_keyring_text (record { line = line; why = why; detail = detail_of (lines_of bytes) line why }))
refusal_told bytes (BadKeyring line None) = []
refusal_told bytes Done = []
refusal_told bytes Usage = []
refusal_told bytes ReadFault = []
refusal_told bytes WriteFault = []
refusal_told bytes OutOfMemory = []
refusal_told bytes BrokenStatus = []
refusal_told bytes TooLong = []
refusal_told bytes (BadJournal line bad) = line_told (wrong_in_journal_text line (line_at (lines_of bytes) line) bad)

-- ---- wrong words of the command line

-- a word behind that of a command
abbrev pub extra_word_text : List ℕ → List ℕ → List ℕ
extra_word_text command word =
    codes "word 2, " <> word_text (shown_of word) <> codes ", is one too many: " <> command
    <> codes " reads standard input, as in: cephx_cli " <> command <> codes " < FILE"

abbrev pub usage_told : List (List ℕ) → List ℕ
usage_told [] = []
usage_told (command ∷ []) = []
usage_told (command ∷ word ∷ words) =
    if bytes_eq command (codes "replay") then line_told (extra_word_text command word)
    else if bytes_eq command (codes "keyring") then line_told (extra_word_text command word)
    else if bytes_eq command (codes "audit") then line_told (extra_word_text command word)
    else []

-- ---- runs

-- where a premise was broken: the secrets of entities are drawn before the first line
abbrev pub place_text : ℕ → List ℕ
place_text line = if line == 0 then codes "before the first line" else codes "at line " <> decimal line

-- what to do about it there: what opens under the keys of a leaked client is excepted at the monitor and at daemons, and nowhere else
abbrev pub cure_by : Bool → List ℕ
cure_by true = codes "leave out what is injected there, or, where a client's key made it, leak that client"
cure_by false = codes "leave out what is injected there; at a client's own node nothing is excepted, whoever is leaked"

abbrev pub cure_text : NodeName → List ℕ
cure_text place.Monitor = cure_by true
cure_text (place.Entity name) = cure_by (is_daemon_type name.kind)

-- what broke it, and what to do
abbrev pub breach_text : Premise → List ℕ → List ℕ → List ℕ → List ℕ → List ℕ
breach_text premise.Sealing place node kind cure =
    codes "what opens was sealed before, and what is found equal was made before; but " <> place <> codes ", " <> node
    <> codes " opened or found equal what nobody had made under its key, of the kind " <> kind <> codes "; " <> cure
breach_text premise.Draw place node kind cure =
    codes "no draw repeats; but " <> place <> codes ", " <> node <> codes " drew what had been drawn before, of the kind " <> kind
    <> codes "; give the nodes different seeds"

abbrev pub breach_of : Broken → List ℕ
breach_of broken = breach_text broken.why (place_text broken.line) (node_text broken.node) (key_kind_word broken.kind) (cure_text broken.node)

abbrev pub broken_text : Broken → List ℕ
broken_text broken = status_text BrokenStatus <> codes ": " <> breach_of broken

abbrev pub broken_told : Option Broken → List ℕ
broken_told None = []
broken_told (Some broken) = line_told (broken_text broken)

-- which lines did nothing, and why
abbrev pub side_text : Side → List ℕ
side_text Connector = codes "the side that opened it (c)"
side_text Acceptor = codes "the side that it was opened to (a)"

abbrev pub idle_reason_text : IdleReason → List ℕ
idle_reason_text (NoLink link) = codes "link " <> decimal link <> codes " isn't there"
idle_reason_text (NothingUnderWay link side) = codes "on link " <> decimal link <> codes " " <> side_text side <> codes " has nothing under way"
idle_reason_text (EndGone link side) = codes "on link " <> decimal link <> codes " " <> side_text side <> codes " is gone"
idle_reason_text (NoPiece link side place) = codes "on link " <> decimal link <> codes " " <> side_text side <> codes " sent no piece " <> decimal place
idle_reason_text (BothGone link) = codes "link " <> decimal link <> codes " has no end left"
idle_reason_text (NoSession session) = codes "session " <> decimal session <> codes " isn't there"
idle_reason_text NoSave = codes "the monitor had nothing to save before the next failsave line or the end"

abbrev pub idle_text : IdleLine → List ℕ
idle_text idle = codes "line " <> decimal idle.number <> codes " did nothing: " <> idle_reason_text idle.why

abbrev pub idle_line_told : IdleLine → List ℕ
idle_line_told idle = line_told (idle_text idle)

abbrev pub idle_told : List IdleLine → List ℕ
idle_told lines = flat_map idle_line_told lines

abbrev pub run_told : Option Broken → List IdleLine → List ℕ
run_told found idle = broken_told found <> idle_told idle

-- ---- all of it

abbrev pub is_done : Status → Bool
is_done Done = true
is_done Usage = false
is_done (BadSchedule _ _) = false
is_done ReadFault = false
is_done WriteFault = false
is_done OutOfMemory = false
is_done (BadKeyring _ _) = false
is_done BrokenStatus = false
is_done TooLong = false
is_done (BadJournal _ _) = false

-- the sentence of a status
abbrev pub status_told : Status → List ℕ
status_told status = if is_done status then [] else line_told (status_text status)

-- what was told, or else the sentence of the status
abbrev pub or_told : List ℕ → List ℕ → List ℕ
or_told [] plain = plain
or_told (b ∷ bs) plain = b ∷ bs
