-- What the words behind that of a command are to spell, place by place.
use Rattle.std.specs.Prelude.{ℕ, ◌==◌, Bool, nat_lt, Option, Some, None, is_some, if◌then◌else◌}
use Rattle.cx_command_line.specs.Commands.{events, lifetime}
use Rattle.cx_command_line.specs.Words.{Word, address, bounded, client_name, daemon_name, is_peer}
use Rattle.cx_command_line.specs.declared.forms.Form.{Form}
use Rattle.cx_command_line.specs.declared.forms.Form.TheVariants as form
use Rattle.cx_words.specs.Words.{number_of}
use Rattle.cx_help.specs.declared.command_places.Place.{Place}
use Rattle.cx_help.specs.declared.command_places.Place.TheVariants.{Clients, Seed, Events, Address, Lifetime, Daemon, Client, Peer}

-- what stands at the place of this number, from 0, behind the word of the command; nothing where no word may stand
abbrev pub drill_place : ℕ → Option Place
drill_place n = if n == 0 then Some Clients else if n == 1 then Some Seed else None

abbrev pub monitor_place : ℕ → Option Place
monitor_place n =
    if n == 0 then Some Events else if n == 1 then Some Address else if nat_lt n 4 then Some Lifetime else None

abbrev pub daemon_place : ℕ → Option Place
daemon_place n =
    if n == 0 then Some Daemon else if n == 1 then Some Events else if nat_lt n 4 then Some Address else None

abbrev pub client_place : ℕ → Option Place
client_place n =
    if n == 0 then Some Client else if n == 1 then Some Events else if n == 2 then Some Address else Some Peer

abbrev pub place_at : Form → ℕ → Option Place
place_at form.Replay n = None
place_at form.Keyring n = None
place_at form.Audit n = None
place_at form.Drill n = drill_place n
place_at form.Key n = None
place_at form.Monitor n = monitor_place n
place_at form.Daemon n = daemon_place n
place_at form.Client n = client_place n

-- how many words must stand there, where so many do: a monitor's lifetimes are two or none
abbrev pub least_of : Form → ℕ → ℕ
least_of form.Replay n = 0
least_of form.Keyring n = 0
least_of form.Audit n = 0
least_of form.Drill n = 2
least_of form.Key n = 0
least_of form.Monitor n = if nat_lt 2 n then 4 else 2
least_of form.Daemon n = 4
least_of form.Client n = 3

-- whether the word is good at this place
abbrev pub fits : Place → Word → Bool
fits Clients word = is_some (bounded 1 1000 word)
fits Seed word = is_some (number_of word)
fits Events word = is_some (events word)
fits Address word = is_some (address word)
fits Lifetime word = is_some (lifetime word)
fits Daemon word = is_some (daemon_name word)
fits Client word = is_some (client_name word)
fits Peer word = is_peer word
