-- The commands, and which words of a command line spell which.
use Rattle.std.specs.Prelude.{ℕ, ◌≡◌, Bool, true, false, if◌then◌else◌, List, [], ◌∷◌, codes, map, Option, Some, None, option_and_then, option_map, is_some}
use Rattle.std.specs.Str.{bytes_eq}
use Rattle.cx_base.specs.Names.{Name}
use Rattle.cx_base.specs.declared.addresses.Addr.{Addr}
use Rattle.cx_enc.specs.Names.{name_seen}
use Rattle.cx_words.specs.Words.{number_of}
use Rattle.cx_command_line.specs.Words.{Word, address, are_peers, both, bounded, client_name, daemon_name}
use Rattle.cx_command_line.specs.declared.commands.ClientCommand.{ClientCommand}
use Rattle.cx_command_line.specs.declared.commands.DaemonCommand.{DaemonCommand}
use Rattle.cx_command_line.specs.declared.commands.DrillCommand.{DrillCommand}
use Rattle.cx_command_line.specs.declared.commands.Invocation.{Invocation}
use Rattle.cx_command_line.specs.declared.commands.Invocation.TheVariants as words
use Rattle.cx_command_line.specs.declared.commands.MonitorCommand.{MonitorCommand}
use Rattle.cx_command_line.specs.declared.reading.Misread.{Misread}
use Rattle.cx_command_line.specs.declared.reading.Misread.TheVariants.{Usage, OutOfMemory}

-- ---- what is asked for

-- a daemon: its name, how many events it takes, where it listens and where the monitor is
pub record AskedDaemon : Type 0 where
  pub name : Name
  pub events : ℕ
  pub listen : Addr
  pub monitor : Addr

-- a client: its name, how many events it takes, where the monitor is, and its peers, as words
pub record AskedClient : Type 0 where
  pub name : Name
  pub events : ℕ
  pub monitor : Addr
  pub peers : List Word

pub data Asked : Type 0 where
  Replay : Asked
  Keyring : Asked
  Audit : Asked
  Drill : DrillCommand → Asked
  Key : Asked
  Monitor : MonitorCommand → Asked
  Daemon : AskedDaemon → Asked
  Client : AskedClient → Asked

-- the same, without where ids and words lie
abbrev pub asked_daemon : DaemonCommand → AskedDaemon
asked_daemon c = record { name = name_seen c.name; events = c.events; listen = c.listen; monitor = c.monitor }

abbrev pub asked_client : ClientCommand → AskedClient
asked_client c = record { name = name_seen c.name; events = c.events; monitor = c.monitor; peers = map (λ w. w.now) c.peers.now }

abbrev pub asked : Invocation → Asked
asked words.Replay = Replay
asked words.Keyring = Keyring
asked words.Audit = Audit
asked (words.Drill c) = Drill c
asked words.Key = Key
asked (words.Monitor c) = Monitor c
asked (words.Daemon c) = Daemon (asked_daemon c)
asked (words.Client c) = Client (asked_client c)

-- ---- the words behind that of each command

abbrev pub alone : Asked → List Word → Option Asked
alone asked [] = Some asked
alone asked (word ∷ words) = None

-- N SEED
abbrev pub drill : List Word → Option DrillCommand
drill (clients ∷ seed ∷ []) = option_map (λ p. record { clients = p.0; seed = p.1 }) (both (bounded 1 1000 clients) (number_of seed))
drill _ = None

-- how many events a node takes
abbrev pub events : Word → Option ℕ
events word = bounded 1 1000000 word

-- a lifetime in seconds
abbrev pub lifetime : Word → Option ℕ
lifetime word = bounded 1 31536000 word

abbrev pub two_lives : List Word → Option (ℕ × ℕ)
two_lives (life ∷ auth_life ∷ []) = both (lifetime life) (lifetime auth_life)
two_lives _ = None

-- LIFE AUTHLIFE, or nothing
abbrev pub lives : List Word → Option (ℕ × ℕ)
lives [] = Some (3600, 43200)
lives (word ∷ words) = two_lives (word ∷ words)

-- EVENTS LISTEN or EVENTS LISTEN LIFE AUTHLIFE
abbrev pub monitor : List Word → Option MonitorCommand
monitor (count ∷ listen ∷ rest) =
    option_map (λ p. record { events = p.0.0; listen = p.0.1; life = p.1.0; auth_life = p.1.1 })
    (both (both (events count) (address listen)) (lives rest))
monitor _ = None

-- NAME EVENTS LISTEN MON
abbrev pub daemon : List Word → Option AskedDaemon
daemon (name ∷ count ∷ listen ∷ mon ∷ []) =
    option_map (λ p. record { name = p.0.0; events = p.0.1; listen = p.1.0; monitor = p.1.1 })
    (both (both (daemon_name name) (events count)) (both (address listen) (address mon)))
daemon _ = None

abbrev pub with_peers : List Word → Bool → (Name × ℕ) × Addr → Option AskedClient
with_peers peers true p = Some (record { name = p.0.0; events = p.0.1; monitor = p.1; peers = peers })
with_peers peers false p = None

-- NAME EVENTS MON PEER ..
abbrev pub client : List Word → Option AskedClient
client (name ∷ count ∷ mon ∷ peers) =
    option_and_then (with_peers peers (are_peers peers)) (both (both (client_name name) (events count)) (address mon))
client _ = None

-- ---- all of them

-- what the words spell whose first is this one
abbrev pub spelled_by : Word → List Word → Option Asked
spelled_by command values =
    if bytes_eq command (codes "replay") then alone Replay values
    else if bytes_eq command (codes "keyring") then alone Keyring values
    else if bytes_eq command (codes "audit") then alone Audit values
    else if bytes_eq command (codes "drill") then option_map (λ c. Drill c) (drill values)
    else if bytes_eq command (codes "key") then alone Key values
    else if bytes_eq command (codes "mon") then option_map (λ c. Monitor c) (monitor values)
    else if bytes_eq command (codes "daemon") then option_map (λ c. Daemon c) (daemon values)
    else if bytes_eq command (codes "client") then option_map (λ c. Client c) (client values)
    else None

-- what the words of a command line ask for; none where they spell no command
abbrev pub spelled : List Word → Option Asked
spelled [] = None
spelled (command ∷ values) = spelled_by command values

-- why words aren't read: they spell no command; where they do, memory is wanting
abbrev pub IsMisread : List Word → Misread → Type 0
IsMisread words Usage = spelled words ≡ None
IsMisread words OutOfMemory = is_some (spelled words) ≡ true
