-- The schedule of a drill: n clients and a daemon; each client logs in, connects, sends up to three operations and goes.
use Rattle.std.specs.Prelude.{ℕ, zero, suc, false, ◌+◌, ◌-◌, ◌*◌, ◌%◌, ◌==◌, List, [], ◌∷◌, ◌++◌, map, codes, replicate, if◌then◌else◌}
use Rattle.std.specs.List.{flat_map}
use Rattle.std.specs.Fmt.{decimal}
use Rattle.cx_base.specs.Joined.{◌<>◌}
use Rattle.cx_base.specs.Names.{Name}
use Rattle.cx_base.specs.declared.kinds.Access.TheVariants.{Write}
use Rattle.cx_base.specs.declared.kinds.EntityType.TheVariants.{Client, Osd}
use Rattle.cx_lines.specs.declared.commands.LineCommand.TheVariants as command
use Rattle.cx_lines.specs.declared.lines.Line.{Line}
use Rattle.cx_lines.specs.declared.lines.Line.TheVariants as line
use Rattle.cx_lines.specs.declared.lines.Numbered.{Numbered}
use Rattle.cx_lines.specs.declared.link_steps.LinkStep.TheVariants as link
use Rattle.cx_lines.specs.declared.node_steps.NodeStep.TheVariants as step
use Rattle.cx_lines.specs.declared.settings.Setting.TheVariants as setting
use Rattle.cx_schedule.specs.Files.{numbered}

-- ---- its text

-- the numbers of the first n clients: 1 to n
abbrev pub clients_to : ℕ → List ℕ
clients_to zero = []
clients_to (suc n) = clients_to n ++ suc n ∷ []

-- client i is declared
abbrev pub client_line : ℕ → List ℕ
client_line i = codes "entity client." <> decimal i <> codes " osd \"allow *\""

-- the clock of client i: 600 seconds behind that of the one before it
abbrev pub clock_line : ℕ → List ℕ
clock_line i = codes "clock " <> decimal (1000 + 600 * i)

-- the daemon fetches before the first of each four clients
abbrev pub fetch_lines : ℕ → List (List ℕ)
fetch_lines i = if (i - 1) % 4 == 0 then codes "fetch osd.0" ∷ [] else []

abbrev pub login_line : ℕ → List ℕ
login_line i = codes "login client." <> decimal i <> codes " osd"

abbrev pub connect_line : ℕ → List ℕ
connect_line i = codes "connect client." <> decimal i <> codes " osd.0"

abbrev pub send_line : ℕ → List ℕ
send_line i = codes "send client." <> decimal i <> codes " osd.0 write rbd - o -"

abbrev pub cut_line : ℕ → List ℕ
cut_line link = codes "cut " <> decimal link

-- what client i does; its links are 2 i, to the monitor, and the next one, to the daemon
abbrev pub round_lines : ℕ → ℕ → List (List ℕ)
round_lines seed i =
    (clock_line i ∷ fetch_lines i)
    ++ ((login_line i ∷ connect_line i ∷ replicate ((i + seed) % 4) (send_line i)) ++ (cut_line (2 * i) ∷ cut_line (2 * i + 1) ∷ []))

-- all lines
abbrev pub drill_lines : ℕ → ℕ → List (List ℕ)
drill_lines n seed =
    map client_line (clients_to n) ++ (codes "entity osd.0" ∷ flat_map (round_lines seed) (clients_to n))

-- a line, ended by LF (10)
abbrev pub ended : List ℕ → List ℕ
ended line = line ++ 10 ∷ []

-- the text of the schedule
abbrev pub drill_text : ℕ → ℕ → List ℕ
drill_text n seed = flat_map ended (drill_lines n seed)

-- ---- what it says

-- client i
abbrev pub drill_client : ℕ → Name
drill_client i = record { kind = Client; id = decimal i }

-- the daemon
abbrev pub drill_daemon : Name
drill_daemon = record { kind = Osd; id = codes "0" }

abbrev pub declares : ℕ → Line
declares i = line.Setting (setting.Entity (drill_client i) (record { service = Osd; caps = codes "allow *" } ∷ []))

abbrev pub declares_daemon : Line
declares_daemon = line.Setting (setting.Entity drill_daemon [])

-- a reading in nanoseconds
abbrev pub reads_clock : ℕ → Line
reads_clock i = line.Node (step.Clock ((1000 + 600 * i) * 1000000000))

abbrev pub fetches : ℕ → List Line
fetches i = if (i - 1) % 4 == 0 then line.Submit (command.Fetch drill_daemon) ∷ [] else []

abbrev pub logs_in : ℕ → Line
logs_in i = line.Submit (command.Login (drill_client i) (Osd ∷ []))

abbrev pub connects : ℕ → Line
connects i = line.Submit (command.Connect (drill_client i) drill_daemon false)

abbrev pub writes : ℕ → Line
writes i =
    line.Submit (command.Send (drill_client i) drill_daemon (record {
      access = Write;
      pool = codes "rbd";
      namespace = [];
      object = codes "o";
      bytes = [];
    }))

abbrev pub cuts_link : ℕ → Line
cuts_link number = line.Link (link.Cut number)

abbrev pub round_says : ℕ → ℕ → List Line
round_says seed i =
    (reads_clock i ∷ fetches i)
    ++ ((logs_in i ∷ connects i ∷ replicate ((i + seed) % 4) (writes i)) ++ (cuts_link (2 * i) ∷ cuts_link (2 * i + 1) ∷ []))

abbrev pub drill_says : ℕ → ℕ → List Line
drill_says n seed =
    map declares (clients_to n) ++ (declares_daemon ∷ flat_map (round_says seed) (clients_to n))

-- lines with their numbers, from this one on
abbrev pub number_from : ℕ → List Line → List Numbered
number_from number [] = []
number_from number (line ∷ lines) = numbered number line ∷ number_from (number + 1) lines

-- the schedule that the text is
abbrev pub drill_script : ℕ → ℕ → List Numbered
drill_script n seed = number_from 1 (drill_says n seed)
