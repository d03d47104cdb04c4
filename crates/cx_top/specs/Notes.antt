-- What is said on standard error of the caps of entities: of a keyring that is read each clause, of a schedule those that grant nothing, and which
-- services are asked for without any.
use Rattle.std.specs.Prelude.{ℕ, ◌&&◌, ◌++◌, Bool, true, false, List, [], codes, if◌then◌else◌}
use Rattle.std.specs.Fmt.{decimal}
use Rattle.std.specs.List.{flat_map, list_any}
use Rattle.cx_base.specs.Joined.{◌<>◌}
use Rattle.cx_base.specs.Names.{Name, name_text, same_kind, same_name, type_word}
use Rattle.cx_base.specs.declared.kinds.EntityType.{EntityType}
use Rattle.cx_help.specs.keyring.Clauses.{caps_told, lines_told}
use Rattle.cx_lines.specs.declared.commands.LineCommand.{LineCommand}
use Rattle.cx_lines.specs.declared.commands.LineCommand.TheVariants as command
use Rattle.cx_lines.specs.declared.lines.Line.{Line}
use Rattle.cx_lines.specs.declared.lines.Line.TheVariants as line
use Rattle.cx_lines.specs.declared.lines.Numbered.{Numbered}
use Rattle.cx_lines.specs.declared.settings.Setting.TheVariants as setting
use Rattle.cx_words.specs.Cutting.{lines_of}

-- of each clause of a keyring of these bytes: what it grants, or why it grants nothing
abbrev pub ring_told : List ℕ → List ℕ
ring_told bytes = lines_told true [] (lines_of bytes)

-- of the clauses of a line that grant nothing: why
abbrev pub dead_in : Line → List ℕ
dead_in (line.Setting (setting.Entity name grants)) = caps_told false name grants
dead_in _ = []

abbrev pub dead_at : Numbered → List ℕ
dead_at numbered = dead_in numbered.line

-- of those of a schedule
abbrev pub dead_told : List Numbered → List ℕ
dead_told script = flat_map dead_at script

-- ---- services that are asked for without caps

-- whether a line declares that an entity has caps for a service
abbrev pub gives_caps : Name → EntityType → Line → Bool
gives_caps name service (line.Setting (setting.Entity declared grants)) = same_name declared name && list_any (λ grant. same_kind service grant.service) grants
gives_caps name service _ = false

abbrev pub gives_caps_at : Name → EntityType → Numbered → Bool
gives_caps_at name service numbered = gives_caps name service numbered.line

-- whether one of a schedule does
abbrev pub has_caps : List Numbered → Name → EntityType → Bool
has_caps script name service = list_any (gives_caps_at name service) script

-- a client that asks at this line gets no ticket for a service for which it has none
abbrev pub no_ticket_told : ℕ → Name → EntityType → List ℕ
no_ticket_told number client service =
    codes "cephx_cli: line " <> decimal number <> codes ": " <> name_text client <> codes " has no caps for " <> type_word service
    <> codes ", and gets no ticket for it\n"

abbrev pub ticket_told : List Numbered → ℕ → Name → EntityType → List ℕ
ticket_told script number client service = if has_caps script client service then [] else no_ticket_told number client service

abbrev pub services_told : List Numbered → ℕ → Name → List EntityType → List ℕ
services_told script number client services = flat_map (ticket_told script number client) services

abbrev pub command_told : List Numbered → ℕ → LineCommand → List ℕ
command_told script number (command.Login client services) = services_told script number client services
command_told script number (command.Renew client services) = services_told script number client services
command_told script number _ = []

abbrev pub asked_in : List Numbered → ℕ → Line → List ℕ
asked_in script number (line.Submit command) = command_told script number command
asked_in script number (line.Do command) = command_told script number command
asked_in script number _ = []

abbrev pub asked_at : List Numbered → Numbered → List ℕ
asked_at script numbered = asked_in script numbered.number numbered.line

abbrev pub asked_told : List Numbered → List ℕ
asked_told script = flat_map (asked_at script) script

-- ---- a schedule

abbrev pub schedule_told : List Numbered → List ℕ
schedule_told script = dead_told script ++ asked_told script
