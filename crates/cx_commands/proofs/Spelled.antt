-- Which words spell a command that reads a text.
use Rattle.std.proofs.Common.{◌≡◌, Bool, true, false, List, [], ◌∷◌, Option, Some, None, refl, sym, ap, ◌∙◌}
use Rattle.std.specs.Prelude.{codes, if◌then◌else◌, option_map}
use Rattle.std.specs.Str.{bytes_eq}
use Rattle.std.proofs.lemmas.Slice.Eq.{bytes_eq-Decides}
use Rattle.cx_command_line.specs.Commands as told
use Rattle.cx_command_line.specs.Commands.{Asked, AskedClient, AskedDaemon, Replay, Keyring, Audit, Drill, Key, Monitor, Daemon, Client, alone, client, daemon, drill, spelled}
use Rattle.cx_command_line.specs.Words.{Word}
use Rattle.cx_command_line.specs.declared.commands.DrillCommand.{DrillCommand}
use Rattle.cx_command_line.specs.declared.commands.MonitorCommand.{MonitorCommand}
use Rattle.cx_top.specs.Commands.{command_word}
use Rattle.cx_top.specs.declared.commands.Subcommand.{Subcommand}
use Rattle.cx_top.specs.declared.commands.Subcommand.TheVariants as text

abbrev pub asked_text : Subcommand → Asked
asked_text text.Replay = Replay
asked_text text.Keyring = Keyring
asked_text text.Audit = Audit

pub spelled_text : (command : Subcommand) (words : List Word) → words ≡ command_word command ∷ [] → spelled words ≡ Some (asked_text command)
spelled_text text.Replay words is = ap spelled is
spelled_text text.Keyring words is = ap spelled is
spelled_text text.Audit words is = ap spelled is

-- ---- and the other way round

-- that a command that reads a text is asked for
abbrev is_text : Asked → Bool
is_text Replay = true
is_text Keyring = true
is_text Audit = true
is_text (Drill c) = false
is_text Key = false
is_text (Monitor c) = false
is_text (Daemon c) = false
is_text (Client c) = false

asked_is_text : (command : Subcommand) → is_text (asked_text command) ≡ true
asked_is_text text.Replay = refl
asked_is_text text.Keyring = refl
asked_is_text text.Audit = refl

no_other : (asked : Asked) (command : Subcommand) → is_text asked ≡ false → asked ≡ asked_text command → ⊥
no_other asked command other is = let no : false ≡ true = sym other ∙ ap is_text is ∙ asked_is_text command in cc

no_drill : (o : Option DrillCommand) (command : Subcommand) → option_map (λ c. Drill c) o ≡ Some (asked_text command) → ⊥
no_drill (Some c) command is = no_other (Drill c) command refl cc
no_drill None command is = let no : None ≡ Some (asked_text command) = is in cc

no_key : (values : List Word) (command : Subcommand) → alone Key values ≡ Some (asked_text command) → ⊥
no_key [] command is = no_other Key command refl cc
no_key (word ∷ words) command is = let no : None ≡ Some (asked_text command) = is in cc

no_monitor : (o : Option MonitorCommand) (command : Subcommand) → option_map (λ c. Monitor c) o ≡ Some (asked_text command) → ⊥
no_monitor (Some c) command is = no_other (Monitor c) command refl cc
no_monitor None command is = let no : None ≡ Some (asked_text command) = is in cc

no_daemon : (o : Option AskedDaemon) (command : Subcommand) → option_map (λ c. Daemon c) o ≡ Some (asked_text command) → ⊥
no_daemon (Some c) command is = no_other (Daemon c) command refl cc
no_daemon None command is = let no : None ≡ Some (asked_text command) = is in cc

no_client : (o : Option AskedClient) (command : Subcommand) → option_map (λ c. Client c) o ≡ Some (asked_text command) → ⊥
no_client (Some c) command is = no_other (Client c) command refl cc
no_client None command is = let no : None ≡ Some (asked_text command) = is in cc

-- the same command has the same word
same_word : (first second : Subcommand) → asked_text first ≡ asked_text second → command_word first ≡ command_word second
same_word text.Replay text.Replay is = refl
same_word text.Replay text.Keyring is = absurd (let no : Replay ≡ Keyring = is in cc)
same_word text.Replay text.Audit is = absurd (let no : Replay ≡ Audit = is in cc)
same_word text.Keyring text.Replay is = absurd (let no : Keyring ≡ Replay = is in cc)
same_word text.Keyring text.Keyring is = refl
same_word text.Keyring text.Audit is = absurd (let no : Keyring ≡ Audit = is in cc)
same_word text.Audit text.Replay is = absurd (let no : Audit ≡ Replay = is in cc)
same_word text.Audit text.Keyring is = absurd (let no : Audit ≡ Keyring = is in cc)
same_word text.Audit text.Audit is = refl

-- no word stands behind it
alone_is : (word : Word) (values : List Word) (first second : Subcommand) → bytes_eq word (command_word first) ≡ true → alone (asked_text first) values ≡ Some (asked_text second)
    → word ∷ values ≡ command_word second ∷ []
alone_is word [] first second named is =
    ap (λ (w : Word). w ∷ []) ((bytes_eq-Decides word (command_word first)).0 named ∙ same_word first second cc)
alone_is word (value ∷ values) first second named is = absurd (let no : None ≡ Some (asked_text second) = is in cc)

pub text_spelled : (command : Subcommand) (words : List Word) → spelled words ≡ Some (asked_text command) → words ≡ command_word command ∷ []
text_spelled command [] is = absurd (let no : None ≡ Some (asked_text command) = is in cc)
text_spelled command (word ∷ values) is =
    by_tests (bytes_eq word (codes "replay")) (bytes_eq word (codes "keyring")) (bytes_eq word (codes "audit")) (bytes_eq word (codes "drill")) (bytes_eq word (codes "key")) (bytes_eq word (codes "mon"))
    (bytes_eq word (codes "daemon")) (bytes_eq word (codes "client")) refl refl refl is
  where
    by_tests : (r k a d y m n l : Bool) → bytes_eq word (codes "replay") ≡ r → bytes_eq word (codes "keyring") ≡ k → bytes_eq word (codes "audit") ≡ a
        → (if r then alone Replay values else if k then alone Keyring values else if a then alone Audit values else if d then option_map (λ c. Drill c) (drill values)
        else if y then alone Key values
        else if m then option_map (λ c. Monitor c) (told.monitor values) else if n then option_map (λ c. Daemon c) (daemon values)
        else if l then option_map (λ c. Client c) (client values) else None) ≡ Some (asked_text command) → word ∷ values ≡ command_word command ∷ []
    by_tests true k a d y m n l e f g is = alone_is word values text.Replay command e is
    by_tests false true a d y m n l e f g is = alone_is word values text.Keyring command f is
    by_tests false false true d y m n l e f g is = alone_is word values text.Audit command g is
    by_tests false false false true y m n l e f g is = absurd (no_drill (drill values) command is)
    by_tests false false false false true m n l e f g is = absurd (no_key values command is)
    by_tests false false false false false true n l e f g is = absurd (no_monitor (told.monitor values) command is)
    by_tests false false false false false false true l e f g is = absurd (no_daemon (daemon values) command is)
    by_tests false false false false false false false true e f g is = absurd (no_client (client values) command is)
    by_tests false false false false false false false false e f g is = absurd (let no : None ≡ Some (asked_text command) = is in cc)
