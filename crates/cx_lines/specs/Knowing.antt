-- What is known of the lines above a line, and what that says of lines that may stand once or before all others.
use Rattle.std.specs.Prelude.{Bool, true, false, List, [], ◌∷◌, ◌++◌, fold}
use Rattle.cx_words.specs.declared.known.Known.{Known}
use Rattle.cx_base.specs.declared.nodes.NodeName.TheVariants as node
use Rattle.cx_words.specs.lines.Known.{nothing}
use Rattle.cx_lines.specs.declared.lines.Head.{Head}
use Rattle.cx_lines.specs.declared.lines.Head.TheVariants as head
use Rattle.cx_lines.specs.declared.lines.Line.{Line}
use Rattle.cx_lines.specs.declared.lines.Line.TheVariants as line
use Rattle.cx_lines.specs.declared.lines.Numbered.{Numbered}
use Rattle.cx_lines.specs.declared.settings.Setting.{Setting}
use Rattle.cx_lines.specs.declared.settings.Setting.TheVariants.{Lifetime, AuthLifetime, Entity, Seed, Modes, Leak}
use Rattle.cx_lines.specs.declared.settings.SettingForm.TheVariants as form

-- what is known behind a head line
abbrev pub setting_known : Known → Setting → Known
setting_known known (Lifetime seconds) = record known { has_life = true }
setting_known known (AuthLifetime seconds) = record known { has_auth_life = true }
setting_known known (Entity name grants) = record known { declared = known.declared ++ name ∷ [] }
setting_known known (Seed node.Monitor seed) = record known { is_monitor_seeded = true }
setting_known known (Seed (node.Entity name) seed) = record known { seeded = known.seeded ++ name ∷ [] }
setting_known known (Modes client modes) = record known { moded = known.moded ++ client ∷ [] }
setting_known known (Leak client) = record known { leaked = known.leaked ++ client ∷ [] }

-- what is known behind a line
abbrev pub knowing : Known → Line → Known
knowing known (line.Setting setting) = setting_known known setting
knowing known (line.Submit command) = record known { has_begun = true }
knowing known (line.Do command) = record known { has_begun = true }
knowing known (line.Link step) = record known { has_begun = true }
knowing known (line.Node step) = record known { has_begun = true }

-- the same of a line with its number
abbrev pub knowing_numbered : Known → Numbered → Known
knowing_numbered known numbered = knowing known numbered.line

-- what is known behind these lines
abbrev pub known_of : List Numbered → Known
known_of lines = fold knowing_numbered nothing lines

-- whether a line of this form may stand once, and stands already
abbrev pub is_spent : Known → Head → Bool
is_spent known (head.Setting form.Lifetime) = known.has_life
is_spent known (head.Setting form.AuthLifetime) = known.has_auth_life
is_spent known _ = false

-- whether a line of this form is too late: a head line behind a line that is none
abbrev pub is_late : Known → Head → Bool
is_late known (head.Setting form) = known.has_begun
is_late known _ = false
