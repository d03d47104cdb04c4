-- The daemons of a run have the handlers with which it is set up: no line says anything of them.
use Rattle.std.proofs.Common.{◌≡◌, ℕ, List, [], ◌∷◌, refl, ◌∙◌}
use Rattle.cx_base.specs.declared.nodes.NodeName.TheVariants as node
use Rattle.cx_rules_session.specs.cx_desk.specs.Handlers.{Handlers}
use Rattle.cx_lines.specs.declared.lines.Line.{Line}
use Rattle.cx_lines.specs.declared.lines.Line.TheVariants as line
use Rattle.cx_lines.specs.declared.lines.Numbered.{Numbered}
use Rattle.cx_lines.specs.declared.settings.Setting.{Setting}
use Rattle.cx_lines.specs.declared.settings.Setting.TheVariants as setting
use Rattle.cx_run.specs.Opening.{Setup, plain_setup, set_up, set_up_by, set_up_line}
use Rattle.cx_run.specs.Runs.{setup_of}

by-setting : (setup : Setup) (number : ℕ) (said : Setting) → (set_up_by setup number said).handlers ≡ setup.handlers
by-setting setup number (setting.Lifetime seconds) = refl
by-setting setup number (setting.AuthLifetime seconds) = refl
by-setting setup number (setting.Entity name grants) = refl
by-setting setup number (setting.Seed node.Monitor seed) = refl
by-setting setup number (setting.Seed (node.Entity name) seed) = refl
by-setting setup number (setting.Modes name modes) = refl
by-setting setup number (setting.Leak name) = refl

by-line : (setup : Setup) (number : ℕ) (l : Line) → (set_up_line setup number l).handlers ≡ setup.handlers
by-line setup number (line.Setting said) = by-setting setup number said
by-line setup number (line.Submit command) = refl
by-line setup number (line.Do command) = refl
by-line setup number (line.Link step) = refl
by-line setup number (line.Node step) = refl

by-lines : (setup : Setup) (lines : List Numbered) → (set_up setup lines).handlers ≡ setup.handlers
by-lines setup [] = refl
by-lines setup (l ∷ lines) = by-lines (set_up_line setup l.number l.line) lines ∙ by-line setup l.number l.line

pub handlers-stay : (handlers : Handlers) (script : List Numbered) → (setup_of handlers script).handlers ≡ handlers
handlers-stay handlers script = by-lines (plain_setup handlers) script
