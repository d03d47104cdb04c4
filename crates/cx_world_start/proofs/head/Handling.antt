-- What the lines of a schedule say is the same, whichever handlers the daemons have.
use Rattle.std.proofs.Common.{◌≡◌, ℕ, List, [], ◌∷◌, refl, sym, ap, ◌∙◌}
use Rattle.cx_base.specs.declared.nodes.NodeName.TheVariants as place
use Rattle.cx_desk.specs.Handlers.{Handlers}
use Rattle.cx_lines.specs.declared.lines.Line.{Line}
use Rattle.cx_lines.specs.declared.lines.Line.TheVariants as line
use Rattle.cx_lines.specs.declared.lines.Numbered.{Numbered}
use Rattle.cx_lines.specs.declared.settings.Setting.{Setting}
use Rattle.cx_lines.specs.declared.settings.Setting.TheVariants as setting
use Rattle.cx_run.specs.Opening.{Setup, plain_setup, set_up, set_up_by, set_up_line}
use Rattle.cx_run.specs.Runs.{setup_of}
use Rattle.cx_world_start.specs.head.Beginning.{unhandled, with_handlers}

setting-handled : (handlers : Handlers) (setup : Setup) (number : ℕ) (said : Setting)
    → set_up_by (with_handlers handlers setup) number said ≡ with_handlers handlers (set_up_by setup number said)
setting-handled handlers setup number (setting.Lifetime seconds) = refl
setting-handled handlers setup number (setting.AuthLifetime seconds) = refl
setting-handled handlers setup number (setting.Entity name grants) = refl
setting-handled handlers setup number (setting.Seed place.Monitor seed) = refl
setting-handled handlers setup number (setting.Seed (place.Entity name) seed) = refl
setting-handled handlers setup number (setting.Modes name modes) = refl
setting-handled handlers setup number (setting.Leak name) = refl

line-handled : (handlers : Handlers) (setup : Setup) (number : ℕ) (said : Line)
    → set_up_line (with_handlers handlers setup) number said ≡ with_handlers handlers (set_up_line setup number said)
line-handled handlers setup number (line.Setting said) = setting-handled handlers setup number said
line-handled handlers setup number (line.Submit command) = refl
line-handled handlers setup number (line.Do command) = refl
line-handled handlers setup number (line.Link step) = refl
line-handled handlers setup number (line.Node step) = refl

lines-handled : (handlers : Handlers) (setup : Setup) (lines : List Numbered)
    → set_up (with_handlers handlers setup) lines ≡ with_handlers handlers (set_up setup lines)
lines-handled handlers setup [] = refl
lines-handled handlers setup (l ∷ lines) =
    ap (λ (s : Setup). set_up s lines) (line-handled handlers setup l.number l.line)
    ∙ lines-handled handlers (set_up_line setup l.number l.line) lines

-- what was read is the setup of a run whose daemons have these
pub handled : (handlers : Handlers) (setup : Setup) (script : List Numbered) → setup ≡ setup_of unhandled script → with_handlers handlers setup ≡ setup_of handlers script
handled handlers setup script is =
    ap (λ (s : Setup). with_handlers handlers s) is ∙ sym (lines-handled handlers (plain_setup unhandled) script)
