-- The faults of a keyring's lines, and the first line that is wrong.
use Rattle.std.specs.Prelude.{ℕ, ◌+◌, Bool, true, false, not, ◌&&◌, if◌then◌else◌, List, [], ◌∷◌, ◌++◌, length, Option, Some, None, is_none, find, fold}
use Rattle.std.specs.List.{list_any}
use Rattle.cx_base.specs.Names.{Name, same_kind, same_name}
use Rattle.cx_base.specs.declared.kinds.EntityType.{EntityType}
use Rattle.cx_keyring.specs.declared.faults.KeyringFault.{KeyringFault}
use Rattle.cx_keyring.specs.declared.faults.KeyringFault.TheVariants.{NoSection, BadName, BadKey, BadService, BadCaps, Repeated, NoKey, Unreadable}
use Rattle.cx_keyring.specs.declared.lines.Line.{Line}
use Rattle.cx_keyring.specs.declared.lines.Line.TheVariants as lines

-- ---- what a line says by itself

-- it begins a section, whatever stands in its brackets
abbrev pub is_section : Line → Bool
is_section (lines.Section name) = true
is_section _ = false

-- it gives a key, whatever its text
abbrev pub is_key : Line → Bool
is_key (lines.Key key) = true
is_key _ = false

-- it stands inside of a section
abbrev pub is_inner : Line → Bool
is_inner (lines.Key key) = true
is_inner (lines.Caps service text) = true
is_inner lines.Other = true
is_inner _ = false

abbrev pub has_bad_name : Line → Bool
has_bad_name (lines.Section name) = is_none name
has_bad_name _ = false

abbrev pub has_bad_key : Line → Bool
has_bad_key (lines.Key key) = is_none key
has_bad_key _ = false

abbrev pub has_bad_service : Line → Bool
has_bad_service (lines.Caps service text) = is_none service
has_bad_service _ = false

abbrev pub has_bad_caps : Line → Bool
has_bad_caps (lines.Caps service text) = is_none text
has_bad_caps _ = false

abbrev pub is_other : Line → Bool
is_other lines.Other = true
is_other _ = false

-- ---- what a line says beside others

-- it begins the section of this name
abbrev pub is_section_of : Name → Line → Bool
is_section_of name (lines.Section (Some other)) = same_name name other
is_section_of name _ = false

-- it gives the caps for this service
abbrev pub is_caps_for : EntityType → Line → Bool
is_caps_for service (lines.Caps (Some other) text) = same_kind service other
is_caps_for service _ = false

-- it is a section of a name that is known, or a second key or service behind the lines of its section
abbrev pub is_repeated : (Name → Bool) → List Line → Line → Bool
is_repeated is_known body (lines.Section (Some name)) = is_known name
is_repeated is_known body (lines.Key key) = list_any is_key body
is_repeated is_known body (lines.Caps (Some service) text) = list_any (is_caps_for service) body
is_repeated is_known body _ = false

-- of these lines those that stand before the next section
abbrev pub section_lines : List Line → List Line
section_lines [] = []
section_lines (line ∷ after) = if is_section line then [] else line ∷ section_lines after

-- it begins a section that has no key
abbrev pub is_keyless : Line → List Line → Bool
is_keyless line after = is_section line && not (list_any is_key (section_lines after))

-- ---- faults

-- whether a line has a fault; begun: a section stands before it; repeated: it stands already; keyless: it begins a section
-- that has no key
abbrev pub has : Bool → Bool → Bool → Line → KeyringFault → Bool
has begun repeated keyless line NoSection = is_inner line && not begun
has begun repeated keyless line BadName = has_bad_name line
has begun repeated keyless line BadKey = has_bad_key line
has begun repeated keyless line BadService = has_bad_service line
has begun repeated keyless line BadCaps = has_bad_caps line
has begun repeated keyless line Repeated = repeated
has begun repeated keyless line NoKey = keyless
has begun repeated keyless line Unreadable = is_other line

-- the first fault of a line
abbrev pub fault_of : Bool → Bool → Bool → Line → Option KeyringFault
fault_of begun repeated keyless line =
    find (has begun repeated keyless line)
    (NoSection ∷ BadName ∷ BadKey ∷ BadService ∷ BadCaps ∷ Repeated ∷ NoKey ∷ Unreadable ∷ [])

-- the lines of a section behind one more line
abbrev pub body_after : List Line → Line → List Line
body_after body line = if is_section line then [] else body ++ line ∷ []

-- of these lines those that stand behind the last section
abbrev pub body_of : List Line → List Line
body_of before = fold body_after [] before

-- the first fault of a line among the others, those before it and those behind it
abbrev pub fault_at : List Line → Line → List Line → Option KeyringFault
fault_at before line after =
    fault_of (list_any is_section before) (is_repeated (λ name. list_any (is_section_of name) before) (body_of before) line)
    (is_keyless line after) line

-- a line that is wrong, by its number, or else what is wrong later
abbrev pub or_later : ℕ → Option KeyringFault → Option (ℕ × KeyringFault) → Option (ℕ × KeyringFault)
or_later number None later = later
or_later number (Some why) later = Some (number, why)

-- the first line that is wrong behind these ones, by its number from 1, and its fault
abbrev pub first_bad : List Line → List Line → Option (ℕ × KeyringFault)
first_bad before [] = None
first_bad before (line ∷ after) = or_later (length before + 1) (fault_at before line after) (first_bad (before ++ line ∷ []) after)
