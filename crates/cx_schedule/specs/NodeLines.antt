-- The lines of a node's script: those of a schedule's by which a node is told to do something or drops a session, where their
-- first name is the node's own; and two that schedules don't have. They are those of docs/guide.md, "The script of a node".
use Rattle.std.specs.Prelude.{ℕ, ◌≡◌, Bool, true, false, List, [], ◌∷◌, codes, filter, Option, Some, None, if◌then◌else◌}
use Rattle.std.specs.Option.{option_map}
use Rattle.std.specs.Str.{bytes_eq}
use Rattle.cx_base.specs.Names.{Name, is_daemon_type}
use Rattle.cx_words.specs.declared.choices.CommandForm.TheVariants as command
use Rattle.cx_words.specs.declared.faults.FaultAt.{FaultAt}
use Rattle.cx_words.specs.declared.known.Known.{Known}
use Rattle.cx_words.specs.declared.places.WordPlace.{WordPlace}
use Rattle.cx_words.specs.declared.places.WordPlace.TheVariants as at
use Rattle.cx_words.specs.lines.Choices.{chosen, command_form_of}
use Rattle.cx_words.specs.lines.Faults.{fault_among}
use Rattle.cx_words.specs.lines.Known.{nothing}
use Rattle.cx_words.specs.lines.Sights.{first_hint, shown_of, word_at}
use Rattle.cx_words.specs.lines.Values.{Item, NumberOf, SpellsItems}
use Rattle.cx_lines.specs.declared.lines.Head.{Head}
use Rattle.cx_lines.specs.declared.lines.Head.TheVariants as head
use Rattle.cx_lines.specs.declared.lines.Line.{Line}
use Rattle.cx_lines.specs.declared.lines.Line.TheVariants as line
use Rattle.cx_lines.specs.declared.node_steps.NodeForm.TheVariants as node
use Rattle.cx_lines.specs.declared.node_steps.NodeStep.TheVariants as step
use Rattle.cx_lines.specs.declared.refusals.LineRefusal.{LineRefusal}
use Rattle.cx_lines.specs.declared.refusals.LineRefusal.TheVariants.{Fault, OutOfMemory}
use Rattle.cx_lines.specs.declared.sight.BadWord.{BadWord}
use Rattle.cx_lines.specs.Lines.{form_of, head_word, or_head, Spells, unknown_word}
use Rattle.cx_lines.specs.Sights.{bad_word_of, place_at}
use Rattle.cx_schedule.specs.declared.node_lines.NodeLine.{NodeLine}
use Rattle.cx_schedule.specs.declared.node_lines.NodeLine.TheVariants.{Submit, DropSession, Gone, Stop}
use Rattle.cx_schedule.specs.declared.node_lines.ScriptForm.{ScriptForm}
use Rattle.cx_schedule.specs.declared.node_lines.ScriptForm.TheVariants as own
use Rattle.cx_schedule.specs.declared.node_names.NodeNames.{NodeNames}

-- ---- the names that may stand in a script

-- the daemons among these
abbrev pub daemons_in : List Name → List Name
daemons_in names = filter (λ name. is_daemon_type name.kind) names

-- what is known where these names are declared, and nothing else is said
abbrev pub declaring : List Name → Known
declaring names = record nothing { declared = names }

-- the names of a node with these peers: its own, and its own with those of the daemons among its peers
abbrev pub names_with : List Name → Name → NodeNames
names_with peers name = record { own = declaring (name ∷ []); all = declaring (name ∷ daemons_in peers) }

-- the same of a node that may have no name, as the monitor
abbrev pub node_names : Option Name → List Name → Option NodeNames
node_names name peers = option_map (names_with peers) name

-- ---- lines that schedules have too

-- the form of such a line that a first word begins, if it begins one
abbrev pub shared_form_of : List ℕ → Option Head
shared_form_of word =
    or_head (option_map head.Submit (command_form_of word))
    (if bytes_eq word (codes "drop") then Some (head.Node node.DropSession) else None)

-- the names that may stand in a line of this form: the peers' behind the node's own, where it connects or sends
abbrev pub known_at : NodeNames → Head → Known
known_at names (head.Submit command.Connect) = names.all
known_at names (head.Submit command.Send) = names.all
known_at names _ = names.own

-- the line of a schedule that it is, if it is one
abbrev pub shared_line : NodeLine → Option Line
shared_line (Submit command) = Some (line.Submit command)
shared_line (DropSession daemon session) = Some (line.Node (step.DropSession daemon session))
shared_line (Gone links) = None
shared_line Stop = None

-- the words spell that line in the script of a node with these names; a node without one has none
abbrev pub SpellsShared : Option NodeNames → Line → List (List ℕ) → Type 0
SpellsShared None line words = ⊥
SpellsShared (Some names) line words = Spells (known_at names (form_of line)) line words

-- ---- lines that scripts alone have

-- the word that a line of each form is begun with
abbrev pub script_word : ScriptForm → List ℕ
script_word own.Gone = codes "gone"
script_word own.Stop = codes "stop"

-- the form that a first word begins, if it begins one
unfoldable pub script_form_of : List ℕ → Option ScriptForm
script_form_of word = chosen script_word (own.Gone ∷ own.Stop ∷ []) word

-- the places behind the first word
abbrev pub script_places : ScriptForm → List WordPlace
script_places own.Gone = at.Number ∷ []
script_places own.Stop = []

-- the words are this first one, and spell these values behind it
abbrev pub SpellsOwn : List ℕ → List Item → List (List ℕ) → Type 0
SpellsOwn first items [] = ⊥
SpellsOwn first items (word ∷ words) = (word ≡ first) × SpellsItems nothing [] items words

-- ---- all lines

-- the words spell the line in the script of a node with these names
abbrev pub SpellsNodeLine : Option NodeNames → NodeLine → List (List ℕ) → Type 0
SpellsNodeLine names (Submit command) words = SpellsShared names (line.Submit command) words
SpellsNodeLine names (DropSession daemon session) words = SpellsShared names (line.Node (step.DropSession daemon session)) words
SpellsNodeLine names (Gone links) words = SpellsOwn (script_word own.Gone) (NumberOf links ∷ []) words
SpellsNodeLine names Stop words = SpellsOwn (script_word own.Stop) [] words

-- ---- the first fault

-- what stands where words with these places behind the first one have this fault; their form is none of a schedule's
abbrev pub described_at : List WordPlace → List (List ℕ) → FaultAt → BadWord
described_at places words fault = record {
  fault = fault;
  form = None;
  takes = place_at places fault.word;
  shown = shown_of (word_at words fault.word);
  hint = first_hint (word_at words fault.word ∷ words);
}

-- the first word begins no line
abbrev pub unknown_first : List (List ℕ) → BadWord
unknown_first words = described_at [] words unknown_word

-- the first fault of words that begin a line which scripts alone have
abbrev pub bad_own : ScriptForm → List ℕ → List (List ℕ) → Option BadWord
bad_own form word words =
    option_map (described_at (script_places form) (word ∷ words)) (fault_among nothing false false (script_places form) words)

-- the first fault of words that begin a line of this form of a schedule's, or none that a script has
abbrev pub bad_shared : Option NodeNames → List (List ℕ) → Option Head → Option BadWord
bad_shared None words form = Some (unknown_first words)
bad_shared (Some names) words None = Some (unknown_first words)
bad_shared (Some names) words (Some form) = bad_word_of (known_at names form) words

-- the first fault of words, by the form that scripts alone have
abbrev pub bad_in : Option NodeNames → List ℕ → List (List ℕ) → Option ScriptForm → Option BadWord
bad_in names word words None = bad_shared names (word ∷ words) (shared_form_of word)
bad_in names word words (Some form) = bad_own form word words

-- the first fault of the words of a line in the script of a node with these names
abbrev pub bad_in_script : Option NodeNames → List (List ℕ) → Option BadWord
bad_in_script names [] = Some (unknown_first [])
bad_in_script names (word ∷ words) = bad_in names word words (script_form_of word)

-- why the words of a line are refused there; want of memory is free
abbrev pub IsNodeLineCause : Option NodeNames → List (List ℕ) → LineRefusal → Type 0
IsNodeLineCause names words (Fault bad) = bad_in_script names words ≡ Some bad
IsNodeLineCause names words OutOfMemory = Unit {0}

-- ---- the same for each kind of form

-- the words spell a line of a form that scripts alone have
abbrev pub SpellsOwnLine : ScriptForm → NodeLine → List (List ℕ) → Type 0
SpellsOwnLine own.Gone (Gone links) words = SpellsOwn (script_word own.Gone) (NumberOf links ∷ []) words
SpellsOwnLine own.Stop Stop words = SpellsOwn (script_word own.Stop) [] words
SpellsOwnLine _ _ words = ⊥

-- why words behind a first word of such a form are refused
abbrev pub IsOwnCause : ScriptForm → List (List ℕ) → LineRefusal → Type 0
IsOwnCause form words (Fault bad) = bad_own form (script_word form) words ≡ Some bad
IsOwnCause form words OutOfMemory = Unit {0}

-- where this is known, the words spell the line of a schedule that it is
abbrev pub SpellsSharedAs : Known → Head → NodeLine → List (List ℕ) → Type 0
SpellsSharedAs known form (Submit command) words = (form_of (line.Submit command) ≡ form) × Spells known (line.Submit command) words
SpellsSharedAs known form (DropSession daemon session) words =
    (form_of (line.Node (step.DropSession daemon session)) ≡ form) × Spells known (line.Node (step.DropSession daemon session)) words
SpellsSharedAs known form (Gone links) words = ⊥
SpellsSharedAs known form Stop words = ⊥

-- why words are refused that begin with that of a form of a schedule's line, or of none that scripts have
abbrev pub IsSharedCause : Option NodeNames → List (List ℕ) → Option Head → LineRefusal → Type 0
IsSharedCause names words form (Fault bad) = bad_shared names words form ≡ Some bad
IsSharedCause names words form OutOfMemory = Unit {0}

-- the words begin with that of this form, which scripts share with schedules
abbrev pub BeginsShared : Head → List (List ℕ) → Type 0
BeginsShared form [] = ⊥
BeginsShared form (word ∷ words) = (word ≡ head_word form) × (shared_form_of word ≡ Some form)

-- whether a line of a schedule is one that scripts have too
abbrev pub is_shared : Line → Bool
is_shared (line.Submit command) = true
is_shared (line.Node (step.DropSession daemon session)) = true
is_shared _ = false
