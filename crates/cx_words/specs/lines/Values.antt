-- The values at the places of a line, and how a word spells one. The values and their bounds are those of docs/guide.md, "The
-- lines of a schedule".
use Rattle.std.specs.Prelude.{ℕ, ◌<◌, ◌^◌, ◌≡◌, Bool, false, ◌&&◌, IsTrue, nat_le, List, [], ◌∷◌, ◌++◌, length, codes}
use Rattle.std.specs.List.{list_any}
use Rattle.std.specs.Str.{bytes_eq}
use Rattle.std.specs.Fmt.{decimal}
use Rattle.cx_base.specs.declared.kinds.Access.{Access}
use Rattle.cx_base.specs.declared.kinds.EntityType.{EntityType}
use Rattle.cx_base.specs.Nodes.{node_text}
use Rattle.cx_base.specs.Names.{Name, name_text, type_word, access_word}
use Rattle.cx_base.specs.Texts.{is_caps, is_part}
use Rattle.cx_words.specs.Words.{IsReadingWord, IsHexWord, is_service, is_service_list, services_word, part_word, quoted}
use Rattle.cx_words.specs.declared.choices.Side.{Side}
use Rattle.cx_words.specs.declared.choices.Modes.{Modes}
use Rattle.cx_words.specs.declared.choices.LeftState.{LeftState}
use Rattle.cx_words.specs.declared.choices.CommandForm.{CommandForm}
use Rattle.cx_words.specs.declared.known.Known.{Known}
use Rattle.cx_base.specs.declared.nodes.NodeName.{NodeName}
use Rattle.cx_base.specs.declared.nodes.NodeName.TheVariants as node
use Rattle.cx_words.specs.lines.Choices.{command_word, modes_word, side_word, state_word}
use Rattle.cx_words.specs.lines.Known.{is_client, is_daemon, is_declarable, is_node, is_seeded}
use Rattle.cx_words.specs.lines.Named.{is_among, is_name}

-- seconds of a lifetime: at least one, at most those of a year of 365 days
abbrev pub is_life : ℕ → Bool
is_life seconds = nat_le 1 seconds && nat_le seconds 31536000

-- data that a send line may hold: at most 65,536 bytes
abbrev pub is_fit : List ℕ → Bool
is_fit bytes = nat_le (length bytes) 65536

-- a node whose name can be written
abbrev pub IsWritable : NodeName → Type 0
IsWritable node.Monitor = Unit {0}
IsWritable (node.Entity name) = IsTrue (is_name name)

-- a value at its place: seconds of a lifetime, a reading, a number, the name that an entity line declares, a service and its
-- caps, a client, one whose modes aren't given, one that isn't leaked, a daemon, a node, one without a seed, a list of
-- services, an access, a part of an object's address, data, bytes, modes, a side, the word lossy, the state that a failed
-- save leaves, the first word of a command
pub data Item : Type 0 where
  LifeOf : ℕ → Item
  ReadingOf : ℕ → Item
  NumberOf : ℕ → Item
  EntityOf : Name → Item
  ServiceOf : EntityType → Item
  CapsOf : List ℕ → Item
  ClientOf : Name → Item
  UnmodedOf : Name → Item
  UnleakedOf : Name → Item
  DaemonOf : Name → Item
  NodeOf : NodeName → Item
  UnseededOf : NodeName → Item
  ServicesOf : List EntityType → Item
  AccessOf : Access → Item
  PartOf : List ℕ → Item
  DataOf : List ℕ → Item
  BytesOf : List ℕ → Item
  ModesOf : Modes → Item
  SideOf : Side → Item
  LossyWord : Item
  StateOf : LeftState → Item
  CommandOf : CommandForm → Item

-- the word spells the value, where this is known of the lines above, behind the words before it in its line
abbrev pub SpellsItem : Known → List (List ℕ) → Item → List ℕ → Type 0
SpellsItem known before (LifeOf seconds) word = IsTrue (is_life seconds) × (word ≡ decimal seconds)
SpellsItem known before (ReadingOf reading) word = IsReadingWord word reading
SpellsItem known before (NumberOf n) word = (n < 2 ^ 64) × (word ≡ decimal n)
SpellsItem known before (EntityOf name) word =
    IsTrue (is_name name) × IsTrue (is_declarable name) × (is_among known.declared name ≡ false) × (word ≡ name_text name)
SpellsItem known before (ServiceOf kind) word =
    IsTrue (is_service kind) × (list_any (bytes_eq word) before ≡ false) × (word ≡ type_word kind)
SpellsItem known before (CapsOf caps) word = IsTrue (is_caps caps) × (word ≡ quoted caps)
SpellsItem known before (ClientOf name) word =
    IsTrue (is_name name) × IsTrue (is_client known name) × (word ≡ name_text name)
SpellsItem known before (UnmodedOf name) word =
    IsTrue (is_name name) × IsTrue (is_client known name) × (is_among known.moded name ≡ false) × (word ≡ name_text name)
SpellsItem known before (UnleakedOf name) word =
    IsTrue (is_name name) × IsTrue (is_client known name) × (is_among known.leaked name ≡ false) × (word ≡ name_text name)
SpellsItem known before (DaemonOf name) word =
    IsTrue (is_name name) × IsTrue (is_daemon known name) × (word ≡ name_text name)
SpellsItem known before (NodeOf node) word = IsWritable node × IsTrue (is_node known node) × (word ≡ node_text node)
SpellsItem known before (UnseededOf node) word =
    IsWritable node × IsTrue (is_node known node) × (is_seeded known node ≡ false) × (word ≡ node_text node)
SpellsItem known before (ServicesOf kinds) word = IsTrue (is_service_list kinds) × (word ≡ services_word kinds)
SpellsItem known before (AccessOf access) word = word ≡ access_word access
SpellsItem known before (PartOf part) word = IsTrue (is_part part) × (word ≡ part_word part)
SpellsItem known before (DataOf bytes) word = IsTrue (is_fit bytes) × IsHexWord word bytes
SpellsItem known before (BytesOf bytes) word = IsHexWord word bytes
SpellsItem known before (ModesOf modes) word = word ≡ modes_word modes
SpellsItem known before (SideOf side) word = word ≡ side_word side
SpellsItem known before LossyWord word = word ≡ codes "lossy"
SpellsItem known before (StateOf state) word = word ≡ state_word state
SpellsItem known before (CommandOf form) word = word ≡ command_word form

-- the words spell the values one by one
abbrev pub SpellsItems : Known → List (List ℕ) → List Item → List (List ℕ) → Type 0
SpellsItems known before [] [] = Unit {0}
SpellsItems known before [] (word ∷ words) = ⊥
SpellsItems known before (item ∷ items) [] = ⊥
SpellsItems known before (item ∷ items) (word ∷ words) =
    SpellsItem known before item word × SpellsItems known (before ++ word ∷ []) items words
