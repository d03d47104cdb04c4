-- What is wrong with a word at its place.
use Rattle.std.specs.Prelude.{ℕ, Bool, true, false, not, ◌&&◌, ◌==◌, List, [], ◌∷◌, ◌++◌, length, codes, Option, Some, None, is_none, is_some, if◌then◌else◌}
use Rattle.std.specs.List.{list_any}
use Rattle.std.specs.Option.{option_map}
use Rattle.std.specs.Str.{bytes_eq}
use Rattle.cx_words.specs.Words.{number_of, reading_of, name_of, service_of, services_of, access_of, part_of, hex_of, caps_of}
use Rattle.cx_words.specs.declared.faults.LineFault.{LineFault}
use Rattle.cx_words.specs.declared.faults.LineFault.TheVariants.{BadNumber, BadName, BadText, UnknownNode, Repeated}
use Rattle.cx_words.specs.declared.known.Known.{Known}
use Rattle.cx_base.specs.declared.nodes.NodeName.{NodeName}
use Rattle.cx_base.specs.declared.nodes.NodeName.TheVariants.{Monitor, Entity}
use Rattle.cx_words.specs.declared.places.WordPlace.{WordPlace}
use Rattle.cx_words.specs.declared.places.WordPlace.TheVariants as at
use Rattle.cx_words.specs.lines.Choices.{command_form_of, modes_of, side_of, state_of}
use Rattle.cx_words.specs.lines.Known.{is_client, is_daemon, is_declarable, is_node, is_seeded}
use Rattle.cx_words.specs.lines.Named.{is_among}
use Rattle.cx_words.specs.lines.Values.{is_life, is_fit}

-- the node that a word names
abbrev pub node_of : List ℕ → Option NodeName
node_of word = if bytes_eq word (codes "mon") then Some Monitor else option_map Entity (name_of word)

-- whether a word has a value, and a test holds of it
abbrev pub passes : {X : Type 0} → (X → Bool) → Option X → Bool
passes test None = false
passes test (Some x) = test x

-- a fault, unless this holds
abbrev pub unless : Bool → LineFault → Option LineFault
unless true why = None
unless false why = Some why

-- a name that isn't known here, or stands a second time
abbrev pub known_fault : Bool → Bool → Option LineFault
known_fault true again = unless (not again) Repeated
known_fault false again = Some UnknownNode

-- a word that names nothing, or what it names isn't known here, or stands a second time
abbrev pub name_fault : {X : Type 0} → (X → Bool) → (X → Bool) → Option X → Option LineFault
name_fault known again None = Some BadName
name_fault known again (Some name) = known_fault (known name) (again name)

-- nothing stands a second time where any may stand
abbrev pub never : {X : Type 0} → X → Bool
never x = false

-- a word that is no service, or one that stands in this line already
abbrev pub service_fault : Bool → Bool → Option LineFault
service_fault true again = unless (not again) Repeated
service_fault false again = Some BadText

-- what is wrong with a word at its place, where this is known of the lines above, behind the words before it in its line
abbrev pub word_fault : Known → List (List ℕ) → WordPlace → List ℕ → Option LineFault
word_fault known before at.Life word = unless (passes is_life (number_of word)) BadNumber
word_fault known before at.Reading word = unless (is_some (reading_of word)) BadNumber
word_fault known before at.Number word = unless (is_some (number_of word)) BadNumber
word_fault known before at.Entity word = name_fault is_declarable (is_among known.declared) (name_of word)
word_fault known before at.Service word = service_fault (is_some (service_of word)) (list_any (bytes_eq word) before)
word_fault known before at.Caps word = unless (is_some (caps_of word)) BadText
word_fault known before at.Client word = name_fault (is_client known) never (name_of word)
word_fault known before at.Unmoded word = name_fault (is_client known) (is_among known.moded) (name_of word)
word_fault known before at.Unleaked word = name_fault (is_client known) (is_among known.leaked) (name_of word)
word_fault known before at.Daemon word = name_fault (is_daemon known) never (name_of word)
word_fault known before at.Node word = name_fault (is_node known) never (node_of word)
word_fault known before at.Unseeded word = name_fault (is_node known) (is_seeded known) (node_of word)
word_fault known before at.Services word = unless (is_some (services_of word)) BadText
word_fault known before at.Access word = unless (is_some (access_of word)) BadText
word_fault known before at.Part word = unless (is_some (part_of word)) BadText
word_fault known before at.Data word = unless (passes is_fit (hex_of word)) BadText
word_fault known before at.Bytes word = unless (is_some (hex_of word)) BadText
word_fault known before at.Modes word = unless (is_some (modes_of word)) BadText
word_fault known before at.Side word = unless (is_some (side_of word)) BadText
word_fault known before at.Lossy word = unless (bytes_eq word (codes "lossy")) BadText
word_fault known before at.LeftState word = unless (is_some (state_of word)) BadText
word_fault known before at.Command word = unless (is_some (command_form_of word)) BadText
word_fault known before at.Anything word = None

-- whether a word has none
abbrev pub is_good : Known → List (List ℕ) → WordPlace → List ℕ → Bool
is_good known before place word = is_none (word_fault known before place word)

-- whether there is a good word at each of these places
abbrev pub are_good : Known → List (List ℕ) → List WordPlace → List (List ℕ) → Bool
are_good known before [] [] = true
are_good known before [] (word ∷ words) = false
are_good known before (place ∷ places) [] = false
are_good known before (place ∷ places) (word ∷ words) =
    is_good known before place word && are_good known (before ++ word ∷ []) places words

-- whether there are as many words as places, each good at its place
abbrev pub is_whole : Known → List (List ℕ) → List WordPlace → List (List ℕ) → Bool
is_whole known before places words = (length places == length words) && are_good known before places words
