-- How the program ended, whichever command it ran.
use Rattle.std.specs.Prelude.{ℕ, Bool, true, false, List, [], if◌then◌else◌, string_bytes}
use Rattle.cx_loading.specs.Ends as node
use Rattle.cx_loading.specs.declared.ends.NodeEnd.{NodeEnd}
use Rattle.cx_loading.specs.declared.ends.NodeEnd.TheVariants as end
use Rattle.cx_help.specs.node.Sentences.{end_text}
use Rattle.cx_help.specs.node.Told.{ring_end_told}
use Rattle.cx_top.specs.Statuses as text
use Rattle.cx_top.specs.Told.{line_told, or_told, status_told}
use Rattle.cx_commands.specs.declared.ends.CommandEnd.{CommandEnd}
use Rattle.cx_commands.specs.declared.ends.CommandStatus.{CommandStatus}
use Rattle.cx_commands.specs.declared.ends.CommandStatus.TheVariants.{Text, Node}

-- the number with which it ends
abbrev pub number_of : CommandStatus → ℕ
number_of (Text status) = text.number_of status
number_of (Node end) = node.number_of end

abbrev pub is_node_done : NodeEnd → Bool
is_node_done end.Done = true
is_node_done end.Links = false
is_node_done end.Dice = false
is_node_done end.Keeper = false
is_node_done end.OutOfMemory = false
is_node_done (end.Unloaded why) = false

-- the sentence of a status, where it says all
abbrev pub sentence_of : CommandStatus → List ℕ
sentence_of (Text status) = status_told status
sentence_of (Node end) = if is_node_done end then [] else line_told (end_text end)

-- what is said of the keyring that a node loaded
abbrev pub ring_told : List ℕ → CommandStatus → List ℕ
ring_told bytes (Text status) = []
ring_told bytes (Node end) = ring_end_told bytes end

-- what is printed of an end: what is told, or else the sentence of its status
abbrev pub printed : CommandEnd → List ℕ
printed ended = or_told (string_bytes ended.told) (sentence_of ended.status)
