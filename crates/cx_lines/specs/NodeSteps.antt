-- Lines on clocks, nodes and saves.
use Rattle.std.specs.Prelude.{ℕ, nat_le, List, [], ◌∷◌, length, Option, codes, if◌then◌else◌}
use Rattle.cx_words.specs.declared.known.Known.{Known}
use Rattle.cx_words.specs.declared.places.WordPlace.{WordPlace}
use Rattle.cx_words.specs.declared.places.WordPlace.TheVariants as at
use Rattle.cx_words.specs.lines.Choices.{chosen}
use Rattle.cx_words.specs.lines.Values.{Item, ReadingOf, NumberOf, DaemonOf, NodeOf, StateOf}
use Rattle.cx_lines.specs.declared.node_steps.NodeStep.{NodeStep}
use Rattle.cx_lines.specs.declared.node_steps.NodeStep.TheVariants.{Clock, ClockOf, DropSession, Tick, Restart, FailSave, Settle}
use Rattle.cx_lines.specs.declared.node_steps.NodeForm.{NodeForm}
use Rattle.cx_lines.specs.declared.node_steps.NodeForm.TheVariants as form
use Rattle.cx_lines.specs.Found.{Family, IsFound}

-- the word that a line of each form begins with
abbrev pub node_step_word : NodeForm → List ℕ
node_step_word form.Clock = codes "clock"
node_step_word form.DropSession = codes "drop"
node_step_word form.Tick = codes "tick"
node_step_word form.Restart = codes "restart"
node_step_word form.FailSave = codes "failsave"
node_step_word form.Settle = codes "settle"

-- the form that a first word begins, if it begins one
unfoldable pub node_form_of : List ℕ → Option NodeForm
node_form_of word =
    chosen node_step_word (form.Clock ∷ form.DropSession ∷ form.Tick ∷ form.Restart ∷ form.FailSave ∷ form.Settle ∷ []) word

-- the form of a line
abbrev pub node_form : NodeStep → NodeForm
node_form (Clock reading) = form.Clock
node_form (ClockOf node reading) = form.Clock
node_form (DropSession daemon session) = form.DropSession
node_form (Tick node) = form.Tick
node_form (Restart node) = form.Restart
node_form (FailSave state) = form.FailSave
node_form Settle = form.Settle

-- the places behind the first word, where these words stand there
abbrev pub node_places : NodeForm → List (List ℕ) → List WordPlace
node_places form.Clock words = if nat_le (length words) 1 then at.Reading ∷ [] else at.Node ∷ at.Reading ∷ []
node_places form.DropSession words = at.Daemon ∷ at.Number ∷ []
node_places form.Tick words = at.Node ∷ []
node_places form.Restart words = at.Node ∷ []
node_places form.FailSave words = at.LeftState ∷ []
node_places form.Settle words = []

-- what stands behind the first word
abbrev pub node_items : NodeStep → List Item
node_items (Clock reading) = ReadingOf reading ∷ []
node_items (ClockOf node reading) = NodeOf node ∷ ReadingOf reading ∷ []
node_items (DropSession daemon session) = DaemonOf daemon ∷ NumberOf session ∷ []
node_items (Tick node) = NodeOf node ∷ []
node_items (Restart node) = NodeOf node ∷ []
node_items (FailSave state) = StateOf state ∷ []
node_items Settle = []

-- such lines as a family
abbrev pub node_steps : Family NodeForm NodeStep
node_steps = record { places = node_places; form = node_form; items = node_items }

abbrev pub IsNodeStep : Known → NodeForm → List (List ℕ) → Option NodeStep → Type 0
IsNodeStep known form words found = IsFound node_steps known [] form words found
