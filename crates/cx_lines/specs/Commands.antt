-- Commands: lines by which a client or a daemon is told to do something.
use Rattle.std.specs.Prelude.{ℕ, nat_le, Bool, true, false, List, [], ◌∷◌, length, Option, if◌then◌else◌}
use Rattle.cx_base.specs.declared.kinds.EntityType.{EntityType}
use Rattle.cx_base.specs.declared.operations.Operation.{Operation}
use Rattle.cx_words.specs.declared.choices.CommandForm.{CommandForm}
use Rattle.cx_words.specs.declared.choices.CommandForm.TheVariants as form
use Rattle.cx_words.specs.declared.known.Known.{Known}
use Rattle.cx_words.specs.declared.places.WordPlace.{WordPlace}
use Rattle.cx_words.specs.declared.places.WordPlace.TheVariants as at
use Rattle.cx_words.specs.lines.Values.{Item, ClientOf, DaemonOf, ServicesOf, AccessOf, PartOf, DataOf, LossyWord}
use Rattle.cx_lines.specs.declared.commands.LineCommand.{LineCommand}
use Rattle.cx_lines.specs.declared.commands.LineCommand.TheVariants.{Fetch, Login, Renew, Connect, Send}
use Rattle.cx_lines.specs.Found.{Family, IsFound}

-- the form of a command
abbrev pub command_form : LineCommand → CommandForm
command_form (Fetch daemon) = form.Fetch
command_form (Login client services) = form.Login
command_form (Renew client services) = form.Renew
command_form (Connect client daemon lossy) = form.Connect
command_form (Send client daemon operation) = form.Send

-- the places of an operation
abbrev pub operation_places : List WordPlace
operation_places = at.Access ∷ at.Part ∷ at.Part ∷ at.Part ∷ at.Data ∷ []

-- the places behind the first word, where these words stand there: where a form has several lengths, the longer one if there
-- are more words than the shorter one takes
abbrev pub command_places : CommandForm → List (List ℕ) → List WordPlace
command_places form.Fetch words = at.Daemon ∷ []
command_places form.Login words = if nat_le (length words) 1 then at.Client ∷ [] else at.Client ∷ at.Services ∷ []
command_places form.Renew words = at.Client ∷ at.Services ∷ []
command_places form.Connect words =
    if nat_le (length words) 2 then at.Client ∷ at.Daemon ∷ [] else at.Client ∷ at.Daemon ∷ at.Lossy ∷ []
command_places form.Send words = at.Client ∷ at.Daemon ∷ operation_places

-- an operation: its access, pool, namespace and object, and its data
abbrev pub operation_items : Operation → List Item
operation_items operation =
    AccessOf operation.access ∷ PartOf operation.pool ∷ PartOf operation.namespace ∷ PartOf operation.object
    ∷ DataOf operation.bytes ∷ []

-- services, where some are asked for
abbrev pub asked_items : List EntityType → List Item
asked_items [] = []
asked_items (service ∷ services) = ServicesOf (service ∷ services) ∷ []

-- the word lossy, where a session is
abbrev pub lossy_items : Bool → List Item
lossy_items false = []
lossy_items true = LossyWord ∷ []

-- what stands behind the first word
abbrev pub command_items : LineCommand → List Item
command_items (Fetch daemon) = DaemonOf daemon ∷ []
command_items (Login client services) = ClientOf client ∷ asked_items services
command_items (Renew client services) = ClientOf client ∷ ServicesOf services ∷ []
command_items (Connect client daemon lossy) = ClientOf client ∷ DaemonOf daemon ∷ lossy_items lossy
command_items (Send client daemon operation) = ClientOf client ∷ DaemonOf daemon ∷ operation_items operation

-- commands as a family
abbrev pub commands : Family CommandForm LineCommand
commands = record { places = command_places; form = command_form; items = command_items }

abbrev pub IsCommand : Known → List (List ℕ) → CommandForm → List (List ℕ) → Option LineCommand → Type 0
IsCommand known before form words found = IsFound commands known before form words found
