-- A step of a node as the rules have it: its machine holds its links abridged.
use Rattle.std.specs.Prelude.{◌≡◌, ℕ, List, Option, Some, None, map}
use Rattle.cx_node.specs.Made.{as_row}
use Rattle.cx_node.specs.cx_rules.specs.Abridged.{abridged_node}
use Rattle.cx_node.specs.cx_rules.specs.Links.{Link}
use Rattle.cx_node.specs.cx_rules.specs.Rows.{Handles, Node, Outcome, Refuses, Turned, Waits, forgotten}
use Rattle.cx_steps.specs.declared.effects.Effects.{Effects}
use Rattle.cx_node.specs.steps.Making.{own_behind, row_due}
use Rattle.cx_node.specs.steps.Stages.{AreRising, with_more}
use Rattle.cx_node.specs.steps.Turns.{HasNumber}
use Rattle.cx_node.specs.declared.came.Came.{Came}
use Rattle.cx_node.specs.declared.came.Came.TheVariants as came

-- how a machine holds its links: of none of them more can be forgotten, and they stand in the order of their numbers
pub record AreHeld {Stage : Type 0} (abridged : Link Stage → Link Stage) (links : List (Link Stage)) : Type 0 where
  pub whole : map abridged links ≡ links
  pub rising : AreRising 0 links

module _ {Own Stage : Type 0} where
  abbrev pub node_of : Own → List (Link Stage) → Node Own Stage
  node_of own links = record { own = own; links = links }

  -- where memory is wanting, the event's link is forgotten
  abbrev pub without_lost : Option ℕ → Node Own Stage → Node Own Stage
  without_lost None node = node
  without_lost (Some number) node = forgotten node number

-- what a step gave, and the machine behind it, are those of the rules, abridged
pub record IsStep {Own Stage : Type 0} (abridged : Link Stage → Link Stage) (node : Node Own Stage) (due : Outcome (Node Own Stage)) (given : Effects) : Type 0 where
  pub out : given ≡ due.out
  pub state : node ≡ abridged_node abridged due.state

-- ---- bytes come

-- a link behind more bytes, of which no more can be forgotten
abbrev pub IsFed : {Stage : Type 0} → (Link Stage → Link Stage) → Link Stage → List ℕ → Link Stage → Type 0
IsFed abridged link bytes fed = (fed ≡ with_more bytes link) × (abridged fed ≡ fed)

-- ---- a turn

module _ {Own Stage : Type 0} (abridged : Link Stage → Link Stage) where
  -- a turn of the rules as it is to be made
  abbrev pub turn_due : Turned Own Stage → Turned Own Stage
  turn_due Waits = Waits
  turn_due (Refuses why opened) = Refuses why opened
  turn_due (Handles row) = Handles (row_due abridged row)

module _ {Own Stage Change : Type 0} (changed : Own → Change → Own) (own : Own) where
  -- what a turn came to, as a turn of the rules
  abbrev pub turn_made : Came (Link Stage) Change → Turned Own Stage
  turn_made (came.Waits link) = Waits
  turn_made (came.Refuses why opened) = Refuses why opened
  turn_made (came.Handles made) = Handles (as_row (own_behind changed own made.change) made.row)

-- where a turn waits, the link is as it was
abbrev pub Stays : {Stage Change : Type 0} → Link Stage → Came (Link Stage) Change → Type 0
Stays link (came.Waits new) = new ≡ link
Stays link _ = Unit {0}

-- a turn of this link came to what the rules have it come to, on the link of the same number
pub record IsTurn {Own Stage Change : Type 0} (abridged : Link Stage → Link Stage) (changed : Own → Change → Own) (own : Own) (link : Link Stage)
    (due : Turned Own Stage) (come : Came (Link Stage) Change) : Type 0 where
  pub made : turn_made changed own come ≡ turn_due abridged due
  pub stays : Stays link come
  pub number_is : HasNumber (λ (l : Link Stage). l.number) link.number come
