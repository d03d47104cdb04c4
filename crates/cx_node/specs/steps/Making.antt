-- Rows as code makes them, against those of the rules: what a row sends is put to its link, and of that is kept what is held.
use Rattle.std.specs.Prelude.{◌≡◌, ℕ, List, [], ◌∷◌, ◌++◌, Option, Some, None, IfSome, Result, Ok, Err}
use Rattle.std.specs.Option.{option_map}
use Rattle.cx_base.specs.declared.nodes.NodeName.{NodeName}
use Rattle.cx_journal.specs.declared.entries.Entry.{Entry}
use Rattle.cx_journal.specs.declared.outcomes.Reason.TheVariants.{Bytes}
use Rattle.cx_link.specs.declared.refusals.LinkRefusal.{LinkRefusal}
use Rattle.cx_link.specs.declared.refusals.LinkRefusal.TheVariants as link
use Rattle.cx_node.specs.Made.{as_row, behind_opened, refusing}
use Rattle.cx_node.specs.declared.rows.Row.{Row as Made}
use Rattle.cx_node.specs.cx_rules.specs.Links.{Link}
use Rattle.cx_node.specs.cx_rules.specs.Rows.{Arrival, Row, refuses}
use Rattle.cx_steps.specs.declared.seals.SealEntry.{SealEntry}
use Rattle.cx_node.specs.declared.came.Came.{Came}
use Rattle.cx_node.specs.declared.came.Came.TheVariants as came
use Rattle.cx_node.specs.declared.steps_rows.NoRow.{NoRow}
use Rattle.cx_node.specs.declared.steps_rows.NoRow.TheVariants.{Refused, OutOfMemory}
use Rattle.cx_node.specs.declared.steps_rows.NodeRow.{NodeRow}

-- what a node has of its own, behind a change of it or none
abbrev pub own_behind : {Own Change : Type 0} → (Own → Change → Own) → Own → Option Change → Own
own_behind changed own (Some change) = changed own change
own_behind changed own None = own

-- why a link is given up is why there is no row
abbrev pub no_row : LinkRefusal → NoRow
no_row (link.Fault why) = Refused (Bytes why)
no_row link.OutOfMemory = OutOfMemory

module _ {L Change : Type 0} where
  -- a row that changes nothing of the node's own
  abbrev pub keeping : Made L → NodeRow L Change
  keeping row = record { row = row; change = None }

  -- a row behind what opened before it
  abbrev pub row_behind : List SealEntry → NodeRow L Change → NodeRow L Change
  row_behind opened made = record made { row = behind_opened opened made.row }

  -- a row behind what is entered first
  abbrev pub entering : Entry → NodeRow L Change → NodeRow L Change
  entering first made = record made { row = record made.row { entries = first ∷ made.row.entries } }

  -- the row that was made, or that of the refusal on the link of this number, behind what opened before it
  abbrev pub IsRowOf : NodeName → ℕ → List SealEntry → Result (NodeRow L Change) NoRow → NodeRow L Change → Type 0
  IsRowOf me number opened (Ok made) row = row ≡ row_behind opened made
  IsRowOf me number opened (Err (Refused why)) row = row ≡ row_behind opened (keeping (refusing me number why []))
  IsRowOf me number opened (Err OutOfMemory) row = ⊥

  -- a turn comes to that row
  abbrev pub IsHandled : NodeName → ℕ → List SealEntry → Result (NodeRow L Change) NoRow → Came L Change → Type 0
  IsHandled me number opened made (came.Handles row) = IsRowOf me number opened made row
  IsHandled me number opened made _ = ⊥

-- ---- as rows of the rules

module _ {Own Stage : Type 0} (abridged : Link Stage → Link Stage) where
  -- a row of the rules as it is to be made
  abbrev pub row_due : Row Own Stage → Row Own Stage
  row_due row = record row { link = option_map (λ link. abridged (record link { sent = link.sent ++ row.sends })) row.link }

  -- a row on the link of this number was made as it is due, with this of the node's own behind it
  pub record IsRow (number : ℕ) (own : Own) (due : Row Own Stage) (made : Made (Link Stage)) : Type 0 where
    pub row : as_row own made ≡ row_due due
    pub number_is : IfSome made.link (λ link. link.number ≡ number)

module _ {Own Stage Change : Type 0} (abridged : Link Stage → Link Stage) (changed : Own → Change → Own) where
  -- what was made at an arrival is the row that is due; or no row was, since the one that is due refuses the link, or memory was wanting
  abbrev pub Makes : Arrival Own Stage → Row Own Stage → Result (NodeRow (Link Stage) Change) NoRow → Type 0
  Makes a due (Ok made) = IsRow abridged a.link.number (own_behind changed a.own made.change) due made.row
  Makes a due (Err (Refused why)) = refuses a why [] ≡ row_due abridged due
  Makes a due (Err OutOfMemory) = Unit {0}
