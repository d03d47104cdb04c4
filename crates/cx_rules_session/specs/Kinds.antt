-- Links of several kinds at one node: a row of one kind reads and changes a part of what the node has of its own, and a stage of its own kind.
-- And what is entered before a row.
use Rattle.std.specs.Prelude.{◌∷◌}
use Rattle.std.specs.Option.{option_map}
use Rattle.cx_authorize.specs.cx_journal.specs.declared.entries.Entry.{Entry}
use Rattle.cx_rules.specs.Links.{Link}
use Rattle.cx_rules.specs.Rows.{Arrival, Row, Turned, Waits, Refuses, Handles, arrival}

-- a link as one of its kind, in this stage
abbrev pub in_stage : {S T : Type 0} → Link T → S → Link S
in_stage link stage = record { number = link.number; received = link.received; taken = link.taken; sent = link.sent; stage = stage }

-- a link of a kind as one of the node
abbrev pub of_kind : {S T : Type 0} → (S → T) → Link S → Link T
of_kind kind link = in_stage link (kind link.stage)

-- what a row of a kind goes by
abbrev pub arrival_in : {Own Part S T : Type 0} → Arrival Own T → Part → S → Arrival Part S
arrival_in a part stage = arrival a.me part (in_stage a.link stage) a.reading a.draw

module _ {Part Own S T : Type 0} (whole : Part → Own) (kind : S → T) where
  -- a row of a kind as one of the node, of which the part is put in its place
  abbrev pub row_of_kind : Row Part S → Row Own T
  row_of_kind row = record {
    own = whole row.own;
    link = option_map (of_kind kind) row.link;
    sends = row.sends;
    save = row.save;
    entries = row.entries;
    seals = row.seals;
  }

  abbrev pub turn_of_kind : Turned Part S → Turned Own T
  turn_of_kind Waits = Waits
  turn_of_kind (Refuses why opened) = Refuses why opened
  turn_of_kind (Handles row) = Handles (row_of_kind row)

-- a row behind what is entered first, which stands whether or not the row can send
abbrev pub entered_before : {Own Stage : Type 0} → Entry → Row Own Stage → Row Own Stage
entered_before first row = record row { entries = first ∷ row.entries }
