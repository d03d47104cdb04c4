-- Rows over any type of links, and what a step gives by them. Where a link is the rules' record of it, they are the rules' rows.
use Rattle.std.specs.Prelude.{ℕ, List, [], ◌∷◌, ◌++◌, Bool, Some, None}
use Rattle.cx_frame.specs.Frames.{frame_text}
use Rattle.cx_journal.specs.declared.faults.BytesFault.{BytesFault}
use Rattle.cx_journal.specs.declared.faults.LoginFault.{LoginFault}
use Rattle.cx_base.specs.declared.nodes.NodeName.{NodeName}
use Rattle.cx_journal.specs.declared.outcomes.Reason.{Reason}
use Rattle.cx_journal.specs.declared.outcomes.Reason.TheVariants.{Bytes, Login}
use Rattle.cx_steps.specs.declared.effects.Effects.{Effects}
use Rattle.cx_steps.specs.declared.seals.SealEntry.{SealEntry}
use Rattle.cx_rules.specs.Acceptor.{bad_method}
use Rattle.cx_rules.specs.Links.{Link}
use Rattle.cx_rules.specs.Rows.{piece, refused_entry, shuts}
use Rattle.cx_rules.specs.Rows as rules
use Rattle.cx_node.specs.declared.rows.Row.{Row}

-- a row as one of the rules, with what the node has of its own behind it
abbrev pub as_row : {Own Stage : Type 0} → Own → Row (Link Stage) → rules.Row Own Stage
as_row own row = record { own = own; link = row.link; sends = row.sends; save = row.save; entries = row.entries; seals = row.seals }

module _ {L : Type 0} where
  -- the link goes on, and these bytes are sent on it
  abbrev pub going_on : L → List ℕ → List SealEntry → Row L
  going_on link bytes seals = record { link = Some link; sends = bytes; save = None; entries = []; seals = seals }

  -- the link is shut, and why is entered
  abbrev pub refusing : NodeName → ℕ → Reason → List SealEntry → Row L
  refusing me number why seals = record { link = None; sends = []; save = None; entries = refused_entry me number why ∷ []; seals = seals }

  abbrev pub refusing_bytes : NodeName → ℕ → BytesFault → List SealEntry → Row L
  refusing_bytes me number why seals = refusing me number (Bytes why) seals

  -- AUTH_BAD_METHOD is sent with a code besides
  abbrev pub denying_for : NodeName → ℕ → ℕ → Reason → List SealEntry → Row L
  denying_for me number code why seals = record (refusing me number why seals) { sends = frame_text (bad_method code) }

  -- the same for what is wrong with a login
  abbrev pub denying : NodeName → ℕ → ℕ → LoginFault → List SealEntry → Row L
  denying me number code why seals = denying_for me number code (Login why) seals

  -- a row behind what opened before it
  abbrev pub behind_opened : List SealEntry → Row L → Row L
  behind_opened opened row = record row { seals = opened ++ row.seals }

  -- what a step gives that carries the row out on the link of this number; `turned`: a banner or a frame was handled
  abbrev pub out_of : ℕ → Bool → Row L → Effects
  out_of number turned row = record {
    opens = [];
    save = row.save;
    sends = piece number row.sends;
    shuts = shuts number row.link;
    entries = row.entries;
    seals = row.seals;
    turned = turned;
    lost = None;
  }
