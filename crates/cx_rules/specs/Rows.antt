-- What a node is, what a step of it gives, and what one row of the rules says of the link on which something came.
use Rattle.std.specs.Prelude.{ℕ, List, [], ◌∷◌, ◌++◌, Bool, true, false, Option, Some, None, Result, Ok, Err}
use Rattle.cx_stream.specs.cx_frame.specs.declared.frame.Frame.{Frame}
use Rattle.cx_login.specs.cx_journal.specs.declared.entries.Entry.{Entry}
use Rattle.cx_login.specs.cx_journal.specs.declared.entries.Entry.TheVariants as entry
use Rattle.cx_login.specs.cx_journal.specs.declared.faults.BytesFault.{BytesFault}
use Rattle.cx_base.specs.declared.nodes.NodeName.{NodeName}
use Rattle.cx_login.specs.cx_journal.specs.declared.outcomes.Reason.{Reason}
use Rattle.cx_login.specs.cx_journal.specs.declared.outcomes.Reason.TheVariants.{Bytes, NoLink}
use Rattle.cx_rotate.specs.declared.states.KeptState.{KeptState}
use Rattle.cx_login.specs.cx_steps.specs.Nothing.{nothing}
use Rattle.cx_login.specs.cx_steps.specs.declared.effects.Effects.{Effects}
use Rattle.cx_login.specs.cx_steps.specs.declared.effects.Piece.{Piece}
use Rattle.cx_login.specs.cx_steps.specs.declared.seals.SealEntry.{SealEntry}
use Rattle.cx_rules.specs.Fronts.{Front, NotYet, Broken, Next}
use Rattle.cx_rules.specs.Links.{Link, put_link, without_link}
use Rattle.cx_rules.specs.Secured.{SealedFrame, Secured, plain_frame, secure_frame}

-- a node: what it has of its own, and its live links in the order of their numbers
pub record Node (Own Stage : Type 0) : Type 0 where
  pub own : Own
  pub links : List (Link Stage)

-- what a step of a node gives: its state behind the step, and the effects
pub record Outcome (State : Type 0) : Type 0 where
  pub state : State
  pub out : Effects

-- what a row goes by: the node's name and what it has of its own, the link on which something came, and the reading and the draw of the event
pub record Arrival (Own Stage : Type 0) : Type 0 where
  pub me : NodeName
  pub own : Own
  pub link : Link Stage
  pub reading : ℕ
  pub draw : List ℕ

abbrev pub arrival : {Own Stage : Type 0} → NodeName → Own → Link Stage → ℕ → List ℕ → Arrival Own Stage
arrival me own link reading draw = record { me = me; own = own; link = link; reading = reading; draw = draw }

-- the same behind what was taken of its link
abbrev pub at : {Own Stage : Type 0} → Arrival Own Stage → Link Stage → Arrival Own Stage
at a link = record a { link = link }

-- that a node refused something, on a link or, at 0, on none
abbrev pub refused_entry : NodeName → ℕ → Reason → Entry
refused_entry me link why = entry.Refused (record { node = me; link = link; reason = why })

-- what a row says: what the node has of its own behind it; the link as it goes on, or none where it is shut; the bytes that are sent on it;
-- the state that is saved; and what is entered in the journal and the log
pub record Row (Own Stage : Type 0) : Type 0 where
  pub own : Own
  pub link : Option (Link Stage)
  pub sends : List ℕ
  pub save : Option KeptState
  pub entries : List Entry
  pub seals : List SealEntry

module _ {Own Stage : Type 0} where
  -- the link goes on in a stage, and these bytes are sent on it
  abbrev pub goes_on : Arrival Own Stage → Stage → List ℕ → List SealEntry → Row Own Stage
  goes_on a stage bytes seals = record {
    own = a.own;
    link = Some (record a.link { stage = stage });
    sends = bytes;
    save = None;
    entries = [];
    seals = seals;
  }

  -- the link is shut, and why is entered
  abbrev pub refuses : Arrival Own Stage → Reason → List SealEntry → Row Own Stage
  refuses a why seals = record {
    own = a.own;
    link = None;
    sends = [];
    save = None;
    entries = refused_entry a.me a.link.number why ∷ [];
    seals = seals;
  }

  -- the same for what came on the link
  abbrev pub refuses_bytes : Arrival Own Stage → BytesFault → List SealEntry → Row Own Stage
  refuses_bytes a why seals = refuses a (Bytes why) seals

  -- what was read or made is gone on with; where that can't be, the link is refused, and these are logged
  abbrev pub unless_refused : {X : Type 0} → Arrival Own Stage → List SealEntry → Result X BytesFault → (X → Row Own Stage) → Row Own Stage
  unless_refused a seals (Ok x) next = next x
  unless_refused a seals (Err why) next = refuses_bytes a why seals

  -- a plain frame is sent, and the link goes on in a stage
  abbrev pub plain_sent : Arrival Own Stage → Stage → List SealEntry → Result (List ℕ) BytesFault → Row Own Stage
  plain_sent a stage seals made = unless_refused a seals made (λ bytes. goes_on a stage bytes seals)

  abbrev pub sends_plain : Arrival Own Stage → Stage → List SealEntry → Frame → Row Own Stage
  sends_plain a stage seals f = plain_sent a stage seals (plain_frame f)

  -- a secure frame is sent, and the link goes on in a stage, with the keys behind it
  abbrev pub secure_sent : Arrival Own Stage → Secured → (Secured → Stage) → List SealEntry → Result SealedFrame BytesFault → Row Own Stage
  secure_sent a s stage seals made =
      unless_refused a seals made (λ sealed. goes_on a (stage (record s { keys = sealed.keys })) sealed.bytes (seals ++ sealed.seals))

  abbrev pub sends_secure : Arrival Own Stage → Secured → (Secured → Stage) → List SealEntry → Frame → Row Own Stage
  sends_secure a s stage seals f = secure_sent a s stage seals (secure_frame s.keys f)

  -- a row behind what opened before it
  abbrev pub with_opened : List SealEntry → Row Own Stage → Row Own Stage
  with_opened opened row = record row { seals = opened ++ row.seals }

-- the links behind a row: the one that it is about goes on, or is shut
abbrev pub links_behind : {Stage : Type 0} → List (Link Stage) → ℕ → List ℕ → Option (Link Stage) → List (Link Stage)
links_behind links number bytes (Some link) = put_link (record link { sent = link.sent ++ bytes }) links
links_behind links number bytes None = without_link number links

abbrev pub shuts : {X : Type 0} → ℕ → Option X → List ℕ
shuts number (Some x) = []
shuts number None = number ∷ []

-- what is sent on a link, in one piece
abbrev pub piece : ℕ → List ℕ → List Piece
piece number [] = []
piece number (b ∷ bytes) = record { link = number; bytes = b ∷ bytes } ∷ []

module _ {Own Stage : Type 0} where
  -- nothing happens
  abbrev pub idles : Node Own Stage → Outcome (Node Own Stage)
  idles node = record { state = node; out = nothing }

  -- a row is carried out on the link of this number; `turned`: a banner or a frame was handled
  abbrev pub carried_out : Node Own Stage → ℕ → Bool → Row Own Stage → Outcome (Node Own Stage)
  carried_out node number turned row = record {
    state = record { own = row.own; links = links_behind node.links number row.sends row.link };
    out = record {
      opens = [];
      save = row.save;
      sends = piece number row.sends;
      shuts = shuts number row.link;
      entries = row.entries;
      seals = row.seals;
      turned = turned;
      lost = None;
    };
  }

-- ---- bytes, turns, links that open and go

-- a link of this number, on which nothing came or was sent yet
abbrev pub new_link : {Stage : Type 0} → ℕ → Stage → Link Stage
new_link number stage = record { number = number; received = []; taken = 0; sent = []; stage = stage }

module _ {Own Stage : Type 0} where
  -- bytes come on a link, if it lives
  abbrev pub fed : Node Own Stage → List ℕ → Option (Link Stage) → Outcome (Node Own Stage)
  fed node bytes None = idles node
  fed node bytes (Some link) =
      record { state = record node { links = put_link (record link { received = link.received ++ bytes }) node.links }; out = nothing }

  -- a link is gone
  abbrev pub forgotten : Node Own Stage → ℕ → Node Own Stage
  forgotten node number = record node { links = without_link number node.links }

module _ {Own Stage : Type 0} where
  -- a link could not be opened
  abbrev pub opens_none : Node Own Stage → NodeName → Outcome (Node Own Stage)
  opens_none node me = record { state = node; out = record nothing { entries = refused_entry me 0 NoLink ∷ [] } }

-- what a turn comes to: nothing where not all of a banner or frame is there; a refusal, which handles nothing; or a row
pub data Turned (Own Stage : Type 0) : Type 0 where
  Waits : Turned Own Stage
  Refuses : BytesFault → List SealEntry → Turned Own Stage
  Handles : Row Own Stage → Turned Own Stage

module _ {Own Stage : Type 0} where
  -- what stands next on the link is handled by a row, behind what opened of it
  abbrev pub turned_by : {X : Type 0} → (X → List SealEntry → Row Own Stage) → Front X → Turned Own Stage
  turned_by row NotYet = Waits
  turned_by row (Broken why opened) = Refuses why opened
  turned_by row (Next x opened) = Handles (row x opened)

  -- a turn of a link
  abbrev pub turns : Node Own Stage → Arrival Own Stage → Turned Own Stage → Outcome (Node Own Stage)
  turns node a Waits = idles node
  turns node a (Refuses why opened) = carried_out node a.link.number false (refuses_bytes a why opened)
  turns node a (Handles row) = carried_out node a.link.number true row

-- ---- rows of a part of what a node has of its own

module _ {Part Own Stage : Type 0} where
  -- the row as one of the node, of which the part is put in its place
  abbrev pub lifted : (Part → Own) → Row Part Stage → Row Own Stage
  lifted whole row = record { own = whole row.own; link = row.link; sends = row.sends; save = row.save; entries = row.entries; seals = row.seals }
