-- What comes to a node next: what is due of its last steps, turns of the link on which bytes came, and what comes on its links or what its
-- orders say.
use Rattle.std.specs.Prelude.{ℕ, ◌≡◌, ◌<◌, ◌-◌, ◌||◌, nat_le, Bool, true, false, List, [], ◌∷◌, ◌++◌, ◌⊎◌, map, Option, Some, None, if◌then◌else◌}
use Rattle.cx_base.specs.Streams.{count_after}
use Rattle.cx_drive.specs.Steps.{input_due}
use Rattle.cx_drive.specs.declared.dues.Due.{Due}
use Rattle.cx_drive.specs.declared.flow.Flow.{Flow}
use Rattle.cx_drive.specs.declared.flow.Order.{Order}
use Rattle.cx_drive.specs.declared.flow.Order.TheVariants as order
use Rattle.cx_outside.specs.declared.events.LinkEvent.{LinkEvent}
use Rattle.cx_outside.specs.declared.events.LinkEvent.TheVariants as link
use Rattle.cx_client.specs.cx_rules_session.specs.cx_rules.specs.Inputs as input
use Rattle.cx_client.specs.cx_rules_session.specs.cx_rules.specs.Inputs.{Input}

pub record Agenda : Type 0 where
  -- what is due, in the order in which it became due
  pub due : List Input
  -- the link that is turned behind that, until nothing of it is left to handle
  pub turning : Option ℕ
  -- the orders that are left
  pub orders : List Order
  -- how many links were gone
  pub gone : ℕ
  -- how many events of the links may still be taken
  pub left : ℕ
  -- whether the orders ended the node
  pub over : Bool
  -- whether memory was wanting in a step
  pub short : Bool

-- as a run begins, with these orders, for so many events
abbrev pub opening_agenda : List Order → ℕ → Agenda
opening_agenda orders events =
    record { due = []; turning = None; orders = orders; gone = 0; left = events; over = false; short = false }

-- the agenda that whoever drives the node holds
abbrev pub agenda_of : Flow → Agenda
agenda_of flow = record {
  due = map input_due flow.dues.items;
  turning = flow.turning;
  orders = flow.orders.now;
  gone = flow.gone;
  left = flow.left;
  over = flow.over;
  short = flow.short;
}

-- ---- what is next

-- what is due comes first, then a turn of the link
abbrev pub next_of : List Input → Option ℕ → Option Input
next_of (input ∷ due) turning = Some input
next_of [] (Some number) = Some (input.Turn number)
next_of [] None = None

abbrev pub next_input : Agenda → Option Input
next_input a = next_of a.due a.turning

-- nothing is next, and what comes on the links is taken
pub record AwaitsLinks (a : Agenda) : Type 0 where
  pub none : next_input a ≡ None
  pub left : 0 < a.left
  pub on : a.over ≡ false

-- nothing is next, and nothing more is taken: so many events came, or the orders ended the node
pub record IsOver (a : Agenda) : Type 0 where
  pub none : next_input a ≡ None
  pub over : (a.left ≡ 0) ⊎ (a.over ≡ true)

-- ---- behind an event of the links

-- this comes first
abbrev pub with_due : Input → Agenda → Agenda
with_due input a = record a { due = input ∷ a.due }

-- the orders without those that waited for links that are gone
abbrev pub passed : ℕ → List Order → List Order
passed gone [] = []
passed gone (order.Gone links ∷ orders) = if nat_le links gone then passed gone orders else order.Gone links ∷ orders
passed gone (order.Submit command ∷ orders) = order.Submit command ∷ orders
passed gone (order.Stop ∷ orders) = order.Stop ∷ orders

-- nothing came: where the node waits for nothing, the next of its orders is carried out, which ends the run or is a command; else some time passed
abbrev pub at_quiet : List Order → Bool → Agenda → Agenda
at_quiet (order.Stop ∷ orders) true a = record a { orders = order.Stop ∷ orders; over = true }
at_quiet (order.Stop ∷ orders) false a = with_due input.Tick (record a { orders = order.Stop ∷ orders })
at_quiet (order.Submit command ∷ orders) true a = with_due (input.Submit command) (record a { orders = orders })
at_quiet (order.Submit command ∷ orders) false a = with_due input.Tick (record a { orders = order.Submit command ∷ orders })
at_quiet (order.Gone links ∷ orders) rests a = with_due input.Tick (record a { orders = order.Gone links ∷ orders })
at_quiet [] rests a = with_due input.Tick (record a { orders = [] })

-- an event came, with these bytes, where the node waits for nothing or does
abbrev pub after_came : Bool → LinkEvent → List ℕ → Agenda → Agenda
after_came rests (link.Opened number) bytes a = with_due (input.Opened number None) a
after_came rests (link.Bytes number count) bytes a = with_due (input.Bytes number bytes) (record a { turning = Some number })
after_came rests (link.Gone number) bytes a = with_due (input.Gone number) a
after_came rests link.Quiet bytes a = at_quiet (passed a.gone a.orders) rests a

-- one event less may be taken
abbrev pub counted_down : Agenda → Agenda
counted_down a = record a { left = a.left - 1 }

abbrev pub after_event : Bool → LinkEvent → List ℕ → Agenda → Agenda
after_event rests event bytes a = after_came rests event bytes (counted_down a)

-- ---- behind a step

-- what is due behind the first
abbrev pub due_behind : List Input → List Input
due_behind [] = []
due_behind (input ∷ due) = due

-- a link is turned again where a banner or a frame of it was handled at its turn
abbrev pub turning_behind : List Input → Bool → Option ℕ → Option ℕ
turning_behind (input ∷ due) turned turning = turning
turning_behind [] true turning = turning
turning_behind [] false turning = None

-- without what was next
abbrev pub without_next : Bool → Agenda → Agenda
without_next turned a = record a { due = due_behind a.due; turning = turning_behind a.due turned a.turning }

abbrev pub gone_count : Input → ℕ → ℕ
gone_count (input.Gone number) gone = count_after gone
gone_count _ gone = gone

-- with what comes of a step at this input: whether memory was wanting in it, and what is due of it
abbrev pub noting : Input → Bool → List Due → Agenda → Agenda
noting input short dues a = record a {
  due = a.due ++ map input_due dues;
  gone = gone_count input a.gone;
  short = a.short || short;
}

-- behind a step at this input, which was next, whether or not it handled a banner or a frame
abbrev pub after_step : Input → Bool → Bool → List Due → Agenda → Agenda
after_step input short turned dues a = noting input short dues (without_next turned a)

-- where it comes to an event, that comes first
abbrev pub with_event : Option Input → Agenda → Agenda
with_event None a = a
with_event (Some input) a = with_due input a
