-- The links that effects name, and what a step of the monitor comes to.
use Rattle.std.proofs.Common.{◌≡◌, ℕ, ◌==◌, inl, inr, Bool, true, false, List, [], ◌∷◌, Option, Some, None, refl, ap, subst, eqb-true}
use Rattle.std.specs.Prelude.{IsSome, nat_le, length, if◌then◌else◌}
use Rattle.std.specs.List.{AllByRecursion}
use Rattle.cx_base.specs.declared.nodes.NodeName.TheVariants as node
use Rattle.cx_login.specs.cx_journal.specs.declared.outcomes.Reason.TheVariants.{LinksFull}
use Rattle.cx_login.specs.cx_steps.specs.declared.effects.Piece.{Piece}
use Rattle.cx_rules.specs.Acceptor.{AwaitsBanner}
use Rattle.cx_rules.specs.Inputs.{Input, Opened, NoLink, Bytes, Turn, Gone, Look, Tick, Submit, Restart}
use Rattle.cx_rules.specs.Judged.{HearsFrame, IsJudged, IsThere, NamesLinks}
use Rattle.cx_rules.specs.Links.{Link, link_of}
use Rattle.cx_rules.specs.Monitor.{Monitor, MonitorArrival, MonitorNode, MonitorRow, MonitorStage}
use Rattle.cx_rules.specs.MonitorRule.{monitor_rule, noted}
use Rattle.cx_rules.specs.MonitorRule as monitor
use Rattle.cx_rules.specs.Rows.{Arrival, Node, Row, Turned, Waits, Refuses, Handles, arrival, carried_out, fed, goes_on, new_link, piece, refuses, refuses_bytes, shuts, turns}
use Rattle.cx_rules.specs.Greetings.{own_banner}
use Rattle.cx_rules.proofs.Granting.{Judged, Rated}
use Rattle.cx_rules.proofs.MonitorRows.{TurnJudged, turned-judged}
use Rattle.cx_rotate.specs.declared.states.KeptState.{KeptState}
use Rattle.cx_rules.proofs.Quiet.{Quiet, quiet-goes_on, quiet-refuses, quiet-refuses_bytes}

-- ---- links that are found

module _ {Stage : Type 0} where
  found-number : (n : ℕ) (links : List (Link Stage)) (l : Link Stage) → link_of n links ≡ Some l → l.number ≡ n
  found-number n [] l e = absurd cc
  found-number n (x ∷ links) l e = by_test (x.number == n) refl (found-number n links l)
    where
      by_test : (t : Bool) → (x.number == n) ≡ t → (link_of n links ≡ Some l → l.number ≡ n) → l.number ≡ n
      by_test true t later = let here : Some x ≡ Some l = rw t at e in let same : x ≡ l = cc in subst (λ (y : Link Stage). y.number ≡ n) same (eqb-true x.number n t)
      by_test false t later = later (rw t at e)

  -- a link that is found is found by its own number
  pub found-there : (n : ℕ) (links : List (Link Stage)) (l : Link Stage) → link_of n links ≡ Some l → IsSome (link_of l.number links)
  found-there n links l e = rw (found-number n links l e, e) refl

-- ---- rows that are carried out

module _ {Own Stage : Type 0} where
  names-piece : (before : Node Own Stage) (input : Input) (number : ℕ) (bytes : List ℕ) → IsThere before input number
      → AllByRecursion (λ (p : Piece). IsThere before input p.link) (piece number bytes)
  names-piece before input number [] h = tt
  names-piece before input number (b ∷ bytes) h = (h, tt)

  names-shuts : (before : Node Own Stage) (input : Input) (number : ℕ) (link : Option (Link Stage)) → IsThere before input number
      → AllByRecursion (IsThere before input) (shuts number link)
  names-shuts before input number (Some link) h = tt
  names-shuts before input number None h = (h, tt)

  pub names-carried : (before after : Node Own Stage) (input : Input) (number : ℕ) (turned : Bool) (row : Row Own Stage) → IsThere before input number
      → NamesLinks before input (carried_out after number turned row).out
  names-carried before after input number turned row h =
      record { sends = names-piece before input number row.sends h; shuts = names-shuts before input number row.link h }

  pub names-turns : (before after : Node Own Stage) (input : Input) (a : Arrival Own Stage) (t : Turned Own Stage) → IsThere before input a.link.number
      → NamesLinks before input (turns after a t).out
  names-turns before after input a Waits h = record { sends = tt; shuts = tt }
  names-turns before after input a (Refuses why opened) h = names-carried before after input a.link.number false (refuses_bytes a why opened) h
  names-turns before after input a (Handles row) h = names-carried before after input a.link.number true row h

  pub names-fed : (before after : Node Own Stage) (input : Input) (bytes : List ℕ) (link : Option (Link Stage)) → NamesLinks before input (fed after bytes link).out
  names-fed before after input bytes None = record { sends = tt; shuts = tt }
  names-fed before after input bytes (Some link) = record { sends = tt; shuts = tt }

-- ---- the monitor

monitor-turn : (m : MonitorNode) (n reading : ℕ) (draw : List ℕ) (found : Option (Link MonitorStage)) → link_of n m.links ≡ found
    → NamesLinks m (Turn n) (monitor.turn (noted m) reading draw found).out
monitor-turn m n reading draw None e = record { sends = tt; shuts = tt }
monitor-turn m n reading draw (Some link) e =
    let a = arrival node.Monitor (noted m).own link reading draw in
    names-turns m (noted m) (Turn n) a (monitor.turned_at a link.stage) (found-there n m.links link e)

pub monitor-names : (m : MonitorNode) (input : Input) (reading : ℕ) (draw : List ℕ) → NamesLinks m input (monitor_rule m input reading draw).out
monitor-names m (Opened n p) reading draw =
    let link : Link MonitorStage = new_link n AwaitsBanner in
    let a = arrival node.Monitor (noted m).own link reading draw in
    names-carried m (noted m) (Opened n p) n false (if nat_le 1024 (length m.links) then refuses a LinksFull [] else goes_on a AwaitsBanner own_banner []) (inl refl)
monitor-names m (NoLink p) reading draw = record { sends = tt; shuts = tt }
monitor-names m (Bytes n bytes) reading draw = names-fed m (noted m) (Bytes n bytes) bytes (link_of n m.links)
monitor-names m (Turn n) reading draw = monitor-turn m n reading draw (link_of n m.links) refl
monitor-names m (Gone n) reading draw = record { sends = tt; shuts = tt }
monitor-names m (Look view) reading draw = record { sends = tt; shuts = tt }
monitor-names m Tick reading draw = record { sends = tt; shuts = tt }
monitor-names m (Submit command) reading draw = record { sends = tt; shuts = tt }
monitor-names m Restart reading draw = record { sends = tt; shuts = tt }

carried-judged : (m : MonitorNode) (input : Input) (after : MonitorNode) (number : ℕ) (turned : Bool) (row : MonitorRow) → Judged m.own.saved row
    → IsJudged m input (carried_out after number turned row)
carried-judged m input after number turned row (inl q) = inl (record { entries = q.entries; seals = q.seals; save = q.save; saved = q.saved_is })
carried-judged m input after number turned row (inr g) =
    inr (inl (record { proven = g.proven; shuts = ap (shuts number) g.goes; save = g.save; saved = g.saved_is }))

rated-judged : (m : MonitorNode) (number : ℕ) (link : Link MonitorStage) (row : MonitorRow) → link_of number m.links ≡ Some link → Rated (HearsFrame link) m.own.saved row
    → IsJudged m (Turn number) (carried_out (noted m) link.number true row)
rated-judged m number link row found (inl judged) = carried-judged m (Turn number) (noted m) link.number true row judged
rated-judged m number link row found (inr (hears, r)) =
    inr (inr (record {
      number = number;
      turn = refl;
      link = link;
      found = found;
      hears = hears;
      shuts = ap (shuts link.number) r.goes;
      save = r.save;
      saved = r.saved_is;
    }))

turns-judged : (m : MonitorNode) (number : ℕ) (a : MonitorArrival) (t : Turned Monitor MonitorStage) → link_of number m.links ≡ Some a.link → a.own.saved ≡ m.own.saved
    → TurnJudged (HearsFrame a.link) m.own.saved t → IsJudged m (Turn number) (turns (noted m) a t)
turns-judged m number a Waits found e h = inl (record { entries = tt; seals = tt; save = refl; saved = refl })
turns-judged m number a (Refuses why opened) found e h =
    carried-judged m (Turn number) (noted m) a.link.number false (refuses_bytes a why opened) (inl (subst (λ (saved : KeptState). Quiet saved (refuses_bytes a why opened)) e (quiet-refuses_bytes a why opened h)))
turns-judged m number a (Handles row) found e h = rated-judged m number a.link row found h

monitor-turn-judged : (m : MonitorNode) (number reading : ℕ) (draw : List ℕ) (found : Option (Link MonitorStage)) → link_of number m.links ≡ found
    → IsJudged m (Turn number) (monitor.turn (noted m) reading draw found)
monitor-turn-judged m number reading draw None e = inl (record { entries = tt; seals = tt; save = refl; saved = refl })
monitor-turn-judged m number reading draw (Some link) e =
    let a = arrival node.Monitor (noted m).own link reading draw in
    turns-judged m number a (monitor.turned_at a link.stage) e refl (turned-judged a link.stage refl)

fed-judged : (m : MonitorNode) (number : ℕ) (bytes : List ℕ) (link : Option (Link MonitorStage)) → IsJudged m (Bytes number bytes) (fed (noted m) bytes link)
fed-judged m number bytes None = inl (record { entries = tt; seals = tt; save = refl; saved = refl })
fed-judged m number bytes (Some link) = inl (record { entries = tt; seals = tt; save = refl; saved = refl })

opens-judged : (m : MonitorNode) (input : Input) (a : MonitorArrival) (full : Bool) → a.own.saved ≡ m.own.saved
    → IsJudged m input (carried_out (noted m) a.link.number false (if full then refuses a LinksFull [] else goes_on a AwaitsBanner own_banner []))
opens-judged m input a true e = carried-judged m input (noted m) a.link.number false (refuses a LinksFull []) (inl (subst (λ (saved : KeptState). Quiet saved (refuses a LinksFull [])) e (quiet-refuses a LinksFull [] tt)))
opens-judged m input a false e = carried-judged m input (noted m) a.link.number false (goes_on a AwaitsBanner own_banner []) (inl (subst (λ (saved : KeptState). Quiet saved (goes_on a AwaitsBanner own_banner [])) e (quiet-goes_on a AwaitsBanner own_banner [] tt)))

pub monitor-judged : (m : MonitorNode) (input : Input) (reading : ℕ) (draw : List ℕ) → IsJudged m input (monitor_rule m input reading draw)
monitor-judged m (Opened n p) reading draw =
    let link : Link MonitorStage = new_link n AwaitsBanner in
    opens-judged m (Opened n p) (arrival node.Monitor (noted m).own link reading draw) (nat_le 1024 (length m.links)) refl
monitor-judged m (NoLink p) reading draw = inl (record { entries = (λ x. x, tt); seals = tt; save = refl; saved = refl })
monitor-judged m (Bytes n bytes) reading draw = fed-judged m n bytes (link_of n m.links)
monitor-judged m (Turn n) reading draw = monitor-turn-judged m n reading draw (link_of n m.links) refl
monitor-judged m (Gone n) reading draw = inl (record { entries = tt; seals = tt; save = refl; saved = refl })
monitor-judged m (Look view) reading draw = inl (record { entries = tt; seals = tt; save = refl; saved = refl })
monitor-judged m Tick reading draw = inl (record { entries = tt; seals = tt; save = refl; saved = refl })
monitor-judged m (Submit command) reading draw = inl (record { entries = tt; seals = tt; save = refl; saved = refl })
monitor-judged m Restart reading draw = inl (record { entries = (λ x. x, tt); seals = tt; save = refl; saved = refl })
