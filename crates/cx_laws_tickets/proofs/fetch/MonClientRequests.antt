-- A request that one that logs in makes on an open link to the monitor, at a Tick or a Submit, where nothing was read: it is said under the next number, at the
-- reading of the event, and all stays known.
use Rattle.std.proofs.Common.{◌≡◌, ℕ, List}
use Rattle.cx_base.specs.Names.{Name}
use Rattle.cx_base.specs.declared.nodes.NodeName.{NodeName}
use Rattle.cx_journal.specs.declared.entries.Entry.{Entry}
use Rattle.cx_laws_tickets.specs.cx_laws_keys.proofs.keys.Known.{Inv}
use Rattle.cx_laws_tickets.specs.cx_laws_keys.proofs.keys.Premises.{behind}
use Rattle.cx_laws_tickets.specs.cx_laws_keys.proofs.keys.Uses.{Grows, Means, Use, Uses, WholeRun}
use Rattle.cx_laws_keys.specs.cx_rules.specs.Connector.{Open}
use Rattle.cx_laws_keys.specs.cx_rules.specs.Holdings.{MonClient}
use Rattle.cx_laws_keys.specs.cx_rules.specs.Requests.{Requests, asks_rotating, asks_tickets}
use Rattle.cx_laws_keys.specs.cx_rules.specs.Rows.{Arrival, Row}
use Rattle.cx_laws_keys.specs.cx_rules.specs.Secured.{Secured}
use Rattle.cx_steps.specs.declared.seals.Logged.{Logged}
use Rattle.cx_laws_tickets.proofs.fetch.AskedKnown.{AreTold, MonClientTold, Events, MoreEvents, Told}
use Rattle.cx_laws_tickets.proofs.fetch.MonClientMoves.{MonClientMoves, mon_client-moves}
use Rattle.cx_laws_tickets.proofs.fetch.MonClientSays.{KeepsOpen, rotating-says, tickets-says}
use Rattle.cx_laws_tickets.proofs.fetch.MonitorMoves.{IsAnyLogin}

module _ (run : WholeRun) (whole : List Logged) (us vs : Uses) (log : List Logged) (J : List Entry) (n : NodeName) (line : ℕ)
    (one : (k : List ℕ) (u v : Use) → Means vs k u → Means vs k v → u ≡ v) (f : Grows us vs) (i : Inv run whole us log J) (E F : Events) (more : MoreEvents E F) (told : Told)
    (t : AreTold run E us told log) (name : Name) (link : ℕ) (s : Secured) (r : Requests) (open_so : MonClientTold E us told log name link (Open s r)) {S : Type 0}
    (open_with : Secured → Requests → S) (a : Arrival MonClient S) (now : F.was_asked name a.reading) where
  abbrev Moves : Row MonClient S → Type 0
  Moves row = MonClientMoves (KeepsOpen open_with a.link.number r) run F vs told (behind n line row.seals log) name link s.keys.key row

  -- for generations
  pub rotating-moves : Moves (asks_rotating open_with a s r)
  rotating-moves =
      mon_client-moves run whole us vs log J n line one f i E F more told t name link s open_so.0 (KeepsOpen open_with a.link.number r) a.reading r.count now open_so.1
      (asks_rotating open_with a s r) (rotating-says open_with (IsAnyLogin vs) a s r)

  -- for tickets
  pub tickets-moves : (services : ℕ) → Moves (asks_tickets open_with a s r services)
  tickets-moves services =
      mon_client-moves run whole us vs log J n line one f i E F more told t name link s open_so.0 (KeepsOpen open_with a.link.number r) a.reading r.count now open_so.1
      (asks_tickets open_with a s r services) (tickets-says open_with (IsAnyLogin vs) a s r services)
