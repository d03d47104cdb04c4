-- Generations are asked for on the first open link to the monitor; where there is none, one is opened.
use Rattle.std.proofs.Common.{◌≡◌, ℕ, false, List, Option, Some, None, Result, Ok, Err, IfOk, refl, subst}
use Rattle.std.specs.Prelude.{IfSome, OnErr}
use Rattle.cx_monclient.proofs.connector.Found.{open-found}
use Rattle.cx_monclient.specs.declared.links.OpenAhead.{OpenAhead}
use Rattle.cx_node.specs.Made.{as_row}
use Rattle.cx_node.specs.Tables.{Table, with_number}
use Rattle.cx_node.specs.declared.rows.Row.{Row as Made}
use Rattle.cx_node.specs.cx_rules.specs.Connector as connector
use Rattle.cx_node.specs.cx_rules.specs.Connector.{kept_open}
use Rattle.cx_node.specs.cx_rules.specs.Links.{Link}
use Rattle.cx_node.specs.cx_rules.specs.Requests.{Requests, first_open}
use Rattle.cx_node.specs.cx_rules.specs.Secured.{Secured}
use Rattle.cx_verifying.specs.cx_rules_session.specs.DaemonRule.{AsConnector, Daemon, asking_open, fetches_on}
use Rattle.cx_verifying.specs.cx_rules_session.specs.Forgets.{abridged_daemon_link}
use Rattle.cx_verifying.specs.cx_rules_session.proofs.DaemonForgets.{daemon-forgets-links}
use Rattle.cx_verifying.specs.cx_rules_session.specs.Kinds.{of_kind}
use Rattle.cx_steps.specs.declared.effects.Effects.{Effects}
use Rattle.cx_node.specs.steps.Making.{row_due}
use Rattle.cx_node.specs.steps.Steps.{node_of}
use Rattle.cx_node.specs.steps.Turns.{IsCarried}
use Rattle.cx_node.proofs.steps.Steps as steps
use Rattle.cx_daemon_events.specs.Ahead.{IsAheadAt, IsStanding, row_on}
use Rattle.cx_daemon_events.specs.Kinds.{DaemonLink}
use Rattle.cx_daemon_events.specs.Machine.{AreHeld, IsFirstOpen, IsStep, generations_asked}
use Rattle.cx_daemon_events.proofs.Scanning.{open_keeps}

-- the row by which generations are asked for on this link, by what that goes on by
abbrev pub IsAskedRow : Daemon → ℕ → List ℕ → Link connector.Stage → Secured → Requests → Made OpenAhead → Type 0
IsAskedRow own reading draw link s requests row =
    (as_row own (row_on (of_kind AsConnector link) row) ≡ row_due abridged_daemon_link (generations_asked own reading draw link s requests))
    × IfSome row.link (IsAheadAt (AsConnector link.stage))

abbrev pub IsAsked : {E : Type 0} → Daemon → ℕ → List ℕ → Link connector.Stage → Result (Made OpenAhead) E → Type 0
IsAsked own reading draw link asked =
    (s : Secured) (requests : Requests) → kept_open link.stage ≡ Some (s, requests) → IfOk asked (IsAskedRow own reading draw link s requests)

module _ {E : Type 0} (own : Daemon) (all : List DaemonLink) (reading : ℕ) (draw : List ℕ) (link : Link connector.Stage) (row : Made OpenAhead) (asked : Result (Made OpenAhead) E)
    (h : AreHeld all) (first : IsFirstOpen all link) (is : IsAsked own reading draw link asked) (made : asked ≡ Ok row) where
  abbrev Kept : Type 0
  Kept = Secured × Requests

  row_is : (s : Secured) (requests : Requests) → kept_open link.stage ≡ Some (s, requests) → IsAskedRow own reading draw link s requests row
  row_is s requests keeps = subst (λ (r : Result (Made OpenAhead) E). IfOk r (IsAskedRow own reading draw link s requests)) made (is s requests keeps)

  found_by : (o : Option Kept) → kept_open link.stage ≡ o → with_number (λ (l : DaemonLink). l.number) link.number all ≡ Some (of_kind AsConnector link)
  found_by None keeps = absurd (open_keeps link.stage first.opened keeps)
  found_by (Some kept) keeps = let one = rw keeps at first.first in (open-found asking_open 0 all (of_kind AsConnector link) kept h.rising one).1

  -- the link is found by its number
  pub first_found : with_number (λ (l : DaemonLink). l.number) link.number all ≡ Some (of_kind AsConnector link)
  first_found = found_by (kept_open link.stage) refl

  standing_by : (a : Option OpenAhead) → IfSome a (IsAheadAt (AsConnector link.stage)) → IfSome a (IsStanding link.number all)
  standing_by (Some a) ahead = record { link = of_kind AsConnector link; found = first_found; ahead = ahead }
  standing_by None ahead = tt

  kept_standing : (o : Option Kept) → kept_open link.stage ≡ o → IfSome row.link (IsStanding link.number all)
  kept_standing None keeps = absurd (open_keeps link.stage first.opened keeps)
  kept_standing (Some (s, requests)) keeps = standing_by row.link (row_is s requests keeps).1

  -- the request was sealed ahead on it
  pub fetches_standing : IfSome row.link (IsStanding link.number all)
  fetches_standing = kept_standing (kept_open link.stage) refl

  module _ {F : Type 0} (new : Table DaemonLink) (r : Result Effects F)
      (c : IfOk r (IsCarried (λ (l : DaemonLink). l.number) link.number false (row_on (of_kind AsConnector link) row) all new.links)) where
    step_by : (o : Option Kept) → kept_open link.stage ≡ o → IfOk r (IsStep (node_of own new.links) (fetches_on (node_of own all) reading draw (first_open asking_open all)))
    step_by None keeps = absurd (open_keeps link.stage first.opened keeps)
    step_by (Some (s, requests)) keeps =
        let one = rw keeps at first.first in
        let due : Result (Made DaemonLink) F = Ok (row_on (of_kind AsConnector link) row) in
        rw one (steps.opens_step abridged_daemon_link daemon-forgets-links own link.number all new.links (generations_asked own reading draw link s requests) due r h
        (row_is s requests keeps).0 c)

    pub fetches_step : IfOk r (IsStep (node_of own new.links) (fetches_on (node_of own all) reading draw (first_open asking_open all)))
    fetches_step = step_by (kept_open link.stage) refl

held_by : {F : Type 0} (own : Daemon) (old new : Table DaemonLink) (reading : ℕ) (draw : List ℕ) (link : Link connector.Stage) (row : Made OpenAhead) (r : Result Effects F)
    (s : Secured) (requests : Requests) → AreHeld old.links → IsAskedRow own reading draw link s requests row
    → IfOk r (IsCarried (λ (l : DaemonLink). l.number) link.number false (row_on (of_kind AsConnector link) row) old.links new.links) → OnErr r (new ≡ old) → AreHeld new.links
held_by own old new reading draw link row (Err e) s requests h is c t = rw t h
held_by own old new reading draw link row (Ok out) s requests h is c t =
    steps.row_held abridged_daemon_link daemon-forgets-links own link.number false old.links new.links (row_on (of_kind AsConnector link) row)
    (generations_asked own reading draw link s requests) out is.0 h c

pub fetches_held : {E F : Type 0} (own : Daemon) (old new : Table DaemonLink) (reading : ℕ) (draw : List ℕ) (link : Link connector.Stage) (row : Made OpenAhead)
    (asked : Result (Made OpenAhead) E) (r : Result Effects F) → AreHeld old.links → IsFirstOpen old.links link → IsAsked own reading draw link asked → asked ≡ Ok row
    → IfOk r (IsCarried (λ (l : DaemonLink). l.number) link.number false (row_on (of_kind AsConnector link) row) old.links new.links) → OnErr r (new ≡ old) → AreHeld new.links
fetches_held own old new reading draw link row asked r h first is made c t = by_kept (kept_open link.stage) refl
  where
    by_kept : (o : Option (Secured × Requests)) → kept_open link.stage ≡ o → AreHeld new.links
    by_kept None keeps = absurd (open_keeps link.stage first.opened keeps)
    by_kept (Some (s, requests)) keeps = held_by own old new reading draw link row r s requests h (row_is own old.links reading draw link row asked h first is made s requests keeps) c t
