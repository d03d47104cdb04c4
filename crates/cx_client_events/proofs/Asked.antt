-- Login and Renew, over plain values: each step is that of the rules, abridged, and the links are held behind it as before.
use Rattle.std.proofs.Common.{◌≡◌, ◌∙◌, ℕ, false, List, [], ◌∷◌, map, Option, Some, None, Result, Ok, Err, IfOk, refl, sym, ap, subst}
use Rattle.std.specs.Prelude.{IfSome, OnErr, filter, not}
use Rattle.cx_node.specs.Made.{as_row}
use Rattle.cx_monclient.proofs.connector.Found.{open-found}
use Rattle.cx_monclient.specs.declared.links.OpenAhead.{OpenAhead}
use Rattle.cx_node.specs.Tables.{Table, with_number}
use Rattle.cx_node.specs.declared.rows.Row.{Row as Made}
use Rattle.cx_node.specs.cx_rules.specs.Connector as connector
use Rattle.cx_node.specs.cx_rules.specs.Connector.{kept_open}
use Rattle.cx_node.specs.cx_rules.specs.Links.{Link}
use Rattle.cx_node.specs.cx_rules.specs.Requests.{Requests}
use Rattle.cx_node.specs.cx_rules.specs.Secured.{Secured}
use Rattle.cx_client_events.specs.cx_rules_session.specs.ClientRule.{ClientStage, ToDaemon, ToMonitor, WholeClient, WholeClientNode, asking_open, is_to_monitor, logs_in, renews, waits_for_login}
use Rattle.cx_client_events.specs.cx_rules_session.specs.Forgets.{abridged_client_at, abridged_client_link}
use Rattle.cx_client_events.specs.cx_rules_session.proofs.WholeClientForgets.{client-forgets-links}
use Rattle.cx_steps.specs.Nothing.{nothing}
use Rattle.cx_steps.specs.declared.effects.Effects.{Effects}
use Rattle.cx_steps.specs.declared.events.Peer.TheVariants.{Monitor}
use Rattle.cx_node.specs.steps.Making.{row_due}
use Rattle.cx_node.specs.steps.Steps.{node_of}
use Rattle.cx_node.specs.steps.Turns.{IsCarried}
use Rattle.cx_node.proofs.steps.Steps as steps
use Rattle.cx_client_events.specs.cx_node.proofs.kinds.Leaving as leaving
use Rattle.cx_client_events.specs.cx_node.proofs.kinds.Shutting.{left_by, left_picked}
use Rattle.cx_client_events.specs.cx_rules_session.specs.Kinds.{of_kind}
use Rattle.cx_client_events.specs.linking.Ahead.{IsAheadAt, IsStanding, row_on}
use Rattle.cx_client_events.specs.linking.Kinds.{ClientLink}
use Rattle.cx_client_events.specs.linking.Scans.{IsFirstOpen}
use Rattle.cx_client_events.proofs.linking.Scanning.{open_keeps}
use Rattle.cx_client_events.specs.Machine.{AreHeld, IsStep, tickets_asked}

-- ---- Login

-- what stays of a link tells whether it is to the monitor
same_at : (l : ClientLink) (stage : ClientStage) → is_to_monitor (abridged_client_at l stage).stage ≡ is_to_monitor stage
same_at l (ToMonitor stage) = refl
same_at l (ToDaemon stage) = refl

-- the numbers of the links to the monitor
abbrev pub monitor_numbers : List ClientLink → List ℕ
monitor_numbers links = map (λ (l : ClientLink). l.number) (filter (λ l. is_to_monitor l.stage) links)

module _ (all links : List ClientLink) (numbers : List ℕ) (h : AreHeld all) (picked : numbers ≡ monitor_numbers all) (l : links ≡ left_by numbers all) where
  left : links ≡ filter (λ (k : ClientLink). not (is_to_monitor k.stage)) all
  left =
      let shut : List ℕ → List ClientLink = λ ns. left_by ns all in
      l ∙ ap shut picked ∙ left_picked (λ (k : ClientLink). is_to_monitor k.stage) 0 all h.rising

  pub login_held : AreHeld links
  login_held =
      leaving.left_held abridged_client_link client-forgets-links (λ (k : ClientLink). is_to_monitor k.stage) (λ k. same_at k k.stage) all links h left

  pub login_step : (own new : WholeClient) (services : ℕ) (given : Effects) → new ≡ record own { dials = waits_for_login own.dials services }
      → given ≡ record nothing { opens = Monitor ∷ []; shuts = numbers }
      → IsStep (node_of new links) (logs_in (node_of own all) services) given
  login_step own new services given n g =
      let waits : WholeClient = record own { dials = waits_for_login own.dials services } in
      let shut : List ℕ → Effects = λ ns. record nothing { opens = Monitor ∷ []; shuts = ns } in
      let owns : WholeClient → WholeClientNode = λ o. node_of o links in
      let tables : List ClientLink → WholeClientNode = λ ls. node_of waits ls in
      let cut : List ClientLink → List ClientLink = λ ls. map abridged_client_link ls in
      record { out = g ∙ ap shut picked; state = ap owns n ∙ ap tables (sym login_held.whole ∙ ap cut left) }

-- ---- Renew

-- the row by which tickets are asked for on this link, by what that goes on by
abbrev pub IsAskedRow : WholeClient → ℕ → List ℕ → ℕ → Link connector.Stage → Secured → Requests → Made OpenAhead → Type 0
IsAskedRow own reading draw services link s requests row =
    (as_row own (row_on (of_kind ToMonitor link) row) ≡ row_due abridged_client_link (tickets_asked own reading draw services link s requests))
    × IfSome row.link (IsAheadAt (ToMonitor link.stage))

abbrev pub IsAsked : {E : Type 0} → WholeClient → ℕ → List ℕ → ℕ → Link connector.Stage → Result (Made OpenAhead) E → Type 0
IsAsked own reading draw services link asked =
    (s : Secured) (requests : Requests) → kept_open link.stage ≡ Some (s, requests) → IfOk asked (IsAskedRow own reading draw services link s requests)

module _ {E : Type 0} (own : WholeClient) (all : List ClientLink) (services reading : ℕ) (draw : List ℕ) (link : Link connector.Stage) (row : Made OpenAhead) (asked : Result (Made OpenAhead) E)
    (h : AreHeld all) (first : IsFirstOpen all link) (is : IsAsked own reading draw services link asked) (made : asked ≡ Ok row) where
  abbrev Kept : Type 0
  Kept = Secured × Requests

  row_is : (s : Secured) (requests : Requests) → kept_open link.stage ≡ Some (s, requests) → IsAskedRow own reading draw services link s requests row
  row_is s requests keeps = subst (λ (r : Result (Made OpenAhead) E). IfOk r (IsAskedRow own reading draw services link s requests)) made (is s requests keeps)

  found_by : (o : Option Kept) → kept_open link.stage ≡ o → with_number (λ (l : ClientLink). l.number) link.number all ≡ Some (of_kind ToMonitor link)
  found_by None keeps = absurd (open_keeps link.stage first.opened keeps)
  found_by (Some kept) keeps = let one = rw keeps at first.first in (open-found asking_open 0 all (of_kind ToMonitor link) kept h.rising one).1

  -- the link is found by its number
  pub first_found : with_number (λ (l : ClientLink). l.number) link.number all ≡ Some (of_kind ToMonitor link)
  first_found = found_by (kept_open link.stage) refl

  standing_by : (a : Option OpenAhead) → IfSome a (IsAheadAt (ToMonitor link.stage)) → IfSome a (IsStanding link.number all)
  standing_by (Some a) ahead = record { link = of_kind ToMonitor link; found = first_found; ahead = ahead }
  standing_by None ahead = tt

  kept_standing : (o : Option Kept) → kept_open link.stage ≡ o → IfSome row.link (IsStanding link.number all)
  kept_standing None keeps = absurd (open_keeps link.stage first.opened keeps)
  kept_standing (Some (s, requests)) keeps = standing_by row.link (row_is s requests keeps).1

  -- the request was sealed ahead on it
  pub renews_standing : IfSome row.link (IsStanding link.number all)
  renews_standing = kept_standing (kept_open link.stage) refl

  module _ {F : Type 0} (new : Table ClientLink) (r : Result Effects F)
      (c : IfOk r (IsCarried (λ (l : ClientLink). l.number) link.number false (row_on (of_kind ToMonitor link) row) all new.links)) where
    step_by : (o : Option Kept) → kept_open link.stage ≡ o → IfOk r (IsStep (node_of own new.links) (renews (node_of own all) services reading draw))
    step_by None keeps = absurd (open_keeps link.stage first.opened keeps)
    step_by (Some (s, requests)) keeps =
        let one = rw keeps at first.first in
        let due : Result (Made ClientLink) F = Ok (row_on (of_kind ToMonitor link) row) in
        rw one (steps.opens_step abridged_client_link client-forgets-links own link.number all new.links (tickets_asked own reading draw services link s requests) due r h
        (row_is s requests keeps).0 c)

    pub renews_step : IfOk r (IsStep (node_of own new.links) (renews (node_of own all) services reading draw))
    renews_step = step_by (kept_open link.stage) refl

held_by : {F : Type 0} (own : WholeClient) (old new : Table ClientLink) (services reading : ℕ) (draw : List ℕ) (link : Link connector.Stage) (row : Made OpenAhead) (r : Result Effects F)
    (s : Secured) (requests : Requests) → AreHeld old.links → IsAskedRow own reading draw services link s requests row
    → IfOk r (IsCarried (λ (l : ClientLink). l.number) link.number false (row_on (of_kind ToMonitor link) row) old.links new.links) → OnErr r (new ≡ old) → AreHeld new.links
held_by own old new services reading draw link row (Err e) s requests h is c t = rw t h
held_by own old new services reading draw link row (Ok out) s requests h is c t =
    steps.row_held abridged_client_link client-forgets-links own link.number false old.links new.links (row_on (of_kind ToMonitor link) row)
    (tickets_asked own reading draw services link s requests) out is.0 h c

pub renews_held : {E F : Type 0} (own : WholeClient) (old new : Table ClientLink) (services reading : ℕ) (draw : List ℕ) (link : Link connector.Stage) (row : Made OpenAhead)
    (asked : Result (Made OpenAhead) E) (r : Result Effects F) → AreHeld old.links → IsFirstOpen old.links link → IsAsked own reading draw services link asked → asked ≡ Ok row
    → IfOk r (IsCarried (λ (l : ClientLink). l.number) link.number false (row_on (of_kind ToMonitor link) row) old.links new.links) → OnErr r (new ≡ old) → AreHeld new.links
renews_held own old new services reading draw link row asked r h first is made c t = by_kept (kept_open link.stage) refl
  where
    by_kept : (o : Option (Secured × Requests)) → kept_open link.stage ≡ o → AreHeld new.links
    by_kept None keeps = absurd (open_keeps link.stage first.opened keeps)
    by_kept (Some (s, requests)) keeps =
        held_by own old new services reading draw link row r s requests h (row_is own old.links services reading draw link row asked h first is made s requests keeps) c t
