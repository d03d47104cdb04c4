-- The first open link to the monitor, from the front of the links.
use Rattle.std.proofs.Common.{◌≡◌, ◌∙◌, ℕ, ◌+◌, true, List, ◌∷◌, get_or, drop, Option, Some, None, refl, sym, ap}
use Rattle.std.specs.Option.{option_map}
use Rattle.std.specs.Prelude.{slice_get}
use Rattle.std.proofs.lemmas.List.{at_drop_more}
use Rattle.std.proofs.lemmas.Option.{get_or_from_slice_get, slice_get_within}
use Rattle.cx_node.specs.cx_rules.specs.Connector as connector
use Rattle.cx_node.specs.cx_rules.specs.Connector.{AwaitsBanner, AwaitsHello, AwaitsChallenge, AwaitsDone, AwaitsSignature, AwaitsIdent, Open, is_open, kept_open}
use Rattle.cx_node.specs.cx_rules.specs.Links.{Link}
use Rattle.cx_node.specs.cx_rules.specs.Requests.{Requests, first_open, open_or}
use Rattle.cx_node.specs.cx_rules.specs.Secured.{Secured}
use Rattle.cx_node.specs.cx_rules_session.specs.ClientRule.{ToMonitor, asking_open}
use Rattle.cx_node.specs.cx_rules_session.specs.Kinds.{of_kind}
use Rattle.cx_client_events.specs.linking.Kinds.{ClientLink}
use Rattle.cx_client_events.specs.linking.Scans.{IsFirstOpen}

left_from : (links : List ClientLink) (i : ℕ) (link : ClientLink) → Some link ≡ slice_get links i
    → first_open asking_open (drop i links) ≡ open_or link (asking_open link.stage) (first_open asking_open (drop (i + 1) links))
left_from links i link is =
    let at : get_or links i link ≡ link = get_or_from_slice_get links i link link (sym is) in
    let first : ClientLink → Option (ClientLink × (Secured × Requests)) = λ l. first_open asking_open (l ∷ drop (i + 1) links) in
    at_drop_more (λ (ls : List ClientLink). first_open asking_open ls) links i link (slice_get_within links i link (sym is)) ∙ ap first at

-- one that keeps nothing is passed over
pub passed_over : (links : List ClientLink) (i : ℕ) (link : ClientLink) → Some link ≡ slice_get links i → asking_open link.stage ≡ None
    → first_open asking_open (drop i links) ≡ first_open asking_open links → first_open asking_open (drop (i + 1) links) ≡ first_open asking_open links
passed_over links i link is none so =
    let step = rw none at (left_from links i link is) in sym step ∙ so

-- an open one keeps something
pub open_keeps : (stage : connector.Stage) → is_open stage ≡ true → kept_open stage ≡ None → ⊥
open_keeps (AwaitsBanner asked) is none = cc
open_keeps (AwaitsHello asked) is none = cc
open_keeps (AwaitsChallenge asked) is none = cc
open_keeps AwaitsDone is none = cc
open_keeps (AwaitsSignature s login) is none = cc
open_keeps (AwaitsIdent s session) is none = cc
open_keeps (Open s requests) is none = cc

first_of : (link : Link connector.Stage) (o : Option (Secured × Requests)) (behind : Option (ClientLink × (Secured × Requests))) → kept_open link.stage ≡ o
    → is_open link.stage ≡ true
    → open_or (of_kind ToMonitor link) o behind ≡ (let some : Option (ClientLink × (Secured × Requests)) = option_map (λ kept. (of_kind ToMonitor link, kept)) o in some)
first_of link None behind keeps opened = absurd (open_keeps link.stage opened keeps)
first_of link (Some kept) behind keeps opened = refl

pub found : (links : List ClientLink) (i : ℕ) (all : ClientLink) (link : Link connector.Stage) → Some all ≡ slice_get links i → all ≡ of_kind ToMonitor link
    → is_open link.stage ≡ true → first_open asking_open (drop i links) ≡ first_open asking_open links → IsFirstOpen links link
found links i all link is of opened so =
    let at : Some (of_kind ToMonitor link) ≡ slice_get links i = ap (λ (l : ClientLink). Some l) (sym of) ∙ is in
    record {
      opened = opened;
      first = sym so ∙ left_from links i (of_kind ToMonitor link) at
          ∙ first_of link (kept_open link.stage) (first_open asking_open (drop (i + 1) links)) refl opened;
    }
