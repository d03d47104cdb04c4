-- What is read off the links so far, from their front.
use Rattle.std.proofs.Common.{◌≡◌, ◌∙◌, ℕ, ◌+◌, ◌<◌, Bool, true, false, List, [], ◌∷◌, ◌++◌, length, get_or, drop, take, map, cond, Option, Some, None, refl, sym, ap}
use Rattle.std.specs.List.{list_any}
use Rattle.std.specs.Option.{option_map}
use Rattle.std.specs.Prelude.{filter, slice_get}
use Rattle.std.proofs.lemmas.List.{at_drop_more}
use Rattle.std.proofs.lemmas.List.Elements.{filter_more}
use Rattle.std.proofs.lemmas.List.Folds.{list_any_at, list_any_more}
use Rattle.std.proofs.lemmas.Option.{get_or_from_slice_get, slice_get_within}
use Rattle.cx_node.specs.cx_rules.specs.Connector as connector
use Rattle.cx_node.specs.cx_rules.specs.Connector.{AwaitsBanner, AwaitsHello, AwaitsChallenge, AwaitsDone, AwaitsSignature, AwaitsIdent, Open, is_open, kept_open}
use Rattle.cx_node.specs.cx_rules.specs.Links.{Link}
use Rattle.cx_node.specs.cx_rules.specs.Requests.{Requests, first_open, open_or}
use Rattle.cx_node.specs.cx_rules.specs.Secured.{Secured}
use Rattle.cx_verifying.specs.cx_rules_session.specs.DaemonRule.{AsConnector, asking_open}
use Rattle.cx_verifying.specs.cx_rules_session.specs.Kinds.{of_kind}
use Rattle.cx_daemon_events.specs.Kinds.{DaemonLink}
use Rattle.cx_daemon_events.specs.Machine.{IsFirstOpen}

module _ {X : Type 0} (p : X → Bool) where
  pub none_more : (xs : List X) (i : ℕ) (x : X) → list_any p (take i xs) ≡ false → Some x ≡ slice_get xs i → p x ≡ false → list_any p (take (i + 1) xs) ≡ false
  none_more xs i x none is fails =
      let at : get_or xs i x ≡ x = get_or_from_slice_get xs i x x (sym is) in
      let within : i < length xs = slice_get_within xs i x (sym is) in
      rw (list_any_more p xs i x within, none, at, fails) refl

  pub one_passes : (xs : List X) (i : ℕ) (x : X) → Some x ≡ slice_get xs i → p x ≡ true → list_any p xs ≡ true
  one_passes xs i x is passes =
      let at : get_or xs i x ≡ x = get_or_from_slice_get xs i x x (sym is) in
      list_any_at p xs i x (slice_get_within xs i x (sym is)) (ap p at ∙ passes)

-- the numbers of those that pass, with one more looked at
pub picked_more : (p : DaemonLink → Bool) (xs : List DaemonLink) (i : ℕ) (x : DaemonLink) → Some x ≡ slice_get xs i
    → map (λ (l : DaemonLink). l.number) (filter p (take (i + 1) xs)) ≡ map (λ (l : DaemonLink). l.number) (filter p (take i xs)) ++ cond (p x) (x.number ∷ []) []
picked_more p xs i x is =
    let at : get_or xs i x ≡ x = get_or_from_slice_get xs i x x (sym is) in
    let within : i < length xs = slice_get_within xs i x (sym is) in
    rw (filter_more p xs i x within, at) (by_test (filter p (take i xs)) (p x))
  where
    by_test : (front : List DaemonLink) (t : Bool) → map (λ (l : DaemonLink). l.number) (front ++ cond t (x ∷ []) [])
        ≡ map (λ (l : DaemonLink). l.number) front ++ cond t (x.number ∷ []) []
    by_test [] true = refl
    by_test [] false = refl
    by_test (l ∷ front) t = let first : List ℕ → List ℕ = λ ns. l.number ∷ ns in ap first (by_test front t)

-- ---- the first open link to the monitor

left_from : (links : List DaemonLink) (i : ℕ) (link : DaemonLink) → Some link ≡ slice_get links i
    → first_open asking_open (drop i links) ≡ open_or link (asking_open link.stage) (first_open asking_open (drop (i + 1) links))
left_from links i link is =
    let at : get_or links i link ≡ link = get_or_from_slice_get links i link link (sym is) in
    let first : DaemonLink → Option (DaemonLink × (Secured × Requests)) = λ l. first_open asking_open (l ∷ drop (i + 1) links) in
    at_drop_more (λ (ls : List DaemonLink). first_open asking_open ls) links i link (slice_get_within links i link (sym is)) ∙ ap first at

-- one that keeps nothing is passed over
pub passed_over : (links : List DaemonLink) (i : ℕ) (link : DaemonLink) → Some link ≡ slice_get links i → asking_open link.stage ≡ None
    → first_open asking_open (drop i links) ≡ first_open asking_open links → first_open asking_open (drop (i + 1) links) ≡ first_open asking_open links
passed_over links i link is none so =
    let step = rw none at (left_from links i link is) in sym step ∙ so

-- an open one keeps something
pub open_keeps : (stage : connector.Stage) → is_open stage ≡ true → kept_open stage ≡ None → ⊥
open_keeps (AwaitsBanner asked) is none = cc
open_keeps (AwaitsHello asked) is none = cc
open_keeps (AwaitsChallenge asked) is none = cc
open_keeps AwaitsDone is none = cc
open_keeps (AwaitsSignature s login) is none = cc
open_keeps (AwaitsIdent s session) is none = cc
open_keeps (Open s requests) is none = cc

first_of : (link : Link connector.Stage) (o : Option (Secured × Requests)) (behind : Option (DaemonLink × (Secured × Requests))) → kept_open link.stage ≡ o
    → is_open link.stage ≡ true
    → open_or (of_kind AsConnector link) o behind ≡ (let some : Option (DaemonLink × (Secured × Requests)) = option_map (λ kept. (of_kind AsConnector link, kept)) o in some)
first_of link None behind keeps opened = absurd (open_keeps link.stage opened keeps)
first_of link (Some kept) behind keeps opened = refl

pub found : (links : List DaemonLink) (i : ℕ) (all : DaemonLink) (link : Link connector.Stage) → Some all ≡ slice_get links i → all ≡ of_kind AsConnector link
    → is_open link.stage ≡ true → first_open asking_open (drop i links) ≡ first_open asking_open links → IsFirstOpen links link
found links i all link is of opened so =
    let at : Some (of_kind AsConnector link) ≡ slice_get links i = ap (λ (l : DaemonLink). Some l) (sym of) ∙ is in
    record {
      opened = opened;
      first = sym so ∙ left_from links i (of_kind AsConnector link) at
          ∙ first_of link (kept_open link.stage) (first_open asking_open (drop (i + 1) links)) refl opened;
    }
