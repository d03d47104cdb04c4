-- The first open link to a daemon, from the front of the links.
use Rattle.std.proofs.Common.{◌≡◌, ◌∙◌, ℕ, ◌+◌, Bool, true, false, List, ◌∷◌, get_or, drop, Option, Some, None, refl, sym, ap}
use Rattle.std.specs.Option.{option_map}
use Rattle.std.specs.Prelude.{slice_get, if◌then◌else◌}
use Rattle.std.proofs.lemmas.List.{at_drop_more}
use Rattle.std.proofs.lemmas.Option.{get_or_from_slice_get, slice_get_within}
use Rattle.cx_base.specs.Names.{Name, same_name}
use Rattle.cx_node.specs.cx_rules.specs.Links.{Link}
use Rattle.cx_node.specs.cx_rules.specs.Secured.{Secured}
use Rattle.cx_node.specs.cx_rules_session.specs.ClientRule.{ToDaemon, call_open, call_or, first_call}
use Rattle.cx_node.specs.cx_rules_session.specs.Kinds.{of_kind}
use Rattle.cx_node.specs.cx_rules_session.specs.Presenter.{CallStage, AwaitsBanner, AwaitsHello, AwaitsChallenge, AwaitsDone, AwaitsSignature, AwaitsIdent, AwaitsReconnect, Open, callee_of, is_open}
use Rattle.cx_node.specs.cx_rules_session.specs.Sessions.{Callee}
use Rattle.cx_client_events.specs.linking.Kinds.{ClientLink}
use Rattle.cx_client_events.specs.linking.Scans.{IsFirstCall}

abbrev Kept : Type 0
Kept = Secured × (Callee × ℕ)

-- a link that isn't open, or is to another daemon, keeps nothing
pub unopened_keeps : (daemon : Name) (stage : CallStage) → is_open stage ≡ false → call_open daemon (ToDaemon stage) ≡ None
unopened_keeps daemon (AwaitsBanner called) is = refl
unopened_keeps daemon (AwaitsHello called) is = refl
unopened_keeps daemon (AwaitsChallenge callee presented) is = refl
unopened_keeps daemon (AwaitsDone callee answered) is = refl
unopened_keeps daemon (AwaitsSignature s callee) is = refl
unopened_keeps daemon (AwaitsIdent s callee cookie) is = refl
unopened_keeps daemon (AwaitsReconnect s callee cookie) is = refl
unopened_keeps daemon (Open s callee cookie) is = absurd (cc)

pub other_keeps : (daemon : Name) (stage : CallStage) → same_name (callee_of stage).daemon daemon ≡ false → call_open daemon (ToDaemon stage) ≡ None
other_keeps daemon (AwaitsBanner called) is = refl
other_keeps daemon (AwaitsHello called) is = refl
other_keeps daemon (AwaitsChallenge callee presented) is = refl
other_keeps daemon (AwaitsDone callee answered) is = refl
other_keeps daemon (AwaitsSignature s callee) is = refl
other_keeps daemon (AwaitsIdent s callee cookie) is = refl
other_keeps daemon (AwaitsReconnect s callee cookie) is = refl
other_keeps daemon (Open s callee cookie) is = rw is refl

-- one that is open, to this daemon, keeps its keys, whom it calls, and the session's cookie
pub opened_keeps : (daemon : Name) (stage : CallStage) → is_open stage ≡ true → same_name (callee_of stage).daemon daemon ≡ true → call_open daemon (ToDaemon stage) ≡ None → ⊥
opened_keeps daemon (AwaitsBanner called) is to none = cc
opened_keeps daemon (AwaitsHello called) is to none = cc
opened_keeps daemon (AwaitsChallenge callee presented) is to none = cc
opened_keeps daemon (AwaitsDone callee answered) is to none = cc
opened_keeps daemon (AwaitsSignature s callee) is to none = cc
opened_keeps daemon (AwaitsIdent s callee cookie) is to none = cc
opened_keeps daemon (AwaitsReconnect s callee cookie) is to none = cc
opened_keeps daemon (Open s callee cookie) is to none = keeps (same_name callee.daemon daemon) to none
  where
    keeps : (b : Bool) → b ≡ true → (let kept : Option Kept = if b then Some (s, (callee, cookie)) else None in kept) ≡ None → ⊥
    keeps true to none = cc
    keeps false to none = cc

-- ---- the first

left_from : (daemon : Name) (links : List ClientLink) (i : ℕ) (link : ClientLink) → Some link ≡ slice_get links i
    → first_call daemon (drop i links) ≡ call_or link (call_open daemon link.stage) (first_call daemon (drop (i + 1) links))
left_from daemon links i link is =
    let at : get_or links i link ≡ link = get_or_from_slice_get links i link link (sym is) in
    let first : ClientLink → Option (ClientLink × Kept) = λ l. first_call daemon (l ∷ drop (i + 1) links) in
    at_drop_more (λ (ls : List ClientLink). first_call daemon ls) links i link (slice_get_within links i link (sym is)) ∙ ap first at

-- one that keeps nothing is passed over
pub call_passed_over : (daemon : Name) (links : List ClientLink) (i : ℕ) (link : ClientLink) → Some link ≡ slice_get links i → call_open daemon link.stage ≡ None
    → first_call daemon (drop i links) ≡ first_call daemon links → first_call daemon (drop (i + 1) links) ≡ first_call daemon links
call_passed_over daemon links i link is none so =
    let step = rw none at (left_from daemon links i link is) in sym step ∙ so

first_of : (daemon : Name) (link : Link CallStage) (o : Option Kept) (behind : Option (ClientLink × Kept)) → call_open daemon (ToDaemon link.stage) ≡ o
    → is_open link.stage ≡ true → same_name (callee_of link.stage).daemon daemon ≡ true
    → call_or (of_kind ToDaemon link) o behind ≡ (let some : Option (ClientLink × Kept) = option_map (λ kept. (of_kind ToDaemon link, kept)) o in some)
first_of daemon link None behind keeps opened to = absurd (opened_keeps daemon link.stage opened to keeps)
first_of daemon link (Some kept) behind keeps opened to = refl

pub call_found : (daemon : Name) (links : List ClientLink) (i : ℕ) (all : ClientLink) (link : Link CallStage) → Some all ≡ slice_get links i → all ≡ of_kind ToDaemon link
    → is_open link.stage ≡ true → same_name (callee_of link.stage).daemon daemon ≡ true
    → first_call daemon (drop i links) ≡ first_call daemon links → IsFirstCall daemon links link
call_found daemon links i all link is of opened to so =
    let at : Some (of_kind ToDaemon link) ≡ slice_get links i = ap (λ (l : ClientLink). Some l) (sym of) ∙ is in
    record {
      opened = opened;
      called = to;
      first = sym so ∙ left_from daemon links i (of_kind ToDaemon link) at
          ∙ first_of daemon link (call_open daemon (ToDaemon link.stage)) (first_call daemon (drop (i + 1) links)) refl opened to;
    }
