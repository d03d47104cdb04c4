-- A session that moved to a link has its older links shut, and one that ended all of them: a step of the rules with these links shut.
use Rattle.std.proofs.Common.{◌≡◌, ◌∙◌, ℕ, ◌==◌, Bool, List, ◌++◌, map, Option, Some, None, sym, ap}
use Rattle.std.specs.Prelude.{not, filter, ◌&&◌}
use Rattle.cx_node.specs.cx_rules.specs.Rows.{Outcome}
use Rattle.cx_verifying.specs.cx_rules_session.specs.DaemonRule.{Daemon, DaemonNode, is_in, shut_where}
use Rattle.cx_verifying.specs.cx_rules_session.specs.Forgets.{abridged_daemon_link}
use Rattle.cx_verifying.specs.cx_rules_session.proofs.DaemonForgets.{daemon-forgets-links, in-same}
use Rattle.cx_verifying.specs.cx_rules_session.proofs.KindsAlike.{links-left, numbers-picked}
use Rattle.cx_steps.specs.declared.effects.Effects.{Effects}
use Rattle.cx_node.specs.steps.Steps.{node_of}
use Rattle.cx_node.proofs.steps.Rising.{filter_rising}
use Rattle.cx_daemon_events.specs.Kinds.{DaemonLink}
use Rattle.cx_daemon_events.specs.Machine.{AreHeld, IsStep}
use Rattle.cx_daemon_events.specs.Shutting.{is_shut_by}

-- what stays of a link tells whether it is shut
pub shut_same : (session : ℕ) (but : Option ℕ) (l : DaemonLink) → is_shut_by session but (abridged_daemon_link l) ≡ is_shut_by session but l
shut_same session None l = in-same session l l.stage
shut_same session (Some number) l =
    let both : Bool → ℕ → Bool = λ inside k. inside && not (k == number) in
    ap (λ inside. both inside (abridged_daemon_link l).number) (in-same session l l.stage) ∙ ap (both (is_in session l.stage)) (daemon-forgets-links.number l)

-- those that are left are held as before
whole_left : (p : DaemonLink → Bool) → ((l : DaemonLink) → p (abridged_daemon_link l) ≡ p l) → (links : List DaemonLink) → map abridged_daemon_link links ≡ links
    → map abridged_daemon_link (filter (λ l. not (p l)) links) ≡ filter (λ l. not (p l)) links
whole_left p same links whole =
    sym (links-left abridged_daemon_link daemon-forgets-links.number p same links) ∙ ap (λ (ls : List DaemonLink). filter (λ l. not (p l)) ls) whole

pub left_held : (session : ℕ) (but : Option ℕ) (all links : List DaemonLink) → AreHeld all → links ≡ filter (λ l. not (is_shut_by session but l)) all → AreHeld links
left_held session but all links h is = rw is (record {
  whole = whole_left (is_shut_by session but) (shut_same session but) all h.whole;
  rising = filter_rising (λ l. not (is_shut_by session but l)) 0 all h.rising;
})

-- a step with these links shut besides
pub shut_step : (session : ℕ) (but : Option ℕ) (own : Daemon) (all links : List DaemonLink) (due : Outcome DaemonNode) (first given : Effects)
    → IsStep (node_of own all) due first → links ≡ filter (λ l. not (is_shut_by session but l)) all
    → given ≡ record first { shuts = map (λ (l : DaemonLink). l.number) (filter (is_shut_by session but) all) ++ first.shuts }
    → IsStep (node_of own links) (shut_where (is_shut_by session but) due) given
shut_step session but own all links due first given s is g =
    let p : DaemonLink → Bool = is_shut_by session but in
    let own_of : DaemonNode → Daemon = λ d. d.own in
    let links_of : DaemonNode → List DaemonLink = λ d. d.links in
    let numbers : List DaemonLink → List ℕ = λ ls. map (λ (l : DaemonLink). l.number) (filter p ls) in
    let left : List DaemonLink → List DaemonLink = λ ls. filter (λ l. not (p l)) ls in
    let shut : List ℕ → Effects → Effects = λ ns out. record out { shuts = ns ++ out.shuts } in
    let state : Daemon → List DaemonLink → DaemonNode = λ o ls. node_of o ls in
    let owns : own ≡ due.state.own = ap own_of s.state in
    let held : all ≡ map abridged_daemon_link due.state.links = ap links_of s.state in
    let picked : numbers all ≡ numbers due.state.links =
    ap numbers held ∙ numbers-picked abridged_daemon_link daemon-forgets-links.number p (shut_same session but) due.state.links in
    let stays : left all ≡ map abridged_daemon_link (left due.state.links) =
    ap left held ∙ links-left abridged_daemon_link daemon-forgets-links.number p (shut_same session but) due.state.links in
    record {
      out = g ∙ ap (λ ns. shut ns first) picked ∙ ap (shut (numbers due.state.links)) s.out;
      state = ap (λ (o : Daemon). state o links) owns ∙ ap (state due.state.own) (is ∙ stays);
    }
