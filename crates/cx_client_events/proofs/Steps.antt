-- What happens at an event, over plain values: each step is that of the rules, abridged, and the links are held behind it as before.
use Rattle.std.proofs.Common.{◌≡◌, ◌∙◌, ℕ, List, [], ◌∷◌, Result, Ok, Err, IfOk, sym, ap}
use Rattle.cx_journal.specs.declared.outcomes.Reason.TheVariants.{NoLink}
use Rattle.cx_node.specs.cx_rules.specs.Links.{without_link}
use Rattle.cx_node.specs.cx_rules.specs.Rows.{idles, refused_entry}
use Rattle.cx_client_events.specs.cx_rules_session.specs.ClientRule.{WholeClient, WholeClientNode, me, undialled, unreached}
use Rattle.cx_client_events.specs.cx_rules_session.specs.Forgets.{abridged_client_link}
use Rattle.cx_client_events.specs.cx_rules_session.proofs.WholeClientForgets.{client-forgets-links}
use Rattle.cx_steps.specs.Nothing.{nothing}
use Rattle.cx_steps.specs.declared.effects.Effects.{Effects}
use Rattle.cx_steps.specs.declared.events.Peer.{Peer}
use Rattle.cx_node.specs.steps.Steps.{node_of}
use Rattle.cx_node.proofs.steps.Steps as steps
use Rattle.cx_client_events.specs.linking.Kinds.{ClientLink}
use Rattle.cx_client_events.specs.Machine.{AreHeld, IsStep}

pub without_held : (number : ℕ) (all links : List ClientLink) → AreHeld all → links ≡ without_link number all → AreHeld links
without_held number all links h l = steps.without_held abridged_client_link client-forgets-links number all links h l

-- ---- nothing happens, or something is entered

pub idles_step : (own : WholeClient) (all links : List ClientLink) (given : Effects) → AreHeld all → links ≡ all → given ≡ nothing
    → IsStep (node_of own links) (idles (node_of own all)) given
idles_step own all links given h l g = steps.idles_step abridged_client_link client-forgets-links own all links given h l g

-- ---- a link that is waited for, or isn't

-- what is left of a client that waits for no link to this peer
abbrev pub none_waited : WholeClient → Peer → WholeClient
none_waited own peer = (undialled (node_of own []) peer).own

-- that a link could not be opened is entered
pub unopened_step : {E : Type 0} (own new : WholeClient) (all : List ClientLink) (peer : Peer) (r : Result Effects E) → AreHeld all → new ≡ none_waited own peer
    → IfOk r (λ out. out ≡ record nothing { entries = refused_entry (me new) 0 NoLink ∷ [] })
    → IfOk r (IsStep (node_of new all) (unreached (node_of own all) peer))
unopened_step own new all peer (Err e) h n g = tt
unopened_step own new all peer (Ok out) h n g =
    let told : WholeClient → Effects = λ o. record nothing { entries = refused_entry (me o) 0 NoLink ∷ [] } in
    let owns : WholeClient → WholeClientNode = λ o. node_of o all in
    let tables : List ClientLink → WholeClientNode = λ ls. node_of (none_waited own peer) ls in
    record { out = g ∙ ap told n; state = ap owns n ∙ ap tables (sym h.whole) }
