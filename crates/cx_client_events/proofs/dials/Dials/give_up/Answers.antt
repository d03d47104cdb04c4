use Rattle.std.proofs.Common.{◌∙◌, List, ap, rules}
use Rattle.std.specs.Prelude.{filter, not}
use Rattle.std.proofs.lemmas.Fn.{filter_same}
use Rattle.cx_node.specs.cx_rules_session.specs.ClientRule.{Dial, dial_of}
use Rattle.cx_client_events.proofs.dials.Dials.give_up.Goals as goal

pub returns : goal.returns
returns c =
    filter_same _ (λ (d : Dial). not (dial_of c.args.peer.now d)) _ (λ x b f' k. search rules) _ _ c.retain.ensures.filtered
    ∙ ap (λ (ds : List Dial). filter (λ d. not (dial_of c.args.peer.now d)) ds) c.self.view_is
