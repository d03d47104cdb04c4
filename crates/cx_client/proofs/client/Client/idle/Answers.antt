-- What it tells of what it holds is what the rules tell.
use Rattle.std.proofs.Common.{◌∙◌, List, ap}
use Rattle.std.specs.List.{list_all}
use Rattle.cx_client.specs.cx_client_events.specs.linking.Kinds.{ClientLink}
use Rattle.cx_client.specs.cx_rules_session.specs.ClientRule.{is_at_rest, is_idle}
use Rattle.cx_client.specs.cx_rules_session.specs.Sessions.{HeldSession}
use Rattle.cx_client.proofs.client.Client.idle.Goals as goal

pub returns-clause-stands : goal.returns-clause-stands
returns-clause-stands c = λ s stands.
    c.are_at_rest.ensures
    ∙ ap (λ (ss : List HeldSession). list_all (λ (l : ClientLink). is_at_rest ss l.stage) c.self.inside.links.links) c.sessions.ensures
    ∙ ap is_idle c.self.view_is ∙ c.client_forgetting_laws.ensures.idle c.args.self.now s stands
