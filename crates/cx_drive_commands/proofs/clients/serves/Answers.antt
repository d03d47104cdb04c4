use Rattle.std.proofs.Common.{[]}
use Rattle.cx_drive.proofs.Standing.{client_loses, client_regards}
use Rattle.cx_drive.specs.Held.{held_client, lost_client, regard_client}
use Rattle.cx_rules_session.specs.Forgets.{WholeClientStandsFor}
use Rattle.cx_rules_session.specs.ClientRule.{is_idle, whole_client_rule}
use Rattle.cx_drive_commands.proofs.nodes.Telling.{runs_by_rule}
use Rattle.cx_drive_commands.proofs.clients.serves.Goals as goal

pub returns-clause-ran : goal.returns-clause-ran
returns-clause-ran g c =
    runs_by_rule g.L.Links.follows held_client lost_client is_idle regard_client whole_client_rule lost_client is_idle regard_client WholeClientStandsFor c.client_forgetting_laws.ensures.forgets
    (client_loses c.client_forgetting_laws.ensures.loses c.client_forgetting_laws.ensures.gives_up) c.client_forgetting_laws.ensures.idle client_regards c.args.ready.peers [] _ _ c.args.ready.node c.args.ready.node
    c.args.ready.orders c.args.ready.events c.runs.result c.runs.new.journal c.requires.stands c.runs.ensures.ran
