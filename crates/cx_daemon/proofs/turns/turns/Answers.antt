use Rattle.std.proofs.Common.{◌≡◌, ◌∙◌, List, ap}
use Rattle.cx_node.specs.Tables.{Table}
use Rattle.cx_node.specs.cx_rules.specs.Links.{without_link}
use Rattle.cx_daemon_events.specs.Kinds.{DaemonLink}
use Rattle.cx_daemon_events.proofs.Steps.{without_held}
use Rattle.cx_daemon.proofs.turns.turns.Goals as goal

pub returns-in-Err-clause-held : goal.returns-in-Err-clause-held
returns-in-Err-clause-held g c =
    let links_of : Table DaemonLink → List DaemonLink = λ t. t.links in
    let left : Table DaemonLink → List DaemonLink = λ t. without_link c.args.at.now.number t.links in
    let behind : c.remove.new.self.links ≡ without_link c.args.at.now.number c.args.links.now.links =
    ap links_of c.remove.ensures ∙ ap left c.give_up.ensures
    ∙ c.in-Err.ensures.lost c.args.links.now.links (ap links_of c.in-Some.ensures.taken) c.requires.held in
    without_held c.args.at.now.number c.args.links.now.links c.remove.new.self.links c.requires.held behind
