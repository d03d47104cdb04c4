use Rattle.cx_node.specs.cx_rules.specs.Connector.{AwaitsIdent}
use Rattle.cx_node.specs.steps.Stages.{keys_alone}
use Rattle.cx_monclient.proofs.idents.on_server_ident.Goals as goal

pub returns : goal.returns
returns c =
    let m = rw c.new.ensures at (c.opens_to.ensures (AwaitsIdent (keys_alone c.args.link.keys) c.args.session)) in
    rw c.in_ok-read.was m
