-- A request of another method or mode is denied.
use Rattle.std.proofs.Common.{◌≡◌, ◌∙◌, [], Some, Ok, ap, sym}
use Rattle.cx_link.specs.Wires.{wired}
use Rattle.cx_node.specs.cx_rules.specs.Abridged.{abridged_link}
use Rattle.cx_node.specs.cx_rules.specs.Acceptor.{AwaitsRequest, denies, on_auth_request}
use Rattle.cx_rules_session.specs.IncomingLinks.{IncomingArrival, IncomingRow, on_first}
use Rattle.cx_node.proofs.steps.AuthRequests.{request-denied}
use Rattle.cx_node.proofs.steps.MadeRows.{makes_as}
use Rattle.cx_node.specs.steps.Making.{row_due}
use Rattle.cx_node.specs.steps.Requests.{request_fault}
use Rattle.cx_verifying.specs.Rows.{arrived, unchanged}
use Rattle.cx_verifying.proofs.requests.on_auth_request.Goals as goal

pub returns-in-Some : goal.returns-in-Some
returns-in-Some c =
    let a : IncomingArrival = arrived c.args.mon_client.now c.args.at.now (wired c.args.at.now.number c.args.link AwaitsRequest) in
    let fault : request_fault c.in_ok-request.request ≡ Some c.in-Some.why = sym c.request_fault.ensures ∙ c.in-Some.is in
    rw c.in_ok-request.was
    (makes_as abridged_link unchanged a (denies a 95 c.in-Some.why []) (on_auth_request on_first a (Ok c.in_ok-request.request)) c.denies.result
    (ap (λ (row : IncomingRow). row_due abridged_link row) (request-denied on_first a c.in_ok-request.request c.in-Some.why fault))
    (c.denies.ensures c.args.link AwaitsRequest))
