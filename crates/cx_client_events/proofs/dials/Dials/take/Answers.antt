use Rattle.std.proofs.Common.{◌∙◌, List, Option, Some, ap, sym}
use Rattle.std.specs.List.{remove}
use Rattle.cx_node.specs.cx_rules_session.specs.ClientRule.{Dial, dial_of}
use Rattle.cx_client_events.proofs.linking.Dialled.{found_at, none_found, none_taken, others, others_at}
use Rattle.cx_client_events.proofs.dials.Dials.take.Goals as goal

pub returns-in-Some-clause-dial : goal.returns-in-Some-clause-dial
returns-in-Some-clause-dial c =
    let some : Dial → Option Dial = λ d. Some d in
    let at = rw c.self.view_is at c.remove-dial.ensures.value in
    ap some at ∙ sym (found_at (dial_of c.args.peer.now) c.args.self.now c.in-Some.place c.remove-dial.result cc)

pub returns-in-Some-clause-dials : goal.returns-in-Some-clause-dials
returns-in-Some-clause-dials c =
    let left : List Dial → List Dial = λ ds. others (dial_of c.args.peer.now) ds in
    let without : List Dial → List Dial = λ ds. remove ds c.in-Some.place in
    c.give_up.ensures ∙ ap left (c.remove-dial.ensures.items ∙ ap without c.self.view_is)
    ∙ others_at (dial_of c.args.peer.now) c.args.self.now c.in-Some.place c.remove-dial.result cc

pub returns-in-None-clause-dial : goal.returns-in-None-clause-dial
returns-in-None-clause-dial c = sym (none_found (dial_of c.args.peer.now) c.args.self.now cc)

pub returns-in-None-clause-dials : goal.returns-in-None-clause-dials
returns-in-None-clause-dials c = sym (none_taken (dial_of c.args.peer.now) c.args.self.now cc)
