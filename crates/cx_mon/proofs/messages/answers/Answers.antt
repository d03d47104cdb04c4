-- The row of what was answered is that of the rules, and the keyring is as before.
use Rattle.std.proofs.Common.{◌≡◌, ◌∙◌, ap}
use Rattle.cx_rules.specs.KeptStates.{saved_behind}
use Rattle.cx_rules.specs.Monitor.{Monitor}
use Rattle.cx_rules.specs.Verdicts.{Occasion}
use Rattle.cx_keyserver.specs.Servers.{Server}
use Rattle.cx_mon.proofs.acceptor.Answering.{answers-ring, answers-save, demand_row}
use Rattle.cx_mon.proofs.acceptor.Changed.{same_but}
use Rattle.cx_mon.proofs.messages.answers.Goals as goal

pub note_saved-requires : goal.note_saved-requires
note_saved-requires c =
    let at : Occasion = record { saved = c.own.inside.saved; reading = c.args.at.now.reading; draw = c.args.at.now.draw.now.bytes } in
    answers-save c.in_ok-response.response c.answer.new.server c.in_ok-row.row.save at c.own.inside.server c.args.bearer c.args.demand.request
    c.in_ok-response.ensures.response c.in_ok-response.ensures.server c.in_ok-row.ensures.save

pub returns-in_err-row-clause-same : goal.returns-in_err-row-clause-same
returns-in_err-row-clause-same c =
    let at : Occasion = record { saved = c.own.inside.saved; reading = c.args.at.now.reading; draw = c.args.at.now.draw.now.bytes } in
    let old : Monitor = record { server = c.own.inside.server; saved = c.own.inside.saved; saved_before = c.own.inside.saved_before; address = c.own.inside.address } in
    let ring : c.answer.new.server.ring ≡ c.own.inside.server.ring =
    ap (λ (s : Server). s.ring) c.in_ok-response.ensures.server ∙ answers-ring at c.own.inside.server c.args.bearer c.args.demand.request in
    rw (← c.own.view_is) (same_but old c.answer.new.server old.saved ring)

pub returns-clause-row : goal.returns-clause-row
returns-clause-row c =
    let old : Monitor = record { server = c.own.inside.server; saved = c.own.inside.saved; saved_before = c.own.inside.saved_before; address = c.own.inside.address } in
    rw (c.note_saved.ensures, ← c.own.view_is)
    (demand_row old c.args.at.now c.args.link c.args.bearer c.args.demand c.answer.new.server c.in_ok-response.response c.in_ok-row.row
    c.in_ok-response.ensures.response c.in_ok-response.ensures.server c.in_ok-row.ensures.row)

pub returns-clause-same : goal.returns-clause-same
returns-clause-same c =
    let at : Occasion = record { saved = c.own.inside.saved; reading = c.args.at.now.reading; draw = c.args.at.now.draw.now.bytes } in
    let old : Monitor = record { server = c.own.inside.server; saved = c.own.inside.saved; saved_before = c.own.inside.saved_before; address = c.own.inside.address } in
    let ring : c.answer.new.server.ring ≡ c.own.inside.server.ring =
    ap (λ (s : Server). s.ring) c.in_ok-response.ensures.server ∙ answers-ring at c.own.inside.server c.args.bearer c.args.demand.request in
    rw (c.note_saved.ensures, ← c.own.view_is) (same_but old c.answer.new.server (saved_behind old.saved c.in_ok-row.row.save) ring)
