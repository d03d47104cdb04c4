-- The row of what was decided is that of the rules, and the keyring is as before.
use Rattle.std.proofs.Common.{◌≡◌, ◌∙◌, ap}
use Rattle.cx_rules.specs.Verdicts.{Occasion}
use Rattle.cx_keyserver.specs.Servers.{Server}
use Rattle.cx_rules.specs.Acceptor.{AwaitsProof}
use Rattle.cx_rules.specs.Monitor.{Monitor, MonitorStage}
use Rattle.cx_rules.specs.KeptStates.{saved_behind}
use Rattle.cx_mon.proofs.acceptor.Changed.{same_but}
use Rattle.cx_mon.proofs.acceptor.Decided.{login_row, rotates-ring, saved-state}
use Rattle.cx_mon.proofs.logins.proves.Goals as goal

pub note_saved-requires : goal.note_saved-requires
note_saved-requires c =
    let at : Occasion = record { saved = c.own.inside.saved; reading = c.args.at.now.reading; draw = c.args.at.now.draw.now.bytes } in
    saved-state c.in_ok-verdict.verdict c.log_in.new.server c.in_ok-row.row.save at c.own.inside.server c.args.gid c.args.proved.now
    c.in_ok-verdict.ensures.verdict c.in_ok-verdict.ensures.server c.in_ok-row.ensures.save

pub returns-in_err-row-clause-same : goal.returns-in_err-row-clause-same
returns-in_err-row-clause-same c =
    let at : Occasion = record { saved = c.own.inside.saved; reading = c.args.at.now.reading; draw = c.args.at.now.draw.now.bytes } in
    let old : Monitor = record { server = c.own.inside.server; saved = c.own.inside.saved; saved_before = c.own.inside.saved_before; address = c.own.inside.address } in
    let ring : c.log_in.new.server.ring ≡ c.own.inside.server.ring =
    ap (λ (s : Server). s.ring) c.in_ok-verdict.ensures.server ∙ rotates-ring at c.own.inside.server c.args.gid c.args.proved.now in
    rw (← c.own.view_is) (same_but old c.log_in.new.server old.saved ring)

pub returns-clause-row : goal.returns-clause-row
returns-clause-row c =
    let old : Monitor = record { server = c.own.inside.server; saved = c.own.inside.saved; saved_before = c.own.inside.saved_before; address = c.own.inside.address } in
    let stage : MonitorStage = AwaitsProof (record { offer = c.args.proved.now.offer; gid = c.args.gid }) in
    rw (c.note_saved.ensures, ← c.own.view_is)
    (login_row old c.args.at.now c.args.link c.args.gid c.args.proved.now c.log_in.new.server c.in_ok-verdict.verdict c.in_ok-row.row
    c.in_ok-verdict.ensures.verdict c.in_ok-verdict.ensures.server (c.in_ok-row.ensures.row stage))

pub returns-clause-same : goal.returns-clause-same
returns-clause-same c =
    let at : Occasion = record { saved = c.own.inside.saved; reading = c.args.at.now.reading; draw = c.args.at.now.draw.now.bytes } in
    let old : Monitor = record { server = c.own.inside.server; saved = c.own.inside.saved; saved_before = c.own.inside.saved_before; address = c.own.inside.address } in
    let ring : c.log_in.new.server.ring ≡ c.own.inside.server.ring =
    ap (λ (s : Server). s.ring) c.in_ok-verdict.ensures.server ∙ rotates-ring at c.own.inside.server c.args.gid c.args.proved.now in
    rw (c.note_saved.ensures, ← c.own.view_is) (same_but old c.log_in.new.server (saved_behind old.saved c.in_ok-row.row.save) ring)
