use Rattle.std.proofs.Common.{◌≡◌, true, false, ◌∙◌}
use Rattle.std.specs.Prelude.{is_some}
use Rattle.cx_desk.specs.Held.{handlers_of}
use Rattle.cx_laws_legal.proofs.legal.Audited.{found-some, text-legal}
use Rattle.cx_laws_legal.proofs.replays.audited_replay.Goals as goal

pub returns-then-is_some-clause-broken : goal.returns-then-is_some-clause-broken
returns-then-is_some-clause-broken g c =
    let test = c.is_some.ensures in
    let hit = c.if-is_some.true in
    let some : is_some c.in_ok-report.report.broken ≡ true = cc in
    found-some (handlers_of c.args.desk.now) c.args.script.now c.in_ok-report.report.broken c.in_ok-report.ensures.replayed.found_so some

pub returns-clause-legal : goal.returns-clause-legal
returns-clause-legal g c = λ short.
    let test = c.is_some.ensures in
    let miss = c.if-is_some.false in
    let none : is_some c.in_ok-report.report.broken ≡ false = cc in
    text-legal (handlers_of c.args.desk.now) c.requires.0 c.args.script.now c.in_ok-report.report.journal c.all.result.now c.in_ok-report.report.broken c.new-text.result c.bytes.result.now c.in_ok-verdict.verdict c.requires.2
    c.in_ok-report.ensures.replayed none c.all.ensures c.have_types.ensures c.new-text.ensures (c.bytes.ensures ∙ c.in_ok-put_report.ensures.ok) short c.in_ok-verdict.ensures.ok
