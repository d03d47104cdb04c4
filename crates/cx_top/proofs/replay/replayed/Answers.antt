-- The reader refuses for the one reason; a schedule that was read is replayed.
use Rattle.std.proofs.Common.{◌≡◌, ◌∙◌, ◌++◌, ℕ, List, Err, ap, rules, string_bytes}
use Rattle.cx_desk.specs.Held.{handlers_of}
use Rattle.cx_journal.specs.JournalText.{journal_text}
use Rattle.cx_world.specs.replayed.Serving.{told}
use Rattle.cx_top.specs.Statuses.{schedule_status}
use Rattle.cx_top.proofs.Besides.{replay_made}
use Rattle.cx_top.proofs.Reasons.{schedule_reason, schedule_read}
use Rattle.cx_top.proofs.replay.replayed.Goals as goal

pub returns-in_err-script-clause-exact : goal.returns-in_err-script-clause-exact
returns-in_err-script-clause-exact g c why reason =
    let is : c.from_residual.result ≡ Err (schedule_status c.in_err-script.field-0.0) = search rules in
    rw is (schedule_reason c.args.bytes.now c.in_err-script.field-0.0 why reason c.in_err-script.ensures.exact)

pub returns-clause-exact : goal.returns-clause-exact
returns-clause-exact g c why reason = schedule_read c.args.bytes.now why reason c.in_ok-script.ensures.exact

pub returns-clause-makes : goal.returns-clause-makes
returns-clause-makes g c =
    replay_made (handlers_of c.args.desk.now) c.args.bytes.now c.is_some-is_broken.result c.put_report.new.into (string_bytes c.in_ok-told.told)
    c.in_ok-script.script c.in_ok-report.report.journal c.in_ok-report.report.broken c.in_ok-report.report.idle
    c.in_ok-script.ensures.found c.in_ok-script.ensures.short c.in_ok-report.ensures.replayed c.is_some-is_broken.ensures
    (c.in_ok-put_report.ensures.ok ∙ ap (λ (text : List ℕ). text ++ journal_text (told c.in_ok-report.report.journal c.in_ok-report.report.broken)) c.new-text.ensures)
    (rw (c.lines.ensures, c.all.ensures) at c.in_ok-told.ensures) c.in_ok-report.ensures.idle
